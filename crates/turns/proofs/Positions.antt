-- Positions that rise, in bytes: told by neighbours, and split where they are no longer below one.
use Prim.Native.Nat.{ℕ, ◌+◌, ◌-◌, ◌*◌, ◌≤◌, ◌<◌}
use mathlib.Core.Path.{◌≡◌, refl}
use mathlib.Core.Bool.{Bool, true, false}
use mathlib.Core.List.{List}
use native.Mathlib.Omega.{arith}
use lib.Dec.{ltb}
use borrow.Author.Tests.{ltb-true, ltb-false}
use Rattle.number.specs.Number.{number_at}
use Rattle.std.specs.Prelude as std
use Rattle.std.specs.Prelude.{Some}
use Rattle.turns.specs.Turns.{position_at, PositionsRise, NotBelow, Splits}

module _ (s : List ℕ) (at : ℕ) where
  pub rises-start : PositionsRise s at 1
  unfolding PositionsRise
  rises-start i j l h = absurd (omega arith)

  last-place : (j : ℕ) → 1 ≤ j → at + 2 * j - 2 ≡ at + 2 * (j - 1)
  last-place j h = omega arith

  pub rises-step : (j : ℕ) → 1 ≤ j → PositionsRise s at j → number_at s (at + 2 * j - 2) 2 < number_at s (at + 2 * j) 2 → PositionsRise s at (j + 1)
  unfolding PositionsRise
  rises-step j h r e i k l m = go (ltb k j) (ltb i (j - 1)) refl refl
    where
      next : position_at s at (j - 1) < position_at s at j
      next = rw (last-place j h) at e

      go : (a b : Bool) → ltb k j ≡ a → ltb i (j - 1) ≡ b → position_at s at i < position_at s at k
      go true b p q = r i k l (ltb-true k j p)
      go false true p q =
          let z : k ≡ j = omega (arith, ltb-false k j p) in
          rw z (omega (arith, r i (j - 1) (ltb-true i (j - 1) q) (omega arith), next))
      go false false p q =
          let z : k ≡ j = omega (arith, ltb-false k j p) in
          let y : i ≡ j - 1 = omega (arith, ltb-false i (j - 1) q) in
          rw (z, y) next

  pub rises_fewer : (j count : ℕ) → PositionsRise s at j → count ≤ j → PositionsRise s at count
  unfolding PositionsRise
  rises_fewer j count r h i k l m = r i k l (omega arith)

  -- where they rise, those behind one that is not below u are not either
  pub not-below : (count u j : ℕ) → PositionsRise s at count → j < count → u ≤ position_at s at j → NotBelow s at count u j
  unfolding PositionsRise NotBelow
  not-below count u j r h e = (omega arith, λ k l m. go k l m (ltb j k) refl)
    where
      go : (k : ℕ) → j ≤ k → k < count → (b : Bool) → ltb j k ≡ b → u ≤ position_at s at k
      go k l m true p = omega (arith, r j k (ltb-true j k p) m)
      go k l m false p = let z : k ≡ j = omega (arith, ltb-false j k p) in rw z e

  pub none-behind : (count u : ℕ) → NotBelow s at count u count
  unfolding NotBelow
  none-behind count u = (omega arith, λ k l m. absurd (omega arith))

  pub splits-all : (count : ℕ) (table : std.Option ℕ) → Splits s at count table count
  unfolding Splits
  splits-all count table = (omega arith, λ u e. none-behind count u)

  pub splits-at : (count u n : ℕ) (table : std.Option ℕ) → table ≡ Some u → NotBelow s at count u n → Splits s at count table n
  unfolding Splits NotBelow
  splits-at count u n table e h = (h.0, λ v f. let z : u ≡ v = cc in rw z at h)
