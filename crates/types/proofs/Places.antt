-- The place of a symbol is the first at which it stands, and it has none where it stands nowhere.
use Prim.Native.Nat.{ℕ, zero, suc, ◌<◌}
use mathlib.Core.Path.{◌≡◌, refl, sym, ap, ◌∙◌, subst}
use mathlib.Core.List.{List, [], ◌∷◌}
use mathlib.Core.Option.{Option, none, some}
use mathlib.Core.Bool.{Bool, true, false, true≢false}
use native.Mathlib.Omega.{arith}
use lib.Dec.{T}
use lib.ListN.{length, get_or}
use Rattle.base.specs.Base.{when◌then◌else◌}
use Rattle.text.specs.Text.{Text, same}
use Rattle.text.proofs.TextLaws.{same_refl, same→≡}
use Rattle.types.specs.Types.{next_place, position}

-- s stands at i, and at no smaller place
pub record First (s : Text) (ts : List Text) (i : ℕ) : Type 0 where
  pub within : i < length ts
  pub there : get_or ts i [] ≡ s
  pub before : (j : ℕ) → j < i → get_or ts j [] ≡ s → ⊥

equal : (t s : Text) → same t s ≡ true → t ≡ s
equal t s e = same→≡ t s (subst T (sym e) tt)

differs : (t s : Text) → same t s ≡ false → t ≡ s → ⊥
differs t s e q = true≢false (sym (same_refl s) ∙ ap (λ (x : Text). same x s) (sym q) ∙ e)

passed : (s t : Text) (ts : List Text) (k : ℕ) → same t s ≡ false → ((j : ℕ) → j < k → get_or ts j [] ≡ s → ⊥) → (j : ℕ) → j < suc k → get_or (t ∷ ts) j [] ≡ s → ⊥
passed s t ts k q b zero l = differs t s q
passed s t ts k q b (suc j) l = b j (omega arith)

pub first-place : (s : Text) (ts : List Text) (i : ℕ) → position s ts ≡ some i → First s ts i
unfolding position next_place
first-place s [] i e = let z : ◌≡◌ {A = ℕ} 0 1 = cc in absurd (omega arith)
first-place s (t ∷ ts) i e = go (same t s) refl (position s ts) (first-place s ts) e
  where
    go : (b : Bool) → same t s ≡ b → (o : Option ℕ) → ((k : ℕ) → o ≡ some k → First s ts k) → (when b then some 0 else next_place o) ≡ some i → First s (t ∷ ts) i
    go true q o r f =
        let k : 0 ≡ i = cc in
        subst (λ (x : ℕ). First s (t ∷ ts) x) k (record { within = omega arith; there = equal t s q; before = λ j l. absurd (omega arith) })
    go false q none r f = let z : ◌≡◌ {A = ℕ} 0 1 = cc in absurd (omega arith)
    go false q (some k) r f =
        let n : suc k ≡ i = cc in
        let h = r k refl in
        subst (λ (x : ℕ). First s (t ∷ ts) x) n (record { within = omega (arith, h.within); there = h.there; before = passed s t ts k q h.before })

pub nowhere : (s : Text) (ts : List Text) → position s ts ≡ none → (j : ℕ) → j < length ts → get_or ts j [] ≡ s → ⊥
unfolding position next_place
nowhere s [] e j l = absurd (omega arith)
nowhere s (t ∷ ts) e j l = go (same t s) refl (position s ts) (nowhere s ts) e j l
  where
    go : (b : Bool) → same t s ≡ b → (o : Option ℕ) → (o ≡ none → (j : ℕ) → j < length ts → get_or ts j [] ≡ s → ⊥) → (when b then some 0 else next_place o) ≡ none
        → (j : ℕ) → j < suc (length ts) → get_or (t ∷ ts) j [] ≡ s → ⊥
    go true q o r f j l = let z : ◌≡◌ {A = ℕ} 0 1 = cc in absurd (omega arith)
    go false q (some k) r f j l = let z : ◌≡◌ {A = ℕ} 0 1 = cc in absurd (omega arith)
    go false q none r f zero l = differs t s q
    go false q none r f (suc j) l = r refl j (omega arith)
