-- The entry that names the current finishes, at each way of its code, and its answer as one signed number.
use Prim.Native.Nat.{ℕ, ◌≤◌, ◌<◌}
use mathlib.Core.Path.{◌≡◌, refl, sym, ap, ◌∙◌}
use mathlib.Core.List.{List, ◌++◌}
use mathlib.Core.Option.{Option, none, some}
use mathlib.Core.Bool.{Bool, true, false, ◌||◌}
use native.Mathlib.Omega.{arith}
use lib.Dec.{ltb}
use lib.ListN.{length, take, drop, replicate}
use lib.Seq.{length-take-le}
use borrow.Author.Tests.{lt-ltb, le-ltb, ltb-false}
use Rattle.base.specs.Base.{when◌then◌else◌, Result, ok, stop}
use Rattle.buffer.specs.After.{buffer_after, checked_result}
use Rattle.lists.specs.Frames.{frames}
use Rattle.current.specs.Current.{Finish, listed}
use Rattle.corrections.specs.Named.{finishes, places, names_of, names_for, answer_of}
use Rattle.hulmbax.specs.Answer.{workspace_size, workspace_after}
use Rattle.hulmbax.specs.Names.{names}
use Rattle.hulmbax.specs.Entry.{Coded, resolved_of}
use Rattle.hulmbax.proofs.EntryLaws.{zeroed}

entry-answer : (x : Result (List ℕ)) → answer_of x ≡ resolved_of x
unfolding answer_of resolved_of
entry-answer (ok r) = refl
entry-answer (stop n) = refl

-- ---- 1, and what follows it

pub names-1 : (input ends : List ℕ) (len work : ℕ) → work < workspace_size → names input ends len work ≡ stop 1
unfolding names
names-1 input ends len work h = ap (λ (b : Bool). when b then stop 1 else names_for input ends len) (lt-ltb work workspace_size h)

pub names-is : (input ends : List ℕ) (len work : ℕ) → workspace_size ≤ work → names input ends len work ≡ names_for input ends len
unfolding names
names-is input ends len work h = ap (λ (b : Bool). when b then stop 1 else names_for input ends len) (le-ltb work workspace_size h)

-- ---- lengths and numbers

-- a length is that of a result; a number is one of the rules', and 1 is not among those of the frames
Fit : Result (List ℕ) → Type 0
Fit (ok r) = length r ≤ 65535
Fit (stop n) = 2 ≤ n

fit : (input ends : List ℕ) (len : ℕ) → Fit (names_for input ends len)
unfolding Fit names_for names_of checked_result
fit input ends len = go (ltb 256 (length ends)) (finishes 0 (frames input ends))
  where
    room : (r : List ℕ) (b : Bool) → ltb 65535 (length r) ≡ b → (c : Bool) → Fit (when b || c then stop 18 else ok r)
    room r true e c = omega arith
    room r false e true = omega arith
    room r false e false = ltb-false 65535 (length r) e

    go : (b : Bool) (o : Option (List Finish)) → Fit (when b then stop 23 else names_of len o)
    go true o = omega arith
    go false none = omega arith
    go false (some fs) = room (places (listed fs)) (ltb 65535 (length (places (listed fs)))) refl (ltb len (length (places (listed fs))))

pub names-coded : (input ends : List ℕ) (len work : ℕ) → Coded (resolved_of (names input ends len work))
unfolding Coded resolved_of names Fit
names-coded input ends len work = go (ltb work workspace_size)
  where
    own : (x : Result (List ℕ)) → Fit x → Coded (resolved_of x)
    own (ok r) h = h
    own (stop n) h = omega (arith, h)

    go : (b : Bool) → Coded (resolved_of (when b then stop 1 else names_for input ends len))
    go true = omega arith
    go false = own (names_for input ends len) (fit input ends len)

not-1 : (x : Result (List ℕ)) → Fit x → x ≡ stop 1 → ⊥
unfolding Fit
not-1 (ok r) h e = let z : ◌≡◌ {A = ℕ} 0 1 = cc in omega arith
not-1 (stop n) h e = let z : n ≡ 1 = cc in omega (arith, h)

-- ---- the entry

module _ (input ends o w : List ℕ) where
  abbrev told : Result (List ℕ)
  told = names input ends (length o) (length w)

  pub too_short : length w < 65536 → (stop 1 ≡ resolved_of told) × ((o ≡ buffer_after told o) × (w ≡ workspace_after told w))
  unfolding resolved_of buffer_after workspace_after
  too_short h = rw (names-1 input ends (length o) (length w) h) (refl, (refl, refl))

  pub cleared : (o' z : List ℕ) (r : Result ℕ) → 65536 ≤ length w → z ≡ replicate (length (take 65536 w)) 0
      → (r ≡ answer_of (names_for input ends (length o))) × (o' ≡ buffer_after (names_for input ends (length o)) o)
      → (r ≡ resolved_of told) × ((o' ≡ buffer_after told o) × (z ++ drop 65536 w ≡ workspace_after told w))
  cleared o' z r h e p =
      let n : z ≡ replicate 65536 0 = e ∙ ap (λ (j : ℕ). replicate j 0) (length-take-le 65536 w h) in
      let x = names_for input ends (length o) in
      rw (names-is input ends (length o) (length w) h)
      (p.0 ∙ entry-answer x, (p.1, ap (λ (y : List ℕ). y ++ drop 65536 w) n ∙ sym (zeroed x w (not-1 x (fit input ends (length o))))))
