-- The answer at each way of the code.
use Prim.Native.Nat.{ℕ, ◌≤◌, ◌<◌}
use mathlib.Core.Path.{◌≡◌, refl, sym, ap, ◌∙◌}
use mathlib.Core.List.{List, ◌++◌}
use mathlib.Core.Option.{Option, none, some}
use mathlib.Core.Bool.{Bool, true, false}
use native.Mathlib.Omega.{arith}
use lib.ListN.{length, take, drop}
use lib.Seq.{length-take-le}
use borrow.Author.Tests.{lt-ltb, le-ltb}
use Rattle.base.specs.Base.{when◌then◌else◌, Result, ok, stop}
use Rattle.buffer.specs.After.{buffer_after, checked_result}
use Rattle.buffer.proofs.AfterLaws.{checked_result-short, checked_result-fits}
use Rattle.lists.specs.Frames.{frames}
use Rattle.finishes.specs.declared.Entry.{Entry}
use Rattle.current.specs.Current.{Finish, listed}
use Rattle.corrections.specs.Named.{finishes, places, names_of, names_for, answer_of}
use Rattle.corrections.specs.Tables.{rows, Filled, Told}

pub told-true : (b : Bool) (o : Option (List Finish)) (input : List ℕ) (table : List Entry) (hashes : List ℕ) (n : ℕ) → b ≡ true → Told b o input table hashes n
    → (o ≡ some (rows input table n)) × Filled input table hashes n
unfolding Told
told-true true o input table hashes n e t = t
told-true false o input table hashes n e t = let z : ◌≡◌ {A = ℕ} 0 1 = cc in absurd (omega arith)

pub told-false : (b : Bool) (o : Option (List Finish)) (input : List ℕ) (table : List Entry) (hashes : List ℕ) (n : ℕ) → b ≡ false → Told b o input table hashes n → o ≡ none
unfolding Told
told-false true o input table hashes n e t = let z : ◌≡◌ {A = ℕ} 0 1 = cc in absurd (omega arith)
told-false false o input table hashes n e t = t

stopped : (x : Result (List ℕ)) (k : ℕ) (b : List ℕ) → x ≡ stop k → (stop k ≡ answer_of x) × (b ≡ buffer_after x b)
unfolding answer_of buffer_after
stopped x k b e = rw e (refl, refl)

accepted : (x : Result (List ℕ)) (r b b' : List ℕ) (n : ℕ) → x ≡ ok r → n ≡ length r → b' ≡ r ++ drop (length r) b → (ok n ≡ answer_of x) × (b' ≡ buffer_after x b)
unfolding answer_of buffer_after
accepted x r b b' n e l q = rw e (ap ok l, q)

-- 23, and what follows it
module _ (input ends : List ℕ) (buffer : ℕ) where
  abbrev read : Result (List ℕ)
  read = names_of buffer (finishes 0 (frames input ends))

  pub names-many : 256 < length ends → names_for input ends buffer ≡ stop 23
  unfolding names_for
  names-many h = ap (λ (t : Bool). when t then stop 23 else read) (lt-ltb 256 (length ends) h)

  pub names-few : length ends ≤ 256 → names_for input ends buffer ≡ read
  unfolding names_for
  names-few h = ap (λ (t : Bool). when t then stop 23 else read) (le-ltb 256 (length ends) h)

module _ (input ends b : List ℕ) where
  abbrev answer : Result (List ℕ)
  answer = names_for input ends (length b)

  pub many : 256 < length ends → (stop 23 ≡ answer_of answer) × (b ≡ buffer_after answer b)
  many h = stopped answer 23 b (names-many input ends (length b) h)

  module _ (h : length ends ≤ 256) where
    pub broken : finishes 0 (frames input ends) ≡ none → (stop 24 ≡ answer_of answer) × (b ≡ buffer_after answer b)
    unfolding names_of
    broken e = stopped answer 24 b (names-few input ends (length b) h ∙ ap (names_of (length b)) e)

    module _ (fs : List Finish) (out : List ℕ) (n : ℕ) (e : finishes 0 (frames input ends) ≡ some fs) (l : (n ≤ length ends) × (length out ≡ 256) × (take n out ≡ places (listed fs))) where
      pub taken : length (take n out) ≡ n
      taken = length-take-le n out (omega (arith, l.0, l.1))

      long : length (places (listed fs)) ≡ n
      long = sym (ap length l.2) ∙ taken

      checked : answer ≡ checked_result (length b) (places (listed fs))
      unfolding names_of
      checked = names-few input ends (length b) h ∙ ap (names_of (length b)) e

      pub too_long : length b < n → (stop 18 ≡ answer_of answer) × (b ≡ buffer_after answer b)
      too_long g = stopped answer 18 b (checked ∙ checked_result-short (length b) (places (listed fs)) (omega (arith, long, l.0)) (omega (arith, long)))

      pub done : (b' : List ℕ) → n ≤ length b → b' ≡ take n out ++ drop (length (take n out)) b → (ok n ≡ answer_of answer) × (b' ≡ buffer_after answer b)
      done b' g c =
          accepted answer (places (listed fs)) b b' n
          (checked ∙ checked_result-fits (length b) (places (listed fs)) (omega (arith, long, l.0)) (omega (arith, long)))
          (sym long)
          (c ∙ ap (λ (m : List ℕ). m ++ drop (length m) b) l.2)
