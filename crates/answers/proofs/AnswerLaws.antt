-- Every answer fits its line.
use Prim.Native.Nat.{ℕ, ◌/◌, ◌%◌, ◌≤◌}
use mathlib.Core.Path.{◌≡◌, sym, ap, ◌∙◌, subst}
use mathlib.Core.List.{List, [], ◌∷◌, ◌++◌}
use mathlib.Core.Logic.{⊎_elim}
use mathlib.Core.Bool.{Bool, true, false}
use native.Mathlib.Omega.{arith}
use lib.Dec.{ltb}
use lib.ListN.{length, take, drop}
use Rattle.base.specs.Base.{when◌then◌else◌, Result, ok, stop}
use Rattle.uuid_text.specs.Rfc4122.{small_digit}
use Rattle.hex_text.specs.Hex.{decimal}
use Rattle.buffer.specs.After.{buffer_after}
use Rattle.hulmbax.specs.Answer.{answer, workspace_size}
use Rattle.hulmbax.specs.Entry.{resolved_of}
use Rattle.hulmbax.proofs.EntryLaws.{answer-is}
use Rattle.hulmbax.proofs.Told.{ok-is, stop_is}
use Rattle.hulmbax.proofs.Bounds.{Small, answer-small, answer-refusal-small, answer-accepted-small}
use Rattle.lines.specs.Line.{answer_line}
use Rattle.lines.proofs.LineLaws.{length-ok, length-stop}

-- ---- what the entry hands over, for a program's buffers

module _ (s v o w : List ℕ) (lo : length o ≡ 65535) (lw : workspace_size ≤ length w) where
  same : answer s v (length o) (length w) ≡ answer s v 65535 workspace_size
  same = answer-is s v (length o) (length w) lw ∙ sym (answer-is s v (length o) workspace_size (omega arith)) ∙ ap (λ (k : ℕ). answer s v k workspace_size) lo

  module _ (r : Result ℕ) (o' : List ℕ) (n : ℕ) (e : r ≡ resolved_of (answer s v (length o) (length w))) where
    pub accepted-is : r ≡ ok n → o' ≡ buffer_after (answer s v (length o) (length w)) o → (answer s v 65535 workspace_size ≡ ok (take n o')) × ((length (take n o') ≡ n) × (n ≤ 65535))
    accepted-is p f =
        let i : (answer s v (length o) (length w) ≡ ok (take n o')) × (length (take n o') ≡ n) = ok-is (answer s v (length o) (length w)) o o' n (sym p ∙ e) f in
        (sym same ∙ i.0, (i.1, omega (arith, i.1, (answer-accepted-small s v (length o) (length w) (take n o') i.0).1)))

    pub refused-is : r ≡ stop n → (answer s v 65535 workspace_size ≡ stop n) × (n ≤ 28)
    refused-is p =
        let i : answer s v (length o) (length w) ≡ stop n = stop_is (answer s v (length o) (length w)) n (sym p ∙ e) in
        (sym same ∙ i, ⊎_elim (λ h. omega (arith, h)) (λ h. omega (arith, h)) (answer-refusal-small s v (length o) (length w) n i).1)

-- ---- the line of an answer

decimal-short : (n : ℕ) → length (decimal n) ≤ 2
unfolding decimal
decimal-short n = go (ltb n 10)
  where
    go : (b : Bool) → length (when b then small_digit n ∷ [] else small_digit (n / 10) ∷ small_digit (n % 10) ∷ []) ≤ 2
    go true = omega arith
    go false = omega arith

line-short : (x : Result (List ℕ)) → Small x → length (answer_line x) ≤ 131073
line-short (ok r) h = omega (arith, length-ok r)
line-short (stop n) h = omega (arith, length-stop n, decimal-short n)

pub answered : (s v : List ℕ) (x : Result (List ℕ)) (o o' : List ℕ) (n : ℕ) → answer s v 65535 workspace_size ≡ x
    → (n ≡ length (answer_line x)) × (o' ≡ answer_line x ++ drop (length (answer_line x)) o)
    → ((n ≡ length (answer_line (answer s v 65535 workspace_size))) × (n ≤ 131073))
    × (o' ≡ answer_line (answer s v 65535 workspace_size) ++ drop (length (answer_line (answer s v 65535 workspace_size))) o)
answered s v x o o' n e p =
    let h : length (answer_line x) ≤ 131073 = line-short x (subst (λ (y : Result (List ℕ)). Small y) e (answer-small s v 65535 workspace_size)) in
    rw e ((p.0, omega (arith, p.0)), p.1)
