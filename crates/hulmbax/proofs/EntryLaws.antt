-- The entry's answer around that of the record: what stops the schema, and the workspace.
use Prim.Native.Nat.{ℕ, ◌≤◌, ◌<◌}
use mathlib.Core.Path.{◌≡◌, refl, sym, ap, ◌∙◌}
use mathlib.Core.List.{List, ◌++◌}
use mathlib.Core.Bool.{Bool, true, false}
use lib.Dec.{ltb, eqb, lt→ltb}
use lib.Arith.{le→nltb}
use lib.ListN.{length, take, drop, replicate}
use lib.Seq.{length-take-le, take_at, drop_at}
use borrow.Author.Tests.{eqb-true}
use lib.Ieee.Bits.{is_true, is_false}
use Rattle.base.specs.Base.{when◌then◌else◌, Result, ok, stop, after}
use Rattle.frame.specs.SchemaFrame.{decode_schema}
use Rattle.buffer.specs.After.{buffer_after}
use Rattle.hulmbax.specs.Answer.{answer, answer_for, record_answer, workspace_after, checked_schema, workspace_size}
use Rattle.hulmbax.specs.Entry.{PassedSchema, resolved_of, stop_of}
use Rattle.base.specs.Refusal.{number_of}
use Rattle.base.specs.declared.refusal.Refusal.{Refusal}
use Rattle.hulmbax.proofs.CheckLaws.{number-never-0, stops}
use Rattle.hulmbax.proofs.Bounds.{answer_for-not-1}

-- ---- the schema, and the record under it

module _ (s v : List ℕ) where
  pub stopped-schema : (o : List ℕ) (e : Refusal) → number_of e ≡ stop_of (checked_schema (decode_schema s))
      → (stop (number_of e) ≡ resolved_of (answer_for s v (length o))) × (o ≡ buffer_after (answer_for s v (length o)) o)
  unfolding resolved_of buffer_after after
  stopped-schema o e f = rw (stops (checked_schema (decode_schema s)) (number_of e) f (number-never-0 e)) (refl, refl)

  -- where the schema passed, the answer is what the record gets under its tree
  pub answered-record : (o o' : List ℕ) (r : Result ℕ) (p : PassedSchema s)
      → (r ≡ resolved_of (record_answer p.tree v (length o))) → (o' ≡ buffer_after (record_answer p.tree v (length o)) o)
      → (r ≡ resolved_of (answer_for s v (length o))) × (o' ≡ buffer_after (answer_for s v (length o)) o)
  unfolding after
  answered-record o o' r p e f = rw p.passed (e, f)

-- ---- the entry behind 1

-- the answer for a workspace that is long enough
pub answer-is : (s v : List ℕ) (len work : ℕ) → workspace_size ≤ work → answer s v len work ≡ answer_for s v len
unfolding answer
answer-is s v len work h = rw (is_false (ltb work workspace_size) (le→nltb work workspace_size h))

-- ---- the workspace

pub answer-1 : (s v : List ℕ) (len work : ℕ) → work < workspace_size → answer s v len work ≡ stop 1
unfolding answer
answer-1 s v len work h = rw (is_true (ltb work workspace_size) (lt→ltb work workspace_size h))

pub too_short : (s v o w : List ℕ) → length w < 65536
    → (stop 1 ≡ resolved_of (answer s v (length o) (length w))) × ((o ≡ buffer_after (answer s v (length o) (length w)) o) × (w ≡ workspace_after (answer s v (length o) (length w)) w))
unfolding resolved_of buffer_after workspace_after
too_short s v o w h = rw (answer-1 s v (length o) (length w) h) (refl, (refl, refl))

-- after any other answer its first 65,536 bytes are zero
pub zeroed : (x : Result (List ℕ)) (w : List ℕ) → (x ≡ stop 1 → ⊥) → workspace_after x w ≡ replicate 65536 0 ++ drop 65536 w
unfolding workspace_after
zeroed (ok r) w f = refl
zeroed (stop n) w f = go (eqb n 1) refl
  where
    go : (b : Bool) → eqb n 1 ≡ b → (when b then w else replicate 65536 0 ++ drop 65536 w) ≡ replicate 65536 0 ++ drop 65536 w
    go true e = absurd (f (ap (λ (j : ℕ). stop j) (eqb-true n 1 e)))
    go false e = refl

pub cleared : (s v o o' w y z : List ℕ) (r : Result ℕ) → 65536 ≤ length w → length y ≡ length (take 65536 w) → z ≡ replicate (length (take 65536 (y ++ drop 65536 w))) 0
    → (r ≡ resolved_of (answer_for s v (length o))) × (o' ≡ buffer_after (answer_for s v (length o)) o)
    → (r ≡ resolved_of (answer s v (length o) (length w))) × ((o' ≡ buffer_after (answer s v (length o) (length w)) o)
    × (z ++ drop 65536 (y ++ drop 65536 w) ≡ workspace_after (answer s v (length o) (length w)) w))
cleared s v o o' w y z r h l e p =
    let ly : length y ≡ 65536 = l ∙ length-take-le 65536 w h in
    let a : answer s v (length o) (length w) ≡ answer_for s v (length o) = answer-is s v (length o) (length w) h in
    let t : take 65536 (y ++ drop 65536 w) ≡ y = take_at y (drop 65536 w) 65536 ly in
    let d : drop 65536 (y ++ drop 65536 w) ≡ drop 65536 w = drop_at y (drop 65536 w) 65536 ly in
    let n : z ≡ replicate 65536 0 = e ∙ ap (λ (x : List ℕ). replicate (length x) 0) t ∙ ap (λ (j : ℕ). replicate j 0) ly in
    rw a (p.0, (p.1, ap (λ (x : List ℕ). x ++ drop 65536 (y ++ drop 65536 w)) n ∙ ap (λ (x : List ℕ). replicate 65536 0 ++ x) d ∙ sym (zeroed (answer_for s v (length o)) w (answer_for-not-1 s v (length o)))))
