-- `utf8::chars::four` meets its contract. Assumes nothing.
use native.Mathlib.Omega.{arith}
use mathlib.Core.Path.{◌≡◌, refl, sym, ◌∙◌}
use Prim.Native.Nat.{ℕ}
use lib.ListN.{get_or}
use Rattle.utf8.specs.Utf8.{Tail, lead_of}
use Rattle.utf8.specs.Steps.{Begins}
use Rattle.utf8.proofs.CharLaws.{run-one, next-byte, decided-true, decided-false, step-within, bad-front, whole-front, short-of-four}
use Rattle.utf8.proofs.chars.four.Goals as goal
use Rattle.utf8.proofs.chars.four.Goals.{then-second_of_four, else-second_of_four}

pub returns-in_default : goal.returns-in_default
unfolding Begins
returns-in_default c = short-of-four c.args.s.now (omega (arith, c.type_inv.s 0)) c.requires.1 c.requires.0 (omega arith)

pub returns-else-is_tail : goal.returns-else-is_tail
unfolding Begins
returns-else-is_tail c =
    let s = c.args.s.now in
    rw c.if-is_tail.false
    (elim c.if-second_of_four.branch [
      | then-second_of_four w ↦
          let e = next-byte 1 s (lead_of (get_or s 0 0)) _ (omega arith) (run-one s c.requires.0) (decided-true (Tail 0x80 0xbf 1) c.second_of_four.result c.second_of_four.ensures w.if-second_of_four.true) in
          bad-front 3 s (next-byte 2 s _ _ (omega arith) e (decided-false (Tail 0x80 0xbf 0) w.is_tail.result (step-within _ 0x80 0xbf 1 (get_or s 2 0) w.is_tail.result refl w.is_tail.ensures) (sym w.value-is ∙ c.if-is_tail.false)))
      | else-second_of_four w ↦
          bad-front 2 s (next-byte 1 s (lead_of (get_or s 0 0)) _ (omega arith) (run-one s c.requires.0) (decided-false (Tail 0x80 0xbf 1) c.second_of_four.result c.second_of_four.ensures w.if-second_of_four.false))
    ])

pub returns-then-is_tail : goal.returns-then-is_tail
returns-then-is_tail c =
    let s = c.args.s.now in
    elim c.if-second_of_four.branch [
      | then-second_of_four w ↦
          let e = next-byte 1 s (lead_of (get_or s 0 0)) _ (omega arith) (run-one s c.requires.0) (decided-true (Tail 0x80 0xbf 1) c.second_of_four.result c.second_of_four.ensures w.if-second_of_four.true) in
          let f = next-byte 2 s _ _ (omega arith) e (decided-true (Tail 0x80 0xbf 0) w.is_tail.result (step-within _ 0x80 0xbf 1 (get_or s 2 0) w.is_tail.result refl w.is_tail.ensures) (sym w.value-is ∙ c.if-is_tail.true)) in
          whole-front 4 s c.is_tail-then-is_tail.result (omega arith)
          (next-byte 3 s _ _ (omega arith) f (step-within _ 0x80 0xbf 0 (get_or s 3 0) c.is_tail-then-is_tail.result refl c.is_tail-then-is_tail.ensures))
      | else-second_of_four w ↦ let z : ◌≡◌ {A = ℕ} 0 1 = cc (w.value-is, w.if-second_of_four.false, c.if-is_tail.true) in absurd (omega arith)
    ]
