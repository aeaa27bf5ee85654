-- `utf8::chars::three` meets its contract. Assumes nothing.
use native.Mathlib.Omega.{arith}
use mathlib.Core.Path.{refl}
use lib.ListN.{get_or}
use Rattle.utf8.specs.Utf8.{Tail, lead_of}
use Rattle.utf8.specs.Steps.{Begins}
use Rattle.utf8.proofs.CharLaws.{run-one, next-byte, decided-true, decided-false, step-within, bad-front, whole-front, short-of-three}
use Rattle.utf8.proofs.chars.three.Goals as goal

pub returns-in_default : goal.returns-in_default
unfolding Begins
returns-in_default c = short-of-three c.args.s.now (omega (arith, c.type_inv.s 0)) c.requires.1 c.requires.2 c.requires.0 (omega arith)

pub returns-else-second_of_three : goal.returns-else-second_of_three
unfolding Begins
returns-else-second_of_three c =
    let s = c.args.s.now in
    rw c.if-second_of_three.false
    (bad-front 2 s (next-byte 1 s (lead_of (get_or s 0 0)) _ (omega arith) (run-one s c.requires.0) (decided-false (Tail 0x80 0xbf 0) c.second_of_three.result c.second_of_three.ensures c.if-second_of_three.false)))

pub returns-then-second_of_three : goal.returns-then-second_of_three
returns-then-second_of_three c =
    let s = c.args.s.now in
    let e = next-byte 1 s (lead_of (get_or s 0 0)) _ (omega arith) (run-one s c.requires.0) (decided-true (Tail 0x80 0xbf 0) c.second_of_three.result c.second_of_three.ensures c.if-second_of_three.true) in
    whole-front 3 s c.is_tail.result (omega arith)
    (next-byte 2 s _ _ (omega arith) e (step-within _ 0x80 0xbf 0 (get_or s 2 0) c.is_tail.result refl c.is_tail.ensures))
