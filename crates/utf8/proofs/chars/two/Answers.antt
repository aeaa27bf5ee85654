-- `utf8::chars::two` meets its contract. Assumes nothing.
use native.Mathlib.Omega.{arith}
use mathlib.Core.Path.{◌∙◌}
use lib.ListN.{get_or}
use Rattle.utf8.specs.Utf8.{lead_of}
use Rattle.utf8.specs.Steps.{Begins}
use Rattle.utf8.proofs.CodePoints.{lead_of-Bad, lead_of-two}
use Rattle.utf8.proofs.CharLaws.{run-one, next-byte, step-within, bad-front, whole-front, short-of-two}
use Rattle.utf8.proofs.chars.two.Goals as goal

pub returns-in-194-to-223 : goal.returns-in-194-to-223
returns-in-194-to-223 c =
    let s = c.args.s.now in
    let e = lead_of-two (get_or s 0 0) (omega arith) c.requires.2 in
    whole-front 2 s c.is_tail.result (omega arith)
    (next-byte 1 s (lead_of (get_or s 0 0)) _ (omega arith) (run-one s c.requires.0) (step-within _ 0x80 0xbf 0 (get_or s 1 0) c.is_tail.result e c.is_tail.ensures))

pub returns-in_default : goal.returns-in_default
unfolding Begins
returns-in_default c = short-of-two c.args.s.now (omega (arith, c.type_inv.s 0)) c.requires.1 c.requires.2 c.requires.0 (omega arith)

pub returns-in_default-2 : goal.returns-in_default-2
unfolding Begins
returns-in_default-2 c =
    let s = c.args.s.now in
    bad-front 1 s (run-one s c.requires.0 ∙ lead_of-Bad (get_or s 0 0) (omega arith) (omega arith))

pub returns-in_default-3 : goal.returns-in_default-3
returns-in_default-3 c = absurd (omega arith)
