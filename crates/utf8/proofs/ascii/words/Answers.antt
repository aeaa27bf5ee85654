-- `utf8::ascii::words` meets its contract: the loop keeps what is passed over. Assumes nothing.
use native.Mathlib.Omega.{arith}
use mathlib.Core.Path.{sym, ◌∙◌}
use Prim.Native.Nat.{◌+◌}
use Rattle.utf8.proofs.AsciiLaws.{none_passed, part-passed, passed_on}
use Rattle.utf8.proofs.ascii.words.Goals as goal

pub loop-i-init : goal.loop-i-init
loop-i-init c = none_passed c.args.s.now c.args.from c.requires

pub loop-i-preserved : goal.loop-i-preserved
loop-i-preserved c = passed_on c.args.s.now c.args.from c.loop-i.i (c.loop-i.i + 8) c.loop-i.invariant (part-passed c.args.s.now c.loop-i.i 8 (omega arith) (sym c.eight.ensures ∙ c.if-not-eight.false))

pub returns : goal.returns
returns c = passed_on c.args.s.now c.args.from c.loop-i.i c.last.result c.loop-i.invariant c.last.ensures
