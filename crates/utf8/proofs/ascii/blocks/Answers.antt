-- `utf8::ascii::blocks` meets its contract: the loop keeps what is passed over. Assumes nothing.
use native.Mathlib.Omega.{arith}
use mathlib.Core.Path.{◌≡◌, sym, ◌∙◌}
use Prim.Native.Nat.{◌+◌, ◌-◌}
use Rattle.utf8.proofs.AsciiLaws.{none_passed, part-passed, passed_on}
use Rattle.utf8.proofs.ascii.blocks.Goals as goal

pub loop-i-init : goal.loop-i-init
loop-i-init c = none_passed c.args.s.now c.args.from c.requires

pub loop-i-preserved : goal.loop-i-preserved
loop-i-preserved c =
    let n : c.loop-i.i + 256 - c.loop-i.i ≡ 256 = omega arith in
    passed_on c.args.s.now c.args.from c.loop-i.i (c.loop-i.i + 256) c.loop-i.invariant (part-passed c.args.s.now c.loop-i.i 256 (omega arith) (rw n at (sym c.all.ensures ∙ c.if-not-all.false)))
