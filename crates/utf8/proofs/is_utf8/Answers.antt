-- `utf8::is_utf8` meets its contract: the loop keeps what is passed over. Assumes nothing.
use native.Mathlib.Omega.{arith}
use mathlib.Core.Path.{sym}
use Prim.Native.Nat.{◌+◌}
use Rattle.utf8.proofs.AsciiLaws.{one-passed, passed_on}
use Rattle.utf8.proofs.CharLaws.{begins-passed, begins-not, passed-whole}
use Rattle.utf8.proofs.is_utf8.Goals as goal

pub returns-in_default : goal.returns-in_default
returns-in_default c = sym (begins-not c.args.s.now c.loop-i.i 2 c.two.result c.loop-i.invariant.2 c.two.ensures c.if-two.false)

pub returns-in_default-2 : goal.returns-in_default-2
returns-in_default-2 c = sym (begins-not c.args.s.now c.loop-i.i 3 c.three.result c.loop-i.invariant.2 c.three.ensures c.if-three.false)

pub returns-in_default-3 : goal.returns-in_default-3
returns-in_default-3 c = sym (begins-not c.args.s.now c.loop-i.i 4 c.four.result c.loop-i.invariant.2 c.four.ensures c.if-four.false)

pub loop-i-preserved-in-0-to-127 : goal.loop-i-preserved-in-0-to-127
loop-i-preserved-in-0-to-127 c =
    let s = c.args.s.now in
    let i = c.loop-i.i in
    passed_on s 0 (i + 1) c.onward-i.result (passed_on s 0 i (i + 1) c.loop-i.invariant (one-passed s i (omega arith) (omega arith))) c.onward-i.ensures

pub loop-i-preserved-in-128-to-223 : goal.loop-i-preserved-in-128-to-223
loop-i-preserved-in-128-to-223 c =
    let s = c.args.s.now in
    let i = c.loop-i.i in
    passed_on s 0 i (i + 2) c.loop-i.invariant (begins-passed s i 2 c.two.result (omega arith) c.two.ensures c.if-two.true)

pub loop-i-preserved-in-224-to-239 : goal.loop-i-preserved-in-224-to-239
loop-i-preserved-in-224-to-239 c =
    let s = c.args.s.now in
    let i = c.loop-i.i in
    passed_on s 0 i (i + 3) c.loop-i.invariant (begins-passed s i 3 c.three.result (omega arith) c.three.ensures c.if-three.true)

pub loop-i-preserved : goal.loop-i-preserved
loop-i-preserved c =
    let s = c.args.s.now in
    let i = c.loop-i.i in
    passed_on s 0 i (i + 4) c.loop-i.invariant (begins-passed s i 4 c.four.result (omega arith) c.four.ensures c.if-four.true)

pub returns : goal.returns
returns c = sym (passed-whole c.args.s.now c.loop-i.i (omega arith) c.loop-i.invariant)
