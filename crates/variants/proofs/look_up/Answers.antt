-- `variants::look_up` meets its contract.
use Prim.Native.Nat.{◌+◌, ◌-◌}
use mathlib.Core.Path.{◌≡◌}
use native.Mathlib.Omega.{arith}
use native.Mathlib.Nat.{sub-zero}
use Rattle.frame.proofs.Counting.{reads-list}
use Rattle.variants.proofs.UnionTables.{looking-start, looking-end, looking-inside, looking-hit, looking-step}
use Rattle.variants.proofs.look_up.Goals as goal

pub read2-count-requires : goal.read2-count-requires
read2-count-requires c = reads-list _ c.args.s.now c.requires

pub loop-init : goal.loop-init
loop-init c = rw sub-zero (looking-start c.args.kind c.args.s.now _ c.requires c.read2-count.ensures)

pub bounds-s-at : goal.bounds-s-at
bounds-s-at c = omega (arith, looking-inside c.args.kind c.args.s.now (c.read2-count.result - c.loop.counter) c.loop.at c.loop.invariant (omega arith))

pub overflow_add-at : goal.overflow_add-at
overflow_add-at c = omega (arith, looking-inside c.args.kind c.args.s.now (c.read2-count.result - c.loop.counter) c.loop.at c.loop.invariant (omega arith))

pub read2-requires : goal.read2-requires
read2-requires c = omega (arith, looking-inside c.args.kind c.args.s.now (c.read2-count.result - c.loop.counter) c.loop.at c.loop.invariant (omega arith))

pub returns-then-s-at : goal.returns-then-s-at
returns-then-s-at c = looking-hit c.args.kind c.args.s.now (c.read2-count.result - c.loop.counter) c.loop.at c.loop.invariant (omega arith) c.if-s-at.true _ c.read2.ensures

pub overflow_add-at-in-loop : goal.overflow_add-at-in-loop
overflow_add-at-in-loop c = omega (arith, looking-inside c.args.kind c.args.s.now (c.read2-count.result - c.loop.counter) c.loop.at c.loop.invariant (omega arith))

pub loop-preserved : goal.loop-preserved
loop-preserved c =
    let q : c.read2-count.result - c.loop.counter - 1 ≡ c.read2-count.result - (c.loop.counter + 1) = omega arith in
    rw (← q) (looking-step c.args.kind c.args.s.now (c.read2-count.result - c.loop.counter) c.loop.at c.loop.invariant (omega arith) c.if-s-at.false)

pub returns : goal.returns
returns c = looking-end c.args.kind c.args.s.now (c.read2-count.result - c.loop.counter) c.loop.at c.loop.invariant (omega arith)
