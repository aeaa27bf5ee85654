-- `text::compare` meets its contract.
use native.Mathlib.Omega.{arith}
use Rattle.text.proofs.CompareLaws.{lengths_differ, nothing-behind, pair-differs, pair_same, none-differs}
use Rattle.text.proofs.compare.Goals as goal

pub returns-then-n-b : goal.returns-then-n-b
returns-then-n-b c = lengths_differ c.args.a.now c.args.b.now c.if-n-b.true

pub loop-k-init : goal.loop-k-init
loop-k-init c = nothing-behind c.args.a.now c.args.b.now c.if-n-b.false

pub returns-then-a-i : goal.returns-then-a-i
returns-then-a-i c = pair-differs c.args.a.now c.args.b.now _ c.loop-k.invariant c.if-n-b.false (omega arith) c.if-a-i.true

pub loop-k-preserved : goal.loop-k-preserved
loop-k-preserved c = pair_same c.args.a.now c.args.b.now _ c.loop-k.invariant c.if-n-b.false (omega arith) c.if-a-i.false

pub returns : goal.returns
returns c = none-differs c.args.a.now c.args.b.now _ c.loop-k.invariant (omega arith)
