-- `hulmbax::current` meets its contract.
use native.Mathlib.Omega.{arith}
use mathlib.Core.Path.{sym}
use lib.Seq.{length-take-le}
use Rattle.hulmbax.proofs.NameLaws.{too_short, cleared}
use Rattle.hulmbax.proofs.current.Goals as goal

pub returns-then-workspace-lt65536 : goal.returns-then-workspace-lt65536
returns-then-workspace-lt65536 c = let all = too_short _ _ _ _ c.if-workspace-lt65536.true in
    record { answer = all.0; contents = all.1.0; cleared = all.1.1 }

pub slice_bounds-clear-end-2 : goal.slice_bounds-clear-end-2
slice_bounds-clear-end-2 c = sym (length-take-le _ c.args.workspace.now (omega (arith, c.if-workspace-lt65536.false)))

pub returns : goal.returns
returns c = let all = cleared c.args.input.now c.args.ends.now c.args.res.now c.args.workspace.now _ _ _ c.if-workspace-lt65536.false c.clear.ensures (c.current-named.ensures.answer, c.current-named.ensures.contents) in
    record { answer = all.0; contents = all.1.0; cleared = all.1.1 }
