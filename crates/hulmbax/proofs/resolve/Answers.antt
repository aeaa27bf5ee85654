-- `hulmbax::resolve` meets its contract.
use native.Mathlib.Omega.{arith}
use mathlib.Core.Path.{◌≡◌, sym, ◌∙◌}
use mathlib.Core.List.{◌++◌}
use lib.ListN.{length, drop, length-append}
use lib.Seq.{length-take-le}
use Rattle.hulmbax.proofs.EntryLaws.{too_short, cleared}
use Rattle.hulmbax.proofs.resolve.Goals as goal

pub returns-then-workspace-lt65536 : goal.returns-then-workspace-lt65536
returns-then-workspace-lt65536 c = let all = too_short c.args.schema.now c.args.«record».now c.args.res.now c.args.workspace.now c.if-workspace-lt65536.true in
    record { answer = all.0; contents = all.1.0; cleared = all.1.1 }

pub slice_bounds-resolve_in-end-2 : goal.slice_bounds-resolve_in-end-2
slice_bounds-resolve_in-end-2 c = sym (length-take-le 65536 c.args.workspace.now c.if-workspace-lt65536.false)

pub resolve_in-told-requires : goal.resolve_in-told-requires
resolve_in-told-requires c = length-take-le 65536 c.args.workspace.now c.if-workspace-lt65536.false

pub slice_bounds-clear-end-2 : goal.slice_bounds-clear-end-2
slice_bounds-clear-end-2 c =
    let w = c.args.workspace.now in
    let y = c.resolve_in-told.new.work in
    let ly : length y ≡ 65536 = c.resolve_in-told.auto.work ∙ length-take-le 65536 w c.if-workspace-lt65536.false in
    sym (length-take-le _ (y ++ drop 65536 w) (simp length-append (omega (arith, ly))))

pub returns : goal.returns
returns c = let all = cleared c.args.schema.now c.args.«record».now c.args.res.now c.resolve_in-told.new.res c.args.workspace.now c.resolve_in-told.new.work c.clear.new.b _ c.if-workspace-lt65536.false c.resolve_in-told.auto.work c.clear.ensures (c.resolve_in-told.ensures.answer, c.resolve_in-told.ensures.contents) in
    record { answer = all.0; contents = all.1.0; cleared = all.1.1 }
