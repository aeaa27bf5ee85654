-- `index::find` meets its contract.
use Prim.Native.Nat.{ℕ, ◌+◌, ◌*◌, ◌%◌}
use mathlib.Core.Path.{sym, ap, ◌∙◌}
use mathlib.Core.List.{List}
use native.Mathlib.Omega.{arith}
use lib.ListN.{get_or}
use Rattle.text.specs.Text.{same}
use Rattle.index.specs.Table.{row}
use Rattle.index.proofs.TableLaws.{Walk, walk_start, walk-text, walk-hit, walk-less, walk-next, walk_end}
use Rattle.index.proofs.PlaceLaws.{tail-reads, tail-text}
use Rattle.text.proofs.ReadLaws.{place_inside}
use Rattle.index.proofs.find.Goals as goal

pub offset_bounds-t-hash : goal.offset_bounds-t-hash
offset_bounds-t-hash c = omega arith

pub bounds-t-hash : goal.bounds-t-hash
bounds-t-hash c = omega arith

pub overflow_cast-i : goal.overflow_cast-i
unfolding row
overflow_cast-i c =
    let w : Walk c.args.s.now c.requires.0 c.args.name.now (get_or c.args.t.now (c.hash.result % 512) 0) =
    walk_start c.args.t.now c.args.s.now c.requires.0 c.args.name.now c.requires.1 (c.hash.result % 512) (ap (λ h. h % 512) c.hash.ensures) (omega arith) in
    omega (arith, w.within, c.requires.1.few)

pub loop-i-init : goal.loop-i-init
unfolding row
loop-i-init c = λ ps x. walk_start c.args.t.now c.args.s.now ps c.args.name.now x (c.hash.result % 512) (ap (λ h. h % 512) c.hash.ensures) (omega arith)

pub overflow_mul-e : goal.overflow_mul-e
overflow_mul-e c = omega (arith, (c.loop-i.invariant c.requires.0 c.requires.1).within, c.requires.1.few)

pub overflow_add-e : goal.overflow_add-e
overflow_add-e c = omega (arith, (c.loop-i.invariant c.requires.0 c.requires.1).within, c.requires.1.few)

pub offset_bounds-t-e : goal.offset_bounds-t-e
offset_bounds-t-e c = omega (arith, (c.loop-i.invariant c.requires.0 c.requires.1).within, c.requires.1.few)

pub bounds-t-e : goal.bounds-t-e
bounds-t-e c = omega (arith, (c.loop-i.invariant c.requires.0 c.requires.1).within, c.requires.1.few, c.requires.1.size)

pub overflow_cast-p : goal.overflow_cast-p
overflow_cast-p c = omega (arith, (place_inside c.args.s.now (get_or c.args.t.now (510 + 2 * c.loop-i.i) 0) (walk-text c.args.t.now c.args.s.now c.requires.0 c.args.name.now c.requires.1 c.loop-i.i (c.loop-i.invariant c.requires.0 c.requires.1) c.loop-i-test.true)), c.well_formed.1.0.0)

pub slice_bounds-content-count : goal.slice_bounds-content-count
slice_bounds-content-count c = place_inside c.args.s.now (get_or c.args.t.now (510 + 2 * c.loop-i.i) 0) (walk-text c.args.t.now c.args.s.now c.requires.0 c.args.name.now c.requires.1 c.loop-i.i (c.loop-i.invariant c.requires.0 c.requires.1) c.loop-i-test.true)

pub slice_bounds-content-start : goal.slice_bounds-content-start
slice_bounds-content-start c = place_inside c.args.s.now (get_or c.args.t.now (510 + 2 * c.loop-i.i) 0) (walk-text c.args.t.now c.args.s.now c.requires.0 c.args.name.now c.requires.1 c.loop-i.i (c.loop-i.invariant c.requires.0 c.requires.1) c.loop-i-test.true)

pub content-word-requires : goal.content-word-requires
content-word-requires c =
    let a = c.args in
    tail-reads a.s.now (get_or a.t.now (510 + 2 * c.loop-i.i) 0) (walk-text c.args.t.now c.args.s.now c.requires.0 c.args.name.now c.requires.1 c.loop-i.i (c.loop-i.invariant c.requires.0 c.requires.1) c.loop-i-test.true)

pub returns-then-same : goal.returns-then-same
returns-then-same c ps x =
    let a = c.args in
    walk-hit a.t.now a.s.now ps a.name.now x c.loop-i.i (c.loop-i.invariant ps x) c.loop-i-test.true (ap (λ (x : List ℕ). same x c.args.name.now) (tail-text c.args.s.now (get_or c.args.t.now (510 + 2 * c.loop-i.i) 0) _ _ c.content-word.ensures.0) ∙ sym c.same.ensures ∙ c.if-same.true)

pub overflow_add-i : goal.overflow_add-i
overflow_add-i c = omega (arith, (c.loop-i.invariant c.requires.0 c.requires.1).within, c.requires.1.few)

pub offset_bounds-t-e-in-loop-i : goal.offset_bounds-t-e-in-loop-i
offset_bounds-t-e-in-loop-i c = omega (arith, (c.loop-i.invariant c.requires.0 c.requires.1).within, c.requires.1.few)

pub bounds-t-e-in-loop-i : goal.bounds-t-e-in-loop-i
bounds-t-e-in-loop-i c = omega (arith, (c.loop-i.invariant c.requires.0 c.requires.1).within, c.requires.1.few)

pub overflow_cast-i-in-loop-i : goal.overflow_cast-i-in-loop-i
overflow_cast-i-in-loop-i c = omega (arith, (walk-less c.args.t.now c.args.s.now c.requires.0 c.args.name.now c.requires.1 c.loop-i.i (c.loop-i.invariant c.requires.0 c.requires.1) c.loop-i-test.true), (c.loop-i.invariant c.requires.0 c.requires.1).within, c.requires.1.few)

pub loop-i-smaller : goal.loop-i-smaller
loop-i-smaller c = walk-less c.args.t.now c.args.s.now c.requires.0 c.args.name.now c.requires.1 c.loop-i.i (c.loop-i.invariant c.requires.0 c.requires.1) c.loop-i-test.true

pub loop-i-preserved : goal.loop-i-preserved
loop-i-preserved c ps x =
    let a = c.args in
    walk-next a.t.now a.s.now ps a.name.now x c.loop-i.i (c.loop-i.invariant ps x) c.loop-i-test.true (ap (λ (x : List ℕ). same x c.args.name.now) (tail-text c.args.s.now (get_or c.args.t.now (510 + 2 * c.loop-i.i) 0) _ _ c.content-word.ensures.0) ∙ sym c.same.ensures ∙ c.if-same.false)

pub returns : goal.returns
returns c ps x = walk_end _ ps _ _ (c.loop-i.invariant ps x) (omega arith)
