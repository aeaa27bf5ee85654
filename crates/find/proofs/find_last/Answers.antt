-- `find::find_last` meets its contract.
use borrow.Author.Rules.{part_to_end}
use Prim.Native.Nat.{◌+◌, ◌-◌}
use mathlib.Core.Path.{◌≡◌, sym, ap, ◌∙◌}
use mathlib.Core.Bool.{Bool}
use native.Mathlib.Omega.{arith}
use native.Mathlib.Nat.{sub-zero}
use lib.ListN.{length}
use Rattle.find.specs.Latest.{hit, later}
use Rattle.frame.proofs.ValueNodes.{value_there}
use Rattle.find.proofs.FindLaws.{keyed-length, finding-start, finding-name, finding-inside, finding-value, finding-step, finding-end}
use Rattle.find.proofs.find_last.Goals as goal
use Rattle.find.proofs.find_last.Goals.{then-same, else-same}

pub read2-count-requires : goal.read2-count-requires
read2-count-requires c = keyed-length _ _ c.requires.0 c.requires.1

pub loop-i-init : goal.loop-i-init
loop-i-init c = rw sub-zero (finding-start _ _ _ _ c.requires.0 c.requires.1 c.read2-count.ensures)

pub content-t-requires : goal.content-t-requires
content-t-requires c = rw part_to_end (finding-name _ _ _ _ _ _ c.loop-i.invariant c.requires.0 (omega arith))

pub slice_bounds-reach-count : goal.slice_bounds-reach-count
slice_bounds-reach-count c = finding-inside _ _ _ _ _ _ c.loop-i.invariant c.requires.0 (omega arith) _ (rw part_to_end at c.content-t.ensures.0) (rw part_to_end at c.content-t.ensures.1.0)

pub slice_bounds-reach-start : goal.slice_bounds-reach-start
slice_bounds-reach-start c = finding-inside _ _ _ _ _ _ c.loop-i.invariant c.requires.0 (omega arith) _ (rw part_to_end at c.content-t.ensures.0) (rw part_to_end at c.content-t.ensures.1.0)

pub overflow_sub-depth : goal.overflow_sub-depth
overflow_sub-depth c = let h = (value_there _ _ c.requires.0).0 in omega arith

pub reach-at-requires : goal.reach-at-requires
reach-at-requires c = rw part_to_end (finding-value _ _ _ _ _ _ c.loop-i.invariant c.requires.0 (omega arith) _ (rw part_to_end at c.content-t.ensures.0) (rw part_to_end at c.content-t.ensures.1.0))

pub loop-i-preserved : goal.loop-i-preserved
unfolding later hit
loop-i-preserved c =
    let k = c.loop-i.at + (2 + length c.content-t.result.now) in
    let q : c.read2-count.result - c.loop-i.i - 1 ≡ c.read2-count.result - (c.loop-i.i + 1) = omega arith in
    let e : c.if-same.last ≡ later c.loop-i.last (hit c.same.result k) =
    elim c.if-same.branch [
      | then-same w ↦ w.last-is ∙ ap (λ (b : Bool). later c.loop-i.last (hit b k)) (sym w.if-same.true)
      | else-same w ↦ w.last-is ∙ ap (λ (b : Bool). later c.loop-i.last (hit b k)) (sym w.if-same.false)
    ] in
    rw (e, ← q) (finding-step _ _ _ _ _ _ c.loop-i.invariant c.requires.0 (omega arith) _ (rw part_to_end at c.content-t.ensures.0) (rw part_to_end at c.content-t.ensures.1.0) _ _ c.same.ensures (rw part_to_end at c.reach-at.ensures.0) (rw part_to_end at c.reach-at.ensures.1))

pub returns : goal.returns
returns c = finding-end _ _ _ _ _ _ c.loop-i.invariant (omega arith)
