-- `find::mark` meets its contract. The loop's invariant: the table holds the places of the names passed, and for every name the
use borrow.Author.Rules.{part_to_end}
use Prim.Native.Nat.{ℕ}
use mathlib.Core.Path.{ap, ◌∙◌}
use mathlib.Core.List.{[]}
use lib.ListN.{length, length-replicate}
use Rattle.std.proofs.lemmas.Bool.{false≢true}
use native.Mathlib.Omega.{arith}
use Rattle.frame.proofs.ValueNodes.{value_there}
use Rattle.find.proofs.FindLaws.{keyed-length}
use Rattle.find.proofs.MarkLaws.{marking-start, marking-name, marking-inside, marking-value, marking-within, marking_step, marking-end}
use Rattle.find.proofs.mark.Goals as goal

pub read2-count-requires : goal.read2-count-requires
read2-count-requires c = keyed-length _ _ c.requires.0 c.requires.1

pub returns-then-count-gt1024 : goal.returns-then-count-gt1024
returns-then-count-gt1024 c = (λ e. absurd (false≢true e), ap length c.requires.2 ∙ length-replicate {A = ℕ} 2560 0)

pub loop-n-init : goal.loop-n-init
loop-n-init c = marking-start _ _ _ _ c.requires.0 c.requires.1 c.requires.2 c.read2-count.ensures

pub returns-then-at-gt65535 : goal.returns-then-at-gt65535
returns-then-at-gt65535 c = (λ e. absurd (false≢true e), c.loop-n.invariant.indexed.size)

pub add-requires : goal.add-requires
add-requires c = (omega arith, (c.loop-n.invariant.behind, (omega arith, marking-name _ _ _ _ _ _ c.loop-n.invariant c.requires.0 (omega arith))))

pub slice_bounds-content-count : goal.slice_bounds-content-count
slice_bounds-content-count c = (c.loop-n.invariant.finding []).inside

pub slice_bounds-content-start : goal.slice_bounds-content-start
slice_bounds-content-start c = (c.loop-n.invariant.finding []).inside

pub content-requires : goal.content-requires
content-requires c = rw part_to_end (marking-name _ _ _ _ _ _ c.loop-n.invariant c.requires.0 (omega arith))

pub slice_bounds-reach-count : goal.slice_bounds-reach-count
slice_bounds-reach-count c = marking-inside _ _ _ _ _ _ c.loop-n.invariant c.requires.0 (omega arith) _ (rw part_to_end at c.content.ensures.0) (rw part_to_end at c.content.ensures.1.0)

pub slice_bounds-reach-start : goal.slice_bounds-reach-start
slice_bounds-reach-start c = marking-inside _ _ _ _ _ _ c.loop-n.invariant c.requires.0 (omega arith) _ (rw part_to_end at c.content.ensures.0) (rw part_to_end at c.content.ensures.1.0)

pub overflow_sub-depth : goal.overflow_sub-depth
overflow_sub-depth c = let h = (value_there _ _ c.requires.0).0 in omega arith

pub reach-at-requires : goal.reach-at-requires
reach-at-requires c = rw part_to_end (marking-value _ _ _ _ _ _ c.loop-n.invariant c.requires.0 (omega arith) _ (rw part_to_end at c.content.ensures.0) (rw part_to_end at c.content.ensures.1.0))

pub overflow_add-at-in-loop-n-2 : goal.overflow_add-at-in-loop-n-2
overflow_add-at-in-loop-n-2 c = let h = marking-within _ _ _ _ _ _ c.loop-n.invariant c.requires.0 (omega arith) _ (rw part_to_end at c.content.ensures.0) (rw part_to_end at c.content.ensures.1.0) _ (rw part_to_end at c.reach-at.ensures.0) in omega arith

pub loop-n-preserved : goal.loop-n-preserved
loop-n-preserved c = marking_step _ _ _ _ _ _ c.loop-n.invariant c.requires.0 (omega arith) _ (rw part_to_end at c.content.ensures.0) (rw part_to_end at c.content.ensures.1.0) _ _ c.add.ensures (rw part_to_end at c.reach-at.ensures.0) (rw part_to_end at c.reach-at.ensures.1)

pub returns : goal.returns
returns c = (λ e. marking-end _ _ _ _ _ _ c.loop-n.invariant (omega arith), c.loop-n.invariant.indexed.size)
