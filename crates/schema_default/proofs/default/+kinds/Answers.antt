-- The cycle of `default_kinds`, `entries_kinds`, `items_kinds` in `schema_default::default` meets its contracts. Assumes nothing.
use native.Mathlib.Omega.{arith}
use native.Mathlib.Nat.{sub-add-eq}
use mathlib.Core.Path.{refl, sym, ap, ◌∙◌}
use mathlib.Core.Bool.{true, not, and-true}
use lib.ListN.{drop, length-drop}
use Rattle.scalar.specs.Conversion.{in_int, finite_double}
use Rattle.frame.specs.Readers.{read_many}
use Rattle.frame.specs.ValueFrame.{items_of, entries_of, read_entry, read_value}
use Rattle.frame.specs.Sound.{default_items, default_entries}
use Rattle.frame.proofs.Measuring.{spans-le}
use Rattle.frame.proofs.Counting.{list-many, reads-list, left-start, left-reads, left_end}
use Rattle.frame.proofs.ValueNodes.{value_there}
use Rattle.schema_default.proofs.Defaults.{other-kinds, long-there, double-there, long-says, double-says, string-says, array-reads, map-reads, array-says, map-says, items_kinds, items-step, entries_kinds, key_reads, entry-reads, entries-step}
use borrow.Author.Rules.{part_to_end}
use borrow.Author.Tests.{le-leb, lt-leb}
use Rattle.schema_default.proofs.default.+kinds.Goals as goal

pub default_kinds-bounds-s-0 : goal.default_kinds-bounds-s-0
default_kinds-bounds-s-0 t c = (value_there _ _ c.requires).1

pub default_kinds-read8-requires : goal.default_kinds-read8-requires
default_kinds-read8-requires t c = long-there _ _ c.requires c.in-3.is

pub default_kinds-returns-in-3 : goal.default_kinds-returns-in-3
default_kinds-returns-in-3 t c = long-says _ _ c.requires c.in-3.is _ (c.outside_int.ensures ∙ ap (λ n. not (in_int n)) c.read8.ensures)

pub default_kinds-read8-requires-in-5 : goal.default_kinds-read8-requires-in-5
default_kinds-read8-requires-in-5 t c = double-there _ _ c.requires c.in-5.is

pub default_kinds-returns-in-5 : goal.default_kinds-returns-in-5
default_kinds-returns-in-5 t c = double-says _ _ c.requires c.in-5.is _ (c.finite_double.ensures ∙ ap finite_double c.read8-in-5.ensures)

pub default_kinds-returns-in-7 : goal.default_kinds-returns-in-7
default_kinds-returns-in-7 t c = string-says _ _ c.requires c.in-7.is

pub default_kinds-slice_bounds-items_kinds-count : goal.default_kinds-slice_bounds-items_kinds-count
default_kinds-slice_bounds-items_kinds-count t c = omega (arith, (value_there _ _ c.requires).1)

pub default_kinds-slice_bounds-items_kinds-start : goal.default_kinds-slice_bounds-items_kinds-start
default_kinds-slice_bounds-items_kinds-start t c = omega (arith, (value_there _ _ c.requires).1)

pub default_kinds-overflow_sub-depth : goal.default_kinds-overflow_sub-depth
default_kinds-overflow_sub-depth t c = omega (arith, (value_there _ _ c.requires).0)

pub default_kinds-items_kinds-requires : goal.default_kinds-items_kinds-requires
default_kinds-items_kinds-requires t c = (omega (arith, (value_there _ _ c.requires).0), rw part_to_end (array-reads _ _ c.requires c.in-8.is))

pub default_kinds-returns-in-8 : goal.default_kinds-returns-in-8
default_kinds-returns-in-8 t c = array-says _ _ c.requires c.in-8.is _ (rw part_to_end at c.items_kinds.ensures)

pub default_kinds-slice_bounds-entries_kinds-count : goal.default_kinds-slice_bounds-entries_kinds-count
default_kinds-slice_bounds-entries_kinds-count t c = omega (arith, (value_there _ _ c.requires).1)

pub default_kinds-slice_bounds-entries_kinds-start : goal.default_kinds-slice_bounds-entries_kinds-start
default_kinds-slice_bounds-entries_kinds-start t c = omega (arith, (value_there _ _ c.requires).1)

pub default_kinds-overflow_sub-depth-in-9 : goal.default_kinds-overflow_sub-depth-in-9
default_kinds-overflow_sub-depth-in-9 t c = omega (arith, (value_there _ _ c.requires).0)

pub default_kinds-entries_kinds-requires : goal.default_kinds-entries_kinds-requires
default_kinds-entries_kinds-requires t c = (omega (arith, (value_there _ _ c.requires).0), rw part_to_end (map-reads _ _ c.requires c.in-9.is))

pub default_kinds-returns-in-9 : goal.default_kinds-returns-in-9
default_kinds-returns-in-9 t c = map-says _ _ c.requires c.in-9.is _ (rw part_to_end at c.entries_kinds.ensures)

pub default_kinds-returns-in-0-to-2 : goal.default_kinds-returns-in-0-to-2
default_kinds-returns-in-0-to-2 t c =
    λ v u e. sym (le-leb _ 2 (omega arith)) ∙ other-kinds _ _ c.requires (omega arith) (omega arith) (omega arith) (omega arith) (omega arith) v u e

pub default_kinds-returns-in_default : goal.default_kinds-returns-in_default
default_kinds-returns-in_default t c =
    λ v u e. sym (lt-leb _ 2 (omega arith)) ∙ other-kinds _ _ c.requires (omega arith) (omega arith) (omega arith) (omega arith) (omega arith) v u e

pub entries_kinds-read2-count-requires : goal.entries_kinds-read2-count-requires
entries_kinds-read2-count-requires t c = reads-list _ _ c.requires

pub entries_kinds-loop-init : goal.entries_kinds-loop-init
entries_kinds-loop-init t c = left-start _ (read_entry (read_value c.args.depth)) (λ es. default_entries (entries_of es)) (entries_kinds true) c.args.s.now 2 _ (reads-list _ _ c.requires) (list-many _ _ (reads-list _ _ c.requires) ∙ ap (λ k. read_many (read_entry (read_value c.args.depth)) k (drop 2 c.args.s.now)) (omega (arith, c.read2-count.ensures))) c.requires (λ l. refl)

pub entries_kinds-slice_bounds-content-count : goal.entries_kinds-slice_bounds-content-count
entries_kinds-slice_bounds-content-count t c = omega (arith, c.loop.invariant.inside)

pub entries_kinds-slice_bounds-content-start : goal.entries_kinds-slice_bounds-content-start
entries_kinds-slice_bounds-content-start t c = omega (arith, c.loop.invariant.inside)

pub entries_kinds-content-key-requires : goal.entries_kinds-content-key-requires
entries_kinds-content-key-requires t c = rw part_to_end (key_reads _ _ _ _ c.loop.ok c.loop.invariant (omega arith))

pub entries_kinds-overflow_add-n : goal.entries_kinds-overflow_add-n
entries_kinds-overflow_add-n t c = omega (arith, c.content-key.ensures.1.1)

pub entries_kinds-overflow_add-e : goal.entries_kinds-overflow_add-e
entries_kinds-overflow_add-e t c = omega (arith, simp length-drop at (rw part_to_end at c.content-key.ensures.1.0), c.loop.invariant.inside, c.well_formed)

pub entries_kinds-slice_bounds-default_kinds-count : goal.entries_kinds-slice_bounds-default_kinds-count
entries_kinds-slice_bounds-default_kinds-count t c = omega (arith, simp length-drop at (rw part_to_end at c.content-key.ensures.1.0), c.loop.invariant.inside)

pub entries_kinds-slice_bounds-default_kinds-start : goal.entries_kinds-slice_bounds-default_kinds-start
entries_kinds-slice_bounds-default_kinds-start t c = omega (arith, simp length-drop at (rw part_to_end at c.content-key.ensures.1.0), c.loop.invariant.inside)

pub entries_kinds-default_kinds-ok-requires : goal.entries_kinds-default_kinds-ok-requires
entries_kinds-default_kinds-ok-requires t c = (omega arith, rw part_to_end (entry-reads _ _ _ _ c.loop.ok c.loop.invariant (omega arith) _ (rw part_to_end at c.content-key.ensures.0)))

pub entries_kinds-slice_bounds-value_len-count : goal.entries_kinds-slice_bounds-value_len-count
entries_kinds-slice_bounds-value_len-count t c = omega (arith, simp length-drop at (rw part_to_end at c.content-key.ensures.1.0), c.loop.invariant.inside)

pub entries_kinds-slice_bounds-value_len-start : goal.entries_kinds-slice_bounds-value_len-start
entries_kinds-slice_bounds-value_len-start t c = omega (arith, simp length-drop at (rw part_to_end at c.content-key.ensures.1.0), c.loop.invariant.inside)

pub entries_kinds-value_len-requires : goal.entries_kinds-value_len-requires
entries_kinds-value_len-requires t c = rw part_to_end (entry-reads _ _ _ _ c.loop.ok c.loop.invariant (omega arith) _ (rw part_to_end at c.content-key.ensures.0))

pub entries_kinds-overflow_add-at : goal.entries_kinds-overflow_add-at
entries_kinds-overflow_add-at t c = omega (arith, simp length-drop at (spans-le _ _ _ (rw part_to_end at c.value_len.ensures)), simp length-drop at (rw part_to_end at c.content-key.ensures.1.0), c.loop.invariant.inside, c.well_formed)

pub entries_kinds-loop-preserved : goal.entries_kinds-loop-preserved
entries_kinds-loop-preserved t c = rw sub-add-eq (entries-step _ _ _ _ c.loop.ok c.loop.invariant (omega arith) _ (rw part_to_end at c.content-key.ensures.0) (rw part_to_end at c.content-key.ensures.1.0) _ _ (rw part_to_end at c.default_kinds-ok.ensures) refl _ (rw part_to_end at c.value_len.ensures))

pub entries_kinds-returns : goal.entries_kinds-returns
unfolding default_entries entries_of
entries_kinds-returns t c = λ l u e. sym (left_end _ _ _ _ _ _ _ c.loop.invariant (omega arith) l u e ∙ and-true c.loop.ok)

pub items_kinds-read2-count-requires : goal.items_kinds-read2-count-requires
items_kinds-read2-count-requires t c = reads-list _ _ c.requires

pub items_kinds-loop-init : goal.items_kinds-loop-init
items_kinds-loop-init t c = left-start _ (read_value c.args.depth) (λ vs. default_items (items_of vs)) (items_kinds true) c.args.s.now 2 _ (reads-list _ _ c.requires) (list-many _ _ (reads-list _ _ c.requires) ∙ ap (λ k. read_many (read_value c.args.depth) k (drop 2 c.args.s.now)) (omega (arith, c.read2-count.ensures))) c.requires (λ l. refl)

pub items_kinds-slice_bounds-default_kinds-count : goal.items_kinds-slice_bounds-default_kinds-count
items_kinds-slice_bounds-default_kinds-count t c = omega (arith, c.loop.invariant.inside)

pub items_kinds-slice_bounds-default_kinds-start : goal.items_kinds-slice_bounds-default_kinds-start
items_kinds-slice_bounds-default_kinds-start t c = omega (arith, c.loop.invariant.inside)

pub items_kinds-default_kinds-ok-requires : goal.items_kinds-default_kinds-ok-requires
items_kinds-default_kinds-ok-requires t c = (omega arith, rw part_to_end (left-reads _ _ _ _ _ _ _ c.loop.invariant (omega arith)))

pub items_kinds-slice_bounds-value_len-count : goal.items_kinds-slice_bounds-value_len-count
items_kinds-slice_bounds-value_len-count t c = omega (arith, c.loop.invariant.inside)

pub items_kinds-slice_bounds-value_len-start : goal.items_kinds-slice_bounds-value_len-start
items_kinds-slice_bounds-value_len-start t c = omega (arith, c.loop.invariant.inside)

pub items_kinds-value_len-at-requires : goal.items_kinds-value_len-at-requires
items_kinds-value_len-at-requires t c = rw part_to_end (left-reads _ _ _ _ _ _ _ c.loop.invariant (omega arith))

pub items_kinds-overflow_add-at : goal.items_kinds-overflow_add-at
items_kinds-overflow_add-at t c = omega (arith, spans-le _ _ _ (rw part_to_end at c.value_len-at.ensures), length-drop c.loop.at c.args.s.now, c.well_formed, c.loop.invariant.inside)

pub items_kinds-loop-preserved : goal.items_kinds-loop-preserved
items_kinds-loop-preserved t c = rw sub-add-eq (items-step _ _ _ _ c.loop.ok c.loop.invariant (omega arith) _ _ (rw part_to_end at c.default_kinds-ok.ensures) refl _ (rw part_to_end at c.value_len-at.ensures))

pub items_kinds-returns : goal.items_kinds-returns
unfolding default_items items_of
items_kinds-returns t c = λ l u e. sym (left_end _ _ _ _ _ _ _ c.loop.invariant (omega arith) l u e ∙ and-true c.loop.ok)
