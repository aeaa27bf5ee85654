-- `value::value_len` and the functions that it calls in a cycle meet their contracts. The depth falls from a node to its content;
-- within a depth, from the content over its entries to a node. Assumes nothing.
use native.Mathlib.Omega.{arith}
use native.Mathlib.Nat.{sub-add-eq}
use Prim.Native.Nat.{◌≤◌}
use mathlib.Core.Path.{refl, sym, ◌∙◌}
use lib.ListN.{length, drop, length-drop}
use Rattle.frame.specs.ValueFrame.{read_entry, read_value}
use Rattle.frame.proofs.Measuring.{spans-le}
use Rattle.frame.proofs.Counting.{reads-list, walking_start, walking-first, walking-step, walking-end}
use Rattle.frame.proofs.ValueNodes.{value_there}
use Rattle.text.proofs.ReadLaws.{reads-text}
use Rattle.value_parts.specs.declared.Shape.TheVariants as S
use Rattle.value.proofs.SkipLaws.{Known, Skips, content-known, content-spans, entry-counted, entry-node, entry-spans, known-content, value-spans}
use borrow.Author.Rules.{part_to_end}
use Rattle.value.proofs.+measuring.Goals as goal

pub content_len-counted_skip-requires : goal.content_len-counted_skip-requires
unfolding Known
content_len-counted_skip-requires t c = content-known (read_value c.args.depth) c.args.k c.args.s.now S.Counted (sym c.shape_of.ensures ∙ c.in-Counted.is) c.requires

pub content_len-counted_skip-requires-in-Text : goal.content_len-counted_skip-requires-in-Text
unfolding Known
content_len-counted_skip-requires-in-Text t c = reads-text c.args.s.now (content-known (read_value c.args.depth) c.args.k c.args.s.now S.Text (sym c.shape_of.ensures ∙ c.in-Text.is) c.requires)

pub content_len-items_len-requires : goal.content_len-items_len-requires
unfolding Known
content_len-items_len-requires t c = (omega arith, content-known (read_value c.args.depth) c.args.k c.args.s.now S.Array (sym c.shape_of.ensures ∙ c.in-Array.is) c.requires)

pub content_len-entries_len-requires : goal.content_len-entries_len-requires
unfolding Known
content_len-entries_len-requires t c = (omega arith, content-known (read_value c.args.depth) c.args.k c.args.s.now S.Map (sym c.shape_of.ensures ∙ c.in-Map.is) c.requires)

pub content_len-slice_bounds-value_len-count : goal.content_len-slice_bounds-value_len-count
unfolding Known
content_len-slice_bounds-value_len-count t c = (content-known (read_value c.args.depth) c.args.k c.args.s.now S.Union (sym c.shape_of.ensures ∙ c.in-Union.is) c.requires).0

pub content_len-slice_bounds-value_len-start : goal.content_len-slice_bounds-value_len-start
unfolding Known
content_len-slice_bounds-value_len-start t c = (content-known (read_value c.args.depth) c.args.k c.args.s.now S.Union (sym c.shape_of.ensures ∙ c.in-Union.is) c.requires).0

pub content_len-value_len-requires : goal.content_len-value_len-requires
unfolding Known
content_len-value_len-requires t c = (omega arith, rw part_to_end (content-known (read_value c.args.depth) c.args.k c.args.s.now S.Union (sym c.shape_of.ensures ∙ c.in-Union.is) c.requires).1)

pub content_len-overflow_add-result : goal.content_len-overflow_add-result
unfolding Known
content_len-overflow_add-result t c =
    let l : 4 ≤ length c.args.s.now = (content-known (read_value c.args.depth) c.args.k c.args.s.now S.Union (sym c.shape_of.ensures ∙ c.in-Union.is) c.requires).0 in
    let h = spans-le _ _ _ (rw part_to_end at c.value_len.ensures) in
    omega (arith, length-drop 4 c.args.s.now)

pub content_len-entries_len-requires-in-Entries : goal.content_len-entries_len-requires-in-Entries
unfolding Known
content_len-entries_len-requires-in-Entries t c = (omega arith, content-known (read_value c.args.depth) c.args.k c.args.s.now S.Entries (sym c.shape_of.ensures ∙ c.in-Entries.is) c.requires)

pub content_len-slice_bounds-counted_skip-count : goal.content_len-slice_bounds-counted_skip-count
unfolding Known
content_len-slice_bounds-counted_skip-count t c = (content-known (read_value c.args.depth) c.args.k c.args.s.now S.Symbol (sym c.shape_of.ensures ∙ c.in-Symbol.is) c.requires).0

pub content_len-slice_bounds-counted_skip-start : goal.content_len-slice_bounds-counted_skip-start
unfolding Known
content_len-slice_bounds-counted_skip-start t c = (content-known (read_value c.args.depth) c.args.k c.args.s.now S.Symbol (sym c.shape_of.ensures ∙ c.in-Symbol.is) c.requires).0

pub content_len-counted_skip-requires-in-Symbol : goal.content_len-counted_skip-requires-in-Symbol
unfolding Known
content_len-counted_skip-requires-in-Symbol t c = rw part_to_end (reads-text (drop 4 c.args.s.now) (content-known (read_value c.args.depth) c.args.k c.args.s.now S.Symbol (sym c.shape_of.ensures ∙ c.in-Symbol.is) c.requires).1)

pub content_len-overflow_add-result-in-Symbol : goal.content_len-overflow_add-result-in-Symbol
unfolding Known
content_len-overflow_add-result-in-Symbol t c =
    let l : 4 ≤ length c.args.s.now = (content-known (read_value c.args.depth) c.args.k c.args.s.now S.Symbol (sym c.shape_of.ensures ∙ c.in-Symbol.is) c.requires).0 in
    let h = spans-le _ _ _ (rw part_to_end at c.counted_skip-in-Symbol.ensures) in
    omega (arith, length-drop 4 c.args.s.now)

pub content_len-returns-in-Fixed : goal.content_len-returns-in-Fixed
unfolding Skips
content_len-returns-in-Fixed t c = content-spans (read_value c.args.depth) c.args.k c.args.s.now (S.Fixed c.in-Fixed.n) (sym c.shape_of.ensures ∙ c.in-Fixed.is) c.requires _ refl

pub content_len-returns-in-Flag : goal.content_len-returns-in-Flag
unfolding Skips
content_len-returns-in-Flag t c = content-spans (read_value c.args.depth) c.args.k c.args.s.now S.Flag (sym c.shape_of.ensures ∙ c.in-Flag.is) c.requires _ refl

pub content_len-returns-in-Counted : goal.content_len-returns-in-Counted
unfolding Skips
content_len-returns-in-Counted t c = content-spans (read_value c.args.depth) c.args.k c.args.s.now S.Counted (sym c.shape_of.ensures ∙ c.in-Counted.is) c.requires _ c.counted_skip.ensures

pub content_len-returns-in-Text : goal.content_len-returns-in-Text
unfolding Skips
content_len-returns-in-Text t c = content-spans (read_value c.args.depth) c.args.k c.args.s.now S.Text (sym c.shape_of.ensures ∙ c.in-Text.is) c.requires _ c.counted_skip-in-Text.ensures

pub content_len-returns-in-Array : goal.content_len-returns-in-Array
unfolding Skips
content_len-returns-in-Array t c = content-spans (read_value c.args.depth) c.args.k c.args.s.now S.Array (sym c.shape_of.ensures ∙ c.in-Array.is) c.requires _ c.items_len.ensures

pub content_len-returns-in-Map : goal.content_len-returns-in-Map
unfolding Skips
content_len-returns-in-Map t c = content-spans (read_value c.args.depth) c.args.k c.args.s.now S.Map (sym c.shape_of.ensures ∙ c.in-Map.is) c.requires _ c.entries_len.ensures

pub content_len-returns-in-Union : goal.content_len-returns-in-Union
unfolding Skips
content_len-returns-in-Union t c = content-spans (read_value c.args.depth) c.args.k c.args.s.now S.Union (sym c.shape_of.ensures ∙ c.in-Union.is) c.requires _ (c.value_len.result, (refl, rw part_to_end at c.value_len.ensures))

pub content_len-returns-in-Entries : goal.content_len-returns-in-Entries
unfolding Skips
content_len-returns-in-Entries t c = content-spans (read_value c.args.depth) c.args.k c.args.s.now S.Entries (sym c.shape_of.ensures ∙ c.in-Entries.is) c.requires _ c.entries_len-in-Entries.ensures

pub content_len-returns-in-Symbol : goal.content_len-returns-in-Symbol
unfolding Skips
content_len-returns-in-Symbol t c = content-spans (read_value c.args.depth) c.args.k c.args.s.now S.Symbol (sym c.shape_of.ensures ∙ c.in-Symbol.is) c.requires _ (c.counted_skip-in-Symbol.result, (refl, rw part_to_end at c.counted_skip-in-Symbol.ensures))

pub content_len-returns-in-Unknown : goal.content_len-returns-in-Unknown
unfolding Known
content_len-returns-in-Unknown t c = absurd (content-known (read_value c.args.depth) c.args.k c.args.s.now S.Unknown (sym c.shape_of.ensures ∙ c.in-Unknown.is) c.requires)

pub entries_len-read2-count-requires : goal.entries_len-read2-count-requires
entries_len-read2-count-requires t c = reads-list (read_entry (read_value c.args.depth)) c.args.s.now c.requires

pub entries_len-loop-init : goal.entries_len-loop-init
entries_len-loop-init t c = walking_start (read_entry (read_value c.args.depth)) c.args.s.now _ c.requires (omega (arith, c.read2-count.ensures))

pub entries_len-entry_len-at-requires : goal.entries_len-entry_len-at-requires
entries_len-entry_len-at-requires t c = (omega arith, rw part_to_end (walking-first (read_entry (read_value c.args.depth)) c.args.s.now _ _ c.loop.invariant c.requires (omega arith)))

pub entries_len-overflow_add-at : goal.entries_len-overflow_add-at
entries_len-overflow_add-at t c =
    let h = spans-le _ _ _ (rw part_to_end at c.entry_len-at.ensures) in
    omega (arith, length-drop c.loop.at c.args.s.now)

pub entries_len-loop-preserved : goal.entries_len-loop-preserved
entries_len-loop-preserved t c = rw sub-add-eq (walking-step (read_entry (read_value c.args.depth)) c.args.s.now _ _ c.loop.invariant _ (omega arith) (rw part_to_end at c.entry_len-at.ensures))

pub entries_len-returns : goal.entries_len-returns
entries_len-returns t c = walking-end (read_entry (read_value c.args.depth)) c.args.s.now _ _ c.loop.invariant (omega arith)

pub entry_len-counted_skip-k-requires : goal.entry_len-counted_skip-k-requires
entry_len-counted_skip-k-requires t c = entry-counted (read_value c.args.depth) c.args.s.now c.requires

pub entry_len-slice_bounds-value_len-count : goal.entry_len-slice_bounds-value_len-count
entry_len-slice_bounds-value_len-count t c = spans-le _ _ _ c.counted_skip-k.ensures

pub entry_len-slice_bounds-value_len-start : goal.entry_len-slice_bounds-value_len-start
entry_len-slice_bounds-value_len-start t c = spans-le _ _ _ c.counted_skip-k.ensures

pub entry_len-value_len-requires : goal.entry_len-value_len-requires
entry_len-value_len-requires t c = (omega arith, rw part_to_end (entry-node (read_value c.args.depth) c.args.s.now c.requires _ c.counted_skip-k.ensures))

pub entry_len-overflow_add-result : goal.entry_len-overflow_add-result
entry_len-overflow_add-result t c =
    let k = spans-le _ _ _ c.counted_skip-k.ensures in
    let h = spans-le _ _ _ (rw part_to_end at c.value_len.ensures) in
    omega (arith, length-drop c.counted_skip-k.result c.args.s.now)

pub entry_len-returns : goal.entry_len-returns
entry_len-returns t c = entry-spans (read_value c.args.depth) c.args.s.now c.requires _ _ c.counted_skip-k.ensures (rw part_to_end at c.value_len.ensures)

pub items_len-read2-count-requires : goal.items_len-read2-count-requires
items_len-read2-count-requires t c = reads-list (read_value c.args.depth) c.args.s.now c.requires

pub items_len-loop-init : goal.items_len-loop-init
items_len-loop-init t c = walking_start (read_value c.args.depth) c.args.s.now _ c.requires (omega (arith, c.read2-count.ensures))

pub items_len-value_len-at-requires : goal.items_len-value_len-at-requires
items_len-value_len-at-requires t c = (omega arith, rw part_to_end (walking-first (read_value c.args.depth) c.args.s.now _ _ c.loop.invariant c.requires (omega arith)))

pub items_len-overflow_add-at : goal.items_len-overflow_add-at
items_len-overflow_add-at t c =
    let h = spans-le _ _ _ (rw part_to_end at c.value_len-at.ensures) in
    omega (arith, length-drop c.loop.at c.args.s.now)

pub items_len-loop-preserved : goal.items_len-loop-preserved
items_len-loop-preserved t c = rw sub-add-eq (walking-step (read_value c.args.depth) c.args.s.now _ _ c.loop.invariant _ (omega arith) (rw part_to_end at c.value_len-at.ensures))

pub items_len-returns : goal.items_len-returns
items_len-returns t c = walking-end (read_value c.args.depth) c.args.s.now _ _ c.loop.invariant (omega arith)

pub value_len-slice_bounds-content_len-count : goal.value_len-slice_bounds-content_len-count
value_len-slice_bounds-content_len-count t c = (value_there c.args.depth c.args.s.now c.requires).1

pub value_len-slice_bounds-content_len-start : goal.value_len-slice_bounds-content_len-start
value_len-slice_bounds-content_len-start t c = (value_there c.args.depth c.args.s.now c.requires).1

pub value_len-bounds-s-0 : goal.value_len-bounds-s-0
value_len-bounds-s-0 t c = (value_there c.args.depth c.args.s.now c.requires).1

pub value_len-overflow_sub-depth : goal.value_len-overflow_sub-depth
value_len-overflow_sub-depth t c = let z = (value_there c.args.depth c.args.s.now c.requires).0 in omega arith

pub value_len-content_len-requires : goal.value_len-content_len-requires
value_len-content_len-requires t c = let z = (value_there c.args.depth c.args.s.now c.requires).0 in (omega arith, rw part_to_end (known-content c.args.depth c.args.s.now c.requires))

pub value_len-overflow_add-result : goal.value_len-overflow_add-result
value_len-overflow_add-result t c =
    let b = (value_there c.args.depth c.args.s.now c.requires).1 in
    let h = spans-le _ _ _ (rw part_to_end at c.content_len.ensures) in
    omega (arith, length-drop 1 c.args.s.now)

pub value_len-returns : goal.value_len-returns
value_len-returns t c = value-spans c.args.depth c.args.s.now c.requires _ (rw part_to_end at c.content_len.ensures)
