-- `value::value_check` and the functions that it calls in a cycle meet their contracts. The depth falls from a node to its content;
-- within a depth, from the content over its entries to a node. Assumes nothing.
use native.Mathlib.Omega.{arith}
use native.Mathlib.Nat.{sub-add-eq}
use Prim.Native.Nat.{ℕ, ◌≤◌}
use mathlib.Core.Path.{◌≡◌, refl, sym, ◌∙◌}
use lib.ListN.{length-drop}
use Rattle.frame.specs.ValueFrame.{read_entry, read_content, read_value}
use Rattle.frame.specs.Readers.{read_list}
use Rattle.frame.specs.Sound.{keys_rise}
use Rattle.value_parts.specs.declared.Shape.TheVariants as S
use Rattle.frame.proofs.Measuring.{measured-le, checks-none, checks-broken, checks-le, checks-eq, checks-drop, checks-first-broken}
use Rattle.frame.proofs.Counting.{list-short, going-map, going_next, going-none, going_end}
use Rattle.frame.proofs.ValueNodes.{value-bottom, value-empty, value-node}
use Rattle.value.proofs.NodeLaws.{Answers, content-by, union-short, union-some, union-broken, array_of, array-next, array-none, record_of, record-next, record-none, entry_sound, entry-nameless, entry-some, entry-broken}
use Rattle.value.proofs.MapLaws.{rest-none, mapping-start, key-inside, mapping-step}
use borrow.Author.Rules.{part_to_end}
use borrow.Author.Tests.{eqb-true, eqb-false}
use Rattle.value.proofs.+checking.Goals as goal
use Rattle.value.proofs.+checking.Goals.{value_check-then-depth-eq0-via-then-depth-eq0, value_check-then-depth-eq0-via-else-depth-eq0+then-is_empty}

-- a part that is not empty
filled : (n : ℕ) → (n ≡ 0 → ⊥) → 1 ≤ n
filled n h = omega arith

pub content_check-returns-in-Fixed : goal.content_check-returns-in-Fixed
unfolding Answers
content_check-returns-in-Fixed t c = content-by (read_value c.args.depth) c.args.k c.args.s.now (S.Fixed c.in-Fixed.n) _ (sym c.shape_of.ensures ∙ c.in-Fixed.is) (c.bytes_len.result, (c.bytes_len.ensures, c.keyless_len.ensures))

pub content_check-returns-in-Flag : goal.content_check-returns-in-Flag
unfolding Answers
content_check-returns-in-Flag t c = content-by (read_value c.args.depth) c.args.k c.args.s.now S.Flag _ (sym c.shape_of.ensures ∙ c.in-Flag.is) (c.flag_len.result, (c.flag_len.ensures, c.keyless_len-in-Flag.ensures))

pub content_check-returns-in-Counted : goal.content_check-returns-in-Counted
unfolding Answers
content_check-returns-in-Counted t c = content-by (read_value c.args.depth) c.args.k c.args.s.now S.Counted _ (sym c.shape_of.ensures ∙ c.in-Counted.is) (c.counted_len.result, (c.counted_len.ensures, c.keyless_len-in-Counted.ensures))

pub content_check-returns-in-Text : goal.content_check-returns-in-Text
unfolding Answers
content_check-returns-in-Text t c = content-by (read_value c.args.depth) c.args.k c.args.s.now S.Text _ (sym c.shape_of.ensures ∙ c.in-Text.is) (c.text_len.result, (c.text_len.ensures, c.keyless_len-in-Text.ensures))

pub content_check-returns-in-Array : goal.content_check-returns-in-Array
unfolding Answers read_content
content_check-returns-in-Array t c = content-by (read_value c.args.depth) c.args.k c.args.s.now S.Array _ (sym c.shape_of.ensures ∙ c.in-Array.is) c.items_check.ensures

pub content_check-returns-in-Map : goal.content_check-returns-in-Map
unfolding Answers read_content
content_check-returns-in-Map t c = content-by (read_value c.args.depth) c.args.k c.args.s.now S.Map _ (sym c.shape_of.ensures ∙ c.in-Map.is) c.map_check.ensures

pub content_check-returns-in-Union : goal.content_check-returns-in-Union
unfolding Answers read_content
content_check-returns-in-Union t c = content-by (read_value c.args.depth) c.args.k c.args.s.now S.Union _ (sym c.shape_of.ensures ∙ c.in-Union.is) c.union_check.ensures

pub content_check-returns-in-Entries : goal.content_check-returns-in-Entries
unfolding Answers read_content
content_check-returns-in-Entries t c = content-by (read_value c.args.depth) c.args.k c.args.s.now S.Entries _ (sym c.shape_of.ensures ∙ c.in-Entries.is) c.entries_check.ensures

pub content_check-returns-in-Symbol : goal.content_check-returns-in-Symbol
unfolding Answers read_content
content_check-returns-in-Symbol t c = content-by (read_value c.args.depth) c.args.k c.args.s.now S.Symbol _ (sym c.shape_of.ensures ∙ c.in-Symbol.is) c.symbol_check.ensures

pub content_check-returns-in-Unknown : goal.content_check-returns-in-Unknown
unfolding Answers
content_check-returns-in-Unknown t c = content-by (read_value c.args.depth) c.args.k c.args.s.now S.Unknown _ (sym c.shape_of.ensures ∙ c.in-Unknown.is) refl

pub entries_check-returns-then-s-lt2 : goal.entries_check-returns-then-s-lt2
unfolding read_content
entries_check-returns-then-s-lt2 t c = checks-first-broken keys_rise (read_list (read_entry (read_value c.args.depth)) c.args.s.now) _ c.args.s.now (list-short _ _ c.if-s-lt2.true)

pub entries_check-loop-init : goal.entries_check-loop-init
entries_check-loop-init t c = going-map (read_entry (read_value c.args.depth)) c.args.s.now record_of keys_rise _ c.if-s-lt2.false (omega (arith, c.read2-count.ensures))

pub entries_check-returns-in_err-entry : goal.entries_check-returns-in_err-entry
unfolding read_content
entries_check-returns-in_err-entry t c = rw c.from_residual.ensures (checks-none keys_rise _ _ (going-none _ (read_entry (read_value c.args.depth)) keys_rise c.args.s.now _ _ _ _ c.loop.invariant (omega arith) (checks-broken entry_sound _ _ (rw part_to_end at c.in_err-entry.ensures))))

pub entries_check-overflow_add-at : goal.entries_check-overflow_add-at
entries_check-overflow_add-at t c =
    let h = checks-le entry_sound _ _ _ _ (rw part_to_end at c.in_ok-entry.ensures) in
    omega (arith, length-drop c.loop.at c.args.s.now)

pub entries_check-loop-preserved : goal.entries_check-loop-preserved
entries_check-loop-preserved t c = rw sub-add-eq (going_next _ (read_entry (read_value c.args.depth)) keys_rise c.args.s.now _ _ _ (λ xs. keys_rise (record_of xs)) c.loop.invariant entry_sound record-next (omega arith) _ _ _ (rw part_to_end at c.in_ok-entry.ensures) refl)

pub entries_check-returns : goal.entries_check-returns
unfolding read_content
entries_check-returns t c = going_end _ (read_entry (read_value c.args.depth)) keys_rise c.args.s.now _ _ _ _ c.loop.invariant (omega arith) record-none

pub entry_check-returns-in_err-k : goal.entry_check-returns-in_err-k
entry_check-returns-in_err-k t c = rw c.from_residual.ensures (entry-nameless (read_value c.args.depth) c.args.s.now c.in_err-k.ensures)

pub entry_check-slice_bounds-value_check-count : goal.entry_check-slice_bounds-value_check-count
entry_check-slice_bounds-value_check-count t c = measured-le _ _ _ c.in_ok-k.ensures

pub entry_check-slice_bounds-value_check-start : goal.entry_check-slice_bounds-value_check-start
entry_check-slice_bounds-value_check-start t c = measured-le _ _ _ c.in_ok-k.ensures

pub entry_check-returns-in_err-node : goal.entry_check-returns-in_err-node
entry_check-returns-in_err-node t c = rw c.from_residual-in_err-node.ensures (entry-broken (read_value c.args.depth) c.args.s.now _ c.in_ok-k.ensures (rw part_to_end at c.in_err-node.ensures))

pub entry_check-overflow_add-result : goal.entry_check-overflow_add-result
entry_check-overflow_add-result t c =
    let k = measured-le _ _ _ c.in_ok-k.ensures in
    let h = checks-le keys_rise _ _ _ _ (rw part_to_end at c.in_ok-node.ensures) in
    omega (arith, length-drop c.in_ok-k.k c.args.s.now)

pub entry_check-returns : goal.entry_check-returns
entry_check-returns t c = entry-some (read_value c.args.depth) c.args.s.now _ _ _ c.in_ok-k.ensures (rw part_to_end at c.in_ok-node.ensures)

pub items_check-returns-then-s-lt2 : goal.items_check-returns-then-s-lt2
unfolding read_content
items_check-returns-then-s-lt2 t c = checks-first-broken keys_rise (read_list (read_value c.args.depth) c.args.s.now) _ c.args.s.now (list-short _ _ c.if-s-lt2.true)

pub items_check-loop-init : goal.items_check-loop-init
items_check-loop-init t c = going-map (read_value c.args.depth) c.args.s.now array_of keys_rise _ c.if-s-lt2.false (omega (arith, c.read2-count.ensures))

pub items_check-returns-in_err-node : goal.items_check-returns-in_err-node
unfolding read_content
items_check-returns-in_err-node t c = rw c.from_residual.ensures (checks-none keys_rise _ _ (going-none _ (read_value c.args.depth) keys_rise c.args.s.now _ _ _ _ c.loop.invariant (omega arith) (checks-broken keys_rise _ _ (rw part_to_end at c.in_err-node.ensures))))

pub items_check-overflow_add-at : goal.items_check-overflow_add-at
items_check-overflow_add-at t c =
    let h = checks-le keys_rise _ _ _ _ (rw part_to_end at c.in_ok-node.ensures) in
    omega (arith, length-drop c.loop.at c.args.s.now)

pub items_check-loop-preserved : goal.items_check-loop-preserved
items_check-loop-preserved t c = rw sub-add-eq (going_next _ (read_value c.args.depth) keys_rise c.args.s.now _ _ _ (λ xs. keys_rise (array_of xs)) c.loop.invariant keys_rise array-next (omega arith) _ _ _ (rw part_to_end at c.in_ok-node.ensures) refl)

pub items_check-returns : goal.items_check-returns
unfolding read_content
items_check-returns t c = going_end _ (read_value c.args.depth) keys_rise c.args.s.now _ _ _ _ c.loop.invariant (omega arith) array-none

pub map_check-returns-then-s-lt2 : goal.map_check-returns-then-s-lt2
unfolding read_content
map_check-returns-then-s-lt2 t c = checks-first-broken keys_rise (read_list (read_entry (read_value c.args.depth)) c.args.s.now) _ _ (list-short _ _ c.if-s-lt2.true)

pub map_check-loop-init : goal.map_check-loop-init
map_check-loop-init t c = (mapping-start (read_value c.args.depth) 9 c.args.s.now _ c.if-s-lt2.false (omega (arith, c.read2-count.ensures)), tt)

pub map_check-returns-in_err-entry : goal.map_check-returns-in_err-entry
map_check-returns-in_err-entry t c = rw c.from_residual.ensures (checks-none keys_rise _ _ (going-none _ (read_entry (read_value c.args.depth)) keys_rise c.args.s.now _ _ _ _ c.loop.invariant.0 (omega arith) (checks-broken entry_sound _ _ (rw part_to_end at c.in_err-entry.ensures))))

pub map_check-key_rises-rises-requires : goal.map_check-key_rises-rises-requires
map_check-key_rises-rises-requires t c = (c.loop.invariant.1, key-inside (read_value c.args.depth) 9 c.args.s.now c.loop.at _ _ c.loop.invariant.0.inside (rw part_to_end at c.in_ok-entry.ensures))

pub map_check-overflow_add-at : goal.map_check-overflow_add-at
map_check-overflow_add-at t c =
    let h = checks-le entry_sound _ _ _ _ (rw part_to_end at c.in_ok-entry.ensures) in
    omega (arith, length-drop c.loop.at c.args.s.now, c.loop.invariant.0.inside)

pub map_check-loop-preserved : goal.map_check-loop-preserved
map_check-loop-preserved t c =
    let l = c.loop in
    let a = c.args in
    let w = rw part_to_end at c.in_ok-entry.ensures in (
      rw sub-add-eq (mapping-step (read_value a.depth) 9 a.s.now l.last _ l.at l.sound l.invariant.0 (omega arith) _ _ w
          _ c.key_rises-rises.ensures _ refl),
      key-inside (read_value a.depth) 9 a.s.now l.at _ _ l.invariant.0.inside w,
    )

pub map_check-returns : goal.map_check-returns
map_check-returns t c = going_end _ (read_entry (read_value c.args.depth)) keys_rise c.args.s.now _ _ _ _ c.loop.invariant.0 (omega arith) (rest-none _)

pub union_check-returns-then-s-lt4 : goal.union_check-returns-then-s-lt4
union_check-returns-then-s-lt4 t c = union-short (read_value c.args.depth) 10 c.args.s.now c.if-s-lt4.true

pub union_check-returns-in_err-node : goal.union_check-returns-in_err-node
union_check-returns-in_err-node t c = rw c.from_residual.ensures (union-broken (read_value c.args.depth) 10 c.args.s.now c.if-s-lt4.false (rw part_to_end at c.in_err-node.ensures))

pub union_check-overflow_add-result : goal.union_check-overflow_add-result
union_check-overflow_add-result t c =
    let h = checks-le keys_rise _ _ _ _ (rw part_to_end at c.in_ok-node.ensures) in
    omega (arith, length-drop 4 c.args.s.now)

pub union_check-returns : goal.union_check-returns
union_check-returns t c = union-some (read_value c.args.depth) 10 c.args.s.now _ _ c.if-s-lt4.false (rw part_to_end at c.in_ok-node.ensures)

pub value_check-returns-then-depth-eq0 : goal.value_check-returns-then-depth-eq0
value_check-returns-then-depth-eq0 t c =
    elim c.then-depth-eq0.branch [
      | value_check-then-depth-eq0-via-then-depth-eq0 w ↦ checks-none keys_rise _ _ (value-bottom _ _ w.if-depth-eq0.true)
      | value_check-then-depth-eq0-via-else-depth-eq0+then-is_empty w ↦ checks-none keys_rise _ _ (value-empty _ _ (rw (eqb-true _ _ (sym w.if-is_empty.ensures)) (omega arith)))
    ]

pub value_check-returns-in_err-content : goal.value_check-returns-in_err-content
value_check-returns-in_err-content t c = rw c.from_residual.ensures (checks-none keys_rise _ _ (value-node c.args.depth c.args.s.now c.if-depth-eq0.false (filled _ (eqb-false _ _ (sym c.if-is_empty.ensures))) ∙ checks-broken keys_rise _ _ (rw part_to_end at c.in_err-content.ensures)))

pub value_check-overflow_add-result : goal.value_check-overflow_add-result
value_check-overflow_add-result t c =
    let h = checks-le keys_rise _ _ _ _ (rw part_to_end at c.in_ok-content.ensures) in
    omega (arith, length-drop 1 c.args.s.now)

pub value_check-returns : goal.value_check-returns
value_check-returns t c = checks-eq keys_rise _ _ c.args.s.now _ (value-node c.args.depth c.args.s.now c.if-depth-eq0.false (filled _ (eqb-false _ _ (sym c.if-is_empty.ensures)))) (checks-drop keys_rise _ c.args.s.now 1 _ _ (filled _ (eqb-false _ _ (sym c.if-is_empty.ensures))) (rw part_to_end at c.in_ok-content.ensures))
