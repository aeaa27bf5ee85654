-- What the loops of this cycle of calls keep, and why loops and calls end.
use Prim.Native.Nat.{◌+◌, ◌-◌, ◌*◌}
use Rattle.frame.specs.Readers.{read_list}
use Rattle.frame.specs.ValueFrame.{items_of, entries_of, read_entry, read_value}
use Rattle.frame.specs.Sound.{default_items, default_entries}
use Rattle.frame.proofs.Counting.{Left}
use Rattle.schema_default.proofs.Defaults.{items_kinds, entries_kinds}
use Rattle.schema_default.proofs.default.+kinds.Given as goal

abbrev pub decreases-default_kinds : goal.decreases-default_kinds
decreases-default_kinds l = 4 * l.depth

abbrev pub decreases-entries_kinds : goal.decreases-entries_kinds
decreases-entries_kinds l = 4 * l.depth + 1

abbrev pub invariant-entries_kinds-loop : goal.invariant-entries_kinds-loop
invariant-entries_kinds-loop l = Left (read_list (read_entry (read_value l.depth)) l.s) (read_entry (read_value l.depth)) (λ es. default_entries (entries_of es)) (entries_kinds l.ok) l.s l.at (l.count - l.counter)

abbrev pub decreases-items_kinds : goal.decreases-items_kinds
decreases-items_kinds l = 4 * l.depth + 1

abbrev pub invariant-items_kinds-loop : goal.invariant-items_kinds-loop
invariant-items_kinds-loop l = Left (read_list (read_value l.depth) l.s) (read_value l.depth) (λ vs. default_items (items_of vs)) (items_kinds l.ok) l.s l.at (l.count - l.counter)
