-- What the loops of this cycle of calls keep, and why loops and calls end.
use Prim.Native.Nat.{◌+◌, ◌-◌, ◌*◌}
use Rattle.frame.specs.ValueFrame.{read_entry, read_value}
use Rattle.frame.proofs.Counting.{Walking}
use Rattle.value.proofs.+measuring.Given as goal

abbrev pub decreases-content_len : goal.decreases-content_len
decreases-content_len l = 4 * l.depth + 3

abbrev pub decreases-entries_len : goal.decreases-entries_len
decreases-entries_len l = 4 * l.depth + 2

abbrev pub invariant-entries_len-loop : goal.invariant-entries_len-loop
invariant-entries_len-loop l = Walking (read_entry (read_value l.depth)) l.s l.at (l.count - l.counter)

abbrev pub decreases-entry_len : goal.decreases-entry_len
decreases-entry_len l = 4 * l.depth + 1

abbrev pub decreases-items_len : goal.decreases-items_len
decreases-items_len l = 4 * l.depth + 2

abbrev pub invariant-items_len-loop : goal.invariant-items_len-loop
invariant-items_len-loop l = Walking (read_value l.depth) l.s l.at (l.count - l.counter)

abbrev pub decreases-value_len : goal.decreases-value_len
decreases-value_len l = 4 * l.depth
