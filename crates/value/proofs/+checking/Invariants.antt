-- What the loops of this cycle of calls keep, and why loops and calls end.
use Prim.Native.Nat.{◌+◌, ◌-◌, ◌*◌, ◌≤◌}
use lib.ListN.{length}
use Rattle.std.specs.Prelude.{IfSome}
use Rattle.number.specs.Number.{number_at}
use Rattle.frame.specs.ValueFrame.{read_entry, read_value}
use Rattle.frame.specs.Readers.{read_list}
use Rattle.frame.specs.Sound.{keys_rise}
use Rattle.frame.proofs.Reading.{map_read}
use Rattle.frame.proofs.Counting.{Going}
use Rattle.value.proofs.NodeLaws.{array_of, record_of}
use Rattle.value.proofs.MapLaws.{Mapping}
use Rattle.value.proofs.+checking.Given as goal

abbrev pub decreases-content_check : goal.decreases-content_check
decreases-content_check l = 4 * l.depth + 3

abbrev pub decreases-entries_check : goal.decreases-entries_check
decreases-entries_check l = 4 * l.depth + 2

abbrev pub invariant-entries_check-loop : goal.invariant-entries_check-loop
invariant-entries_check-loop l = Going (map_read record_of (read_list (read_entry (read_value l.depth)) l.s)) (read_entry (read_value l.depth)) keys_rise l.s l.at (l.count - l.counter) l.sound (λ es. keys_rise (record_of es))

abbrev pub decreases-entry_check : goal.decreases-entry_check
decreases-entry_check l = 4 * l.depth + 1

abbrev pub decreases-items_check : goal.decreases-items_check
decreases-items_check l = 4 * l.depth + 2

abbrev pub invariant-items_check-loop : goal.invariant-items_check-loop
invariant-items_check-loop l = Going (map_read array_of (read_list (read_value l.depth) l.s)) (read_value l.depth) keys_rise l.s l.at (l.count - l.counter) l.sound (λ vs. keys_rise (array_of vs))

abbrev pub decreases-map_check : goal.decreases-map_check
decreases-map_check l = 4 * l.depth + 2

abbrev pub invariant-map_check-loop : goal.invariant-map_check-loop
invariant-map_check-loop l = Mapping (read_value l.depth) 9 l.s l.last (l.count - l.counter) l.at l.sound × IfSome l.last (λ b. b + 2 + number_at l.s b 2 ≤ length l.s)

abbrev pub decreases-union_check : goal.decreases-union_check
decreases-union_check l = 4 * l.depth + 2

abbrev pub decreases-value_check : goal.decreases-value_check
decreases-value_check l = 4 * l.depth
