-- What the loops of this cycle of calls keep, and why loops and calls end.
use Prim.Native.Nat.{◌+◌, ◌-◌, ◌*◌}
use mathlib.Core.Path.{◌≡◌}
use lib.ListN.{length, drop}
use Rattle.frame.specs.ValueFrame.{read_value, read_entry}
use Rattle.frame.specs.SchemaFrame.{read_schema}
use Rattle.types.specs.Contract.{on_both}
use Rattle.walk.specs.Contract.{node_bytes, entry_bytes}
use Rattle.leaf.specs.Leaf.{peeled_bytes}
use Rattle.walk.proofs.Pieces.{on_first, Loop}
use Rattle.walk.proofs.FieldLoop.{FieldLoop}
use Rattle.number.specs.Number.{number_at}
use Rattle.turns.specs.Turns.{turns_left}
use Rattle.walk.specs.UnionContract.{Turning}
use Rattle.walk.proofs.+walking.Given as goal

abbrev pub decreases-default : goal.decreases-default
decreases-default l = 8 * l.w.schema + 5

abbrev pub decreases-either : goal.decreases-either
decreases-either l = 8 * l.w.schema + 1

abbrev pub decreases-entry : goal.decreases-entry
decreases-entry l = 8 * l.w.schema + 5

abbrev pub decreases-fields : goal.decreases-fields
decreases-fields l = 8 * l.w.schema + 1

abbrev pub invariant-fields-loop-i : goal.invariant-fields-loop-i
invariant-fields-loop-i l = FieldLoop l.s l.v l.w.schema l.w.value (length l.initial.out) l.out (l.count - l.i) l.at l.from

abbrev pub decreases-indexed : goal.decreases-indexed
decreases-indexed l = 8 * l.w.schema + 5

abbrev pub decreases-keyed : goal.decreases-keyed
decreases-keyed l = 8 * l.w.schema + 2

abbrev pub decreases-one_field : goal.decreases-one_field
decreases-one_field l = 8 * l.w.schema + 6

abbrev pub decreases-resolve_array : goal.decreases-resolve_array
decreases-resolve_array l = 8 * l.w.schema + 3

abbrev pub invariant-resolve_array-loop : goal.invariant-resolve_array-loop
invariant-resolve_array-loop l = Loop (read_value (l.w.value - 1)) (on_both peeled_bytes (read_schema l.w.schema l.s) (read_value l.w.value l.v)) (on_first node_bytes (read_schema (l.w.schema - 1) (drop 1 l.s))) l.v (length l.initial.out) l.out (l.end - l.counter) l.at l.from

abbrev pub decreases-resolve_map : goal.decreases-resolve_map
decreases-resolve_map l = 8 * l.w.schema + 3

abbrev pub invariant-resolve_map-loop : goal.invariant-resolve_map-loop
invariant-resolve_map-loop l = Loop (read_entry (read_value (l.w.value - 1))) (on_both peeled_bytes (read_schema l.w.schema l.s) (read_value l.w.value l.v)) (on_first entry_bytes (read_schema (l.w.schema - 1) (drop 1 l.s))) l.v (length l.initial.out) l.out (l.end - l.counter) l.at l.from

abbrev pub decreases-resolve_node : goal.decreases-resolve_node
decreases-resolve_node l = 8 * l.w.schema + 4

abbrev pub decreases-resolve_record : goal.decreases-resolve_record
decreases-resolve_record l = 8 * l.w.schema + 3

abbrev pub decreases-resolve_union : goal.decreases-resolve_union
decreases-resolve_union l = 8 * l.w.schema + 3

abbrev pub invariant-resolve_union-loop-answer : goal.invariant-resolve_union-loop-answer
invariant-resolve_union-loop-answer l = (length l.out ≡ length l.initial.out) × Turning l.w l.s l.v l.way l.turn l.spot.position l.spot.at

abbrev pub decreases-resolve_union-loop-answer : goal.decreases-resolve_union-loop-answer
decreases-resolve_union-loop-answer l = turns_left (number_at l.s 1 2) l.way l.turn

abbrev pub decreases-take_turn : goal.decreases-take_turn
decreases-take_turn l = 8 * l.w.schema + 2
