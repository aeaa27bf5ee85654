-- What the loops of this cycle of calls keep, and why loops and calls end.
use Prim.Native.Nat.{◌+◌, ◌-◌, ◌*◌}
use Rattle.frame.specs.Readers.{read_list}
use Rattle.frame.specs.SchemaFrame.{read_field, read_schema}
use Rattle.frame.proofs.Counting.{Going}
use Rattle.schema.specs.Parts.{each_sound, no_unions}
use Rattle.schema.proofs.check.+checking.Given as goal

abbrev pub decreases-content_check : goal.decreases-content_check
decreases-content_check l = 8 * l.depth + 7

abbrev pub decreases-field_check : goal.decreases-field_check
decreases-field_check l = 8 * l.depth + 3

abbrev pub decreases-fields_check : goal.decreases-fields_check
decreases-fields_check l = 8 * l.depth + 4

abbrev pub invariant-fields_check-loop : goal.invariant-fields_check-loop
invariant-fields_check-loop l = Going (read_list (read_field (read_schema l.depth)) l.s) (read_field (read_schema l.depth)) each_sound l.s l.at (l.count - l.counter) l.sound each_sound

abbrev pub decreases-record_check : goal.decreases-record_check
decreases-record_check l = 8 * l.depth + 5

abbrev pub decreases-schema_check : goal.decreases-schema_check
decreases-schema_check l = 8 * l.depth + 0

abbrev pub decreases-union_check : goal.decreases-union_check
decreases-union_check l = 8 * l.depth + 5

abbrev pub decreases-variants_check : goal.decreases-variants_check
decreases-variants_check l = 8 * l.depth + 3

abbrev pub invariant-variants_check-loop : goal.invariant-variants_check-loop
invariant-variants_check-loop l = Going (read_list (read_schema l.depth) l.s) (read_schema l.depth) no_unions l.s l.at (l.count - l.counter) l.sound no_unions
