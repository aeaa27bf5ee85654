-- What the loops of this cycle of calls keep, and why loops and calls end.
use Prim.Native.Nat.{◌+◌, ◌-◌, ◌*◌}
use Rattle.frame.specs.SchemaFrame.{read_field, read_schema}
use Rattle.frame.proofs.Counting.{Walking}
use Rattle.schema.proofs.skip.+skipping.Given as goal

abbrev pub decreases-content_skip : goal.decreases-content_skip
decreases-content_skip l = 8 * l.depth + 7

abbrev pub decreases-field_len : goal.decreases-field_len
decreases-field_len l = 8 * l.depth + 3

abbrev pub decreases-fields_skip : goal.decreases-fields_skip
decreases-fields_skip l = 8 * l.depth + 5

abbrev pub invariant-fields_skip-loop : goal.invariant-fields_skip-loop
invariant-fields_skip-loop l = Walking (read_field (read_schema l.depth)) l.s l.at (l.count - l.counter)

abbrev pub decreases-schema_len : goal.decreases-schema_len
decreases-schema_len l = 8 * l.depth

abbrev pub decreases-union_skip : goal.decreases-union_skip
decreases-union_skip l = 8 * l.depth + 5

abbrev pub decreases-variants_skip : goal.decreases-variants_skip
decreases-variants_skip l = 8 * l.depth + 3

abbrev pub invariant-variants_skip-loop : goal.invariant-variants_skip-loop
invariant-variants_skip-loop l = Walking (read_schema l.depth) l.s l.at (l.count - l.counter)
