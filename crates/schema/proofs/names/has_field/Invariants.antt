-- What the loops of `schema::names::has_field` keep.
use Prim.Native.Nat.{◌-◌}
use Rattle.frame.specs.Readers.{read_many}
use Rattle.frame.specs.SchemaFrame.{read_field, read_schema}
use Rattle.frame.proofs.Counting.{Left}
use Rattle.schema.proofs.Checking.{seeks}
use Rattle.schema.proofs.names.has_field.Given as goal

abbrev pub invariant-loop : goal.invariant-loop
invariant-loop l = Left (read_many (read_field (read_schema l.depth)) l.n l.s) (read_field (read_schema l.depth)) (seeks l.name) (seeks l.name) l.s l.at (l.n - l.counter)
