-- What the loops of `schema::names::differ_by` keep.
use mathlib.Core.Path.{◌≡◌}
use lib.ListN.{length}
use Rattle.frame.specs.SchemaFrame.{read_schema}
use Rattle.schema.specs.Slot.{low_slot, high_slot}
use Rattle.schema.proofs.Looking.{Looking}
use Rattle.schema.proofs.names.differ_by.Given as goal

abbrev pub invariant-loop-done : goal.invariant-loop-done
invariant-loop-done g l = record {
  low_long : length l.low ≡ g.row.N;
  high_long : length l.high ≡ g.row.N;
  looking : Looking (read_schema l.depth) (low_slot g.row.N) (high_slot g.row.N) l.s l.low l.high l.count l.at l.done;
}
