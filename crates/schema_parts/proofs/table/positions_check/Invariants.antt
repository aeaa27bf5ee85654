-- What the loops of `schema_parts::table::positions_check` keep.
use Prim.Native.Nat.{◌-◌}
use Rattle.text.specs.Read.{read_number}
use Rattle.frame.specs.Readers.{read_list}
use Rattle.frame.specs.Sound.{positions_sound}
use Rattle.frame.proofs.Counting.{Going}
use Rattle.schema_parts.proofs.table.positions_check.Given as goal

abbrev pub invariant-loop : goal.invariant-loop
invariant-loop l = Going (read_list (read_number 2) l.s) (read_number 2) (positions_sound l.count) l.s l.at (l.entries - l.counter) l.sound (positions_sound l.count)
