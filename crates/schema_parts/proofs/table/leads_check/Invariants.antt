-- What the loops of `schema_parts::table::leads_check` keep.
use Prim.Native.Nat.{◌-◌}
use Rattle.frame.specs.Readers.{read_list}
use Rattle.frame.specs.SchemaFrame.{read_lead}
use Rattle.frame.specs.Sound.{kinds_sound}
use Rattle.frame.proofs.Counting.{Going}
use Rattle.schema_parts.proofs.table.leads_check.Given as goal

abbrev pub invariant-loop : goal.invariant-loop
invariant-loop l = Going (read_list read_lead l.s) read_lead (kinds_sound l.count 0) l.s l.at (l.entries - l.counter) l.sound (kinds_sound l.count l.least)
