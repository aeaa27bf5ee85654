-- What the loops of `schema_parts::leaf::texts_measured` keep.
use Prim.Native.Nat.{◌-◌}
use Rattle.text.specs.Read.{read_text}
use Rattle.frame.proofs.Counting.{Walking}
use Rattle.schema_parts.proofs.leaf.texts_measured.Given as goal

abbrev pub invariant-loop : goal.invariant-loop
invariant-loop l = Walking read_text l.s l.at (l.count - l.counter)
