-- `schema::names::names_differ` meets its contract. Assumes nothing.
use Rattle.frame.proofs.Counting.{reads-list}
use Rattle.schema.proofs.names.names_differ.Goals as goal

pub read2-requires : goal.read2-requires
read2-requires c = reads-list _ _ c.requires
