-- `schema::plain::positions_skip` meets its contract. Assumes nothing.
use Rattle.schema.proofs.Skipping.{positions-spans}
use Rattle.frame.proofs.Counting.{reads-list}
use Rattle.schema.proofs.plain.positions_skip.Goals as goal

pub read2-requires : goal.read2-requires
read2-requires c = reads-list _ _ c.requires

pub returns : goal.returns
returns c = positions-spans _ _ c.requires c.read2.ensures
