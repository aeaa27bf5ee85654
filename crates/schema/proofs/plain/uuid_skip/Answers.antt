-- `schema::plain::uuid_skip` meets its contract. Assumes nothing.
use Rattle.schema.proofs.Skipping.{uuid_form-long, uuid_form-fixed, uuid_form-free}
use Rattle.schema.proofs.plain.uuid_skip.Goals as goal

pub bounds-s-0 : goal.bounds-s-0
bounds-s-0 c = uuid_form-long _ c.requires

pub returns-then-s-eq2 : goal.returns-then-s-eq2
returns-then-s-eq2 c = uuid_form-fixed _ c.requires c.if-s-eq2.true

pub returns-else-s-eq2 : goal.returns-else-s-eq2
returns-else-s-eq2 c = uuid_form-free _ c.requires c.if-s-eq2.false
