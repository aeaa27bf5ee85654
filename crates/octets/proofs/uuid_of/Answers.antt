-- `octets::uuid_of` meets its contract.
use borrow.Author.Tests.{eq-eqb, ne_eqb}
use Rattle.types.specs.Types.{uuid_of_bytes}
use Rattle.types.proofs.Contents.{uuid-content}
use Rattle.types.proofs.PartLaws.{wrote-plain}
use Rattle.types.proofs.OctetLaws.{wrote_then, wrote-else, refused-with}
use Rattle.octets.proofs.uuid_of.Goals as goal

pub returns-then-t-eq16 : goal.returns-then-t-eq16
unfolding uuid_of_bytes
returns-then-t-eq16 c = wrote_then _ _ _ _ _ (eq-eqb _ _ c.if-t-eq16.true) (wrote-plain 15 16 _ _ _ uuid-content c.put_plain.ensures)

pub returns-else-t-eq16 : goal.returns-else-t-eq16
unfolding uuid_of_bytes
returns-else-t-eq16 c = wrote-else _ _ _ _ _ (ne_eqb _ _ c.if-t-eq16.false) (refused-with _ _)
