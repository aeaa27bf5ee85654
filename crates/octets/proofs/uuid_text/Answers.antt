-- `octets::uuid_text` meets its contract.
use Rattle.base.specs.declared.refusal.Refusal.TheVariants.{UuidWrong}
use Rattle.types.specs.Types.{parsed_uuid}
use Rattle.types.proofs.Contents.{uuid-content}
use Rattle.types.proofs.PartLaws.{wrote-plain}
use Rattle.types.proofs.OctetLaws.{refused-with}
use Rattle.octets.proofs.ContentLaws.{parsed-ok, parsed-not}
use Rattle.octets.proofs.uuid_text.Goals as goal

pub returns-in-Some : goal.returns-in-Some
unfolding parsed_uuid
returns-in-Some c = rw (parsed-ok _ _ _ c.parse_str.ensures c.in-Some.is) (wrote-plain 15 16 _ _ _ uuid-content c.put_plain.ensures)

pub returns-in-None : goal.returns-in-None
unfolding parsed_uuid
returns-in-None c = rw (parsed-not _ _ c.parse_str.ensures c.in-None.is) (refused-with UuidWrong _)
