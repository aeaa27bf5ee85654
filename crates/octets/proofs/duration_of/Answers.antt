-- 12 bytes are a Duration, and any other length is refused.
use borrow.Author.Tests.{eq-eqb, ne_eqb}
use Rattle.base.specs.declared.refusal.Refusal.TheVariants.{SizeDiffers}
use Rattle.types.proofs.Contents.{duration-content}
use Rattle.types.proofs.PartLaws.{wrote-plain}
use Rattle.types.proofs.OctetLaws.{wrote_then, wrote-else, refused-with}
use Rattle.octets.proofs.duration_of.Goals as goal

pub returns-then-t-eq12 : goal.returns-then-t-eq12
returns-then-t-eq12 c = wrote_then _ _ _ _ _ (eq-eqb _ _ c.if-t-eq12.true) (wrote-plain 25 12 _ _ _ duration-content c.put_duration.ensures)

pub returns-else-t-eq12 : goal.returns-else-t-eq12
returns-else-t-eq12 c = wrote-else _ _ _ _ _ (ne_eqb _ _ c.if-t-eq12.false) (refused-with SizeDiffers _)
