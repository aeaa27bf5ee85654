-- `octets::fixed_of` meets its contract.
use borrow.Author.Tests.{eq-eqb, ne_eqb}
use Rattle.base.specs.declared.refusal.Refusal.TheVariants.{SizeDiffers}
use Rattle.types.proofs.Contents.{fixed-content}
use Rattle.types.proofs.PartLaws.{wrote-counted}
use Rattle.types.proofs.OctetLaws.{wrote_then, wrote-else, refused-with}
use Rattle.octets.proofs.fixed_of.Goals as goal

pub returns-then-t-size : goal.returns-then-t-size
returns-then-t-size c = wrote_then _ _ _ _ _ (eq-eqb _ _ c.if-t-size.true) (wrote-counted 13 _ _ _ fixed-content c.put_counted.ensures)

pub returns-else-t-size : goal.returns-else-t-size
returns-else-t-size c = wrote-else _ _ _ _ _ (ne_eqb _ _ c.if-t-size.false) (refused-with SizeDiffers _)
