-- `schema::plain::option_size_skip` meets its contract. Assumes nothing.
use Rattle.frame.proofs.Reading.{option-long}
use Rattle.frame.proofs.Measuring.{number-spans}
use Rattle.schema.proofs.Skipping.{option-none-spans, option-thing, option-some-spans}
use Rattle.schema.proofs.plain.option_size_skip.Goals as goal

pub bounds-s-0 : goal.bounds-s-0
bounds-s-0 c = option-long _ _ c.requires

pub returns-then-s-eq0 : goal.returns-then-s-eq0
returns-then-s-eq0 c = option-none-spans _ _ c.requires c.if-s-eq0.true

pub returns-else-s-eq0 : goal.returns-else-s-eq0
returns-else-s-eq0 c = option-some-spans _ _ c.requires c.if-s-eq0.false 2 (number-spans 2 _ (option-thing _ _ c.requires c.if-s-eq0.false))
