-- `schema::plain::option_text_skip` meets its contract. Assumes nothing.
use native.Mathlib.Omega.{arith}
use mathlib.Core.Path.{subst}
use Rattle.text.specs.Read.{read_text}
use Rattle.text.proofs.ReadLaws.{reads-text}
use Rattle.frame.specs.Readers.{read_option}
use Rattle.frame.specs.Checks.{Spans}
use Rattle.frame.proofs.Reading.{option-long}
use Rattle.schema.proofs.Skipping.{text-held, option-none-spans, option-thing, option-some-spans}
use borrow.Author.Rules.{part_to_end}
use Rattle.schema.proofs.plain.option_text_skip.Goals as goal

pub bounds-s-0 : goal.bounds-s-0
bounds-s-0 c = option-long _ _ c.requires

pub returns-then-s-eq0 : goal.returns-then-s-eq0
returns-then-s-eq0 c = option-none-spans _ _ c.requires c.if-s-eq0.true

pub slice_bounds-content-count : goal.slice_bounds-content-count
slice_bounds-content-count c = option-long _ _ c.requires

pub slice_bounds-content-start : goal.slice_bounds-content-start
slice_bounds-content-start c = option-long _ _ c.requires

pub content-requires : goal.content-requires
content-requires c = rw part_to_end (reads-text _ (option-thing _ _ c.requires c.if-s-eq0.false))

pub returns-else-s-eq0 : goal.returns-else-s-eq0
returns-else-s-eq0 c =
    subst (Spans (read_option read_text c.args.s.now) c.args.s.now) (omega arith)
    (option-some-spans read_text c.args.s.now c.requires c.if-s-eq0.false _ (text-held _ _ (option-thing read_text c.args.s.now c.requires c.if-s-eq0.false) (rw part_to_end at c.content.ensures.0) (rw part_to_end at c.content.ensures.1.0)))
