-- `judge::frame_mark` meets its contract. Assumes nothing.
use mathlib.Core.Path.{refl, ap, ◌∙◌}
use borrow.Author.Tests.{eq-eqb, ne_eqb}
use Rattle.judge.specs.Mark.{schema_mark, value_mark, mark_of}
use Rattle.judge.proofs.frame_mark.Goals as goal

pub returns-then-letter-eq115 : goal.returns-then-letter-eq115
unfolding mark_of
returns-then-letter-eq115 c = rw (eq-eqb _ _ c.if-letter-eq115.true) (c.schema_mark.ensures ∙ ap schema_mark c.schema_frame.ensures)

pub returns-then-letter-eq118 : goal.returns-then-letter-eq118
unfolding mark_of
returns-then-letter-eq118 c = rw (ne_eqb _ _ c.if-letter-eq115.false, eq-eqb _ _ c.if-letter-eq118.true) (c.value_mark.ensures ∙ ap value_mark c.value_frame.ensures)

pub returns : goal.returns
unfolding mark_of
returns c = rw (ne_eqb _ _ c.if-letter-eq115.false, ne_eqb _ _ c.if-letter-eq118.false) refl
