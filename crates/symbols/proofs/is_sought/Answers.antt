-- `symbols::is_sought` meets its contract.
use mathlib.Core.Path.{ap, ◌∙◌}
use borrow.Author.Rules.{part_to_end}
use Rattle.text.specs.Text.{same}
use Rattle.symbols.proofs.RoundLaws.{sought-first, sought-later}
use Rattle.text.proofs.ReadLaws.{place_inside}
use Rattle.symbols.proofs.is_sought.Goals as goal

pub returns-then-from-eq0 : goal.returns-then-from-eq0
returns-then-from-eq0 c = c.same.ensures ∙ ap (same c.args.word.now) (sought-first c.args.s.now c.args.t.now _ c.if-from-eq0.true)

pub slice_bounds-content-count : goal.slice_bounds-content-count
slice_bounds-content-count c = place_inside _ _ (c.requires c.if-from-eq0.false)

pub slice_bounds-content-start : goal.slice_bounds-content-start
slice_bounds-content-start c = place_inside _ _ (c.requires c.if-from-eq0.false)

pub content-requires : goal.content-requires
content-requires c = rw part_to_end (c.requires c.if-from-eq0.false)

pub returns-else-from-eq0 : goal.returns-else-from-eq0
returns-else-from-eq0 c = c.same-else-from-eq0.ensures ∙ ap (same c.args.word.now) (sought-later c.args.s.now c.args.t.now _ _ _ c.if-from-eq0.false (rw part_to_end at c.content.ensures.0))
