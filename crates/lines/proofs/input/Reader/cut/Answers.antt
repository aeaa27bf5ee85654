-- `lines::input::Reader::cut` meets its contract.
use borrow.Author.Rules.{rules}
use mathlib.Core.Path.{refl}
use Rattle.lines.proofs.HeldLaws.{cut-held, cut-open, cut-whole}
use Rattle.lines.proofs.input.Reader.cut.Goals as goal

pub returns-then-stop-end : goal.returns-then-stop-end
returns-then-stop-end c = record { held = search rules; line_after = cut-held _ _ _ c.requires _ c.line_end-n.ensures.0 _ _ _ refl refl c.kept-t.ensures.line_after; whole_value = cut-open _ _ _ c.requires _ c.line_end-n.ensures.0 _ c.if-stop-end.true refl refl refl; over_value = c.kept-t.ensures.at_value.2 }

pub returns : goal.returns
returns c = record { held = search rules; line_after = cut-held _ _ _ c.requires _ c.line_end-n.ensures.0 _ _ _ refl refl c.kept-t.ensures.line_after; whole_value = cut-whole _ _ _ c.requires _ c.line_end-n.ensures.0 _ c.if-stop-end.false refl refl refl; over_value = c.kept-t.ensures.at_value.2 }
