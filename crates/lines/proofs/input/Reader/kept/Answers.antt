-- `lines::input::Reader::kept` meets its contract.
use borrow.Author.Rules.{rules}
use mathlib.Core.Path.{refl}
use native.Mathlib.Omega.{arith}
use Rattle.lines.proofs.HeldLaws.{kept-long, kept-over, kept-fits}
use Rattle.lines.proofs.input.Reader.kept.Goals as goal

pub returns-then-self : goal.returns-then-self
returns-then-self c = record { at_value = search rules; line_after = kept-long _ _ _ _ c.if-self.true }

pub returns-then-line-filled : goal.returns-then-line-filled
returns-then-line-filled c = record { at_value = search rules; line_after = kept-over _ _ _ _ c.if-self.false c.requires refl c.if-line-filled.true }

pub returns : goal.returns
returns c = record { at_value = search rules; line_after = kept-fits _ _ _ c.args.piece.now c.if-self.false c.requires _ refl refl (omega arith) c.copy.ensures }
