-- `hulmbax::hulmbax_resolve` meets its contract: it is `resolve`, and its answer's code.
use mathlib.Core.Path.{sym, ap, subst, ◌∙◌}
use mir.Syntax.{w32}
use mir.ValLaws.{to_z-of_z}
use Rattle.hulmbax.specs.Entry.{Coded, code_of}
use Rattle.hulmbax.proofs.CodeLaws.{answer-bounded, bounded-coded}
use Rattle.hulmbax.proofs.hulmbax_resolve.Goals as goal

pub code-requires : goal.code-requires
code-requires c = subst Coded (sym c.resolve.ensures.answer) (bounded-coded _ (answer-bounded _ _ _ _))

pub returns : goal.returns
returns c = record { answer = to_z-of_z w32 c.code.result (record { sfits = c.code.type_inv }) ∙ c.code.ensures ∙ ap code_of c.resolve.ensures.answer; contents = c.resolve.ensures.contents; cleared = c.resolve.ensures.cleared }
