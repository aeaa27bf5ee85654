-- `hulmbax::hulmbax_current` meets its contract: it is `current`, and its answer's code.
use mathlib.Core.Path.{sym, ap, subst, ◌∙◌}
use mir.Syntax.{w32}
use mir.ValLaws.{to_z-of_z}
use Rattle.hulmbax.specs.Entry.{Coded, code_of}
use Rattle.hulmbax.proofs.NameLaws.{names-coded}
use Rattle.hulmbax.proofs.hulmbax_current.Goals as goal

pub code-requires : goal.code-requires
code-requires c = subst Coded (sym c.current.ensures.answer) (names-coded _ _ _ _)

pub returns : goal.returns
returns c = record { answer = to_z-of_z w32 c.code.result (record { sfits = c.code.type_inv }) ∙ c.code.ensures ∙ ap code_of c.current.ensures.answer; contents = c.current.ensures.contents; cleared = c.current.ensures.cleared }
