-- `hulmbax::used` meets its contract.
use mathlib.Core.Path.{refl, ◌∙◌}
use Rattle.hulmbax.specs.Entry.{used_for}
use Rattle.hulmbax.proofs.CodeLaws.{at-least}
use Rattle.hulmbax.proofs.used.Goals as goal

pub returns-in-Ok : goal.returns-in-Ok
unfolding used_for
returns-in-Ok c = rw c.in-Ok.is (c.max.ensures ∙ at-least _)

pub returns-in-Err : goal.returns-in-Err
unfolding used_for
returns-in-Err c = rw c.in-Err.is refl
