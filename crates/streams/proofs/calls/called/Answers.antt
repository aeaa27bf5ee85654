-- `streams::calls::called` meets its contract: what was moved is no more than was handed over, and an error moved nothing.
use mathlib.Core.Path.{sym, ap, subst, ◌∙◌}
use mir.Syntax.{w32}
use mir.ValLaws.{to_z-of_z}
use Rattle.streams.specs.Calls.{unmoved, Within}
use Rattle.streams.proofs.CallLaws.{ok-most, within-after, within-unmoved, some-unmoved}
use Rattle.streams.proofs.calls.called.Goals as goal

pub returns-in-Ok-clause-within : goal.returns-in-Ok-clause-within
returns-in-Ok-clause-within c = subst (Within _) (sym c.after.ensures) (within-after _ _ _ (ok-most _ _ _ c.in-Ok.is c.requires))

pub returns-in-Err-clause-within : goal.returns-in-Err-clause-within
returns-in-Err-clause-within c = subst (Within _) (sym c.unmoved.ensures) (within-unmoved _ _)

pub returns-in-Err-clause-err : goal.returns-in-Err-clause-err
returns-in-Err-clause-err c =
    let number = to_z-of_z w32 c.number_of.result (record { sfits = c.number_of.type_inv }) in
    rw c.in-Err.is (some-unmoved _ c.number_of.result _ (c.unmoved.ensures ∙ ap unmoved number) c.number_of.ensures)
