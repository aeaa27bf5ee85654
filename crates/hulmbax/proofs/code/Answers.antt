-- `hulmbax::code` meets its contract.
use mathlib.Core.Path.{sym, ap, subst, ◌∙◌}
use native.Mathlib.Omega.{arith}
use lib.IntN.{pos, neg_ℤ}
use mir.Syntax.{w32}
use mir.ValLaws.{to_z_pos}
use Rattle.base.specs.Refusal.{outcome_of}
use Rattle.hulmbax.specs.Entry.{Coded, code_of}
use Rattle.hulmbax.proofs.CodeLaws.{minus_is}
use Rattle.hulmbax.proofs.code.Goals as goal

pub overflow_cast-result : goal.overflow_cast-result
unfolding Coded
overflow_cast-result c = record { sfits = omega (arith, subst (λ a. Coded (outcome_of a)) c.in-Ok.is c.requires) }

pub returns-in-Ok : goal.returns-in-Ok
unfolding code_of Coded
returns-in-Ok c = to_z_pos w32 c.in-Ok.len (omega (arith, subst (λ a. Coded (outcome_of a)) c.in-Ok.is c.requires)) ∙ sym (ap (λ a. code_of (outcome_of a)) c.in-Ok.is)

pub returns-in-Err : goal.returns-in-Err
unfolding code_of
returns-in-Err c = minus_is c.number.result (omega (arith, c.number.type_inv)) ∙ ap (λ n. neg_ℤ (pos n)) c.number.ensures ∙ sym (ap (λ a. code_of (outcome_of a)) c.in-Err.is)
