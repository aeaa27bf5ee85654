-- `instants::add` meets its contract: the sum handed out, or its refusal.
use mathlib.Core.Path.{sym, ap, ◌∙◌}
use mathlib.Core.List.{List}
use lib.ListN.{length}
use Prim.Native.Nat.{ℕ}
use mir.Syntax.{w32}
use mir.ValLaws.{to_z-of_z}
use Rattle.base.specs.Base.{Result}
use Rattle.buffer.specs.After.{code_for, buffer_after}
use Rattle.instants.specs.Frames.{sum_for}
use Rattle.instants.proofs.AnswerLaws.{told-stop, sum_for-to, sum_for-refused}
use Rattle.instants.proofs.add.Goals as goal

pub returns-in-Ok : goal.returns-in-Ok
returns-in-Ok c =
    let a = c.args in
    let i = a.instant.now in
    let d = a.duration.now in
    let l = length a.res.now in
    let q = sum_for-to i d l _ (sym c.in-Ok.ensures) in
    record { answer = to_z-of_z w32 c.hand_out.result (record { sfits = c.hand_out.type_inv }) ∙ c.hand_out.ensures.answer ∙ ap code_for (sym q); contents = c.hand_out.ensures.contents ∙ ap (λ (r : Result (List ℕ)). buffer_after r a.res.now) (sym q) }

pub returns-in-Err : goal.returns-in-Err
returns-in-Err c =
    let a = c.args in
    let i = a.instant.now in
    let d = a.duration.now in
    let all = told-stop (sum_for i d (length a.res.now)) _ a.res.now _ (sum_for-refused i d (length a.res.now) _ (sym c.in-Err.ensures)) (to_z-of_z w32 c.negated.result (record { sfits = c.negated.type_inv }) ∙ c.negated.ensures) in
    record { answer = all.0; contents = all.1 }
