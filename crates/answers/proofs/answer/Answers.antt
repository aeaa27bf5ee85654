-- `answers::answer` meets its contract.
use mathlib.Core.Path.{sym, ap, ◌∙◌}
use native.Mathlib.Omega.{arith}
use Rattle.answers.proofs.AnswerLaws.{accepted-is, refused-is, answered}
use Rattle.base.specs.Base.{stop}
use Rattle.base.specs.Refusal.{outcome_of}
use Rattle.answers.proofs.answer.Goals as goal

pub slice_bounds-accepted-end : goal.slice_bounds-accepted-end
slice_bounds-accepted-end c = omega (arith, (accepted-is _ _ c.args.res.now c.args.workspace.now c.requires.0 c.requires.1 (outcome_of c.call.result) c.call.new.res c.in-Ok.n c.call.ensures.answered (ap outcome_of c.in-Ok.is) c.call.ensures.contents).1.1, c.call.auto.res, c.requires.0)

pub slice_bounds-accepted-end-in-Ok : goal.slice_bounds-accepted-end-in-Ok
slice_bounds-accepted-end-in-Ok c = sym (accepted-is _ _ c.args.res.now c.args.workspace.now c.requires.0 c.requires.1 (outcome_of c.call.result) c.call.new.res c.in-Ok.n c.call.ensures.answered (ap outcome_of c.in-Ok.is) c.call.ensures.contents).1.0

pub accepted-requires : goal.accepted-requires
accepted-requires c = let p = accepted-is _ _ c.args.res.now c.args.workspace.now c.requires.0 c.requires.1 (outcome_of c.call.result) c.call.new.res c.in-Ok.n c.call.ensures.answered (ap outcome_of c.in-Ok.is) c.call.ensures.contents in omega (arith, p.1.0, p.1.1, c.requires.2)

pub refused-requires : goal.refused-requires
refused-requires c = (omega (arith, (refused-is _ _ c.args.res.now c.args.workspace.now c.requires.0 c.requires.1 (outcome_of c.call.result) c.call.new.res c.number.result c.call.ensures.answered (ap outcome_of c.in-Err.is ∙ ap stop (sym c.number.ensures))).1), omega (arith, c.requires.2))

pub returns-in-Ok : goal.returns-in-Ok
returns-in-Ok c = let all = answered c.args.schema.now c.args.value.now _ c.args.out.now c.accepted.new.out c.accepted.result (accepted-is _ _ c.args.res.now c.args.workspace.now c.requires.0 c.requires.1 (outcome_of c.call.result) c.call.new.res c.in-Ok.n c.call.ensures.answered (ap outcome_of c.in-Ok.is) c.call.ensures.contents).0 (c.accepted.ensures.value, c.accepted.ensures.out_after) in
    record { value = all.0; out_after = all.1 }

pub returns-in-Err : goal.returns-in-Err
returns-in-Err c = let all = answered c.args.schema.now c.args.value.now _ c.args.out.now c.refused.new.out c.refused.result (refused-is _ _ c.args.res.now c.args.workspace.now c.requires.0 c.requires.1 (outcome_of c.call.result) c.call.new.res c.number.result c.call.ensures.answered (ap outcome_of c.in-Err.is ∙ ap stop (sym c.number.ensures))).0 (c.refused.ensures.value, c.refused.ensures.out_after) in
    record { value = all.0; out_after = all.1 }
