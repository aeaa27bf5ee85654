-- `finishes::long_under` meets its contract.
use native.Mathlib.Omega.{arith}
use mathlib.Core.Path.{ap, ◌∙◌}
use Rattle.std.specs.Prelude.{Some}
use Rattle.finishes.specs.Finish.{rank}
use Rattle.finishes.specs.Parts.{long_answer}
use Rattle.number.proofs.Laws.{get_or-all_bytes}
use Rattle.finishes.proofs.FinishLaws.{found_inside, long-not, long-inside, long-told, long-nothing, long-answer}
use Rattle.finishes.proofs.long_under.Goals as goal

pub returns-in_err-p : goal.returns-in_err-p
unfolding long_answer
returns-in_err-p c = rw c.from_residual.ensures (long-answer _ _ (long-nothing _ _ c.in_err-p.ensures))

pub bounds-v-p : goal.bounds-v-p
bounds-v-p c = found_inside _ _ _ c.in_ok-p.ensures

pub returns-then-v-p-ne-LONG : goal.returns-then-v-p-ne-LONG
unfolding long_answer
returns-then-v-p-ne-LONG c = long-answer _ _ (long-not _ _ _ c.in_ok-p.ensures (get_or-all_bytes c.args.v.now (λ i. omega (arith, c.type_inv.v i))) c.if-v-p-ne-LONG.true)

pub read8-requires : goal.read8-requires
read8-requires c = omega (arith, long-inside _ _ _ c.in_ok-p.ensures c.if-v-p-ne-LONG.false)

pub returns : goal.returns
unfolding long_answer
returns c = ap Some (c.rank.ensures ∙ ap rank c.read8.ensures) ∙ long-answer _ _ (long-told _ _ _ c.in_ok-p.ensures c.if-v-p-ne-LONG.false)
