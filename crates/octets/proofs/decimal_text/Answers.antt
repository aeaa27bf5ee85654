-- `octets::decimal_text` meets its contract.
use mathlib.Core.Path.{refl, sym, ap, ◌∙◌}
use Rattle.base.specs.declared.refusal.Refusal.TheVariants.{Unsuited}
use Rattle.types.specs.Contract.{points}
use Rattle.types.proofs.OctetLaws.{refused-with, wrote-is}
use Rattle.utf8.specs.Utf8.{code_points, latin1_count}
use Rattle.utf8.proofs.Walk.{count_of, count-above}
use Rattle.octets.proofs.DecimalLaws.{points-are, decimal-accepted, decimal-refused}
use Rattle.octets.proofs.decimal_text.Goals as goal

pub decimal_points-requires : goal.decimal_points-requires
unfolding code_points
decimal_points-requires c = let e = points-are c.args.t.now _ c.requires.0 refl in let k = count_of (points c.args.t.now) _ (sym (ap latin1_count e) ∙ sym c.latin1_len.ensures ∙ c.in-Some.is) in (c.requires.0, k.0, k.1, c.requires.1)

pub returns-in-Some : goal.returns-in-Some
unfolding code_points
returns-in-Some c = let e = points-are c.args.t.now _ c.requires.0 refl in let k = count_of (points c.args.t.now) _ (sym (ap latin1_count e) ∙ sym c.latin1_len.ensures ∙ c.in-Some.is) in wrote-is _ _ _ _ (decimal-accepted c.args.precision c.args.t.now c.requires.0 k.0) c.decimal_points.ensures

pub returns-in-None : goal.returns-in-None
unfolding code_points
returns-in-None c = let e = points-are c.args.t.now _ c.requires.0 refl in wrote-is _ _ _ _ (decimal-refused c.args.precision c.args.t.now c.requires.0 (count-above (points c.args.t.now) (sym (ap latin1_count e) ∙ sym c.latin1_len.ensures ∙ c.in-None.is))) (refused-with Unsuited _)
