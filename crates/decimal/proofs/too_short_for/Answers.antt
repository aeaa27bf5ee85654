-- The answer of `max_prec_for_len` by its cases. Assumes nothing.
use Rattle.std.proofs.Common.{rules, ◌≡◌, ℕ, Bool, false, ap, ◌∙◌, nat_lt}
use Rattle.std.specs.Prelude.{Option, Some, None, MatchOption}
use Rattle.decimal.specs.Decimal.{above, too_short_for}
use Rattle.decimal.proofs.too_short_for.Goals as goal

by_cases : (p : ℕ) (o : Option ℕ) (r : Bool) → MatchOption o (r ≡ false) (λ x. r ≡ nat_lt x p) → r ≡ above p o
unfolding above
by_cases p None r e = e
by_cases p (Some x) r e = e

pub returns : goal.returns
unfolding above too_short_for
returns c = by_cases c.args.precision c.max_prec_for_len.result c.is_some_and.result (search rules) ∙ ap (above c.args.precision) c.max_prec_for_len.ensures
