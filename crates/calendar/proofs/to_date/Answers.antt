-- `calendar::to_date` meets its contract: the range of a Date. Assumes nothing.
use Rattle.std.proofs.Common.{ap, ◌∙◌, arith, w32}
use Rattle.std.proofs.lemmas.Int.{ints}
use Rattle.base.specs.Refusal.{outcome_of}
use Rattle.calendar.specs.Origin.{epoch}
use Rattle.calendar.proofs.Whole.{sub-differ}
use Rattle.calendar.proofs.Bits.{fitted}
use Rattle.calendar.proofs.to_date.Goals as goal

pub returns : goal.returns
returns c = ap outcome_of c.or.ensures ∙ fitted w32 c.try_from.result _ _ c.try_from.ensures (omega (arith, ints, sub-differ c.args.n epoch))
