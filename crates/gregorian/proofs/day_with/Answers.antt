-- `calendar::day_with` meets its contract: the parts of the number make the day with it. Assumes nothing.
use Rattle.gregorian.proofs.Fast.{in-year, day-built}
use Rattle.gregorian.proofs.day_with.Goals as goal

pub month_at-k-requires : goal.month_at-k-requires
month_at-k-requires c = in-year c.args.n c.year_at-y.result c.year_start.result c.is_leap-l.result c.is_leap-l.ensures c.year_start.ensures c.year_at-y.ensures.0 c.year_at-y.ensures.1

pub returns : goal.returns
returns c = day-built c.args.n c.year_at-y.result c.year_start.result c.month_at-k.result c.month_start.result c.is_leap-l.result c.is_leap-l.ensures c.year_start.ensures c.year_at-y.ensures.0 c.month_start.ensures c.month_at-k.ensures.0 c.month_at-k.ensures.1 c.month_at-k.ensures.2
