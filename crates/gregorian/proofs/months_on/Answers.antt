-- `gregorian::months_on` meets its contract: the day, or the month's last if that is less. Assumes nothing.
use Rattle.gregorian.proofs.Fast.{clamped}
use Rattle.gregorian.proofs.months_on.Goals as goal

pub returns : goal.returns
returns c = clamped c.args.c c.args.k c.month_length-last.result c.min.result c.is_leap.result c.is_leap.ensures c.month_length-last.ensures c.min.ensures
