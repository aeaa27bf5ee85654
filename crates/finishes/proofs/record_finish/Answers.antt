-- `finishes::record_finish` meets its contract.
use mathlib.Core.Path.{sym}
use Rattle.text.specs.Text.{ascii}
use Rattle.finishes.proofs.FinishLaws.{no-sail, no-seq, both-said, parted-nothing, long-none, long-some}
use Rattle.finishes.proofs.record_finish.Goals as goal

pub returns-in_err-from : goal.returns-in_err-from
unfolding ascii
returns-in_err-from c = rw c.from_residual.ensures (no-sail _ c.requires.0 (parted-nothing _ _ c.in_err-from.ensures))

pub returns-in_err-rank : goal.returns-in_err-rank
unfolding ascii
returns-in_err-rank c = rw c.from_residual-in_err-rank.ensures (no-seq _ c.requires.0 _ c.in_ok-from.ensures (long-none _ (sym c.in_err-rank.ensures)))

pub returns : goal.returns
unfolding ascii
returns c = both-said _ c.requires.0 _ c.in_ok-from.ensures _ (long-some _ _ (sym c.in_ok-rank.ensures))
