-- `hulmbax::check_record` meets its contract.
use mathlib.Core.Path.{sym, ◌∙◌}
use Rattle.hulmbax.specs.Entry.{stop_of}
use Rattle.hulmbax.proofs.CheckLaws.{stop-no-value, stop-unsound-value, stop-value}
use Rattle.hulmbax.proofs.check_record.Goals as goal

pub returns-in-NoFrame : goal.returns-in-NoFrame
unfolding stop_of
returns-in-NoFrame c = stop-no-value c.args.«record».now (sym c.value_frame.ensures ∙ c.in-NoFrame.is)

pub returns-in-Unsound : goal.returns-in-Unsound
unfolding stop_of
returns-in-Unsound c = stop-unsound-value c.args.«record».now (sym c.value_frame.ensures ∙ c.in-Unsound.is)

pub returns-in-Sound : goal.returns-in-Sound
unfolding stop_of
returns-in-Sound c = stop-value c.args.«record».now (sym c.value_frame.ensures ∙ c.in-Sound.is)
