-- `lines::input::Reader::begin` meets its contract. Assumes nothing.
use Rattle.lines.specs.Held.{uncut, held_line}
use Rattle.lines.proofs.input.Reader.begin.Goals as goal

pub returns : goal.returns
unfolding uncut held_line
returns c = record { held = c.cut.ensures.held; line_after = c.cut.ensures.line_after; whole_value = c.cut.ensures.whole_value; over_value = c.cut.ensures.over_value }
