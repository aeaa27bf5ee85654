-- The rules' worked example of program `resolve`, by computing it.
use mathlib.Core.Path.{◌≡◌, refl}
use Rattle.text.specs.Text.{ascii}
use Rattle.uuid_text.specs.Rfc4122
use Rattle.hex_text.specs.Hex
use Rattle.lines.specs.Cut
use Rattle.lines.specs.Line
use Rattle.answers.specs.Program
use Rattle.answers.specs.Program.{program}
use Rattle.hulmbax.proofs.Computed.{computed}

pub example : program (ascii "02\n02ffffffff\n030000000080000000\n00\n\n") ≡ ascii "+ 02ffffffff\n- 7\n- 6\n- 5\n"
unfolding computed Cut.onto Cut.lines Hex.frame_of Rfc4122.small_digit Rfc4122.hex_text Hex.decimal Line.answer_line Program.answer_lines Program.output Program.program
example = refl
