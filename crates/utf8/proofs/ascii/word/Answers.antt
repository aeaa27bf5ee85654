-- std's sum over four bytes is what `little_endian` gives. Assumes nothing.
use mathlib.Core.Path.{◌∙◌}
use Rattle.utf8.proofs.AsciiLaws.{four-little_endian}
use Rattle.utf8.proofs.ascii.word.Goals as goal

pub returns : goal.returns
returns c = c.from_le_bytes.ensures ∙ four-little_endian c.args.s.now c.args.at c.requires
