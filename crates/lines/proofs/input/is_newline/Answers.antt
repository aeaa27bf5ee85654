-- `lines::input::is_newline` meets its contract: what it answers is the test itself.
use mathlib.Core.Path.{refl}
use Rattle.lines.proofs.input.is_newline.Goals as goal

pub returns : goal.returns
returns c = refl
