-- `utf8::ascii::eight` meets its contract. Assumes nothing.
use mathlib.Core.Path.{ap₂, ◌∙◌}
use mathlib.Core.Bool.{Bool, ◌&&◌}
use Rattle.utf8.proofs.AsciiLaws.{all_ascii-add}
use Rattle.utf8.proofs.ascii.eight.Goals as goal

pub returns : goal.returns
returns c = ap₂ (λ (x y : Bool). x && y) c.four.ensures c.four-2.ensures ∙ all_ascii-add 4 4 c.args.s.now c.args.at
