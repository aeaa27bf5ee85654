-- `lines::input::Reader::last` meets its contract.
use borrow.Author.Rules.{rules}
use mathlib.Core.Path.{refl, sym, ap}
use mathlib.Core.Bool.{Bool, ◌||◌}
use lib.Dec.{ltb}
use Rattle.lines.specs.Held.{is_line}
use Rattle.lines.proofs.input.Reader.last.Goals as goal

pub returns-then-self : goal.returns-then-self
unfolding is_line
returns-then-self c = search rules

pub returns-else-self : goal.returns-else-self
unfolding is_line
returns-else-self c = (refl, refl, refl, refl, refl, ap (λ (b : Bool). b || ltb 0 c.args.self.filled) (sym c.if-self.false))
