-- `gregorian::month_start` meets its contract: the closed form, tested at each month. Assumes nothing.
use mathlib.Core.Path.{sym, ap, ◌∙◌}
use Prim.Native.Nat.{◌+◌, ◌-◌, ◌*◌, ◌/◌}
use mathlib.Core.Bool.{Bool}
use Rattle.base.specs.Base.{when◌then◌else◌}
use Rattle.gregorian.proofs.Fast.{early-months, late-months}
use Rattle.gregorian.proofs.month_start.Goals as goal

pub returns-then-k-lt2 : goal.returns-then-k-lt2
returns-then-k-lt2 c = early-months c.args.l c.args.k c.if-k-lt2.true

pub returns-then-l : goal.returns-then-l
returns-then-l c = ap (λ (t : Bool). (367 * c.args.k + 5) / 12 - (when t then 1 else 2)) (sym c.if-l.true) ∙ late-months c.args.l c.args.k c.if-k-lt2.false c.requires

pub returns-else-l : goal.returns-else-l
returns-else-l c = ap (λ (t : Bool). (367 * c.args.k + 5) / 12 - (when t then 1 else 2)) (sym c.if-l.false) ∙ late-months c.args.l c.args.k c.if-k-lt2.false c.requires
