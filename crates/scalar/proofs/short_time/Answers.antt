-- `scalar::short_time` meets its contract: each return is a case of `time_of`.
use mathlib.Core.Path.{sym, ap, ◌∙◌}
use Prim.Native.Nat.{ℕ}
use mir.Syntax.{w32}
use mir.ValLaws.{to_z-of_z}
use Rattle.scalar.specs.Scalars.{time_of}
use Rattle.scalar.specs.declared.Scalar.TheVariants.{Date, TimeMillis}
use Rattle.scalar.proofs.Scalars.{second-time}
use Rattle.scalar.proofs.short_time.Goals as goal

pub returns-then-k-eq16 : goal.returns-then-k-eq16
unfolding time_of
returns-then-k-eq16 c =
    ap Date (to_z-of_z w32 c.args.n c.ranges.n) ∙ sym (ap (λ (k : ℕ). time_of k c.args.n) c.if-k-eq16.true)

pub returns-else-k-eq16 : goal.returns-else-k-eq16
returns-else-k-eq16 c =
    ap TimeMillis (to_z-of_z w32 c.args.n c.ranges.n) ∙ sym (second-time c.args.k c.args.n c.requires c.if-k-eq16.false)
