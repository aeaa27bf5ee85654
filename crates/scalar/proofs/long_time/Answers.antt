-- `scalar::long_time` meets its contract: each return is a case of `time_of`.
use mathlib.Core.Path.{sym, ap, ◌∙◌}
use Prim.Native.Nat.{ℕ}
use native.Mathlib.Omega.{arith}
use mir.Syntax.{w64}
use mir.ValLaws.{to_z-of_z}
use Rattle.scalar.specs.Scalars.{time_of}
use Rattle.scalar.specs.declared.Scalar.TheVariants.{TimeMicros, TimestampMillis, TimestampMicros, TimestampNanos, LocalTimestampMillis, LocalTimestampMicros, LocalTimestampNanos}
use Rattle.scalar.proofs.Scalars.{last-time}
use Rattle.scalar.proofs.long_time.Goals as goal

pub returns-in-18 : goal.returns-in-18
unfolding time_of
returns-in-18 c =
    ap TimeMicros (to_z-of_z w64 c.args.n c.ranges.n) ∙ sym (ap (λ (k : ℕ). time_of k c.args.n) c.in-18.is)

pub returns-in-19 : goal.returns-in-19
unfolding time_of
returns-in-19 c =
    ap TimestampMillis (to_z-of_z w64 c.args.n c.ranges.n) ∙ sym (ap (λ (k : ℕ). time_of k c.args.n) c.in-19.is)

pub returns-in-20 : goal.returns-in-20
unfolding time_of
returns-in-20 c =
    ap TimestampMicros (to_z-of_z w64 c.args.n c.ranges.n) ∙ sym (ap (λ (k : ℕ). time_of k c.args.n) c.in-20.is)

pub returns-in-21 : goal.returns-in-21
unfolding time_of
returns-in-21 c =
    ap TimestampNanos (to_z-of_z w64 c.args.n c.ranges.n) ∙ sym (ap (λ (k : ℕ). time_of k c.args.n) c.in-21.is)

pub returns-in-22 : goal.returns-in-22
unfolding time_of
returns-in-22 c =
    ap LocalTimestampMillis (to_z-of_z w64 c.args.n c.ranges.n) ∙ sym (ap (λ (k : ℕ). time_of k c.args.n) c.in-22.is)

pub returns-in-23 : goal.returns-in-23
unfolding time_of
returns-in-23 c =
    ap LocalTimestampMicros (to_z-of_z w64 c.args.n c.ranges.n) ∙ sym (ap (λ (k : ℕ). time_of k c.args.n) c.in-23.is)

pub returns-in_default : goal.returns-in_default
returns-in_default c =
    ap LocalTimestampNanos (to_z-of_z w64 c.args.n c.ranges.n)
    ∙ sym (last-time c.args.k c.args.n c.requires (λ e. omega arith) (λ e. omega arith) (λ e. omega arith) (λ e. omega arith) (λ e. omega arith) (λ e. omega arith))
