-- `scalar::Scalar::to_time` meets its contract: each arm is a case of `time_cast`.
use mathlib.Core.Path.{sym, ap, ◌∙◌}
use mathlib.Core.Bool.{Bool}
use borrow.Author.Tests.{lt-ltb}
use Rattle.std.specs.Prelude.{Ok, Err}
use Rattle.base.specs.Base.{when◌then◌else◌}
use Rattle.scalar.specs.Scalars.{time_of, time_cast}
use Rattle.scalar.specs.declared.CastError.TheVariants.{Unsuited}
use Rattle.scalar.proofs.Scalar.to_time.Goals as goal

pub returns-then-k-lt18-2 : goal.returns-then-k-lt18-2
returns-then-k-lt18-2 c =
    let k = c.args.k in
    let z = c.in-Long.n in
    sym (ap (time_cast k) c.in-Long.is ∙ ap (λ (t : Bool). when t then Err Unsuited else Ok (time_of k z)) (lt-ltb k 0x12 c.if-k-lt18-2.true))
