-- `scalar::Scalar::keep` meets its contract: the two cases of `keep`.
use mathlib.Core.Path.{sym, ap, ◌∙◌}
use mathlib.Core.Bool.{Bool}
use borrow.Author.Tests.{eq-eqb, ne_eqb}
use Rattle.std.specs.Prelude.{Ok, Err}
use Rattle.base.specs.Base.{when◌then◌else◌}
use Rattle.scalar.specs.declared.CastError.TheVariants.{Unsuited}
use Rattle.scalar.proofs.Scalar.keep.Goals as goal

pub returns-then-kind-k : goal.returns-then-kind-k
returns-then-kind-k c =
    let s = c.args.self in
    sym (ap (λ (t : Bool). when t then Ok s else Err Unsuited) (eq-eqb _ c.args.k (sym c.kind.ensures ∙ c.if-kind-k.true)))

pub returns-else-kind-k : goal.returns-else-kind-k
returns-else-kind-k c =
    let s = c.args.self in
    sym (ap (λ (t : Bool). when t then Ok s else Err Unsuited) (ne_eqb _ c.args.k (λ e. c.if-kind-k.false (c.kind.ensures ∙ e))))
