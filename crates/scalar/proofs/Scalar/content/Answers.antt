-- `scalar::Scalar::content` meets its contract: each arm is a case of `content_of`.
use mathlib.Core.Path.{sym, ap, ◌∙◌, subst}
use mathlib.Core.Bool.{Bool, not}
use native.Mathlib.Nat.{lt_of_lt_of_le}
use lib.Dec.{T, lit≤}
use lib.Ieee.{binary32, binary64, to_bits, fits}
use lib.Ieee.Bits.{to_bits-lt}
use Rattle.scalar.specs.Scalars.{content_of}
use Rattle.scalar.proofs.Scalars.{equals_itself, is-nan}
use Rattle.std.proofs.Common.{rules}
use Rattle.scalar.proofs.Scalar.content.Goals as goal

pub float_to_bits-result : goal.float_to_bits-result
float_to_bits-result c = subst (λ (t : Bool). T (not t)) (sym (equals_itself _ c.if-x.false)) tt

pub float_to_bits-result-else-x-2 : goal.float_to_bits-result-else-x-2
float_to_bits-result-else-x-2 c = subst (λ (t : Bool). T (not t)) (sym (equals_itself _ c.if-x-2.false)) tt

pub returns-then-x : goal.returns-then-x
unfolding to_bits
returns-then-x c = sym (ap content_of c.in-Float.is ∙ ap (to_bits binary32) (is-nan _ c.if-x.true))

pub returns-else-x : goal.returns-else-x
returns-else-x c = sym (ap content_of c.in-Float.is)

pub returns-then-x-2 : goal.returns-then-x-2
unfolding to_bits
returns-then-x-2 c = sym (ap content_of c.in-Double.is ∙ ap (to_bits binary64) (is-nan _ c.if-x-2.true))

pub returns-else-x-2 : goal.returns-else-x-2
returns-else-x-2 c = sym (ap content_of c.in-Double.is)

pub overflow_cast-result-else-x : goal.overflow_cast-result-else-x
overflow_cast-result-else-x c =
    let exact : T (fits binary32 c.in-Float.x) = search rules in
    record { fits = lt_of_lt_of_le (to_bits-lt binary32 _ exact) (lit≤ tt) }
