-- `streams::calls::unmoved` meets its contract: the number is one of the two, or neither.
use mathlib.Core.Path.{refl}
use Rattle.streams.specs.Calls.{unmoved}
use Rattle.streams.proofs.CallLaws.{bits-same, bits-other}
use Rattle.streams.proofs.calls.unmoved.Goals as goal

pub returns-then-error-eq-EINTR : goal.returns-then-error-eq-EINTR
unfolding unmoved
returns-then-error-eq-EINTR c = rw (bits-same 4 _ c.ranges.error refl c.if-error-eq-EINTR.true) refl

pub returns-then-error-eq-EAGAIN : goal.returns-then-error-eq-EAGAIN
unfolding unmoved
returns-then-error-eq-EAGAIN c = rw (bits-other 4 _ c.ranges.error refl c.if-error-eq-EINTR.false, bits-same 11 _ c.ranges.error refl c.if-error-eq-EAGAIN.true) refl

pub returns-else-error-eq-EAGAIN : goal.returns-else-error-eq-EAGAIN
unfolding unmoved
returns-else-error-eq-EAGAIN c = rw (bits-other 4 _ c.ranges.error refl c.if-error-eq-EINTR.false, bits-other 11 _ c.ranges.error refl c.if-error-eq-EAGAIN.false) refl
