-- `streams::calls::after` meets its contract: it moved none, or some.
use Rattle.streams.proofs.CallLaws.{took, nothing}
use Rattle.streams.proofs.calls.after.Goals as goal

pub returns-then-moved-eq0 : goal.returns-then-moved-eq0
returns-then-moved-eq0 c = rw c.if-moved-eq0.true (nothing _)

pub returns-else-moved-eq0 : goal.returns-else-moved-eq0
returns-else-moved-eq0 c = took _ _ c.if-moved-eq0.false
