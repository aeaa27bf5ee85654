-- `lists::frame_at` meets its contract.
use mathlib.Core.Path.{sym}
use Rattle.lists.proofs.FrameLaws.{frame_below, frame_past, frame-part}
use Rattle.lists.proofs.frame_at.Goals as goal

pub returns-then-to-from : goal.returns-then-to-from
returns-then-to-from c = sym (frame_below _ _ _ c.if-to-from.true)

pub returns-then-input-to : goal.returns-then-input-to
returns-then-input-to c = sym (frame_past _ _ _ c.if-input-to.true)

pub returns : goal.returns
returns c = sym (frame-part _ _ _ c.if-to-from.false c.if-input-to.false)
