-- `judge::counted` is safe and ends. Assumes nothing.
use mathlib.Core.Path.{sym}
use lib.Seq.{length-take-le}
use Rattle.judge.proofs.counted.Goals as goal

pub slice_bounds-frame_mark-end-2 : goal.slice_bounds-frame_mark-end-2
slice_bounds-frame_mark-end-2 g c = sym (length-take-le _ _ c.frame-k.ensures.value.1)
