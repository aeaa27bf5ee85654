-- `almanac::counted` is safe and ends. Assumes nothing.
use mathlib.Core.Path.{sym}
use lib.Seq.{length-take-le}
use Rattle.almanac.proofs.counted.Goals as goal

pub slice_bounds-is_expected-end-2 : goal.slice_bounds-is_expected-end-2
slice_bounds-is_expected-end-2 g c = sym (length-take-le _ _ c.frame-k.ensures.value.1)
