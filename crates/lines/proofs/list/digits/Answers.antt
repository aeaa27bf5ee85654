-- `lines::list::digits` meets its contract. Assumes nothing.
use mathlib.Core.Path.{sym}
use native.Mathlib.Omega.{arith}
use lib.Seq.{length-take-le}
use Rattle.lines.proofs.list.digits.Goals as goal

pub slice_bounds-to_hex-end : goal.slice_bounds-to_hex-end
slice_bounds-to_hex-end c = sym (length-take-le _ _ (omega arith))

pub to_hex-requires : goal.to_hex-requires
to_hex-requires c = omega (arith, length-take-le c.args.n c.args.bytes.now (omega arith), c.requires)
