-- `buffer::clearing::clear` meets its contract.
use native.Mathlib.Omega.{arith}
use mathlib.Core.Path.{sym}
use lib.Seq.{length-take-le}
use Rattle.buffer.proofs.ClearLaws.{clear_halves}
use Rattle.buffer.proofs.clearing.clear.Goals as goal

pub slice_bounds-fill-end-2 : goal.slice_bounds-fill-end-2
slice_bounds-fill-end-2 c = sym (length-take-le c.room-front.result c.args.b.now (omega (arith, c.room-front.ensures)))

pub returns : goal.returns
returns c = clear_halves c.args.b.now c.fill.new.b c.wipe.new.b c.room-front.result (omega (arith, c.room-front.ensures)) c.fill.ensures c.wipe.ensures
