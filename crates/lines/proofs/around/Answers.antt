-- `lines::around` meets its contract.
use Rattle.lines.specs.Cut.{newline}
use native.Mathlib.Omega.{arith}
use mathlib.Core.Path.{refl}
use lib.ListN.{length-set}
use Rattle.lines.proofs.LineLaws.{around-is}
use Rattle.lines.proofs.around.Goals as goal

pub bounds-out-1 : goal.bounds-out-1
bounds-out-1 c = simp length-set (omega (arith, c.requires))

pub bounds-out-n : goal.bounds-out-n
bounds-out-n c = simp length-set (omega (arith, c.requires))

pub returns : goal.returns
returns c = record { value = refl; out_after = around-is c.args.sign 0x20 c.args.n newline c.args.out.now c.requires }
