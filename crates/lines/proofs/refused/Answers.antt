-- `lines::refused` meets its contract.
use native.Mathlib.Omega.{arith}
use Rattle.lines.proofs.LineLaws.{no_line}
use Rattle.lines.proofs.refused.Goals as goal

pub returns : goal.returns
returns c = let all = no_line c.args.number c.decimal_to-n.result c.around.result c.args.out.now c.decimal_to-n.new.out c.around.new.out c.decimal_to-n.ensures.value.0 (omega (arith, c.decimal_to-n.ensures.value.1, c.requires.1)) c.decimal_to-n.ensures.out_after (c.around.ensures.value, c.around.ensures.out_after) in
    record { value = all.0; out_after = all.1 }
