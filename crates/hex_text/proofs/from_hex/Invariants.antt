-- The pairs so far are read.
use Rattle.hex_text.proofs.LineLaws.{Read}
use Rattle.hex_text.proofs.from_hex.Given as goal

abbrev pub invariant-loop-i : goal.invariant-loop-i
invariant-loop-i l = Read l.line l.out l.initial.out l.i
