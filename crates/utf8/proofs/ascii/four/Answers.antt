-- `utf8::ascii::four` meets its contract. Assumes nothing.
use native.Mathlib.Omega.{arith}
use mathlib.Core.Path.{ap, ◌∙◌}
use Prim.Native.Nat.{ℕ}
use lib.Bits.{bit_and}
use lib.Dec.{eqb}
use Rattle.utf8.proofs.AsciiLaws.{four-by-highs}
use Rattle.utf8.proofs.ascii.four.Goals as goal

pub returns : goal.returns
returns c = ap (λ (n : ℕ). eqb (bit_and n 0x80808080) 0) c.word.ensures ∙ four-by-highs c.args.s.now c.args.at c.requires (λ i. omega (arith, c.type_inv.s i))
