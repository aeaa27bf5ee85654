-- `text::short` meets its contract.
use mathlib.Core.Path.{sym, ap, ◌∙◌}
use Prim.Native.Nat.{◌+◌, ◌*◌}
use native.Mathlib.Omega.{arith}
use lib.ListN.{get_or}
use Rattle.text.proofs.HashLaws.{none_is, one-is, two_is, three-is}
use Rattle.text.proofs.short.Goals as goal

pub returns-in-0 : goal.returns-in-0
returns-in-0 c = (sym (none_is c.args.t.now c.in-0.is), omega arith)

pub returns-in-1 : goal.returns-in-1
returns-in-1 c = (sym (one-is c.args.t.now c.in-1.is), omega (arith, c.type_inv.t 0))

pub returns-in-2 : goal.returns-in-2
returns-in-2 c = (c.read2.ensures ∙ sym (two_is c.args.t.now c.in-2.is), omega (arith, c.read2.type_inv))

pub returns-in_default : goal.returns-in_default
returns-in_default c =
    let t = c.args.t.now in
    (ap (λ n. n * 256 + get_or t 2 0) c.read2-in_default.ensures ∙ sym (three-is t (omega arith)), omega (arith, c.type_inv.t 2, c.read2-in_default.type_inv))
