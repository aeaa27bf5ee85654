-- `utf8::ascii::onward` meets its contract. Assumes nothing.
use native.Mathlib.Omega.{arith}
use mathlib.Core.Path.{sym, ◌∙◌}
use Prim.Native.Nat.{◌+◌}
use Rattle.utf8.proofs.AsciiLaws.{part-passed, passed_on}
use Rattle.utf8.proofs.ascii.onward.Goals as goal

pub returns : goal.returns
returns c =
    let s = c.args.s.now in
    let from = c.args.from in
    let p = part-passed s from 8 (omega arith) (sym c.eight.ensures ∙ c.if-not-eight.false) in
    passed_on s from (from + 8) c.words.result p (passed_on s (from + 8) c.blocks-2.result c.words.result c.blocks-2.ensures c.words.ensures)
