-- What is left lies within the bytes that are looked at. Assumes nothing.
use native.Mathlib.Omega.{arith}
use mathlib.Core.Path.{◌≡◌, ap, sym, ◌∙◌}
use Prim.Native.Nat.{ℕ}
use borrow.Author.Tests.{leb-true}
use lib.ListN.{length, drop}
use Rattle.utf8.specs.Utf8.{Start, run}
use Rattle.utf8.proofs.AsciiLaws.{last-eight, four-and-four, few-passed}
use Rattle.utf8.proofs.ascii.last.Goals as goal
use Rattle.utf8.proofs.ascii.last.Goals.{in-0, in-1-to-3, in-4-to-7+then-four, in-4-to-7+else-four, in-8-to-max}

pub returns-then-ascii : goal.returns-then-ascii
returns-then-ascii c =
    let s = c.args.s.now in
    let from = c.args.from in
    elim c.match-n.branch [
      | in-0 w ↦ let e : length s ≡ from = omega (arith, w.in-0.is) in (omega arith, omega arith, ap (λ (k : ℕ). run Start (drop k s)) e)
      | in-1-to-3 w ↦ few-passed s from (omega arith) (omega arith) (omega arith) (leb-true _ 0x7f (sym w.ascii-is ∙ c.if-ascii.true))
      | in-4-to-7+then-four w ↦
          four-and-four s from (omega arith) (omega arith) (omega arith) (sym w.four.ensures ∙ w.if-four.true) (sym w.four-then-four.ensures ∙ sym w.ascii-is ∙ c.if-ascii.true)
      | in-4-to-7+else-four w ↦ let z : ◌≡◌ {A = ℕ} 0 1 = cc (w.ascii-is, c.if-ascii.true) in absurd (omega arith)
      | in-8-to-max w ↦ last-eight s from (omega arith) (omega arith) (omega arith) (sym w.eight-ascii.ensures ∙ sym w.ascii-is ∙ c.if-ascii.true)
    ]
