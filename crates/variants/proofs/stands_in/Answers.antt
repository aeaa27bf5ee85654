-- `variants::stands_in` meets its contract.
use borrow.Author.Count.{below_more}
use native.Mathlib.Omega.{arith}
use Prim.Native.Nat.{◌+◌, ◌*◌}
use mathlib.Core.Path.{◌≡◌, sym, ◌∙◌}
use Rattle.number.specs.Number.{number_at}
use Rattle.variants.specs.Ways.{Among}
use Rattle.variants.proofs.stands_in.Goals as goal

pub returns-then-read2-i : goal.returns-then-read2-i
unfolding Among
returns-then-read2-i c = (c.loop-j.j, (c.loop-j-test.true, sym c.read2.ensures ∙ c.if-read2-i.true))

pub loop-j-preserved : goal.loop-j-preserved
loop-j-preserved c = below_more (λ m. number_at c.args.s.now (c.args.at + 2 * m) 2 ≡ c.args.i → ⊥) _ c.loop-j.invariant (λ e. c.if-read2-i.false (c.read2.ensures ∙ e))

pub returns : goal.returns
unfolding Among
returns c = λ m l. c.loop-j.invariant m (omega arith)
