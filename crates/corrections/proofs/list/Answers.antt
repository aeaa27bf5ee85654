-- `corrections::list` meets its contract.
use native.Mathlib.Omega.{arith}
use Prim.Native.Nat.{ℕ}
use Rattle.corrections.proofs.EnterLaws.{listing_start, listing_step, listing-end}
use Rattle.corrections.proofs.list.Goals as goal

pub loop-i-init : goal.loop-i-init
loop-i-init c = listing_start _ _ _ _ c.requires.2

pub enter-count-requires : goal.enter-count-requires
enter-count-requires c = ((λ (k : ℕ) h. c.requires.0 k (omega (arith, h, c.loop-i-test.true))), omega (arith, c.requires.1, c.loop-i-test.true), c.loop-i.invariant.few, c.loop-i.invariant.size, c.loop-i.invariant.below)

pub loop-i-preserved : goal.loop-i-preserved
loop-i-preserved c = listing_step _ _ _ _ _ _ _ _ c.loop-i.invariant c.loop-i-test.true c.enter-count.ensures

pub returns : goal.returns
returns c = listing-end _ _ _ _ _ _ c.loop-i.invariant c.loop-i-test.false
