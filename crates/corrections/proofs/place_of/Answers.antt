-- `corrections::place_of` meets its contract.
use native.Mathlib.Omega.{arith}
use mathlib.Core.Path.{◌≡◌, sym, ◌∙◌}
use lib.ListN.{length}
use Rattle.corrections.proofs.SailLaws.{placed_at, passed_none, passed_here, passed-next, passed-all}
use Rattle.corrections.proofs.place_of.Goals as goal

pub loop-k-init : goal.loop-k-init
loop-k-init c = passed_none _ _ _ _

pub same_sail-requires : goal.same_sail-requires
same_sail-requires c = (c.requires.0, placed_at _ _ _ _ _ c.requires.1 c.loop-k-test.true)

pub returns-then-same_sail : goal.returns-then-same_sail
returns-then-same_sail c = passed_here _ _ _ _ _ c.loop-k.invariant c.loop-k-test.true (sym c.same_sail.ensures ∙ c.if-same_sail.true)

pub loop-k-preserved : goal.loop-k-preserved
loop-k-preserved c = passed-next _ _ _ _ _ c.loop-k.invariant c.loop-k-test.true (sym c.same_sail.ensures ∙ c.if-same_sail.false)

pub returns : goal.returns
returns c = let e : length c.args.named.now ≡ c.loop-k.k = omega arith in e ∙ passed-all _ _ _ _ _ c.loop-k.invariant c.loop-k-test.false
