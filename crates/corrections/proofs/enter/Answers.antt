-- `corrections::enter` meets its contract.
use native.Mathlib.Omega.{arith}
use mathlib.Core.Path.{sym, ◌∙◌}
use Rattle.corrections.proofs.SailLaws.{placed_below}
use Rattle.corrections.proofs.EnterLaws.{below_next, entered-last, place-below, named-below, entered-over, entered-kept}
use Rattle.corrections.proofs.enter.Goals as goal

pub place_of-k-requires : goal.place_of-k-requires
place_of-k-requires c = (c.requires.0 c.args.i (omega arith), placed_below _ _ _ _ _ c.requires.0 (below_next _ _ c.requires.4))

pub returns-then-k-count : goal.returns-then-k-count
returns-then-k-count c = entered-last c.args.input.now c.args.table.now c.args.out.now _ _ _ c.requires.3 c.requires.2 c.requires.1 c.requires.4 c.place_of-k.ensures c.if-k-count.true

pub bounds-out-k : goal.bounds-out-k
bounds-out-k c = let h = place-below c.args.input.now c.args.table.now c.args.out.now _ _ _ c.requires.3 c.requires.2 c.requires.1 c.requires.4 c.place_of-k.ensures c.if-k-count.false in omega arith

pub bounds-table-j : goal.bounds-table-j
bounds-table-j c = let h = named-below c.args.input.now c.args.table.now c.args.out.now _ _ _ c.requires.3 c.requires.2 c.requires.1 c.requires.4 c.place_of-k.ensures c.if-k-count.false in omega (arith, (c.requires.0 c.args.i (omega arith)).there)

pub bounds-out-k-then-takes_over : goal.bounds-out-k-then-takes_over
bounds-out-k-then-takes_over c = let h = place-below c.args.input.now c.args.table.now c.args.out.now _ _ _ c.requires.3 c.requires.2 c.requires.1 c.requires.4 c.place_of-k.ensures c.if-k-count.false in omega arith

pub returns-then-takes_over : goal.returns-then-takes_over
returns-then-takes_over c = entered-over c.args.input.now c.args.table.now c.args.out.now _ _ _ c.requires.3 c.requires.2 c.requires.1 c.requires.4 c.place_of-k.ensures c.if-k-count.false (sym c.takes_over.ensures ∙ c.if-takes_over.true)

pub returns-else-takes_over : goal.returns-else-takes_over
returns-else-takes_over c = entered-kept c.args.input.now c.args.table.now c.args.out.now _ _ _ c.requires.3 c.requires.2 c.requires.1 c.requires.4 c.place_of-k.ensures c.if-k-count.false (sym c.takes_over.ensures ∙ c.if-takes_over.false)
