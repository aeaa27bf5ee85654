-- The outer loop's rounds look for the symbol and then for the default (`Round`), and the inner loop passes the symbols (`Searching`).
use native.Mathlib.Omega.{arith}
use mathlib.Core.Path.{sym, ◌∙◌, subst}
use Prim.Native.Nat.{ℕ, ◌+◌, ◌-◌, ◌≤◌}
use lib.ListN.{length}
use borrow.Author.Rules.{part_to_end}
use Rattle.frame.proofs.Counting.{reads-list}
use Rattle.symbols.specs.Search.{sought_in}
use Rattle.symbols.proofs.SymbolLaws.{Searching, search-starts, search-counted, search-inside, search-goes, search-found, search-missed, search-spans}
use Rattle.symbols.proofs.RoundLaws.{symbols-list, flag-there, round-first, round-found, round-last, round-only, round-goes}
use Rattle.symbols.proofs.position.Goals as goal
use Rattle.symbols.proofs.position.Goals.{then-from-gt0-via-then-from-gt0, then-from-gt0-via-else-from-gt0+then-s-at-eq0}

pub search-init : goal.search-init
search-init c = round-first _ _ c.requires

pub read2-count-requires : goal.read2-count-requires
read2-count-requires c = omega (arith, reads-list _ _ (symbols-list _ c.requires))

pub loop-i-init : goal.loop-i-init
loop-i-init c = search-starts _ _ (c.read2-count.result - 0) (symbols-list _ c.requires) (omega (arith, c.read2-count.ensures)) (omega (arith, c.read2-count.type_inv))

pub slice_bounds-content-count : goal.slice_bounds-content-count
slice_bounds-content-count c = omega (arith, c.loop-i.invariant.walk.inside)

pub slice_bounds-content-start : goal.slice_bounds-content-start
slice_bounds-content-start c = omega (arith, c.loop-i.invariant.walk.inside)

pub content-word-requires : goal.content-word-requires
content-word-requires c = rw part_to_end (search-counted c.loop-i.invariant (omega arith))

pub is_sought-requires : goal.is_sought-requires
is_sought-requires c = c.search.invariant.there

pub overflow_add-at : goal.overflow_add-at
overflow_add-at c = omega (arith, c.content-word.ensures.1.1)

pub overflow_add-at-in-loop-i : goal.overflow_add-at-in-loop-i
overflow_add-at-in-loop-i c = omega (arith, search-inside c.loop-i.invariant (omega arith) (rw part_to_end at c.content-word.ensures))

pub loop-i-preserved : goal.loop-i-preserved
loop-i-preserved c = subst (λ (k : ℕ). Searching c.args.s.now (sought_in c.args.s.now c.args.t.now c.search.from) k (c.loop-i.at + (2 + length c.content-word.result.now)) (c.loop-i.i + 1)) (omega arith)
    (search-goes c.loop-i.invariant (omega arith) (rw part_to_end at c.content-word.ensures) (sym c.is_sought.ensures ∙ c.if-is_sought.false))

pub bounds-s-at : goal.bounds-s-at
bounds-s-at c = flag-there _ _ c.requires (search-spans c.loop-i.invariant (omega arith))

pub overflow_add-from : goal.overflow_add-from
overflow_add-from c = omega (arith, flag-there _ _ c.requires (search-spans c.loop-i.invariant (omega arith)))

pub search-smaller : goal.search-smaller
search-smaller c = omega arith

pub search-preserved : goal.search-preserved
search-preserved c = let v = c.loop-i.invariant in let h : c.read2-count.result - c.loop-i.i ≤ 0 = omega arith in round-goes c.search.invariant (search-missed v h) c.if-from-gt0.false _ c.requires (search-spans v h) c.if-s-at-eq0.false

pub returns-then-is_sought : goal.returns-then-is_sought
returns-then-is_sought c = c.hit.ensures ∙ round-found c.search.invariant (search-found c.loop-i.invariant (omega arith) (rw part_to_end at c.content-word.ensures) (sym c.is_sought.ensures ∙ c.if-is_sought.true))

pub returns-then-from-gt0 : goal.returns-then-from-gt0
returns-then-from-gt0 c =
    let v = c.loop-i.invariant in
    let h : c.read2-count.result - c.loop-i.i ≤ 0 = omega arith in
    elim c.then-from-gt0.branch [
      | then-from-gt0-via-then-from-gt0 w ↦ round-last c.search.invariant (search-missed v h) w.if-from-gt0.true
      | then-from-gt0-via-else-from-gt0+then-s-at-eq0 w ↦ round-only c.search.invariant (search-missed v h) w.if-from-gt0.false _ c.requires (search-spans v h) w.if-s-at-eq0.true
    ]
