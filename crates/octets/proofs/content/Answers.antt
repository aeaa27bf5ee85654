-- `octets::content` meets its contract.
use native.Mathlib.Omega.{arith}
use borrow.Author.Rules.{part_to_end}
use Rattle.octets.proofs.ContentLaws.{holds-content, counted-there}
use Rattle.octets.proofs.content.Goals as goal

pub slice_bounds-content-count : goal.slice_bounds-content-count
slice_bounds-content-count c = omega (arith, counted-there c.args.v.now c.requires)

pub slice_bounds-content-start : goal.slice_bounds-content-start
slice_bounds-content-start c = omega (arith, counted-there c.args.v.now c.requires)

pub content-requires : goal.content-requires
content-requires c = rw part_to_end c.requires

pub returns : goal.returns
returns c = holds-content _ _ (omega (arith, counted-there c.args.v.now c.requires)) (rw part_to_end at c.content.ensures)
