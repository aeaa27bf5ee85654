-- `corrections::read_all` meets its contract.
use Rattle.corrections.specs.Tables.{Told}
use Rattle.corrections.proofs.ReadingLaws.{reading-start, reading-broken, entry-inside, reading_step, reading-end}
use Rattle.corrections.proofs.read_all.Goals as goal

pub loop-i-init : goal.loop-i-init
loop-i-init c = reading-start _ _ _ _ c.told-table c.told-hashes

pub returns-in_default : goal.returns-in_default
unfolding Told
returns-in_default c = (reading-broken _ _ _ _ _ _ c.loop-i.invariant c.loop-i-test.true (rw c.in_default.is at c.finish_at.ensures), c.loop-i.invariant.size, c.loop-i.invariant.size_hashes)

pub slice_bounds-hash-count : goal.slice_bounds-hash-count
slice_bounds-hash-count c = (entry-inside _ _ _ _ _ _ c.loop-i.invariant c.loop-i-test.true c.requires _ c.in-Some.ensures).0

pub slice_bounds-hash-start : goal.slice_bounds-hash-start
slice_bounds-hash-start c = (entry-inside _ _ _ _ _ _ c.loop-i.invariant c.loop-i-test.true c.requires _ c.in-Some.ensures).0

pub slice_bounds-hash-end : goal.slice_bounds-hash-end
slice_bounds-hash-end c = (entry-inside _ _ _ _ _ _ c.loop-i.invariant c.loop-i-test.true c.requires _ c.in-Some.ensures).1

pub loop-i-preserved : goal.loop-i-preserved
loop-i-preserved c = rw c.hash.ensures (reading_step _ _ _ _ _ _ c.loop-i.invariant c.loop-i-test.true c.requires _ c.in-Some.ensures)

pub returns : goal.returns
returns c = (reading-end _ _ _ _ _ _ c.loop-i.invariant c.loop-i-test.false, c.loop-i.invariant.size, c.loop-i.invariant.size_hashes)
