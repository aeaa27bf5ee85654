-- `find::find_in` meets its contract.
use native.Mathlib.Omega.{arith}
use Rattle.find.proofs.FindLaws.{located-at}
use Rattle.find.proofs.MarkLaws.{marked-told, told_none, told-some}
use Rattle.find.proofs.find_in.Goals as goal

pub find-requires : goal.find-requires
find-requires c = let w = marked-told _ _ _ (rw c.in-Some.is at c.requires.2) in (w.places, w.indexed)

pub returns-in_err-place : goal.returns-in_err-place
returns-in_err-place c = let w = marked-told _ _ _ (rw c.in-Some.is at c.requires.2) in rw c.from_residual.ensures (told_none _ _ _ w _ (c.in_err-place.ensures w.places w.indexed))

pub overflow_add-result : goal.overflow_add-result
overflow_add-result c = let w = marked-told _ _ _ (rw c.in-Some.is at c.requires.2) in let h = (located-at _ _ _ _ (told-some _ _ _ w _ _ (c.in_ok-place.ensures w.places w.indexed))).0 in omega arith

pub overflow_add-result-2 : goal.overflow_add-result-2
overflow_add-result-2 c = let w = marked-told _ _ _ (rw c.in-Some.is at c.requires.2) in let h = (located-at _ _ _ _ (told-some _ _ _ w _ _ (c.in_ok-place.ensures w.places w.indexed))).0 in omega arith

pub returns : goal.returns
returns c = let w = marked-told _ _ _ (rw c.in-Some.is at c.requires.2) in told-some _ _ _ w _ _ (c.in_ok-place.ensures w.places w.indexed)
