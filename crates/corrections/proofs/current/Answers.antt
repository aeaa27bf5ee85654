-- `corrections::current` meets its contract.
use native.Mathlib.Omega.{arith}
use mathlib.Core.Path.{refl, sym}
use Rattle.corrections.proofs.NameLaws.{told-true, told-false, many, broken, taken, too_long, done}
use Rattle.corrections.proofs.current.Goals as goal

pub returns-then-ends-gt256 : goal.returns-then-ends-gt256
returns-then-ends-gt256 c = let all = many _ _ _ (omega (arith, c.if-ends-gt256.true)) in
    record { answer = all.0; contents = all.1 }

pub returns-then-not-read_all : goal.returns-then-not-read_all
returns-then-not-read_all c = let all = broken _ _ _ c.if-ends-gt256.false (told-false _ _ _ _ _ _ (c.if-not-read_all.true) c.read_all.ensures.0) in
    record { answer = all.0; contents = all.1 }

pub list-n-requires : goal.list-n-requires
list-n-requires c = ((told-true _ _ _ _ _ _ (c.if-not-read_all.false) c.read_all.ensures.0).1, c.if-ends-gt256.false, refl)

pub returns-then-res-n : goal.returns-then-res-n
returns-then-res-n c = let all = too_long _ _ c.args.res.now c.if-ends-gt256.false _ _ _ (told-true _ _ _ _ _ _ (c.if-not-read_all.false) c.read_all.ensures.0).0 c.list-n.ensures c.if-res-n.true in
    record { answer = all.0; contents = all.1 }

pub slice_bounds-copy-end : goal.slice_bounds-copy-end
slice_bounds-copy-end c = sym (taken _ _ c.args.res.now c.if-ends-gt256.false _ _ _ (told-true _ _ _ _ _ _ (c.if-not-read_all.false) c.read_all.ensures.0).0 c.list-n.ensures)

pub copy-requires : goal.copy-requires
copy-requires c = let h = taken _ _ c.args.res.now c.if-ends-gt256.false _ _ _ (told-true _ _ _ _ _ _ (c.if-not-read_all.false) c.read_all.ensures.0).0 c.list-n.ensures in omega (arith, c.if-res-n.false)

pub returns : goal.returns
returns c = let all = done _ _ c.args.res.now c.if-ends-gt256.false _ _ _ (told-true _ _ _ _ _ _ (c.if-not-read_all.false) c.read_all.ensures.0).0 c.list-n.ensures _ c.if-res-n.false c.copy.ensures in
    record { answer = all.0; contents = all.1 }
