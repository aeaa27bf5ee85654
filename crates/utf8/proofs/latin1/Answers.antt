-- `utf8::latin1` meets its contract: the loop keeps the buffer as it is to be once what is left is written. Assumes nothing.
use mathlib.Core.Path.{◌≡◌, refl, ap, sym, ◌∙◌}
use mathlib.Core.List.{List, []}
use Prim.Native.Nat.{ℕ, ◌+◌, ◌<◌}
use native.Mathlib.Omega.{arith}
use lib.ListN.{length, drop, length-drop, length-set, drop_of_length-le}
use borrow.Author.Rules.{part_to_end}
use Rattle.utf8.specs.Utf8.{Start, points_from, all_latin1}
use Rattle.utf8.proofs.Walk.{next-point, next-high, filled, filled-set, filled-nil, filled_zero, all_latin1-tail}
use Rattle.utf8.proofs.latin1.Goals as goal

pub loop-i-init : goal.loop-i-init
loop-i-init c = (omega arith, c.requires.0, c.requires.1, omega (arith, c.requires.2), refl, filled_zero c.args.out.now (points_from Start 0 c.args.s.now))

pub front_point-requires : goal.front_point-requires
front_point-requires c =
    let s = c.args.s.now in
    let i = c.loop-i.i in
    rw (part_to_end s i) (simp length-drop (omega arith), c.loop-i.invariant.1)

pub bounds-out-n : goal.bounds-out-n
bounds-out-n c =
    let s = c.args.s.now in
    let i = c.loop-i.i in
    let f = next-point s i c.in-Some.point (omega arith) c.in-Some.ensures in
    omega (arith, ap length f.3, c.loop-i.invariant.3)

pub overflow_add-n : goal.overflow_add-n
overflow_add-n c =
    let s = c.args.s.now in
    let i = c.loop-i.i in
    let f = next-point s i c.in-Some.point (omega arith) c.in-Some.ensures in
    omega (arith, ap length f.3, c.loop-i.invariant.3)

pub overflow_add-i : goal.overflow_add-i
overflow_add-i c =
    let s = c.args.s.now in
    let i = c.loop-i.i in
    let f = next-point s i c.in-Some.point (omega arith) c.in-Some.ensures in
    omega (arith, f.1)

pub loop-i-smaller : goal.loop-i-smaller
loop-i-smaller c =
    let s = c.args.s.now in
    let i = c.loop-i.i in
    let f = next-point s i c.in-Some.point (omega arith) c.in-Some.ensures in
    omega (arith, f.0, f.1)

pub loop-i-preserved : goal.loop-i-preserved
loop-i-preserved c =
    let s = c.args.s.now in
    let i = c.loop-i.i in
    let f = next-point s i c.in-Some.point (omega arith) c.in-Some.ensures in
    let n = c.loop-i.n in
    let lt : n < length c.loop-i.out = omega (arith, ap length f.3, c.loop-i.invariant.3) in
    (f.1, f.4, sym (all_latin1-tail c.in-Some.point.value (points_from Start 0 (drop (i + c.in-Some.point.size) s)) f.2) ∙ ap all_latin1 (sym f.3) ∙ c.loop-i.invariant.2, rw length-set (omega (arith, ap length f.3, c.loop-i.invariant.3)), rw length-set c.loop-i.invariant.4, filled-set c.loop-i.out n c.in-Some.point.value (points_from Start 0 (drop (i + c.in-Some.point.size) s)) lt ∙ ap (filled c.loop-i.out n) (sym f.3) ∙ c.loop-i.invariant.5)

pub returns-in_default : goal.returns-in_default
returns-in_default c =
    let f = next-high c.args.s.now c.loop-i.i c.in_default.ensures in
    let t = c.loop-i.invariant.2 in
    let z : ◌≡◌ {A = ℕ} 0 1 = cc in
    absurd (omega arith)

pub returns : goal.returns
unfolding points_from
returns c =
    let s = c.args.s.now in
    let i = c.loop-i.i in
    let e : drop i s ≡ [] = drop_of_length-le s {i = i} (omega arith) in
    sym (filled-nil c.loop-i.out c.loop-i.n) ∙ ap (λ (l : List ℕ). filled c.loop-i.out c.loop-i.n (points_from Start 0 l)) (sym e) ∙ c.loop-i.invariant.5
