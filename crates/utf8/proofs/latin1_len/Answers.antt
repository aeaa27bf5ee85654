-- `utf8::latin1_len` meets its contract: the loop keeps the count of what is passed and of what is left. Assumes nothing.
use mathlib.Core.Path.{◌≡◌, ap, sym, ◌∙◌}
use mathlib.Core.List.{List, []}
use Prim.Native.Nat.{ℕ, ◌+◌}
use native.Mathlib.Omega.{arith}
use lib.ListN.{drop, length-drop, drop_of_length-le}
use borrow.Author.Rules.{part_to_end}
use Rattle.utf8.specs.Utf8.{Start, points_from}
use Rattle.utf8.proofs.Walk.{next-point, next-high, counted, counted-zero, counted-cons, counted-above, counted-nil}
use Rattle.utf8.proofs.latin1_len.Goals as goal

pub loop-i-init : goal.loop-i-init
loop-i-init c = (omega arith, omega arith, c.requires, counted-zero (points_from Start 0 c.args.s.now))

pub front_point-requires : goal.front_point-requires
front_point-requires c =
    let s = c.args.s.now in
    let i = c.loop-i.i in
    rw (part_to_end s i) (simp length-drop (omega arith), c.loop-i.invariant.2)

pub overflow_add-i : goal.overflow_add-i
overflow_add-i c =
    let s = c.args.s.now in
    let i = c.loop-i.i in
    let f = next-point s i c.in_ok-point.point (omega arith) c.in_ok-point.ensures in
    omega (arith, f.1)

pub loop-i-smaller : goal.loop-i-smaller
loop-i-smaller c =
    let s = c.args.s.now in
    let i = c.loop-i.i in
    let f = next-point s i c.in_ok-point.point (omega arith) c.in_ok-point.ensures in
    omega (arith, f.0, f.1)

pub loop-i-preserved : goal.loop-i-preserved
loop-i-preserved c =
    let s = c.args.s.now in
    let i = c.loop-i.i in
    let f = next-point s i c.in_ok-point.point (omega arith) c.in_ok-point.ensures in
    (f.1, omega (arith, f.0), f.4, sym (counted-cons c.loop-i.n c.in_ok-point.point.value (points_from Start 0 (drop (i + c.in_ok-point.point.size) s)) f.2) ∙ ap (counted c.loop-i.n) (sym f.3) ∙ c.loop-i.invariant.3)

pub returns-in_err-point : goal.returns-in_err-point
returns-in_err-point c =
    let s = c.args.s.now in
    let i = c.loop-i.i in
    let f = next-high s i c.in_err-point.ensures in
    rw c.from_residual.ensures (sym (counted-above c.loop-i.n (points_from Start 0 (drop i s)) f) ∙ c.loop-i.invariant.3)

pub returns : goal.returns
unfolding points_from
returns c =
    let s = c.args.s.now in
    let i = c.loop-i.i in
    let e : drop i s ≡ [] = drop_of_length-le s {i = i} (omega arith) in
    sym (counted-nil c.loop-i.n) ∙ ap (λ (l : List ℕ). counted c.loop-i.n (points_from Start 0 l)) (sym e) ∙ c.loop-i.invariant.3
