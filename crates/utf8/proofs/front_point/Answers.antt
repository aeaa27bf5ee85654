-- `utf8::front_point` meets its contract: one byte, two bytes, or a code point past 255. Assumes nothing.
use native.Mathlib.Omega.{arith}
use Rattle.utf8.specs.Front.{AtFront}
use Rattle.utf8.proofs.CodePoints.{front-one, front-two, front_above}
use Rattle.utf8.proofs.front_point.Goals as goal

pub returns-then-b-le127 : goal.returns-then-b-le127
unfolding AtFront
returns-then-b-le127 c =
    let s = c.args.s.now in
    let f = front-one s c.requires.0 c.if-b-le127.true c.requires.1 in
    (omega arith, omega arith, omega arith, f.0, f.1)

pub returns-then-b-gt195 : goal.returns-then-b-gt195
unfolding AtFront
returns-then-b-gt195 c = front_above c.args.s.now c.requires.0 c.if-b-gt195.true (omega (arith, c.type_inv.s 0)) c.requires.1

pub overflow_sub-result : goal.overflow_sub-result
overflow_sub-result c =
    let f = front-two c.args.s.now c.requires.0 (omega arith) (omega arith) c.requires.1 in
    omega (arith, f.0)

pub bounds-s-1 : goal.bounds-s-1
bounds-s-1 c =
    let f = front-two c.args.s.now c.requires.0 (omega arith) (omega arith) c.requires.1 in
    omega (arith, f.1)

pub overflow_sub-result-2 : goal.overflow_sub-result-2
overflow_sub-result-2 c =
    let f = front-two c.args.s.now c.requires.0 (omega arith) (omega arith) c.requires.1 in
    omega (arith, f.2)

pub overflow_add-result : goal.overflow_add-result
overflow_add-result c =
    let f = front-two c.args.s.now c.requires.0 (omega arith) (omega arith) c.requires.1 in
    omega (arith, f.0, f.2, f.3)

pub returns : goal.returns
unfolding AtFront
returns c =
    let f = front-two c.args.s.now c.requires.0 (omega arith) (omega arith) c.requires.1 in
    (omega arith, f.1, omega (arith, f.0, f.2, f.3), f.4, f.5)
