-- The pairs that are read, the first character that is no digit, and a last one with no partner. Assumes nothing.
use mathlib.Core.Path.{◌≡◌, refl}
use Prim.Native.Nat.{◌*◌, ◌/◌}
use lib.ListN.{length}
use native.Mathlib.Omega.{arith}
use Rattle.std.proofs.lemmas.Result.{err_from_is_err_and}
use Rattle.hex_text.specs.Line.{LineHeld}
use Rattle.uuid_text.proofs.Digits.{digit-small}
use Rattle.hex_text.proofs.LineLaws.{read-nothing, read-pair, high-broken, low-broken, odd-broken, digit-read, digit-broken, long-line, broken-line, whole-line, held}
use Rattle.hex_text.proofs.from_hex.Goals as goal

pub returns-then-out-pairs : goal.returns-then-out-pairs
unfolding LineHeld
returns-then-out-pairs c = record { value = long-line _ _ c.if-out-pairs.true; line_held = refl }

pub loop-i-init : goal.loop-i-init
loop-i-init c = read-nothing _ _

pub returns-in_err-h : goal.returns-in_err-h
unfolding LineHeld
returns-in_err-h c =
    let high = digit-broken _ _ _ c.value.ensures c.in_err-h.ensures.value in
    let p = err_from_is_err_and c.from_residual.result c.from_residual.ensures.1 in
    let e = high-broken _ _ _ _ (omega arith) high.0 c.loop-i.invariant in
    rw (p.1, p.2, high.1) (record { value = broken-line _ _ c.if-out-pairs.false e; line_held = c.loop-i.invariant.size })

pub returns-in_err-l : goal.returns-in_err-l
unfolding LineHeld
returns-in_err-l c =
    let high = digit-read _ _ _ c.value.ensures c.in_ok-h.ensures.value in
    let low = digit-broken _ _ _ c.value-in-loop-i.ensures c.in_err-l.ensures.value in
    let p = err_from_is_err_and c.from_residual-in_err-l.result c.from_residual-in_err-l.ensures.1 in
    let e = low-broken _ _ _ _ _ (omega arith) high low.0 c.loop-i.invariant in
    rw (p.1, p.2, low.1) (record { value = broken-line _ _ c.if-out-pairs.false e; line_held = c.loop-i.invariant.size })

pub overflow_mul-out : goal.overflow_mul-out
overflow_mul-out c = omega (arith, digit-small _ _ (digit-read _ _ _ c.value.ensures c.in_ok-h.ensures.value))

pub overflow_add-out : goal.overflow_add-out
overflow_add-out c =
    let high = digit-read _ _ _ c.value.ensures c.in_ok-h.ensures.value in
    let low = digit-read _ _ _ c.value-in-loop-i.ensures c.in_ok-l.ensures.value in
    omega (arith, digit-small _ _ high, digit-small _ _ low)

pub loop-i-preserved : goal.loop-i-preserved
loop-i-preserved c =
    let high = digit-read _ _ _ c.value.ensures c.in_ok-h.ensures.value in
    let low = digit-read _ _ _ c.value-in-loop-i.ensures c.in_ok-l.ensures.value in
    read-pair _ _ _ _ _ _ (omega arith) (omega arith) high low c.loop-i.invariant

pub returns-then-pairs-line : goal.returns-then-pairs-line
unfolding LineHeld
returns-then-pairs-line c =
    let e = odd-broken _ _ _ _ (omega arith) c.loop-i.invariant in
    record { value = broken-line _ _ c.if-out-pairs.false e; line_held = c.loop-i.invariant.size }

pub returns : goal.returns
returns c =
    let i = c.loop-i.i in
    let half : i ≡ length c.args.line.now / 2 = omega arith in
    let even : length c.args.line.now ≡ 2 * i = omega arith in
    rw (← half) (record { value = whole-line _ _ _ _ (omega arith) even c.loop-i.invariant; line_held = held _ _ _ _ (omega arith) even c.loop-i.invariant })
