-- The digits that are read pair by pair, and the first that is none. Assumes nothing.
use mathlib.Core.Path.{◌≡◌, refl, ap, sym, ◌∙◌}
use mathlib.Core.List.{[], ◌∷◌, ◌++◌, append-nil}
use mathlib.Core.Option.{none, some}
use Prim.Native.Nat.{◌+◌, ◌*◌}
use native.Mathlib.Omega.{arith}
use native.Mathlib.Numerals.{add-one}
use lib.ListN.{take, drop, set, length-set, drop_of_length-le}
use lib.Seq.{take-suc-set, take_all}
use Rattle.uuid_text.specs.Uuid.{hex_pair, hex_bytes, parsed}
use Rattle.uuid_text.proofs.Digits.{parsed-some, parsed-none, digit-small, hex_bytes-drop, behind, behind-nil, behind-pair}
use Rattle.uuid_text.proofs.hex_bytes.Goals as goal

pub loop-i-init : goal.loop-i-init
loop-i-init c = (refl, behind-nil _)

pub returns-in_err-h : goal.returns-in_err-h
unfolding behind hex_pair
returns-in_err-h c =
    let d = c.args.d.now in
    let i = c.loop-i.i in
    let high = parsed-none _ c.in_err-h.ensures in
    let e : hex_bytes (drop (2 * i) d) ≡ none = hex_bytes-drop d (2 * i) (omega arith) ∙ rw high refl in
    rw c.from_residual.ensures (ap parsed (sym (ap (behind (take i c.loop-i.out)) e) ∙ c.loop-i.invariant.1))

pub returns-in_err-l : goal.returns-in_err-l
unfolding behind hex_pair
returns-in_err-l c =
    let d = c.args.d.now in
    let i = c.loop-i.i in
    let high = parsed-some _ _ c.in_ok-h.ensures in
    let low = parsed-none _ c.in_err-l.ensures in
    let e : hex_bytes (drop (2 * i) d) ≡ none = hex_bytes-drop d (2 * i) (omega arith) ∙ rw (high, low) refl in
    rw c.from_residual-in_err-l.ensures (ap parsed (sym (ap (behind (take i c.loop-i.out)) e) ∙ c.loop-i.invariant.1))

pub overflow_mul-out : goal.overflow_mul-out
overflow_mul-out c = omega (arith, digit-small _ _ (parsed-some _ _ c.in_ok-h.ensures))

pub overflow_add-out : goal.overflow_add-out
overflow_add-out c = omega (arith, digit-small _ _ (parsed-some _ _ c.in_ok-h.ensures), digit-small _ _ (parsed-some _ _ c.in_ok-l.ensures))

pub loop-i-preserved : goal.loop-i-preserved
loop-i-preserved c =
    let d = c.args.d.now in
    let i = c.loop-i.i in
    let out = c.loop-i.out in
    let h = c.in_ok-h.h in
    let l = c.in_ok-l.l in
    let high = parsed-some _ _ c.in_ok-h.ensures in
    let low = parsed-some _ _ c.in_ok-l.ensures in
    let e : 2 * (i + 1) ≡ 2 * i + 2 = omega arith in
    let pair : hex_bytes (drop (2 * i) d) ≡ hex_pair (some h) (some l) (hex_bytes (drop (2 * i + 2) d)) = hex_bytes-drop d (2 * i) (omega arith) ∙ rw (high, low) refl in
    let front : take (i + 1) (set out i (h * 16 + l)) ≡ take i out ++ ((h * 16 + l) ∷ []) = rw add-one (take-suc-set out i (h * 16 + l) (omega arith)) in
    (length-set out i _ ∙ c.loop-i.invariant.0, rw (e, front) (sym (behind-pair (take i out) h l (hex_bytes (drop (2 * i + 2) d))) ∙ ap (behind (take i out)) (sym pair) ∙ c.loop-i.invariant.1))

pub returns : goal.returns
unfolding behind hex_bytes
returns c =
    let d = c.args.d.now in
    let i = c.loop-i.i in
    let out = c.loop-i.out in
    let end : drop (2 * i) d ≡ [] = drop_of_length-le d {i = 2 * i} (omega arith) in
    let all : some (out ++ []) ≡ hex_bytes d = rw (end, take_all i out (omega arith)) at c.loop-i.invariant.1 in
    rw (sym all, append-nil out) refl
