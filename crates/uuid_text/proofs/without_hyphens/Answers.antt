-- Every place lies in the text, and the digits at all of them are what is left without hyphens. Assumes nothing.
use mathlib.Core.Path.{◌≡◌, refl, ap, sym, ◌∙◌}
use mathlib.Core.List.{List, [], ◌∷◌, ◌++◌}
use Prim.Native.Nat.{ℕ}
use native.Mathlib.Omega.{arith}
use native.Mathlib.Numerals.{add-one}
use lib.ListN.{get_or, length-set}
use lib.Seq.{take-suc-set, take_all}
use Rattle.uuid_text.specs.Forms.{place}
use Rattle.uuid_text.proofs.Groups36.{picked, picked-without_hyphens, place-below}
use Rattle.uuid_text.proofs.without_hyphens.Goals as goal

pub loop-k-init : goal.loop-k-init
unfolding picked
loop-k-init c = (refl, refl)

pub bounds-s-place : goal.bounds-s-place
bounds-s-place c = omega (arith, c.place.ensures, place-below c.loop-k.k (omega arith))

pub loop-k-preserved : goal.loop-k-preserved
unfolding picked
loop-k-preserved c =
    let s = c.args.s.now in
    let k = c.loop-k.k in
    let d = c.loop-k.d in
    (length-set d k _ ∙ c.loop-k.invariant.0, rw (add-one, c.place.ensures) (take-suc-set d k (get_or s (place k) 0) (omega arith) ∙ ap (λ (l : List ℕ). l ++ (get_or s (place k) 0 ∷ [])) c.loop-k.invariant.1))

pub returns : goal.returns
returns c =
    let s = c.args.s.now in
    let k = c.loop-k.k in
    let d = c.loop-k.d in
    let e : k ≡ 32 = omega arith in
    sym (take_all 32 d (omega arith)) ∙ rw e at c.loop-k.invariant.1 ∙ picked-without_hyphens s (omega arith)
