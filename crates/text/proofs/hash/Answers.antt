-- `text::hash` meets its contract.
use mathlib.Core.Path.{refl, sym, ap, ◌∙◌}
use native.Mathlib.Numerals.{add-one}
use native.Mathlib.Omega.{arith}
use Rattle.text.specs.Hash.{hash_with, hashed, mixed}
use Rattle.text.proofs.HashLaws.{hash-short, hash-long}
use Rattle.text.proofs.hash.Goals as goal

pub returns-then-t-lt4 : goal.returns-then-t-lt4
returns-then-t-lt4 c = c.mix.ensures ∙ ap mixed c.short.ensures.0 ∙ sym (hash-short c.args.t.now c.if-t-lt4.true)

pub loop-k-init : goal.loop-k-init
unfolding hashed
loop-k-init c = (omega arith, refl)

pub loop-k-preserved : goal.loop-k-preserved
unfolding hashed
loop-k-preserved c =
    let t = c.args.t.now in
    (c.with_word-x.ensures.1, rw add-one (c.with_word-x.ensures.0 ∙ ap (λ x. hash_with x c.read4.result) c.loop-k.invariant.1 ∙ ap (hash_with (hashed t c.loop-k.k)) c.read4.ensures))

pub returns : goal.returns
returns c =
    let t = c.args.t.now in
    let k = c.loop-k.k in
    let e = ap (λ x. hash_with x c.read4-2.result) c.loop-k.invariant.1 ∙ ap (hash_with (hashed t k)) c.read4-2.ensures in
    c.mix-2.ensures ∙ ap mixed (c.with_word.ensures.0 ∙ e) ∙ sym (hash-long t k (omega arith) (omega arith))
