-- The text begins with `urn:uuid:`, or not. Assumes nothing.
use mathlib.Core.Path.{◌≡◌, ap, sym, ◌∙◌}
use mathlib.Core.List.{List}
use mathlib.Core.Bool.{Bool, true, false}
use mathlib.Core.Option.{none}
use Prim.Native.Nat.{ℕ}
use native.Mathlib.Omega.{arith}
use lib.ListN.{take, drop, length-drop}
use lib.Seq.{take_all}
use Rattle.base.specs.Base.{when◌then◌else◌}
use Rattle.text.specs.Text.{ascii, same}
use Rattle.uuid_text.specs.Uuid.{hyphenated, after_urn, parsed}
use Rattle.uuid_text.proofs.urn.Goals as goal

pub returns-then-same : goal.returns-then-same
unfolding after_urn ascii
returns-then-same c =
    let s = c.args.s.now in
    let e : same (take 9 s) (ascii "urn:uuid:") ≡ true = sym c.same.ensures ∙ c.if-same.true in
    let all : take 36 (drop 9 s) ≡ drop 9 s = take_all 36 (drop 9 s) (simp length-drop (omega arith)) in
    c.groups.ensures ∙ ap (λ (t : List ℕ). parsed (hyphenated t)) all
    ∙ ap (λ (b : Bool). parsed (when b then hyphenated (drop 9 s) else none)) (sym e)

pub returns-else-same : goal.returns-else-same
unfolding after_urn ascii
returns-else-same c =
    let s = c.args.s.now in
    let e : same (take 9 s) (ascii "urn:uuid:") ≡ false = sym c.same.ensures ∙ c.if-same.false in
    ap (λ (b : Bool). parsed (when b then hyphenated (drop 9 s) else none)) (sym e)
