-- What the calendar's entries say of frames, at each way of the code.
use Prim.Native.Nat.{ℕ, ◌≤◌}
use mathlib.Core.Path.{◌≡◌, refl, sym, ap, ◌∙◌}
use mathlib.Core.List.{List, ◌++◌, append-nil}
use mathlib.Core.Option.{some}
use mathlib.Core.Bool.{Bool, true, false}
use native.Mathlib.Omega.{arith}
use lib.Dec.{T, eqb}
use lib.IntN.{pos}
use lib.ListN.{length, take, drop, get_or, length-drop}
use lib.Seq.{drop-length, length-take-le}
use borrow.Author.Tests.{eq-eqb, ne_eqb}
use Rattle.base.specs.Base.{when◌then◌else◌, ok, stop, after}
use Rattle.number.specs.Number.{all_bytes}
use Rattle.text.specs.Measured.{Reads}
use Rattle.duration.specs.Duration.{duration_of}
use Rattle.duration.specs.declared.Duration.{Duration}
use Rattle.scalar.specs.Scalars.{is_scalar}
use Rattle.scalar.specs.declared.Scalar.{Scalar}
use Rattle.scalar.specs.declared.Scalar.TheVariants.{Int}
use Rattle.frame.specs.Kind
use Rattle.frame.specs.Tree.{Value, kind_of, octets}
use Rattle.frame.specs.ValueFrame.{read_value}
use Rattle.frame.proofs.Reading.{read-what}
use Rattle.frame.proofs.Passed.{Passes, passed, stopped, passed_reads}
use Rattle.frame.proofs.ValueNodes.{value-kind}
use Rattle.types.specs.Contract.{scalar_of}
use Rattle.types.proofs.Contents.{duration-content}
use Rattle.types.proofs.PartLaws.{plain-node}
use Rattle.calendar.specs.Instants.{sum, window_holds}
use Rattle.instants.specs.Frames.{instant_in, duration_in, frame_sum, held_for}

-- ---- the answer of a test that the code turns round
pub denied : {a b : Bool} → a ≡ b → a ≡ false → b ≡ false
denied e h = sym e ∙ h

pub granted : {a b : Bool} → a ≡ b → a ≡ true → b ≡ true
granted e h = sym e ∙ h

-- ---- an instant, and a Duration, in a node
pub scalar-instant : (v : List ℕ) (x : Value) → kind_of x ≡ get_or v 0 0 → is_scalar (get_or v 0 0) ≡ true → scalar_of x ≡ instant_in x
unfolding instant_in
scalar-instant v x k e = sym (ap (λ (t : Bool). when t then scalar_of x else Int (pos 0)) (ap is_scalar k ∙ e))

pub no-instant : (v : List ℕ) (x : Value) → kind_of x ≡ get_or v 0 0 → is_scalar (get_or v 0 0) ≡ false → Int (pos 0) ≡ instant_in x
unfolding instant_in
no-instant v x k e = sym (ap (λ (t : Bool). when t then scalar_of x else Int (pos 0)) (ap is_scalar k ∙ e))

pub duration-there : (v : List ℕ) → Reads (read_value 16 v) → get_or v 0 0 ≡ Kind.Duration → 13 ≤ length v
duration-there v r k = (plain-node 16 v r Kind.Duration 12 duration-content k).0

pub duration-length : (v : List ℕ) → Reads (read_value 16 v) → get_or v 0 0 ≡ Kind.Duration → length (take 12 (drop 1 v)) ≡ 12
duration-length v r k = length-take-le 12 (drop 1 v) (omega (arith, length-drop 1 v, duration-there v r k))

pub duration-read : (v : List ℕ) → Reads (read_value 16 v) → get_or v 0 0 ≡ Kind.Duration → (w : Value) (u : List ℕ) → read_value 16 v ≡ some (w, u) → take 12 (drop 1 v) ≡ octets w
unfolding octets
duration-read v r k w u e =
    let n = (plain-node 16 v r Kind.Duration 12 duration-content k).1 in
    ap octets (read-what (sym n ∙ e))

-- a copy over as many bytes
pub copied-whole : (t z b : List ℕ) → length t ≡ 12 → length z ≡ 12 → b ≡ t ++ drop (length t) z → b ≡ t
copied-whole t z b l m e = e ∙ ap (λ (y : List ℕ). t ++ y) (ap (λ (k : ℕ). drop k z) (l ∙ sym m) ∙ drop-length z) ∙ append-nil t

-- ---- the sum of two frames
module _ (i d : List ℕ) where
  pub sum-no-instant : Passes i ≡ false → frame_sum i d ≡ stop 5
  unfolding frame_sum after
  sum-no-instant e = rw (stopped i e) refl

  module _ (p : Passes i ≡ true) where
    pub sum-no-duration : Passes d ≡ false → frame_sum i d ≡ stop 5
    unfolding frame_sum after
    sum-no-duration e = rw ((passed i p).1, stopped d e) refl

    module _ (q : Passes d ≡ true) (bytes : T (all_bytes d)) where
      kind-of : kind_of (passed d q).0 ≡ get_or d 0 0
      kind-of = let r = passed_reads d (passed d q).0 (passed d q).1 in value-kind 16 d bytes (passed d q).0 r.0 r.1

      both : frame_sum i d ≡ after (duration_in (passed d q).0) (λ y. sum (instant_in (passed i p).0) y)
      unfolding frame_sum after
      both = rw ((passed i p).1, (passed d q).1) refl

      pub sum-other : (get_or d 0 0 ≡ Kind.Duration → ⊥) → frame_sum i d ≡ stop 6
      unfolding duration_in after
      sum-other h = both ∙ ap (λ (t : Bool). after (when t then ok (duration_of (octets (passed d q).0)) else stop 6) (λ y. sum (instant_in (passed i p).0) y)) (ap (λ (k : ℕ). eqb k Kind.Duration) kind-of ∙ ne_eqb (get_or d 0 0) Kind.Duration h)

      pub sum-of-both : get_or d 0 0 ≡ Kind.Duration → (x : Scalar) (y : Duration)
          → ((w : Value) (u : List ℕ) → read_value 16 i ≡ some (w, u) → x ≡ instant_in w) → ((w : Value) (u : List ℕ) → read_value 16 d ≡ some (w, u) → y ≡ duration_of (octets w)) → sum x y ≡ frame_sum i d
      unfolding duration_in after
      sum-of-both h x y f g =
          let a = passed_reads i (passed i p).0 (passed i p).1 in
          let b = passed_reads d (passed d q).0 (passed d q).1 in
          let ex = f (passed i p).0 a.0 a.1 in
          let ey = g (passed d q).0 b.0 b.1 in
          ap (λ (z : Scalar). sum z y) ex
          ∙ ap (sum (instant_in (passed i p).0)) ey
          ∙ sym (both ∙ ap (λ (t : Bool). after (when t then ok (duration_of (octets (passed d q).0)) else stop 6) (λ z. sum (instant_in (passed i p).0) z)) (ap (λ (k : ℕ). eqb k Kind.Duration) kind-of ∙ eq-eqb (get_or d 0 0) Kind.Duration h))

-- ---- a window of frames
module _ (o c m : List ℕ) where
  pub held-no-opening : Passes o ≡ false → held_for o c m ≡ stop 5
  unfolding held_for after
  held-no-opening e = rw (stopped o e) refl

  pub held-no-closing : Passes o ≡ true → Passes c ≡ false → held_for o c m ≡ stop 5
  unfolding held_for after
  held-no-closing p e = rw ((passed o p).1, stopped c e) refl

  pub held-no-instant : Passes o ≡ true → Passes c ≡ true → Passes m ≡ false → held_for o c m ≡ stop 5
  unfolding held_for after
  held-no-instant p q e = rw ((passed o p).1, (passed c q).1, stopped m e) refl

  pub held-of-all : Passes o ≡ true → Passes c ≡ true → Passes m ≡ true → (x y z : Scalar)
      → ((w : Value) (u : List ℕ) → read_value 16 o ≡ some (w, u) → x ≡ instant_in w) → ((w : Value) (u : List ℕ) → read_value 16 c ≡ some (w, u) → y ≡ instant_in w) → ((w : Value) (u : List ℕ) → read_value 16 m ≡ some (w, u) → z ≡ instant_in w)
      → window_holds x y z ≡ held_for o c m
  unfolding held_for after
  held-of-all p q r x y z f g h =
      let a = passed_reads o (passed o p).0 (passed o p).1 in
      let b = passed_reads c (passed c q).0 (passed c q).1 in
      let e = passed_reads m (passed m r).0 (passed m r).1 in
      rw ((passed o p).1, (passed c q).1, (passed m r).1) (cc (f (passed o p).0 a.0 a.1, g (passed c q).0 b.0 b.1, h (passed m r).0 e.0 e.1))
