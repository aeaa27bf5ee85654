-- Each frame is a finish, with one sail and one seq, or is none, as the request's words say; and the definition says which.
use Prim.Native.Nat.{ℕ}
use mathlib.Core.Path.{◌≡◌, refl, sym, ap, subst, ◌∙◌}
use mathlib.Core.Logic.{◌⊎◌, inl, inr}
use mathlib.Core.List.{List}
use mathlib.Core.Option.{Option, none, some}
use mathlib.Core.Bool.{Bool, true, false}
use lib.Dec.{eqb}
use borrow.Author.Tests.{eqb-true, eqb-false, eq-eqb, ne_eqb}
use Rattle.base.specs.Base.{when◌then◌else◌, Result, ok, stop, accepted}
use Rattle.text.specs.Text.{Text, ascii}
use Rattle.text.specs.Read.{◌>>=◌}
use Rattle.frame.specs.Kind
use Rattle.frame.specs.Tree.{Value, kind_of, number, octets, entries}
use Rattle.frame.specs.ValueFrame.{decode_value}
use Rattle.frame.specs.Sound.{checked_value}
use Rattle.frame.proofs.Passed.{stopped}
use Rattle.frame.proofs.Reading.{not-both}
use Rattle.avro.specs.Resolve.{last_under}
use Rattle.finishes.specs.Finish.{rank, string_of, long_of, fields, said, said_in, finish_of}
use Rattle.finishes.specs.Words.{IsRecord, IsFinish, NoFinish}

-- ---- the definition at each case

module _ (v : List ℕ) where
  finish-stopped : checked_value (decode_value v) ≡ stop 5 → finish_of v ≡ none
  unfolding finish_of said_in
  finish-stopped e = ap said_in e

  finish-other : (w : Value) → checked_value (decode_value v) ≡ ok w → (kind_of w ≡ Kind.Record → ⊥) → finish_of v ≡ none
  unfolding finish_of said_in said
  finish-other w e n = ap said_in e ∙ ap (λ (b : Bool). when b then fields (entries w) else none) (ne_eqb (kind_of w) Kind.Record n)

  module _ (w : Value) (r : IsRecord v w) where
    finish-fields : finish_of v ≡ (string_of (last_under (ascii "sail") (entries w)) >>= (λ x. long_of (last_under (ascii "seq") (entries w)) >>= (λ n. some (x, n))))
    unfolding finish_of said_in said fields
    finish-fields = ap said_in r.passes ∙ ap (λ (b : Bool). when b then fields (entries w) else none) (eq-eqb (kind_of w) Kind.Record r.kind)

    finish-no-sail : string_of (last_under (ascii "sail") (entries w)) ≡ none → finish_of v ≡ none
    unfolding ◌>>=◌
    finish-no-sail e = finish-fields ∙ ap (λ (o : Option Text). o >>= (λ x. long_of (last_under (ascii "seq") (entries w)) >>= (λ n. some (x, n)))) e

    finish-no-seq : long_of (last_under (ascii "seq") (entries w)) ≡ none → finish_of v ≡ none
    unfolding ◌>>=◌
    finish-no-seq e = finish-fields ∙ ap (λ (o : Option ℕ). string_of (last_under (ascii "sail") (entries w)) >>= (λ x. o >>= (λ n. some (x, n)))) e ∙ go (string_of (last_under (ascii "sail") (entries w)))
      where
        go : (o : Option Text) → (o >>= (λ x. ◌>>=◌ {A = ℕ} {B = Text × ℕ} none (λ n. some (x, n)))) ≡ none
        go none = refl
        go (some x) = refl

string-wrong : (o : Option Value) (s : Value) → o ≡ some s → (kind_of s ≡ Kind.String → ⊥) → string_of o ≡ none
unfolding string_of
string-wrong o s e n = ap string_of e ∙ ap (λ (b : Bool). when b then some (octets s) else none) (ne_eqb (kind_of s) Kind.String n)

string-right : (o : Option Value) (s : Value) → o ≡ some s → kind_of s ≡ Kind.String → string_of o ≡ some (octets s)
unfolding string_of
string-right o s e k = ap string_of e ∙ ap (λ (b : Bool). when b then some (octets s) else none) (eq-eqb (kind_of s) Kind.String k)

long-wrong : (o : Option Value) (s : Value) → o ≡ some s → (kind_of s ≡ Kind.Long → ⊥) → long_of o ≡ none
unfolding long_of
long-wrong o s e n = ap long_of e ∙ ap (λ (b : Bool). when b then some (rank (number s)) else none) (ne_eqb (kind_of s) Kind.Long n)

long-right : (o : Option Value) (s : Value) → o ≡ some s → kind_of s ≡ Kind.Long → long_of o ≡ some (rank (number s))
unfolding long_of
long-right o s e k = ap long_of e ∙ ap (λ (b : Bool). when b then some (rank (number s)) else none) (eq-eqb (kind_of s) Kind.Long k)

-- ---- each case decides the definition

pub finish-said : (v : List ℕ) (x : Text) (n : ℕ) → IsFinish v x n → finish_of v ≡ some (x, n)
unfolding ◌>>=◌
finish-said v x n f =
    finish-fields v f.tree f.whole
    ∙ ap (λ (o : Option Text). o >>= (λ x. long_of (last_under (ascii "seq") (entries f.tree)) >>= (λ n. some (x, n)))) (string-right _ f.sail f.sail_there f.sail_kind)
    ∙ ap (λ (o : Option ℕ). o >>= (λ n. some (octets f.sail, n))) (long-right _ f.seq f.seq_there f.seq_kind)
    ∙ ap (λ (x : Text). some (x, rank (number f.seq))) f.sail_is
    ∙ ap (λ (n : ℕ). some (x, n)) f.seq_is

pub none_said : (v : List ℕ) → NoFinish v → finish_of v ≡ none
unfolding string_of long_of
none_said v (NoFinish.stopped e) = finish-stopped v e
none_said v (NoFinish.no_record w e n) = finish-other v w e n
none_said v (NoFinish.lacks_sail w r e) = finish-no-sail v w r (ap string_of e)
none_said v (NoFinish.lacks_seq w r e) = finish-no-seq v w r (ap long_of e)
none_said v (NoFinish.wrong_sail w s r e n) = finish-no-sail v w r (string-wrong _ s e n)
none_said v (NoFinish.wrong_seq w s r e n) = finish-no-seq v w r (long-wrong _ s e n)

-- ---- and one of them is there

abbrev Either : List ℕ → Type 0
Either v = ((x : Text) × ((n : ℕ) × IsFinish v x n)) ⊎ NoFinish v

module _ (v : List ℕ) (w : Value) (r : IsRecord v w) where
  by-seq : (s : Value) → last_under (ascii "sail") (entries w) ≡ some s → kind_of s ≡ Kind.String → (o : Option Value) → last_under (ascii "seq") (entries w) ≡ o → Either v
  by-seq s p k none q = inr (NoFinish.lacks_seq w r q)
  by-seq s p k (some t) q = go (eqb (kind_of t) Kind.Long) refl
    where
      go : (b : Bool) → eqb (kind_of t) Kind.Long ≡ b → Either v
      go false e = inr (NoFinish.wrong_seq w t r q (eqb-false (kind_of t) Kind.Long e))
      go true e = inl (
        octets s,
        (
          rank (number t),
          record {
            tree = w;
            whole = r;
            sail = s;
            sail_there = p;
            sail_kind = k;
            sail_is = refl;
            seq = t;
            seq_there = q;
            seq_kind = eqb-true (kind_of t) Kind.Long e;
            seq_is = refl;
          },
        ),
      )

  by-sail : (o : Option Value) → last_under (ascii "sail") (entries w) ≡ o → Either v
  by-sail none q = inr (NoFinish.lacks_sail w r q)
  by-sail (some s) q = go (eqb (kind_of s) Kind.String) refl
    where
      go : (b : Bool) → eqb (kind_of s) Kind.String ≡ b → Either v
      go false e = inr (NoFinish.wrong_sail w s r q (eqb-false (kind_of s) Kind.String e))
      go true e = by-seq s q (eqb-true (kind_of s) Kind.String e) (last_under (ascii "seq") (entries w)) refl

either : (v : List ℕ) → Either v
unfolding accepted
either v = go (checked_value (decode_value v)) refl
  where
    kind : (w : Value) → checked_value (decode_value v) ≡ ok w → (b : Bool) → eqb (kind_of w) Kind.Record ≡ b → Either v
    kind w e false q = inr (NoFinish.no_record w e (eqb-false (kind_of w) Kind.Record q))
    kind w e true q = by-sail v w (record { passes = e; kind = eqb-true (kind_of w) Kind.Record q }) (last_under (ascii "sail") (entries w)) refl

    go : (c : Result Value) → checked_value (decode_value v) ≡ c → Either v
    go (ok w) e = kind w e (eqb (kind_of w) Kind.Record) refl
    go (stop n) e = inr (NoFinish.stopped (stopped v (ap accepted e)))

-- so what the definition says of a frame, the words say
pub finish-is : (v : List ℕ) (x : Text) (n : ℕ) → finish_of v ≡ some (x, n) → IsFinish v x n
finish-is v x n e = go (either v)
  where
    go : Either v → IsFinish v x n
    go (inr z) = absurd (not-both (none_said v z) e)
    go (inl f) =
        let q : ◌≡◌ {A = Option (Text × ℕ)} (some (f.0, f.1.0)) (some (x, n)) = sym (finish-said v f.0 f.1.0 f.1.1) ∙ e in
        let p : ◌≡◌ {A = Text × ℕ} (f.0, f.1.0) (x, n) = cc in
        let a : f.0 ≡ x = ap (λ (y : Text × ℕ). y.0) p in
        let b : f.1.0 ≡ n = ap (λ (y : Text × ℕ). y.1) p in
        subst (λ (m : ℕ). IsFinish v x m) b (subst (λ (y : Text). IsFinish v y f.1.0) a f.1.1)

pub none_is : (v : List ℕ) → finish_of v ≡ none → NoFinish v
none_is v e = go (either v)
  where
    go : Either v → NoFinish v
    go (inl f) = absurd (not-both e (finish-said v f.0 f.1.0 f.1.1))
    go (inr z) = z
