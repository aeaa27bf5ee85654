-- What a nullable pair is, by the rules' sentence: Null and one variant that isn't Null, with a kind table that leads to Null from kind 00 and no other, and never
-- leads kind 00 elsewhere.
use Prim.Native.Nat.{ℕ}
use mathlib.Core.Path.{◌≡◌, refl, subst}
use mathlib.Core.List.{List, [], ◌∷◌}
use mathlib.Core.Bool.{Bool, true, false, ◌&&◌, not, beq}
use lib.Dec.{T, eqb, eqb→eq, eqb_refl}
use lib.Ieee.Bits.{is_true, is_false}
use lib.Ieee.Fits.{and_l, and_r, and_i}
use Rattle.base.specs.Base.{when◌then◌else◌}
use Rattle.frame.specs.Kind
use Rattle.frame.specs.Tree.{Schema, Variants, no_variants, variant}
use Rattle.avro.specs.Pairs.{is_null, only_null_leads_to, nullable_pair}

-- the table leads kind k to position q
pub data Leads (k q : ℕ) : List (ℕ × ℕ) → Type 0 where
  this-lead : {ks : List (ℕ × ℕ)} → Leads k q ((k, q) ∷ ks)
  later-lead : {e : ℕ × ℕ} {ks : List (ℕ × ℕ)} → Leads k q ks → Leads k q (e ∷ ks)

-- to position p from kind 00 and no other, and kind 00 nowhere else
pub record NullAt (p : ℕ) (ks : List (ℕ × ℕ)) : Type 0 where
  pub no_other : (k : ℕ) → Leads k p ks → k ≡ Kind.Null
  pub not-elsewhere : (q : ℕ) → Leads Kind.Null q ks → q ≡ p

pub data NullablePair (ks : List (ℕ × ℕ)) : Variants → Type 0 where
  null-first : {a b : Schema} → T (is_null a) → T (not (is_null b)) → NullAt 0 ks → NullablePair ks (variant a (variant b no_variants))
  null-second : {a b : Schema} → T (not (is_null a)) → T (is_null b) → NullAt 1 ks → NullablePair ks (variant a (variant b no_variants))

-- ---- the kind table

abbrev lead_only : ℕ → ℕ → ℕ → Bool
lead_only p k q = beq (eqb k Kind.Null) (eqb q p)

lead-holds : {k q : ℕ} (p : ℕ) {ks : List (ℕ × ℕ)} → Leads k q ks → T (only_null_leads_to p ks) → T (lead_only p k q)
unfolding only_null_leads_to
lead-holds {k} {q} p (this-lead {ks = ks}) h = and_l (lead_only p k q) (only_null_leads_to p ks) h
lead-holds p (later-lead {e = e} {ks = ks} l) h = lead-holds p l (and_r (lead_only p e.0 e.1) (only_null_leads_to p ks) h)

beq-l : (a b : Bool) → T (beq a b) → T a → T b
beq-l true true h k = tt
beq-l true false h k = absurd h
beq-l false b h k = absurd k

beq-r : (a b : Bool) → T (beq a b) → T b → T a
beq-r true b h k = tt
beq-r false true h k = absurd h
beq-r false false h k = absurd k

beq-i : (a b : Bool) → (T a → T b) → (T b → T a) → T (beq a b)
beq-i true true f g = tt
beq-i true false f g = absurd (f tt)
beq-i false true f g = absurd (g tt)
beq-i false false f g = tt

table-told : (p : ℕ) (ks : List (ℕ × ℕ)) → T (only_null_leads_to p ks) → NullAt p ks
table-told p ks h = record {
  no_other = λ k l. eqb→eq k Kind.Null (beq-r (eqb k Kind.Null) (eqb p p) (lead-holds p l h) (eqb_refl p));
  not-elsewhere = λ q l. eqb→eq q p (beq-l true (eqb q p) (lead-holds p l h) tt);
}

eqb_of : {m n : ℕ} → m ≡ n → T (eqb m n)
eqb_of {m} {n} e = subst (λ (j : ℕ). T (eqb m j)) e (eqb_refl m)

table-only : (p : ℕ) (ks : List (ℕ × ℕ)) → NullAt p ks → T (only_null_leads_to p ks)
unfolding only_null_leads_to
table-only p [] a = tt
table-only p ((k, q) ∷ ks) a =
    and_i (lead_only p k q) (only_null_leads_to p ks)
    (beq-i (eqb k Kind.Null) (eqb q p)
    (λ h. eqb_of (a.not-elsewhere q (subst (λ (j : ℕ). Leads j q ((k, q) ∷ ks)) (eqb→eq k Kind.Null h) this-lead)))
    (λ h. eqb_of (a.no_other k (subst (λ (j : ℕ). Leads k j ((k, q) ∷ ks)) (eqb→eq q p h) this-lead))))
    (table-only p ks (record { no_other = λ j l. a.no_other j (later-lead l); not-elsewhere = λ j l. a.not-elsewhere j (later-lead l) }))

-- ---- the pair

pub pair-told : (vs : Variants) (ks : List (ℕ × ℕ)) → T (nullable_pair vs ks) → NullablePair ks vs
unfolding nullable_pair
pair-told no_variants ks h = absurd h
pair-told (variant a no_variants) ks h = absurd h
pair-told (variant a (variant b no_variants)) ks h = go (is_null a) refl h
  where
    go : (x : Bool) → is_null a ≡ x → T (when x then not (is_null b) && only_null_leads_to 0 ks else is_null b && only_null_leads_to 1 ks) → NullablePair ks (variant a (variant b no_variants))
    go true e h = null-first {a = a} {b = b} (rw e tt) (and_l (not (is_null b)) (only_null_leads_to 0 ks) h) (table-told 0 ks (and_r (not (is_null b)) (only_null_leads_to 0 ks) h))
    go false e h = null-second {a = a} {b = b} (rw e tt) (and_l (is_null b) (only_null_leads_to 1 ks) h) (table-told 1 ks (and_r (is_null b) (only_null_leads_to 1 ks) h))
pair-told (variant a (variant b (variant c vs))) ks h = absurd h

pub pair-only : {vs : Variants} {ks : List (ℕ × ℕ)} → NullablePair ks vs → T (nullable_pair vs ks)
unfolding nullable_pair
pair-only {ks = ks} (null-first {a = a} {b = b} h k t) = rw (is_true (is_null a) h) (and_i (not (is_null b)) (only_null_leads_to 0 ks) k (table-only 0 ks t))
pair-only {ks = ks} (null-second {a = a} {b = b} h k t) = rw (is_false (is_null a) h) (and_i (is_null b) (only_null_leads_to 1 ks) k (table-only 1 ks t))
