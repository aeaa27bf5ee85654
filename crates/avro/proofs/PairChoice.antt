-- What a nullable pair's choice comes to: Null goes to Null, and what fits the other variant to that one.
use Prim.Native.Nat.{ℕ, zero, suc, ◌<◌}
use native.Mathlib.Omega.{arith}
use mathlib.Core.Path.{◌≡◌, refl, sym, ap, ◌∙◌, subst}
use mathlib.Core.List.{List, [], ◌∷◌}
use mathlib.Core.Option.{Option, none, some}
use mathlib.Core.Bool.{Bool, true, false, ◌&&◌, ◌||◌, not, beq}
use lib.Dec.{T, leb, ltb, eqb, eqb→eq, not_T, T_not, ltb→lt}
use lib.ListN.{length, get_or}
use lib.Ieee.Bits.{is_true, is_false}
use lib.Ieee.Fits.{and_l, and_r}
use Rattle.base.specs.Base.{when◌then◌else◌, ok, stop, after, accepted}
use Rattle.base.proofs.Okay.{Okay, okay-if, Found}
use Rattle.frame.specs.Kind
use Rattle.frame.specs.Tree.{Value, Schema, UuidForm, kind_of, is, octets, index, items, entries, peel, schema_kind}
use Rattle.frame.specs.Sound.{kinds_sound}
use Rattle.types.specs.Types.{Outcome, resolve_plain, resolve_null, resolve_boolean, resolve_int, resolve_long, resolve_float, resolve_double, resolve_bytes, resolve_string, resolve_int_time, resolve_long_time, resolve_fixed, fixed_too_short, resolve_decimal, resolve_uuid, resolve_duration, resolve_enum, next_place}
use Rattle.avro.specs.Union.{Trial, no_trial, unnamed_kind, named_kind, lookup_kind, table_lookup, must_be_tried, take_variant, unnamed_variant, takes, named_variant, first_that_resolves, choose, find_schema_with_known_schemata, in_union, resolve_union, position_of}
use Rattle.avro.proofs.UnionLaws.{chosen-trial, chosen-both}
use Rattle.avro.specs.Resolve.{resolve, trials, resolve_array, resolve_map, resolve_record}
use Rattle.avro.specs.Matches.{all_items, all_entries, symbol_at, fits, fields_fit, variant_fits}
use Rattle.avro.specs.Pairs.{nullable_pair, is_null, only_null_leads_to}
use Rattle.avro.proofs.SchemaCases.{pair}
use Rattle.avro.proofs.Made.{Stable, kind-is, peel-kind}

-- ---- Null

-- nothing comes out
abbrev Refused : Outcome → Type 0
Refused o = Okay (λ _. ⊥) o

refused-is : (o : Outcome) → Refused o → accepted o ≡ false
unfolding accepted
refused-is (ok v) h = absurd h
refused-is (stop n) h = refl

no_kind : (k : ℕ) (x : Value) → kind_of x ≡ Kind.Null → T (not (eqb k Kind.Null)) → is k x ≡ false
no_kind k x e h = is_false (is k x) (not_T (is k x) (λ t. T_not (eqb k Kind.Null) h (subst (λ (j : ℕ). T (eqb j Kind.Null)) (sym e ∙ kind-is k x t) tt)))

plain-refuses-null : (k : ℕ) (x : Value) → kind_of x ≡ Kind.Null → T (not (eqb k Kind.Null)) → Refused (resolve_plain k x)
unfolding resolve_plain resolve_boolean resolve_int resolve_long resolve_float resolve_double resolve_bytes resolve_string resolve_int_time resolve_long_time
plain-refuses-null k x e h =
    okay-if _ (eqb k Kind.Null) _ _ (λ t. absurd (T_not (eqb k Kind.Null) h t))
    λ _. okay-if _ (eqb k Kind.Boolean) _ _ (λ _. rw e tt)
    λ _. okay-if _ (eqb k Kind.Int) _ _ (λ _. rw e tt)
    λ _. okay-if _ (eqb k Kind.Long) _ _ (λ _. rw e tt)
    λ _. okay-if _ (eqb k Kind.Float) _ _ (λ _. rw e tt)
    λ _. okay-if _ (eqb k Kind.Double) _ _ (λ _. rw e tt)
    λ _. okay-if _ (eqb k Kind.Bytes) _ _ (λ _. rw e tt)
    λ _. okay-if _ (eqb k Kind.String) _ _ (λ _. rw e tt)
    λ _. okay-if _ (eqb k Kind.Date || eqb k Kind.TimeMillis) _ _ (λ _. rw (no_kind k x e h, e) tt) (λ _. rw (no_kind k x e h, e) tt)

decimal-refuses-null : (p s : ℕ) (n : Option ℕ) (x : Value) → kind_of x ≡ Kind.Null → Refused (resolve_decimal p s n x)
unfolding resolve_decimal
decimal-refuses-null p s n x e =
    okay-if _ (ltb p s) _ _ (λ _. tt) λ _. okay-if _ (fixed_too_short p n) _ _ (λ _. tt) λ _. rw e tt

uuid-refuses-null : (f : UuidForm) (x : Value) → kind_of x ≡ Kind.Null → Refused (resolve_uuid f x)
unfolding resolve_uuid
uuid-refuses-null UuidForm.bytes x e = rw e tt
uuid-refuses-null UuidForm.string x e = rw e tt
uuid-refuses-null (UuidForm.fixed n) x e = rw e tt

-- only Null takes Null
pub refuses-null : (b : Schema) → T (not (is_null b)) → T (not (eqb (schema_kind b) Kind.Union)) → (x : Value) → T (is Kind.Null x) → Refused (resolve b x)
unfolding resolve schema_kind resolve_fixed resolve_duration resolve_enum resolve_array resolve_map resolve_record
refuses-null b h u x t = go b h u (kind-is Kind.Null x t) (peel-kind x (rw (kind-is Kind.Null x t) tt))
  where
    go : (b : Schema) → T (not (is_null b)) → T (not (eqb (schema_kind b) Kind.Union)) → kind_of x ≡ Kind.Null → peel x ≡ x → Refused (resolve b x)
    go (Schema.Plain k) h u e p = rw p (plain-refuses-null k x e h)
    go (Schema.Fixed n) h u e p = rw (p, e) tt
    go (Schema.Decimal q s n) h u e p = rw p (decimal-refuses-null q s n x e)
    go (Schema.Uuid f) h u e p = rw p (uuid-refuses-null f x e)
    go (Schema.Duration n) h u e p = rw (p, e) tt
    go (Schema.Enum ss d) h u e p = rw (p, e) tt
    go (Schema.Array s) h u e p = rw (p, e) tt
    go (Schema.Map s) h u e p = rw (p, e) tt
    go (Schema.Record fs) h u e p = rw (p, e) tt
    go (Schema.Union vs ks ns) h u e p = absurd u

-- what fits has the schema's kind
pub fits-kind : (b : Schema) (x : Value) → T (fits b x) → kind_of x ≡ schema_kind b
unfolding fits schema_kind
fits-kind (Schema.Plain k) x h = kind-is k x h
fits-kind (Schema.Fixed n) x h = kind-is Kind.Fixed x (and_l (is Kind.Fixed x) (eqb (length (octets x)) n) h)
fits-kind (Schema.Decimal p s n) x h = kind-is Kind.Decimal x h
fits-kind (Schema.Uuid f) x h = kind-is Kind.Uuid x h
fits-kind (Schema.Duration n) x h = kind-is Kind.Duration x h
fits-kind (Schema.Enum ss d) x h = kind-is Kind.Enum x (and_l (is Kind.Enum x) (symbol_at ss (index x) (octets x)) h)
fits-kind (Schema.Array s) x h = kind-is Kind.Array x (and_l (is Kind.Array x) (all_items (λ w. fits s w) (items x)) h)
fits-kind (Schema.Map s) x h = kind-is Kind.Map x (and_l (is Kind.Map x) (all_entries (λ w. fits s w) (entries x)) h)
fits-kind (Schema.Record fs) x h = kind-is Kind.Record x (and_l (is Kind.Record x) (fields_fit fs (entries x)) h)
fits-kind (Schema.Union vs ks ns) x h = kind-is Kind.Union x (and_l (is Kind.Union x) (variant_fits vs (index x) (peel x)) h)

-- ---- what a nullable pair's kind table gives

-- from kind 00 to Null
pub table-null : (z : ℕ) (ks : List (ℕ × ℕ)) → T (only_null_leads_to z ks) → Found (λ p. p ≡ z) (lookup_kind Kind.Null ks)
unfolding only_null_leads_to lookup_kind
table-null z [] h = tt
table-null z (e ∷ es) h =
    go (eqb e.0 Kind.Null) (eqb e.1 z) refl (and_l (beq (eqb e.0 Kind.Null) (eqb e.1 z)) (only_null_leads_to z es) h)
    (table-null z es (and_r (beq (eqb e.0 Kind.Null) (eqb e.1 z)) (only_null_leads_to z es) h))
  where
    go : (a b : Bool) → eqb e.1 z ≡ b → T (beq a b) → Found (λ p. p ≡ z) (lookup_kind Kind.Null es)
        → Found (λ p. p ≡ z) (when a then some e.1 else lookup_kind Kind.Null es)
    go true true q t r = eqb→eq e.1 z (subst (λ (b : Bool). T b) (sym q) tt)
    go true false q t r = absurd t
    go false b q t r = r

-- from any other kind to another position below the count
pub table-other : (z count least u : ℕ) (ks : List (ℕ × ℕ)) → T (not (eqb u Kind.Null)) → T (only_null_leads_to z ks) → T (kinds_sound count least ks)
    → Found (λ p. T (not (eqb p z)) × (p < count)) (lookup_kind u ks)
unfolding only_null_leads_to lookup_kind kinds_sound
table-other z count least u [] n h s = tt
table-other z count least u (e ∷ es) n h s =
    let t : T (beq (eqb e.0 Kind.Null) (eqb e.1 z)) = and_l (beq (eqb e.0 Kind.Null) (eqb e.1 z)) (only_null_leads_to z es) h in
    let s₁ : T (leb least e.0 && leb e.0 Kind.Duration && ltb e.1 count) = and_l (leb least e.0 && leb e.0 Kind.Duration && ltb e.1 count) (kinds_sound count (suc e.0) es) s in
    go (eqb e.0 u) refl t (ltb→lt e.1 count (and_r (leb least e.0 && leb e.0 Kind.Duration) (ltb e.1 count) s₁))
    (table-other z count (suc e.0) u es n (and_r (beq (eqb e.0 Kind.Null) (eqb e.1 z)) (only_null_leads_to z es) h)
    (and_r (leb least e.0 && leb e.0 Kind.Duration && ltb e.1 count) (kinds_sound count (suc e.0) es) s))
  where
    other : (b : Bool) → T (beq false b) → T (not b)
    other true t = t
    other false t = tt

    go : (a : Bool) → eqb e.0 u ≡ a → T (beq (eqb e.0 Kind.Null) (eqb e.1 z)) → e.1 < count
        → Found (λ p. T (not (eqb p z)) × (p < count)) (lookup_kind u es)
        → Found (λ p. T (not (eqb p z)) × (p < count)) (when a then some e.1 else lookup_kind u es)
    go true q t l r =
        let k : e.0 ≡ u = eqb→eq e.0 u (subst (λ (b : Bool). T b) (sym q) tt) in
        (other (eqb e.1 z) (rw (is_false (eqb u Kind.Null) n) at (rw k at t)), l)
    go false q t l r = r

-- no other kind of value is looked up under 00
pub unnamed-other : (k : ℕ) → T (not (eqb k Kind.Null)) → Found (λ u. T (not (eqb u Kind.Null))) (unnamed_kind k)
unfolding unnamed_kind
unnamed-other k h =
    found-if (eqb k Kind.Decimal) (some Kind.Bytes) _ tt
    (found-if (eqb k Kind.Uuid) (some Kind.String) _ tt
    (found-if (eqb k Kind.Date || eqb k Kind.TimeMillis) (some Kind.Int) _ tt
    (found-if (leb Kind.TimeMicros k && leb k Kind.LocalTimestampNanos) (some Kind.Long) _ tt
    (found-if (eqb k Kind.Duration || eqb k Kind.Record || eqb k Kind.Enum || eqb k Kind.Fixed) none (some k) tt h))))
  where
    found-if : (b : Bool) (x y : Option ℕ) → Found (λ u. T (not (eqb u Kind.Null))) x → Found (λ u. T (not (eqb u Kind.Null))) y
        → Found (λ u. T (not (eqb u Kind.Null))) (when b then x else y)
    found-if true x y p q = p
    found-if false x y p q = q

-- ---- which variant is found

take_found : (P : ℕ → Type 0) (ts : List Trial) (o : Option ℕ) → Found P o → Found P (take_variant ts o)
unfolding take_variant
take_found P ts none p = tt
take_found P ts (some i) p = go (must_be_tried (get_or ts i no_trial).kind && not (accepted (get_or ts i no_trial).outcome))
  where
    go : (b : Bool) → Found P (when b then none else some i)
    go true = tt
    go false = p

-- where every search that finds something finds q
choose-is : (ts : List Trial) (u n : Option ℕ) (q : ℕ) → Found (λ i. i ≡ q) u → Found (λ i. i ≡ q) n → first_that_resolves ts ≡ some q → position_of (choose ts u n) ≡ some q
unfolding choose position_of
choose-is ts none none q p r f = chosen-trial ts ∙ f
choose-is ts none (some n) q p r f = ap {B = Option ℕ} some r
choose-is ts (some u) none q p r f = ap {B = Option ℕ} some p
choose-is ts (some u) (some n) q p r f = chosen-both ts u n ∙ go (ltb u n)
  where
    go : (b : Bool) → (when b then some u else some n) ≡ some q
    go true = ap {B = Option ℕ} some p
    go false = ap {B = Option ℕ} some r

pub find-null : (ts : List Trial) (ks : List (ℕ × ℕ)) (ns : List ℕ) (z : ℕ) → T (only_null_leads_to z ks)
    → first_that_resolves ts ≡ some z → find_schema_with_known_schemata ts ks ns Kind.Null ≡ some z
unfolding find_schema_with_known_schemata unnamed_kind named_kind unnamed_variant table_lookup named_variant
find-null ts ks ns z h f =
    choose-is ts (take_variant ts (lookup_kind Kind.Null ks)) none z (take_found (λ i. i ≡ z) ts (lookup_kind Kind.Null ks) (table-null z ks h)) tt f

named-found : (ts : List Trial) (q : ℕ) → ((i : ℕ) → T (accepted (get_or ts i no_trial).outcome) → i ≡ q) → (ns : List ℕ) (o : Option ℕ)
    → Found (λ i. i ≡ q) (named_variant ts ns o)
unfolding named_variant takes
named-found ts q h ns none = tt
named-found ts q h [] (some k) = tt
named-found ts q h (i ∷ ns) (some k) = go (eqb (get_or ts i no_trial).base k) (accepted (get_or ts i no_trial).outcome) refl (named-found ts q h ns (some k))
  where
    go : (a b : Bool) → accepted (get_or ts i no_trial).outcome ≡ b → Found (λ i. i ≡ q) (named_variant ts ns (some k))
        → Found (λ i. i ≡ q) (when a && b then some i else named_variant ts ns (some k))
    go true true e r = h i (subst (λ (b : Bool). T b) (sym e) tt)
    go true false e r = r
    go false b e r = r

pub find-other : (ts : List Trial) (ks : List (ℕ × ℕ)) (ns : List ℕ) (z q count k : ℕ) → T (not (eqb k Kind.Null)) → T (only_null_leads_to z ks) → T (kinds_sound count 0 ks)
    → ((p : ℕ) → T (not (eqb p z)) → p < count → p ≡ q) → ((i : ℕ) → T (accepted (get_or ts i no_trial).outcome) → i ≡ q)
    → first_that_resolves ts ≡ some q → find_schema_with_known_schemata ts ks ns k ≡ some q
unfolding find_schema_with_known_schemata unnamed_variant take_variant table_lookup
find-other ts ks ns z q count k n h s two only f =
    choose-is ts (unnamed_variant ts ks (unnamed_kind k)) (named_variant ts ns (named_kind k)) q
    (go (unnamed_kind k) (unnamed-other k n)) (named-found ts q only ns (named_kind k)) f
  where
    at : (o : Option ℕ) → Found (λ p. T (not (eqb p z)) × (p < count)) o → Found (λ i. i ≡ q) o
    at none p = tt
    at (some i) p = two i p.0 p.1

    go : (o : Option ℕ) → Found (λ u. T (not (eqb u Kind.Null))) o → Found (λ i. i ≡ q) (unnamed_variant ts ks o)
    go none p = tt
    go (some u) p = take_found (λ i. i ≡ q) ts (lookup_kind u ks) (at (lookup_kind u ks) (table-other z count 0 u ks p h s))

-- ---- a nullable pair

-- a Null schema resolves as Null does
pub null_is : (a : Schema) → T (is_null a) → (v : Value) → resolve a v ≡ resolve_null (peel v)
unfolding resolve resolve_plain schema_kind
null_is (Schema.Plain k) h v = rw (is_true (eqb k Kind.Null) h)
null_is (Schema.Fixed n) h v = absurd h
null_is (Schema.Decimal p s n) h v = absurd h
null_is (Schema.Uuid f) h v = absurd h
null_is (Schema.Duration n) h v = absurd h
null_is (Schema.Enum ss d) h v = absurd h
null_is (Schema.Array s) h v = absurd h
null_is (Schema.Map s) h v = absurd h
null_is (Schema.Record fs) h v = absurd h
null_is (Schema.Union vs ks ns) h v = absurd h

-- Null refuses what fits another variant
null-refuses : (a b : Schema) → T (is_null a) → T (not (is_null b)) → T (not (eqb (schema_kind b) Kind.Union)) → (x : Value) → T (fits b x) → Refused (resolve a x)
unfolding resolve_null
null-refuses a b n m u x h =
    let e : kind_of x ≡ schema_kind b = fits-kind b x h in
    rw (null_is a n x, peel-kind x (rw e u), e, is_false (is_null b) m) tt

null-fits : (a : Schema) → T (is_null a) → (x : Value) → T (fits a x) → kind_of x ≡ Kind.Null
null-fits a n x h = fits-kind a x h ∙ eqb→eq (schema_kind a) Kind.Null n

first-is-0 : (a b : Schema) (x : Value) → accepted (resolve a x) ≡ true → first_that_resolves (trials (pair a b) x) ≡ some 0
unfolding first_that_resolves resolve
first-is-0 a b x e = rw e

first-is-1 : (a b : Schema) (x : Value) → accepted (resolve a x) ≡ false → accepted (resolve b x) ≡ true → first_that_resolves (trials (pair a b) x) ≡ some 1
unfolding first_that_resolves resolve next_place
first-is-1 a b x e f = rw (e, f)

accepts : (s : Schema) (x : Value) → resolve s x ≡ ok x → accepted (resolve s x) ≡ true
unfolding accepted
accepts s x e = rw e

no_longer : (b : Bool) → b ≡ false → T b → ⊥
no_longer true e t = T_not true (subst (λ (c : Bool). T (not c)) (sym e) tt) tt
no_longer false e t = t

only-0 : (a b : Schema) (x : Value) → accepted (resolve b x) ≡ false → (i : ℕ) → T (accepted (get_or (trials (pair a b) x) i no_trial).outcome) → i ≡ 0
unfolding resolve accepted
only-0 a b x e zero t = refl
only-0 a b x e (suc zero) t = absurd (no_longer (accepted (resolve b x)) e t)
only-0 a b x e (suc (suc i)) t = absurd t

only-1 : (a b : Schema) (x : Value) → accepted (resolve a x) ≡ false → (i : ℕ) → T (accepted (get_or (trials (pair a b) x) i no_trial).outcome) → i ≡ 1
unfolding resolve accepted
only-1 a b x e zero t = absurd (no_longer (accepted (resolve a x)) e t)
only-1 a b x e (suc zero) t = refl
only-1 a b x e (suc (suc i)) t = absurd t

below-0 : (p : ℕ) → T (not (eqb p 0)) → p < 2 → p ≡ 1
below-0 zero n l = absurd n
below-0 (suc zero) n l = refl
below-0 (suc (suc p)) n l = omega arith

below-1 : (p : ℕ) → T (not (eqb p 1)) → p < 2 → p ≡ 0
below-1 zero n l = refl
below-1 (suc zero) n l = absurd n
below-1 (suc (suc p)) n l = omega arith

module _ (a b : Schema) (ks : List (ℕ × ℕ)) (ns : List ℕ) (ua : T (not (eqb (schema_kind a) Kind.Union))) (ub : T (not (eqb (schema_kind b) Kind.Union)))
    (table : T (nullable_pair (pair a b) ks)) (sound : T (kinds_sound 2 0 ks)) where
  -- the position at which x is found again
  pub find-0 : (x : Value) → Stable a x → find_schema_with_known_schemata (trials (pair a b) x) ks ns (kind_of x) ≡ some 0
  unfolding nullable_pair
  find-0 x p = go (is_null a) refl table
    where
      go : (c : Bool) → is_null a ≡ c → T (when c then not (is_null b) && only_null_leads_to 0 ks else is_null b && only_null_leads_to 1 ks)
          → find_schema_with_known_schemata (trials (pair a b) x) ks ns (kind_of x) ≡ some 0
      go true e t =
          rw (null-fits a (subst (λ (c : Bool). T c) (sym e) tt) x p.fitting)
          (find-null (trials (pair a b) x) ks ns 0 (and_r (not (is_null b)) (only_null_leads_to 0 ks) t) (first-is-0 a b x (accepts a x p.again)))
      go false e t =
          let na : T (not (is_null a)) = subst (λ (c : Bool). T (not c)) (sym e) tt in
          let nb : T (is_null b) = and_l (is_null b) (only_null_leads_to 1 ks) t in
          let no-b : accepted (resolve b x) ≡ false = refused-is (resolve b x) (null-refuses b a nb na ua x p.fitting) in
          find-other (trials (pair a b) x) ks ns 1 0 2 (kind_of x) (rw (fits-kind a x p.fitting) na) (and_r (is_null b) (only_null_leads_to 1 ks) t) sound
          below-1 (only-0 a b x no-b) (first-is-0 a b x (accepts a x p.again))

  pub find-1 : (x : Value) → Stable b x → find_schema_with_known_schemata (trials (pair a b) x) ks ns (kind_of x) ≡ some 1
  unfolding nullable_pair
  find-1 x p = go (is_null a) refl table
    where
      go : (c : Bool) → is_null a ≡ c → T (when c then not (is_null b) && only_null_leads_to 0 ks else is_null b && only_null_leads_to 1 ks)
          → find_schema_with_known_schemata (trials (pair a b) x) ks ns (kind_of x) ≡ some 1
      go true e t =
          let na : T (is_null a) = subst (λ (c : Bool). T c) (sym e) tt in
          let nb : T (not (is_null b)) = and_l (not (is_null b)) (only_null_leads_to 0 ks) t in
          let no-a : accepted (resolve a x) ≡ false = refused-is (resolve a x) (null-refuses a b na nb ub x p.fitting) in
          find-other (trials (pair a b) x) ks ns 0 1 2 (kind_of x) (rw (fits-kind b x p.fitting) nb) (and_r (not (is_null b)) (only_null_leads_to 0 ks) t) sound
          below-0 (only-1 a b x no-a) (first-is-1 a b x no-a (accepts b x p.again))
      go false e t =
          let na : T (not (is_null a)) = subst (λ (c : Bool). T (not c)) (sym e) tt in
          let nb : T (is_null b) = and_l (is_null b) (only_null_leads_to 1 ks) t in
          let k : kind_of x ≡ Kind.Null = null-fits b nb x p.fitting in
          let no-a : accepted (resolve a x) ≡ false = refused-is (resolve a x) (refuses-null a na ua x (rw k tt)) in
          rw k (find-null (trials (pair a b) x) ks ns 1 (and_r (is_null b) (only_null_leads_to 1 ks) t) (first-is-1 a b x no-a (accepts b x p.again)))

  pub stable-0 : (x : Value) → Stable a x → Stable (Schema.Union (pair a b) ks ns) (Value.Union 0 x)
  unfolding fits resolve resolve_union in_union peel kind_of index after
  stable-0 x p = record { fitting = p.fitting; again = rw (find-0 x p, p.again) }

  pub stable-1 : (x : Value) → Stable b x → Stable (Schema.Union (pair a b) ks ns) (Value.Union 1 x)
  unfolding fits resolve resolve_union in_union peel kind_of index after
  stable-1 x p = record { fitting = p.fitting; again = rw (find-1 x p, p.again) }
