-- A refused Map gives the number of its first failing entry in key order: in a value, in a default, and in what a default became in its union's first variant.
use Prim.Native.Nat.{ℕ}
use mathlib.Core.Path.{◌≡◌, refl, sym, ap, ◌∙◌, subst}
use mathlib.Core.List.{List, [], ◌∷◌}
use mathlib.Core.Logic.{◌↔◌}
use mathlib.Core.Option.{some}
use native.Mathlib.Omega.{arith}
use lib.Dec.{T}
use Rattle.base.specs.Base.{ok, stop, after}
use Rattle.base.proofs.Okay.{okay-is}
use Rattle.text.specs.Text.{Text, ascii, less}
use Rattle.text.specs.Order.{Below}
use Rattle.text.proofs.OrderLaws.{Below-trans, Below→≢}
use Rattle.frame.specs.Kind
use Rattle.frame.specs.Tree.{Value, Entries, Schema, Variants, no_entries, entry, variant, peel, schema_kind}
use Rattle.frame.specs.Sound.{keys_rise, rising, past_key, schema_sound}
use Rattle.frame.specs.Faults.{BelowAll, none_left, one_more, Rises, key, MapIn, itself}
use Rattle.frame.proofs.KeyLaws.{keys-rise}
use Rattle.frame.proofs.SoundLaws.{sound-union}
use Rattle.frame.proofs.FaultLaws.{variant-sound, field-sound}
use Rattle.types.specs.Types.{Outcome}
use Rattle.avro.specs.Resolve.{resolve_map, resolve}
use Rattle.avro.specs.FirstFailing.{Under, this_entry, later_entry, FirstFailing, FirstGives, DefaultIn, own, in_items, in_values, in_field, in_variant}
use Rattle.avro.proofs.Astray.{two-bad, first-of-two}
use Rattle.avro.proofs.Keys.{default-keys, keys-resolve}
use Rattle.avro.proofs.WalkSentences.{FirstRefusal, entry_outcomes, map-refused, map_first, Absent, field_outcome, default-taken, union-default}

-- ---- where keys rise, entries stand in key order

below-under : {n k : Text} {v : Value} {es : Entries} → BelowAll n es → Under k v es → Below n k
below-under (one_more b r) this_entry = b
below-under (one_more b r) (later_entry u) = below-under r u
below-under {v = v} (none_left {k = k}) x = elim x [ ]

none-lower : {n k : Text} {v w : Value} {es : Entries} → BelowAll n es → Under k w (entry n v es) → Below k n → ⊥
none-lower b this_entry l = Below→≢ l refl
none-lower b (later_entry u) l = Below→≢ (Below-trans l (below-under b u)) refl

module _ (f : Value → Outcome) (e : ℕ) where
  abbrev Accepted : Value → Type 0
  Accepted v = (r : Value) × (f v ≡ ok r)

  accepted-either : {n k : Text} {v w : Value} {es : Entries} → Accepted v → (Under k w es → Accepted w) → Under k w (entry n v es) → Accepted w
  accepted-either a rest this_entry = a
  accepted-either a rest (later_entry u) = rest u

  refusal→first : (es : Entries) → Rises es → FirstRefusal e (entry_outcomes f es) → FirstFailing f es e
  unfolding FirstRefusal entry_outcomes
  refusal→first no_entries r h = absurd h
  refusal→first (entry n v es) (key b r) h = go (refusal→first es r) (f v) refl h
    where
      go : (FirstRefusal e (entry_outcomes f es) → FirstFailing f es e) → (x : Outcome) → f v ≡ x → FirstRefusal e (x ∷ entry_outcomes f es) → FirstFailing f (entry n v es) e
      go rest (stop m) p q = record { at = n; value = v; stands = this_entry; fails = p ∙ ap stop q; lower = λ k w u l. absurd (none-lower b u l) }
      go rest (ok a) p q =
          let i : FirstFailing f es e = rest q in
          record { at = i.at; value = i.value; stands = later_entry i.stands; fails = i.fails; lower = λ k w u l. accepted-either (a, p) (λ t. i.lower k w t l) u }

  first→refusal : (es : Entries) → Rises es → FirstFailing f es e → FirstRefusal e (entry_outcomes f es)
  unfolding FirstRefusal entry_outcomes
  first→refusal no_entries r h = nowhere h.stands
    where
      nowhere : {k : Text} {v : Value} → Under k v no_entries → ⊥
      nowhere = elim [ ]
  first→refusal (entry n v es) (key b r) h = go (first→refusal es r) h.at h.value h.stands h.fails h.lower
    where
      go : (FirstFailing f es e → FirstRefusal e (entry_outcomes f es)) → (k : Text) (w : Value) → Under k w (entry n v es) → f w ≡ stop e
          → ((m : Text) (x : Value) → Under m x (entry n v es) → Below m k → Accepted x) → FirstRefusal e (f v ∷ entry_outcomes f es)
      go rest k w this_entry p lower = subst (λ (x : Outcome). FirstRefusal e (x ∷ entry_outcomes f es)) (sym p) refl
      go rest k w (later_entry u) p lower =
          let a : Accepted v = lower n v this_entry (below-under b u) in
          subst (λ (x : Outcome). FirstRefusal e (x ∷ entry_outcomes f es)) (sym a.1)
          (rest (record { at = k; value = w; stands = u; fails = p; lower = λ m x t l. lower m x (later_entry t) l }))

-- where an entry fails, one is the first that does
module _ (f : Value → Outcome) where
  some-refusal : {k : Text} {v : Value} {m : ℕ} {es : Entries} → Under k v es → f v ≡ stop m → (n : ℕ) × FirstRefusal n (entry_outcomes f es)
  unfolding FirstRefusal entry_outcomes
  some-refusal {m = m} (this_entry {es = es}) p = (m, subst (λ (x : Outcome). FirstRefusal m (x ∷ entry_outcomes f es)) (sym p) refl)
  some-refusal (later_entry {w = w} {es = es} u) p = go (f w) (some-refusal u p)
    where
      go : (x : Outcome) → (n : ℕ) × FirstRefusal n (entry_outcomes f es) → (n : ℕ) × FirstRefusal n (x ∷ entry_outcomes f es)
      go (stop e) h = (e, refl)
      go (ok r) h = h

  pub first-exists : (es : Entries) → Rises es → (k : Text) (v : Value) (m : ℕ) → Under k v es → f v ≡ stop m → (n : ℕ) × FirstFailing f es n
  first-exists es r k v m u p = let q = some-refusal u p in (q.0, refusal→first f q.0 es r q.1)

  -- and all that are the first have one number
  pub one_number : (es : Entries) → Rises es → (m n : ℕ) → FirstFailing f es m → FirstFailing f es n → m ≡ n
  unfolding FirstRefusal
  one_number es r m n h k = go (entry_outcomes f es) (first→refusal f m es r h) (first→refusal f n es r k)
    where
      go : (xs : List Outcome) → FirstRefusal m xs → FirstRefusal n xs → m ≡ n
      go [] h k = absurd h
      go (ok a ∷ xs) h k = go xs h k
      go (stop e ∷ xs) h k = sym h ∙ k

-- ---- the number of a refused Map

pub map-number : (es : Entries) → Rises es → FirstGives es
unfolding FirstGives resolve peel
map-number es r s v q n = (
  λ h. refusal→first (λ w. resolve s w) n es r (map_first s es n (sym (ap (resolve_map (λ w. resolve s w)) q) ∙ h)),
  λ h. ap (resolve_map (λ w. resolve s w)) q ∙ map-refused s es n (first→refusal (λ w. resolve s w) n es r h),
)

-- in a value whose keys rise, as in every one that 5 lets pass
pub value-maps : (v : Value) → T (keys_rise v) → (es : Entries) → MapIn es v → FirstGives es
value-maps v h es m = map-number es ((keys-rise v).0 h es m)

default-rises : {d : Value} {s : Schema} → DefaultIn d s → T (schema_sound s) → T (keys_rise d)
unfolding schema_sound
default-rises {d} (own f) h = default-keys (some d) d refl (field-sound f h).0
default-rises (in_items i) h = default-rises i h
default-rises (in_values i) h = default-rises i h
default-rises (in_field f i) h = default-rises i (field-sound f h).1
default-rises (in_variant {vs = vs} {ks = ks} {ns = ns} w i) h = default-rises i (variant-sound w (sound-union vs ks ns h).variants).1

-- in a default of a schema that 3 lets pass
pub default-maps : (s : Schema) → T (schema_sound s) → (d : Value) → DefaultIn d s → (es : Entries) → MapIn es d → FirstGives es
default-maps s h d i es m = value-maps d (default-rises i h) es m

-- in what resolution makes under such a schema, and so in what a default becomes in its union's first variant
pub made-maps : (s : Schema) → T (schema_sound s) → (v : Value) → T (keys_rise v) → (r : Value) → resolve s v ≡ ok r → (es : Entries) → MapIn es r → FirstGives es
made-maps s h v k r e es m = value-maps r (okay-is (λ r. T (keys_rise r)) (resolve s v) r (keys-resolve s h v k) e) es m

-- ---- a missing field's default

-- in a field that is a Map
pub default-number : (k : Text) (s : Schema) (fs es : Entries) → Absent k fs → Rises es
    → (n : ℕ) → (field_outcome k (some (Value.Map es)) (Schema.Map s) fs ≡ stop n) ↔ FirstFailing (λ w. resolve s w) es n
unfolding FirstGives peel schema_kind
default-number k s fs es a r n =
    let t : field_outcome k (some (Value.Map es)) (Schema.Map s) fs ≡ resolve (Schema.Map s) (Value.Map es) = default-taken k (Schema.Map s) fs (Value.Map es) a no_union in
    let g = map-number es r s (Value.Map es) refl n in
    (λ h. g.0 (sym t ∙ h), λ h. t ∙ g.1 h)
  where
    no_union : Kind.Map ≡ Kind.Union → ⊥
    no_union e = omega arith

-- in a union field whose first variant is a Map
pub union-default-number : (k : Text) (s : Schema) (vs : Variants) (ks : List (ℕ × ℕ)) (ns : List ℕ) (fs es : Entries) → Absent k fs → Rises es
    → (n : ℕ) → FirstFailing (λ w. resolve s w) es n → field_outcome k (some (Value.Map es)) (Schema.Union (variant (Schema.Map s) vs) ks ns) fs ≡ stop n
unfolding FirstGives peel schema_kind after
union-default-number k s vs ks ns fs es a r n h =
    union-default (Schema.Map s) vs ks ns (Value.Map es) k fs a no-null
    ∙ ap (λ x. after x (λ w. resolve (Schema.Union (variant (Schema.Map s) vs) ks ns) (Value.Union 0 w))) ((map-number es r s (Value.Map es) refl n).1 h)
  where
    no-null : Kind.Map ≡ Kind.Null → ⊥
    no-null e = omega arith

-- ---- an instance

pub seven-first : FirstFailing (λ w. resolve (Schema.Plain Kind.Int) w) two-bad 7
unfolding FirstGives peel keys_rise rising past_key less ascii
seven-first = (value-maps (Value.Map two-bad) tt two-bad itself (Schema.Plain Kind.Int) (Value.Map two-bad) refl 7).0 first-of-two
