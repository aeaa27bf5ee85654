-- Under nullable pairs, what a Record schema doesn't name decides nothing: a value resolves as it does when stripped.
use Prim.Native.Nat.{ℕ}
use mathlib.Core.Path.{◌≡◌, refl, sym, ap, ◌∙◌, subst}
use mathlib.Core.List.{List, [], ◌∷◌}
use mathlib.Core.Option
use mathlib.Core.Option.{Option, none, some, or_else}
use mathlib.Core.Bool.{Bool, true, false, ◌&&◌, ◌||◌, not}
use lib.Dec.{T, ltb, eqb, eqb_refl, not_T}
use lib.ListN.{length}
use lib.Ieee.Bits.{is_true, is_false}
use lib.Ieee.Fits.{and_l, and_i}
use Rattle.std.specs.Prelude as std
use Rattle.base.specs.Base.{when◌then◌else◌, Result, ok, stop, after}
use Rattle.base.specs.Refusal.{outcome_of}
use Rattle.base.specs.declared.refusal.Refusal.{Refusal}
use Rattle.base.proofs.Refusals.{outcome-injective}
use Rattle.text.specs.Text.{Text, same}
use Rattle.text.proofs.TextLaws.{same→≡}
use Rattle.frame.specs.Kind
use Rattle.frame.specs.Tree.{Value, Values, Entries, Schema, Fields, no_items, item, no_entries, entry, no_fields, field, no_variants, variant, kind_of, items, entries, peel, schema_kind}
use Rattle.frame.specs.ValueFrame.{encode_value}
use Rattle.frame.specs.SchemaFrame.{decode_schema}
use Rattle.frame.specs.Sound.{keys_rise, schema_sound, fields_sound, has_field}
use Rattle.types.specs.Types.{Outcome, resolve_null}
use Rattle.avro.specs.Union.{Trial, resolve_union}
use Rattle.avro.specs.Resolve.{resolve, resolve_fields, start_default, trials, resolve_array, resolve_map, resolve_record, each_item, each_entry, field_value, last_under}
use Rattle.avro.specs.Defaults.{defaults_short}
use Rattle.frame.specs.Sound.{checked_value}
use Rattle.buffer.specs.After.{checked_result, buffer_after}
use Rattle.hulmbax.specs.Answer.{answer, record_answer, checked_schema, workspace_after, workspace_size}
use Rattle.hulmbax.specs.Entry.{resolved_of}
use Rattle.frame.proofs.SoundLaws.{sound-field}
use Rattle.avro.specs.Pairs.{nullable_pair, nullable_pairs, is_null, only_null_leads_to}
use Rattle.avro.proofs.SchemaCases.{childless, NotUnion, EveryField, every, pair, Steps, induction}
use Rattle.avro.proofs.PairChoice.{null_is}
use Rattle.stability.specs.Stability.{under_union, change, map_items, map_entries, has_name, keep_entry, keep_entries, strip, strip_field}
use Rattle.stability.specs.Claims.{AreAlike, Alike, Called}

-- ---- texts

pub same_refl : (s : Text) → T (same s s)
unfolding same
same_refl [] = tt
same_refl (x ∷ xs) = and_i (eqb x x) (same xs xs) (eqb_refl x) (same_refl xs)

-- ---- the shapes

peel-change : (f : Values → Values) (g h : Entries → Entries) (v : Value) → peel (under_union (change f g h) v) ≡ change f g h (peel v)
unfolding peel under_union change
peel-change f g h (Value.Scalar k n) = refl
peel-change f g h (Value.Octets k s) = refl
peel-change f g h (Value.Enum i s) = refl
peel-change f g h (Value.Array vs) = refl
peel-change f g h (Value.Map es) = refl
peel-change f g h (Value.Record es) = refl
peel-change f g h (Value.Union i v) = refl

-- Null looks at nothing that `change` changes
null-change : (f : Values → Values) (g h : Entries → Entries) (v : Value) → resolve_null (change f g h v) ≡ resolve_null v
unfolding resolve_null kind_of change
null-change f g h (Value.Scalar k n) = refl
null-change f g h (Value.Octets k s) = refl
null-change f g h (Value.Enum i s) = refl
null-change f g h (Value.Array vs) = refl
null-change f g h (Value.Map es) = refl
null-change f g h (Value.Record es) = refl
null-change f g h (Value.Union i v) = refl

null-changed : (f : Values → Values) (g h : Entries → Entries) (v : Value) → resolve_null (peel (under_union (change f g h) v)) ≡ resolve_null (peel v)
null-changed f g h v = ap resolve_null (peel-change f g h v) ∙ null-change f g h (peel v)

items-same : (r : Value → Outcome) (f : Value → Value) → ((v : Value) → r (f v) ≡ r v) → (vs : Values) → each_item r (map_items f vs) ≡ each_item r vs
unfolding each_item map_items
items-same r f e no_items = refl
items-same r f e (item v vs) = rw (e v, items-same r f e vs)

entries-same : (r : Value → Outcome) (f : Value → Value) → ((v : Value) → r (f v) ≡ r v) → (es : Entries) → each_entry r (map_entries f es) ≡ each_entry r es
unfolding each_entry map_entries
entries-same r f e no_entries = refl
entries-same r f e (entry n v es) = rw (e v, entries-same r f e es)

array_same : (r : Value → Outcome) (f : Value → Value) → ((v : Value) → r (f v) ≡ r v) → (v : Value)
    → resolve_array r (change (map_items f) (λ es. es) (λ es. es) v) ≡ resolve_array r v
unfolding resolve_array change items kind_of after
array_same r f e (Value.Scalar k n) = refl
array_same r f e (Value.Octets k s) = refl
array_same r f e (Value.Enum i s) = refl
array_same r f e (Value.Array vs) = rw (items-same r f e vs)
array_same r f e (Value.Map es) = refl
array_same r f e (Value.Record es) = refl
array_same r f e (Value.Union i v) = refl

map_same : (r : Value → Outcome) (f : Value → Value) → ((v : Value) → r (f v) ≡ r v) → (v : Value)
    → resolve_map r (change (λ vs. vs) (map_entries f) (λ es. es) v) ≡ resolve_map r v
unfolding resolve_map change entries kind_of after
map_same r f e (Value.Scalar k n) = refl
map_same r f e (Value.Octets k s) = refl
map_same r f e (Value.Enum i s) = refl
map_same r f e (Value.Array vs) = refl
map_same r f e (Value.Map es) = rw (entries-same r f e es)
map_same r f e (Value.Record es) = refl
map_same r f e (Value.Union i v) = refl

record_same : (r : Entries → Result Entries) (g : Entries → Entries) → ((es : Entries) → r (g es) ≡ r es) → (v : Value)
    → resolve_record r (change (λ vs. vs) g g v) ≡ resolve_record r v
unfolding resolve_record change entries kind_of after
record_same r g e (Value.Scalar k n) = refl
record_same r g e (Value.Octets k s) = refl
record_same r g e (Value.Enum i s) = refl
record_same r g e (Value.Array vs) = refl
record_same r g e (Value.Map es) = rw (e es)
record_same r g e (Value.Record es) = rw (e es)
record_same r g e (Value.Union i v) = refl

-- ---- fields

unfoldable pub is_some : Option Value → Bool
is_some none = false
is_some (some v) = true

has-last_under : (n : Text) (es : Entries) → has_name n es ≡ is_some (last_under n es)
unfolding has_name last_under is_some or_else
has-last_under n no_entries = refl
has-last_under n (entry m v es) = go (same m n) (last_under n es) (has-last_under n es)
  where
    go : (b : Bool) (o : Option Value) → has_name n es ≡ is_some o → (b || has_name n es) ≡ is_some (or_else o (when b then some v else none))
    go true none e = refl
    go true (some w) e = refl
    go false none e = e
    go false (some w) e = e

or_else-none : (o : Option Value) → or_else o none ≡ o
unfolding or_else
or_else-none none = refl
or_else-none (some v) = refl

-- an entry of another name is not seen
keep-miss : (n m : Text) (v : Value) (o : Option Value) (h : Bool) (rest : Entries) → same m n ≡ false
    → last_under n (keep_entry m v o h rest) ≡ last_under n rest
unfolding last_under keep_entry
keep-miss n m v none h rest p = refl
keep-miss n m v (some w) true rest p = rw p (or_else-none (last_under n rest))
keep-miss n m v (some w) false rest p = rw p (or_else-none (last_under n rest))

-- the last entry of the name is changed, an earlier one is not seen
keep-hit : (n : Text) (v w : Value) (f : Value → Value) (l : Option Value) (rest : Entries) → w ≡ f v → last_under n rest ≡ Option.map f l
    → last_under n (keep_entry n v (some w) (is_some l) rest) ≡ Option.map f (or_else l (some v))
unfolding last_under keep_entry or_else is_some
keep-hit n v w f none rest p e = rw (e, is_true (same n n) (same_refl n), p)
keep-hit n v w f (some x) rest p e = rw e

pub last_under-keep : (g : Text → Value → Option Value) (n : Text) (f : Value → Value) → ((v : Value) → g n v ≡ some (f v))
    → (es : Entries) → last_under n (keep_entries g es) ≡ Option.map f (last_under n es)
unfolding last_under keep_entries or_else
last_under-keep g n f e no_entries = refl
last_under-keep g n f e (entry m v es) = go (same m n) refl (last_under-keep g n f e es)
  where
    go : (b : Bool) → same m n ≡ b → last_under n (keep_entries g es) ≡ Option.map f (last_under n es)
        → last_under n (keep_entry m v (g m v) (has_name m es) (keep_entries g es)) ≡ Option.map f (or_else (last_under n es) (when same m n then some v else none))
    go true p ih =
        let q : m ≡ n = same→≡ m n (subst (λ (b : Bool). T b) (sym p) tt) in
        rw (p, q, e v, has-last_under n es) (keep-hit n v (f v) f (last_under n es) (keep_entries g es) refl ih)
    go false p ih = rw (p, or_else-none (last_under n es)) (keep-miss n m v (g m v) (has_name m es) (keep_entries g es) p ∙ ih)

-- resolving against s doesn't see what stripping takes away
abbrev pub Same : Schema → Type 0
Same s = (v : Value) → resolve s (strip s v) ≡ resolve s v

-- g strips the fields' values
abbrev Agrees : (Text → Value → Option Value) → Fields → Type 0
Agrees g no_fields = Unit
Agrees g (field n d s fs) = ((v : Value) → g n v ≡ some (strip s v)) × Agrees g fs

same-sym : (m n : Text) → same m n ≡ false → same n m ≡ false
same-sym m n h = is_false (same n m) (not_T (same n m) (λ t. subst (λ (b : Bool). T b) (sym (ap (λ (x : Text). same m x) (same→≡ n m t)) ∙ h) (same_refl m)))

-- a field in front, of another name, doesn't matter
agrees-behind : (m : Text) (d : Option Value) (s : Schema) (gs : Fields) (fs : Fields) → T (not (has_field m fs)) → Agrees (strip_field gs) fs
    → Agrees (strip_field (field m d s gs)) fs
unfolding has_field strip_field
agrees-behind m d s gs no_fields h a = tt
agrees-behind m d s gs (field n e t fs) h a = go (same n m) refl h (λ k. agrees-behind m d s gs fs k a.1)
  where
    go : (b : Bool) → same n m ≡ b → T (not (b || has_field m fs)) → (T (not (has_field m fs)) → Agrees (strip_field (field m d s gs)) fs)
        → Agrees (strip_field (field m d s gs)) (field n e t fs)
    go true p k rest = absurd k
    go false p k rest = (λ v. rw (same-sym n m p) (a.0 v), rest k)

agrees : (fs : Fields) → T (fields_sound fs) → Agrees (strip_field fs) fs
unfolding fields_sound strip_field
agrees no_fields h = tt
agrees (field n d s fs) h =
    let f = sound-field n d s fs h in
    (λ v. rw (is_true (same n n) (same_refl n)), agrees-behind n d s fs fs f.new (agrees fs f.rest))

field-same : (s : Schema) → Same s → (l : Option Value) (d : Option Value) (start : Value → Outcome) (k : Value → Result Entries)
    → after (field_value (Option.map (λ w. strip s w) l) d start) (λ v. after (resolve s v) k) ≡ after (field_value l d start) (λ v. after (resolve s v) k)
unfolding field_value after
field-same s c none d start k = refl
field-same s c (some v) d start k = ap (λ (r : Outcome). after r k) (c v)

fields-same : (g : Text → Value → Option Value) (fs : Fields) → EveryField Same fs → Agrees g fs → (es : Entries)
    → resolve_fields fs (keep_entries g es) ≡ resolve_fields fs es
unfolding resolve
fields-same g no_fields c a es = refl
fields-same g (field n d s fs) c a es =
    rw (last_under-keep g n (λ w. strip s w) a.0 es)
    (field-same s c.0 (last_under n es) d (λ w. start_default s w) (λ r. after (resolve_fields fs (keep_entries g es)) (λ rs. ok (entry n r rs)))
    ∙ ap (λ (rest : Result Entries). after (field_value (last_under n es) d (λ w. start_default s w)) (λ v. after (resolve s v) (λ r. after rest (λ rs. ok (entry n r rs)))))
    (fields-same g fs c.1 a.1 es))

-- ---- unions

-- a leaf strips nothing
leaf-strip : (s : Schema) → T (childless s) → (v : Value) → strip s v ≡ v
unfolding strip childless
leaf-strip (Schema.Plain k) l v = refl
leaf-strip (Schema.Fixed n) l v = refl
leaf-strip (Schema.Decimal p s n) l v = refl
leaf-strip (Schema.Uuid f) l v = refl
leaf-strip (Schema.Duration n) l v = refl
leaf-strip (Schema.Enum ss d) l v = refl
leaf-strip (Schema.Array s) l v = absurd l
leaf-strip (Schema.Map s) l v = absurd l
leaf-strip (Schema.Record fs) l v = absurd l
leaf-strip (Schema.Union vs ks ns) l v = absurd l

-- a Null schema strips nothing
pub null-strip : (a : Schema) → T (is_null a) → (v : Value) → strip a v ≡ v
unfolding strip schema_kind
null-strip = every (λ a. T (is_null a) → (v : Value) → strip a v ≡ v) (record {
  leaf = λ s l h. leaf-strip s l;
  array = λ s _ h. absurd h;
  map = λ s _ h. absurd h;
  fields = λ fs _ h. absurd h;
  union = λ vs ks ns _ h. absurd h;
})

-- what a schema that is no union strips, Null doesn't see
null-same : (b : Schema) → NotUnion b → (v : Value) → resolve_null (peel (strip b v)) ≡ resolve_null (peel v)
unfolding strip schema_kind
null-same = every (λ b. NotUnion b → (v : Value) → resolve_null (peel (strip b v)) ≡ resolve_null (peel v)) (record {
  leaf = λ s l h v. ap (λ (w : Value). resolve_null (peel w)) (leaf-strip s l v);
  array = λ s _ h v. null-changed (map_items (λ w. strip s w)) (λ es. es) (λ es. es) v;
  map = λ s _ h v. null-changed (λ vs. vs) (map_entries (λ w. strip s w)) (λ es. es) v;
  fields = λ fs _ h v. null-changed (λ vs. vs) (keep_entries (λ n w. strip_field fs n w)) (keep_entries (λ n w. strip_field fs n w)) v;
  union = λ vs ks ns _ h v. absurd h;
})

unfoldable pub flat : Value → Bool
flat (Value.Scalar k n) = true
flat (Value.Octets k s) = true
flat (Value.Enum i s) = true
flat (Value.Array vs) = true
flat (Value.Map es) = true
flat (Value.Record es) = true
flat (Value.Union i v) = false

flat-peel : (v : Value) → T (flat v) → peel v ≡ v
unfolding flat peel
flat-peel (Value.Scalar k n) h = refl
flat-peel (Value.Octets k s) h = refl
flat-peel (Value.Enum i s) h = refl
flat-peel (Value.Array vs) h = refl
flat-peel (Value.Map es) h = refl
flat-peel (Value.Record es) h = refl
flat-peel (Value.Union i v) h = absurd h

flat-change : (f : Values → Values) (g h : Entries → Entries) (v : Value) → flat (under_union (change f g h) v) ≡ flat v
unfolding flat under_union change
flat-change f g h (Value.Scalar k n) = refl
flat-change f g h (Value.Octets k s) = refl
flat-change f g h (Value.Enum i s) = refl
flat-change f g h (Value.Array vs) = refl
flat-change f g h (Value.Map es) = refl
flat-change f g h (Value.Record es) = refl
flat-change f g h (Value.Union i v) = refl

kind-change : (f : Values → Values) (g h : Entries → Entries) (v : Value) → kind_of (under_union (change f g h) v) ≡ kind_of v
unfolding kind_of under_union change
kind-change f g h (Value.Scalar k n) = refl
kind-change f g h (Value.Octets k s) = refl
kind-change f g h (Value.Enum i s) = refl
kind-change f g h (Value.Array vs) = refl
kind-change f g h (Value.Map es) = refl
kind-change f g h (Value.Record es) = refl
kind-change f g h (Value.Union i v) = refl

-- stripping keeps the kind, and makes no Union of what is none
keeps-shape : (b : Schema) → NotUnion b → (v : Value) → (kind_of (strip b v) ≡ kind_of v) × (flat (strip b v) ≡ flat v)
unfolding strip schema_kind
keeps-shape = every (λ b. NotUnion b → (v : Value) → (kind_of (strip b v) ≡ kind_of v) × (flat (strip b v) ≡ flat v)) (record {
  leaf = λ s l h v. (ap kind_of (leaf-strip s l v), ap flat (leaf-strip s l v));
  array = λ s _ h v. (kind-change _ _ _ v, flat-change _ _ _ v);
  map = λ s _ h v. (kind-change _ _ _ v, flat-change _ _ _ v);
  fields = λ fs _ h v. (kind-change _ _ _ v, flat-change _ _ _ v);
  union = λ vs ks ns _ h v. absurd h;
})

peel-under : (f : Value → Value) → ((v : Value) → flat (f v) ≡ flat v) → (v : Value) → peel (under_union f v) ≡ f (peel v)
unfolding peel under_union flat
peel-under f e (Value.Scalar k n) = flat-peel (f (Value.Scalar k n)) (rw (e (Value.Scalar k n)) tt)
peel-under f e (Value.Octets k s) = flat-peel (f (Value.Octets k s)) (rw (e (Value.Octets k s)) tt)
peel-under f e (Value.Enum i s) = flat-peel (f (Value.Enum i s)) (rw (e (Value.Enum i s)) tt)
peel-under f e (Value.Array vs) = flat-peel (f (Value.Array vs)) (rw (e (Value.Array vs)) tt)
peel-under f e (Value.Map es) = flat-peel (f (Value.Map es)) (rw (e (Value.Map es)) tt)
peel-under f e (Value.Record es) = flat-peel (f (Value.Record es)) (rw (e (Value.Record es)) tt)
peel-under f e (Value.Union i v) = refl

-- where every trial and the kind are the same, so is what becomes of the union
union-same : (ts : Value → List Trial) (ks : List (ℕ × ℕ)) (ns : List ℕ) (f : Value → Value)
    → ((v : Value) → ts (f v) ≡ ts v) → ((v : Value) → kind_of (f v) ≡ kind_of v) → ((v : Value) → flat (f v) ≡ flat v) → (v : Value)
    → resolve_union ts ks ns (under_union f v) ≡ resolve_union ts ks ns v
unfolding resolve_union
union-same ts ks ns f e k l v = rw (peel-under f l v, e (peel v), k (peel v))

-- the trials of Null and one other variant
pair_same : (a b : Schema) → Same a → Same b → T (not (eqb (schema_kind a) Kind.Union)) → T (not (eqb (schema_kind b) Kind.Union))
    → (ks : List (ℕ × ℕ)) → T (nullable_pair (variant a (variant b no_variants)) ks) → (v : Value)
    → (trials (variant a (variant b no_variants)) (strip b (strip a v)) ≡ trials (variant a (variant b no_variants)) v)
    × (kind_of (strip b (strip a v)) ≡ kind_of v) × (flat (strip b (strip a v)) ≡ flat v)
unfolding nullable_pair resolve
pair_same a b ca cb ua ub ks h v = go (is_null a) refl h
  where
    go : (x : Bool) → is_null a ≡ x → T (when x then not (is_null b) && only_null_leads_to 0 ks else is_null b && only_null_leads_to 1 ks)
        → (trials (variant a (variant b no_variants)) (strip b (strip a v)) ≡ trials (variant a (variant b no_variants)) v)
        × (kind_of (strip b (strip a v)) ≡ kind_of v) × (flat (strip b (strip a v)) ≡ flat v)
    go true p k =
        let n : T (is_null a) = subst (λ (x : Bool). T x) (sym p) tt in
        rw (null-strip a n v) (rw (cb v, null_is a n (strip b v), null_is a n v, null-same b ub v), (keeps-shape b ub v).0, (keeps-shape b ub v).1)
    go false p k =
        let n : T (is_null b) = and_l (is_null b) (only_null_leads_to 1 ks) k in
        rw (null-strip b n (strip a v)) (rw (ca v, null_is b n (strip a v), null_is b n v, null-same a ua v), (keeps-shape a ua v).0, (keeps-shape a ua v).1)

steps : Steps Same
unfolding resolve strip
steps = record {
  leaf = λ s l v. ap (resolve s) (leaf-strip s l v);
  array = λ s c v.
      ap (resolve_array (λ w. resolve s w)) (peel-change (map_items (λ w. strip s w)) (λ es. es) (λ es. es) v)
      ∙ array_same (λ w. resolve s w) (λ w. strip s w) c (peel v);
  map = λ s c v.
      ap (resolve_map (λ w. resolve s w)) (peel-change (λ vs. vs) (map_entries (λ w. strip s w)) (λ es. es) v)
      ∙ map_same (λ w. resolve s w) (λ w. strip s w) c (peel v);
  fields = λ fs h c v.
      ap (resolve_record (λ es. resolve_fields fs es)) (peel-change (λ vs. vs) (keep_entries (λ n w. strip_field fs n w)) (keep_entries (λ n w. strip_field fs n w)) v)
      ∙ record_same (λ es. resolve_fields fs es) (keep_entries (λ n w. strip_field fs n w)) (fields-same (λ n w. strip_field fs n w) fs c (agrees fs h)) (peel v);
  union = λ a b ks ns sa sb h k v.
      union-same (λ w. trials (pair a b) w) ks ns (λ w. strip b (strip a w))
      (λ w. (pair_same a b sa.holds sb.holds sa.no_union sb.no_union ks h w).0)
      (λ w. (pair_same a b sa.holds sb.holds sa.no_union sb.no_union ks h w).1)
      (λ w. (pair_same a b sa.holds sb.holds sa.no_union sb.no_union ks h w).2) v;
}

pub strip-same : (s : Schema) → T (schema_sound s) → T (nullable_pairs s) → Same s
strip-same = induction Same steps

-- ---- the claim

checked-same : (s : Schema) → T (nullable_pairs s) → (v w : Value) → strip s v ≡ strip s w → (k : Value → Result (List ℕ))
    → after (checked_schema (some s)) (λ t. after (resolve t v) k) ≡ after (checked_schema (some s)) (λ t. after (resolve t w) k)
unfolding checked_schema after
checked-same s p v w e k = go (schema_sound s) refl (defaults_short s)
  where
    same_outcome : T (schema_sound s) → resolve s v ≡ resolve s w
    same_outcome h = sym (strip-same s h p v) ∙ ap (resolve s) e ∙ strip-same s h p w

    go : (x : Bool) → schema_sound s ≡ x → (y : Bool)
        → after (when x then (when y then ok s else stop 4) else stop 3) (λ t. after (resolve t v) k) ≡ after (when x then (when y then ok s else stop 4) else stop 3) (λ t. after (resolve t w) k)
    go false q y = refl
    go true q false = refl
    go true q true = ap (λ (r : Outcome). after r k) (same_outcome (subst (λ (x : Bool). T x) (sym q) tt))

answers-same : (schema a b : List ℕ) (tree : Schema) → decode_schema schema ≡ some tree → T (nullable_pairs tree) → AreAlike tree a b → (buffer workspace : ℕ)
    → answer schema a buffer workspace ≡ answer schema b buffer workspace
unfolding answer record_answer checked_value after
answers-same schema a b tree e p l buffer workspace =
    rw (e, l.left_is, l.right_is, is_true (keys_rise l.left) l.left_keys, is_true (keys_rise l.right) l.right_keys)
    (ap (λ (r : Result (List ℕ)). when ltb workspace workspace_size then stop 1 else r) (checked-same tree p l.left l.right l.equal (λ r. checked_result buffer (encode_value r))))

-- what two calls show of one answer
one_answer : (x y : Result (List ℕ)) → x ≡ y → (buffer workspace buffer₁ workspace₁ buffer₂ workspace₂ : List ℕ) (r₁ r₂ : Result ℕ)
    → r₁ ≡ resolved_of x → buffer₁ ≡ buffer_after x buffer → workspace₁ ≡ workspace_after x workspace
    → r₂ ≡ resolved_of y → buffer₂ ≡ buffer_after y buffer → workspace₂ ≡ workspace_after y workspace
    → (r₁ ≡ r₂) × (buffer₁ ≡ buffer₂) × (workspace₁ ≡ workspace₂)
one_answer x y q buffer workspace buffer₁ workspace₁ buffer₂ workspace₂ r₁ r₂ a b c d e f =
    (a ∙ ap resolved_of q ∙ sym d, b ∙ ap (λ (z : Result (List ℕ)). buffer_after z buffer) q ∙ sym e, c ∙ ap (λ (z : Result (List ℕ)). workspace_after z workspace) q ∙ sym f)

pub alike : Alike
unfolding Alike
alike schema tree e p a b l buffer workspace buffer₁ workspace₁ buffer₂ workspace₂ r₁ r₂ x y =
    one_answer (answer schema a (length buffer) (length workspace)) (answer schema b (length buffer) (length workspace))
    (answers-same schema a b tree e p l (length buffer) (length workspace))
    buffer workspace buffer₁ workspace₁ buffer₂ workspace₂ r₁ r₂ x.answered x.contents x.cleared y.answered y.contents y.cleared

-- so the entry's own answers to alike records are the same, refusals by name included
pub alike-answers : (schema : List ℕ) (tree : Schema) → decode_schema schema ≡ some tree → T (nullable_pairs tree)
    → (a b : List ℕ) → AreAlike tree a b
    → (buffer workspace buffer₁ workspace₁ buffer₂ workspace₂ : List ℕ) (r₁ r₂ : std.Result ℕ Refusal)
    → Called schema a buffer buffer₁ workspace workspace₁ (outcome_of r₁) → Called schema b buffer buffer₂ workspace workspace₂ (outcome_of r₂)
    → r₁ ≡ r₂
alike-answers schema tree e p a b l buffer workspace buffer₁ workspace₁ buffer₂ workspace₂ r₁ r₂ x y =
    outcome-injective r₁ r₂ (x.answered ∙ ap resolved_of (answers-same schema a b tree e p l (length buffer) (length workspace)) ∙ sym y.answered)
