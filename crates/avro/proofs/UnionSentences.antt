-- The rules' sentences on the choice of a union's variant (src/schema/union.rs), each in both directions: what the definition
-- gives where the sentence applies, and that what the definition gives is what the sentence says.
use Prim.Native.Nat.{ℕ, zero, suc, ◌≤◌, ◌<◌}
use mathlib.Core.Path.{◌≡◌, refl, sym, ap, ◌∙◌}
use mathlib.Core.List.{List, [], ◌∷◌}
use mathlib.Core.Logic.{◌⊎◌, inl, inr}
use mathlib.Core.Option.{Option, none, some}
use mathlib.Core.Bool.{Bool, true, false, ◌||◌}
use native.Mathlib.Omega.{arith}
use lib.Dec.{eqb}
use lib.ListN.{length, get_or}
use borrow.Author.Tests.{eq-eqb, ne_eqb, lt-ltb, le-ltb, eqb-true}
use Rattle.base.specs.Base.{when◌then◌else◌, ok, stop, after, accepted}
use Rattle.frame.specs.Kind
use Rattle.frame.specs.Tree.{Value, Schema, UuidForm, Fields, Variants, variant, kind_of, peel, schema_kind, schema_to_base_schemakind}
use Rattle.avro.specs.Union.{Trial, no_trial, unnamed_kind, named_kind, lookup_kind, table_lookup, must_be_tried, take_variant, unnamed_variant, takes, named_variant, first_that_resolves, choose, find_schema_with_known_schemata, in_union, resolve_union, position_of}
use Rattle.avro.specs.Resolve.{resolve, trials}
use Rattle.avro.proofs.UnionLaws.{none-some, take-accepted, take-untried, take-refused, first-none, first-at, first-is, first-missed, takes-by, takes-is, named_none, named-at, named-is, named-missed, chosen-trial, chosen-both}

-- the variant i resolves, or does not
abbrev pub Resolves : List Trial → ℕ → Type 0
Resolves ts i = accepted (get_or ts i no_trial).outcome ≡ true

abbrev pub Fails : List Trial → ℕ → Type 0
Fails ts i = accepted (get_or ts i no_trial).outcome ≡ false

-- ---- the trials: each variant in its order, with its kind, its base kind, and what comes of resolving the value against it

pub trial-first : (s : Schema) (vs : Variants) (v : Value) → get_or (trials (variant s vs) v) 0 no_trial ≡ record { kind = schema_kind s; base = schema_to_base_schemakind s; outcome = resolve s v }
unfolding resolve
trial-first s vs v = refl

pub trial-later : (s : Schema) (vs : Variants) (v : Value) (i : ℕ) → get_or (trials (variant s vs) v) (suc i) no_trial ≡ get_or (trials vs v) i no_trial
unfolding resolve
trial-later s vs v i = refl

-- ---- "Among the named variants the first that resolves ends the search."

-- the position i of named_index has the base kind k, and resolves
abbrev pub Suits : List Trial → ℕ → ℕ → Type 0
Suits ts k i = ((get_or ts i no_trial).base ≡ k) × Resolves ts i

suits-takes : (ts : List Trial) (k i : ℕ) → Suits ts k i → takes k ts i ≡ true
suits-takes ts k i h = takes-by k ts i h.0 ∙ h.1

unsuited : (ts : List Trial) (k i : ℕ) → (Suits ts k i → ⊥) → takes k ts i ≡ false
unsuited ts k i h = go (takes k ts i) refl
  where
    go : (b : Bool) → takes k ts i ≡ b → takes k ts i ≡ false
    go false e = e
    go true e = absurd (h (takes-is k ts i e))

not_taken : (ts : List Trial) (k i : ℕ) → takes k ts i ≡ false → Suits ts k i → ⊥
not_taken ts k i e h = let f = suits-takes ts k i h in let z : ◌≡◌ {A = ℕ} 0 1 = cc in omega arith

-- the place j of named_index holds the position i, which suits, and no place before it holds one that does
pub record FirstNamed (ts : List Trial) (ns : List ℕ) (k i j : ℕ) : Type 0 where
  pub inside : j < length ns
  pub position : get_or ns j 0 ≡ i
  pub suits : Suits ts k i
  pub before : (m : ℕ) → m < j → Suits ts k (get_or ns m 0) → ⊥

pub named-ends : (ts : List Trial) (ns : List ℕ) (k i j : ℕ) → FirstNamed ts ns k i j → named_variant ts ns (some k) ≡ some i
named-ends ts ns k i j f =
    named-at ts ns k j f.inside (λ m l. unsuited ts k (get_or ns m 0) (f.before m l)) (ap (takes k ts) f.position ∙ suits-takes ts k i f.suits) ∙ ap some f.position

pub named-ended : (ts : List Trial) (ns : List ℕ) (k i : ℕ) → named_variant ts ns (some k) ≡ some i → (j : ℕ) × FirstNamed ts ns k i j
named-ended ts ns k i e =
    let r = named-is ts ns k i e in
    (r.0, record { inside = r.1.0; position = r.1.1.0; suits = takes-is k ts i r.1.1.1.0; before = λ m l. not_taken ts k (get_or ns m 0) (r.1.1.1.1 m l) })

-- the search finds nothing where no named variant suits, and only there
pub named-fails : (ts : List Trial) (ns : List ℕ) (k : ℕ) → ((j : ℕ) → j < length ns → Suits ts k (get_or ns j 0) → ⊥) → named_variant ts ns (some k) ≡ none
named-fails ts ns k h = named_none ts ns k (λ j l. unsuited ts k (get_or ns j 0) (h j l))

pub named-failed : (ts : List Trial) (ns : List ℕ) (k j : ℕ) → named_variant ts ns (some k) ≡ none → j < length ns → Suits ts k (get_or ns j 0) → ⊥
named-failed ts ns k j e l = not_taken ts k (get_or ns j 0) (named-missed ts ns k j e l)

-- ---- "The variant that the table gives for the value's kind ..."

-- the place j of the kind table holds the kind k with the position i, and no place before it holds that kind
pub record FirstOfKind (ks : List (ℕ × ℕ)) (k i j : ℕ) : Type 0 where
  pub inside : j < length ks
  pub kind : (get_or ks j (0, 0)).0 ≡ k
  pub position : (get_or ks j (0, 0)).1 ≡ i
  pub before : (m : ℕ) → m < j → (get_or ks m (0, 0)).0 ≡ k → ⊥

lookup-if : (k : ℕ) (e : ℕ × ℕ) (ks : List (ℕ × ℕ)) → lookup_kind k (e ∷ ks) ≡ (when eqb e.0 k then some e.1 else lookup_kind k ks)
unfolding lookup_kind
lookup-if k e ks = refl

pub table-gives : (ks : List (ℕ × ℕ)) (k i j : ℕ) → FirstOfKind ks k i j → lookup_kind k ks ≡ some i
table-gives [] k i j f = absurd (omega (arith, f.inside))
table-gives (e ∷ ks) k i zero f = lookup-if k e ks ∙ ap (λ b. when b then some e.1 else lookup_kind k ks) (eq-eqb _ _ f.kind) ∙ ap some f.position
table-gives (e ∷ ks) k i (suc j) f =
    lookup-if k e ks ∙ ap (λ b. when b then some e.1 else lookup_kind k ks) (ne_eqb _ _ (f.before 0 (omega arith)))
    ∙ table-gives ks k i j (record { inside = omega (arith, f.inside); kind = f.kind; position = f.position; before = λ m l. f.before (suc m) (omega arith) })

pub table-given : (ks : List (ℕ × ℕ)) (k i : ℕ) → lookup_kind k ks ≡ some i → (j : ℕ) × FirstOfKind ks k i j
unfolding lookup_kind
table-given [] k i e = none-some none i refl e
table-given (x ∷ ks) k i e = go (eqb x.0 k) refl (λ f. table-given ks k i f)
  where
    before : (x.0 ≡ k → ⊥) → (j : ℕ) → ((m : ℕ) → m < j → (get_or ks m (0, 0)).0 ≡ k → ⊥) → (m : ℕ) → m < suc j → (get_or (x ∷ ks) m (0, 0)).0 ≡ k → ⊥
    before p j h zero l = p
    before p j h (suc m) l = h m (omega arith)

    differs : eqb x.0 k ≡ false → x.0 ≡ k → ⊥
    differs p q = let f = eq-eqb x.0 k q in let z : ◌≡◌ {A = ℕ} 0 1 = cc in omega arith

    go : (b : Bool) → eqb x.0 k ≡ b → (lookup_kind k ks ≡ some i → (j : ℕ) × FirstOfKind ks k i j) → (j : ℕ) × FirstOfKind (x ∷ ks) k i j
    go true p rest =
        let f : some x.1 ≡ some i = sym (lookup-if k x ks ∙ ap (λ b. when b then some x.1 else lookup_kind k ks) p) ∙ e in
        let z : x.1 ≡ i = cc in
        (0, record { inside = omega arith; kind = eqb-true _ _ p; position = z; before = λ m l. absurd (omega arith) })
    go false p rest =
        let r = rest (sym (lookup-if k x ks ∙ ap (λ b. when b then some x.1 else lookup_kind k ks) p) ∙ e) in
        (suc r.0, record { inside = omega (arith, r.1.inside); kind = r.1.kind; position = r.1.position; before = before (differs p) r.0 r.1.before })

-- ---- "... is taken untried unless that variant is an Array or Map."

pub array-tried : must_be_tried Kind.Array ≡ true
unfolding must_be_tried
array-tried = refl

pub map-tried : must_be_tried Kind.Map ≡ true
unfolding must_be_tried
map-tried = refl

pub others-untried : (k : ℕ) → (k ≡ Kind.Array → ⊥) → (k ≡ Kind.Map → ⊥) → must_be_tried k ≡ false
unfolding must_be_tried
others-untried k a m = ap (λ b. b || eqb k Kind.Array) (ne_eqb _ _ m) ∙ ne_eqb _ _ a

module _ (ts : List Trial) (i : ℕ) where
  -- whatever comes of it
  pub table-untried : ((get_or ts i no_trial).kind ≡ Kind.Array → ⊥) → ((get_or ts i no_trial).kind ≡ Kind.Map → ⊥) → take_variant ts (some i) ≡ some i
  table-untried a m = take-untried ts i (others-untried _ a m)

  tried : ((get_or ts i no_trial).kind ≡ Kind.Array) ⊎ ((get_or ts i no_trial).kind ≡ Kind.Map) → must_be_tried (get_or ts i no_trial).kind ≡ true
  tried (inl e) = ap must_be_tried e ∙ array-tried
  tried (inr e) = ap must_be_tried e ∙ map-tried

  -- an Array or a Map is taken where it resolves, and only there
  pub table-tried : ((get_or ts i no_trial).kind ≡ Kind.Array) ⊎ ((get_or ts i no_trial).kind ≡ Kind.Map) → Resolves ts i → take_variant ts (some i) ≡ some i
  table-tried k h = take-accepted ts i h

  pub table-refused : ((get_or ts i no_trial).kind ≡ Kind.Array) ⊎ ((get_or ts i no_trial).kind ≡ Kind.Map) → Fails ts i → take_variant ts (some i) ≡ none
  table-refused k h = take-refused ts i (tried k) h

-- ---- "On neither, the first variant that resolves."

pub record FirstThat (ts : List Trial) (i : ℕ) : Type 0 where
  pub inside : i < length ts
  pub resolves : Resolves ts i
  pub before : (j : ℕ) → j < i → Fails ts j

pub first-resolves : (ts : List Trial) (i : ℕ) → FirstThat ts i → first_that_resolves ts ≡ some i
first-resolves ts i f = first-at ts i f.inside f.before f.resolves

pub first-resolved : (ts : List Trial) (i : ℕ) → first_that_resolves ts ≡ some i → FirstThat ts i
first-resolved ts i e = let r = first-is ts i e in record { inside = r.0; resolves = r.1.0; before = r.1.1 }

pub none-resolves : (ts : List Trial) → ((j : ℕ) → j < length ts → Fails ts j) → first_that_resolves ts ≡ none
none-resolves ts h = first-none ts h

pub none-resolved : (ts : List Trial) (j : ℕ) → first_that_resolves ts ≡ none → j < length ts → Fails ts j
none-resolved ts j e l = first-missed ts j e l

-- ---- the whole: "On both, the smaller position wins, named when equal. On neither, the first variant that resolves."

module _ (vs : Variants) (ks : List (ℕ × ℕ)) (ns : List ℕ) (v : Value) where
  -- the value without its outermost Union, against each variant
  abbrev pub tried-all : List Trial
  tried-all = trials vs (peel v)

  -- what the table and the named variants give for the value's kind
  abbrev pub by-table : Option ℕ
  by-table = take_variant tried-all (table_lookup ks (unnamed_kind (kind_of (peel v))))

  abbrev pub by_name : Option ℕ
  by_name = named_variant tried-all ns (named_kind (kind_of (peel v)))

  -- the value goes to the variant i: its result in a Union of that index, or its refusal
  abbrev pub GoesTo : ℕ → Type 0
  GoesTo i = resolve (Schema.Union vs ks ns) v ≡ after (get_or tried-all i no_trial).outcome (λ r. ok (Value.Union i r))

  chosen : (x y : Option ℕ) → by-table ≡ x → by_name ≡ y → resolve (Schema.Union vs ks ns) v ≡ in_union tried-all (position_of (choose tried-all x y))
  unfolding resolve resolve_union find_schema_with_known_schemata unnamed_variant
  chosen x y e f = ap (λ z. in_union tried-all (position_of (choose tried-all z by_name))) e ∙ ap (λ z. in_union tried-all (position_of (choose tried-all x z))) f

  pub smaller-table : (u n : ℕ) → by-table ≡ some u → by_name ≡ some n → u < n → GoesTo u
  unfolding choose position_of in_union
  smaller-table u n e f h = chosen (some u) (some n) e f ∙ ap (in_union tried-all) (chosen-both tried-all u n) ∙ ap (λ b. in_union tried-all (when b then some u else some n)) (lt-ltb u n h)

  pub smaller-named : (u n : ℕ) → by-table ≡ some u → by_name ≡ some n → n ≤ u → GoesTo n
  unfolding choose position_of in_union
  smaller-named u n e f h = chosen (some u) (some n) e f ∙ ap (in_union tried-all) (chosen-both tried-all u n) ∙ ap (λ b. in_union tried-all (when b then some u else some n)) (le-ltb u n h)

  pub only-table : (u : ℕ) → by-table ≡ some u → by_name ≡ none → GoesTo u
  unfolding choose position_of in_union
  only-table u e f = chosen (some u) none e f

  pub only-named : (n : ℕ) → by-table ≡ none → by_name ≡ some n → GoesTo n
  unfolding choose position_of in_union
  only-named n e f = chosen none (some n) e f

  pub neither-first : (i : ℕ) → by-table ≡ none → by_name ≡ none → FirstThat tried-all i → GoesTo i
  unfolding choose position_of in_union
  neither-first i e f h = chosen none none e f ∙ ap (in_union tried-all) (chosen-trial tried-all ∙ first-resolves tried-all i h)

  -- 16: no variant accepts
  pub neither-sixteen : by-table ≡ none → by_name ≡ none → ((j : ℕ) → j < length tried-all → Fails tried-all j) → resolve (Schema.Union vs ks ns) v ≡ stop 16
  unfolding choose position_of in_union
  neither-sixteen e f h = chosen none none e f ∙ ap (in_union tried-all) (chosen-trial tried-all ∙ none-resolves tried-all h)

-- ---- the kinds that lead to a variant (value_to_base_schemakind): the kind itself, or the types that Avro lets a logical type annotate

-- kind of the value, kind to look up in variant_index, base kind to look for in named_index
abbrev pub value-kinds : List (ℕ × (Option ℕ × Option ℕ))
value-kinds =
    (Kind.Null, (some Kind.Null, none))
    ∷ (Kind.Boolean, (some Kind.Boolean, none))
    ∷ (Kind.Int, (some Kind.Int, none))
    ∷ (Kind.Long, (some Kind.Long, none))
    ∷ (Kind.Float, (some Kind.Float, none))
    ∷ (Kind.Double, (some Kind.Double, none))
    ∷ (Kind.Bytes, (some Kind.Bytes, none))
    ∷ (Kind.String, (some Kind.String, none))
    ∷ (Kind.Array, (some Kind.Array, none))
    ∷ (Kind.Map, (some Kind.Map, some Kind.Record))
    ∷ (Kind.Union, (some Kind.Union, none))
    ∷ (Kind.Record, (none, some Kind.Record))
    ∷ (Kind.Enum, (none, some Kind.Enum))
    ∷ (Kind.Fixed, (none, some Kind.Fixed))
    ∷ (Kind.Decimal, (some Kind.Bytes, some Kind.Fixed))
    ∷ (Kind.Uuid, (some Kind.String, some Kind.Fixed))
    ∷ (Kind.Date, (some Kind.Int, none))
    ∷ (Kind.TimeMillis, (some Kind.Int, none))
    ∷ (Kind.TimeMicros, (some Kind.Long, none))
    ∷ (Kind.TimestampMillis, (some Kind.Long, none))
    ∷ (Kind.TimestampMicros, (some Kind.Long, none))
    ∷ (Kind.TimestampNanos, (some Kind.Long, none))
    ∷ (Kind.LocalTimestampMillis, (some Kind.Long, none))
    ∷ (Kind.LocalTimestampMicros, (some Kind.Long, none))
    ∷ (Kind.LocalTimestampNanos, (some Kind.Long, none))
    ∷ (Kind.Duration, (none, some Kind.Fixed))
    ∷ []

abbrev pub led : List (ℕ × (Option ℕ × Option ℕ)) → List (ℕ × (Option ℕ × Option ℕ))
led [] = []
led (x ∷ xs) = (x.0, (unnamed_kind x.0, named_kind x.0)) ∷ led xs

pub value-kinds-hold : led value-kinds ≡ value-kinds
unfolding unnamed_kind named_kind
value-kinds-hold = refl

-- ---- the base kind of a schema (schema_to_base_schemakind)

module _ (n p s : ℕ) (t : Schema) (fs : Fields) (vs : Variants) (ks : List (ℕ × ℕ)) (ns : List ℕ) where
  abbrev pub base-kinds : List (Schema × ℕ)
  base-kinds =
      (Schema.Plain Kind.Null, Kind.Null)
      ∷ (Schema.Plain Kind.Boolean, Kind.Boolean)
      ∷ (Schema.Plain Kind.Int, Kind.Int)
      ∷ (Schema.Plain Kind.Long, Kind.Long)
      ∷ (Schema.Plain Kind.Float, Kind.Float)
      ∷ (Schema.Plain Kind.Double, Kind.Double)
      ∷ (Schema.Plain Kind.Bytes, Kind.Bytes)
      ∷ (Schema.Plain Kind.String, Kind.String)
      ∷ (Schema.Array t, Kind.Array)
      ∷ (Schema.Map t, Kind.Map)
      ∷ (Schema.Union vs ks ns, Kind.Union)
      ∷ (Schema.Record fs, Kind.Record)
      ∷ (Schema.Enum [] none, Kind.Enum)
      ∷ (Schema.Fixed n, Kind.Fixed)
      ∷ (Schema.Decimal p s none, Kind.Bytes)
      ∷ (Schema.Decimal p s (some n), Kind.Fixed)
      ∷ (Schema.Uuid UuidForm.bytes, Kind.Bytes)
      ∷ (Schema.Uuid UuidForm.string, Kind.String)
      ∷ (Schema.Uuid (UuidForm.fixed n), Kind.Fixed)
      ∷ (Schema.Plain Kind.Date, Kind.Int)
      ∷ (Schema.Plain Kind.TimeMillis, Kind.Int)
      ∷ (Schema.Plain Kind.TimeMicros, Kind.Long)
      ∷ (Schema.Plain Kind.TimestampMillis, Kind.Long)
      ∷ (Schema.Plain Kind.TimestampMicros, Kind.Long)
      ∷ (Schema.Plain Kind.TimestampNanos, Kind.Long)
      ∷ (Schema.Plain Kind.LocalTimestampMillis, Kind.Long)
      ∷ (Schema.Plain Kind.LocalTimestampMicros, Kind.Long)
      ∷ (Schema.Plain Kind.LocalTimestampNanos, Kind.Long)
      ∷ (Schema.Duration n, Kind.Fixed)
      ∷ []

  abbrev pub based : List (Schema × ℕ) → List (Schema × ℕ)
  based [] = []
  based (x ∷ xs) = (x.0, schema_to_base_schemakind x.0) ∷ based xs

  pub base-kinds-hold : based base-kinds ≡ base-kinds
  unfolding schema_to_base_schemakind
  base-kinds-hold = refl
