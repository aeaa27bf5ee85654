-- Number 3 stops a schema exactly where it has one of the faults of the rules' sentence.
use Prim.Native.Nat.{ℕ, suc, ◌≤◌, ◌<◌}
use mathlib.Core.Path.{◌≡◌, refl, subst}
use mathlib.Core.List.Memᴰ
use mathlib.Core.List.{List, [], ◌∷◌, Memᴰ}
use mathlib.Core.Logic.{◌↔◌, ◌⊎◌, inl, inr}
use mathlib.Core.Option.{Option, none, some}
use mathlib.Core.Bool.{Bool, true, false, ◌&&◌, ◌||◌, not}
use native.Mathlib.Omega.{arith}
use borrow.Author.Tests.{leb-false, ltb-false, eqb-false}
use lib.Dec.{T, T_not, not_T, leb, ltb, eqb, leb→le, ltb→lt, eqb→eq}
use lib.Ieee.Bits.{is_false}
use lib.Ieee.Fits.{and_l, and_r}
use Rattle.text.specs.Text.{Text, same}
use Rattle.text.proofs.TextLaws.{same→≡, same_refl}
use Rattle.frame.specs.Kind
use Rattle.frame.specs.Tree.{Value, Schema, Fields, Variants, UuidForm, no_fields, field, no_variants, variant, schema_kind}
use Rattle.frame.specs.Sound.{default_allowed, kinds_sound, positions_sound, count_variants, has_field, uuid_size_sound, schema_sound, fields_sound, variants_sound}
use Rattle.frame.proofs.SoundLaws.{sound-union, sound-variant, sound-field}
use Rattle.frame.specs.Faults.{Allowed, VariantOf, first_variant, later_variant, FieldOf, first_field, later_field, NameTwice, again, further, NotRising, behind, further_on, Faulty, empty_union, union_variant, kind_past, kind_falls, lead_past, named_past, name_repeats, duration_size, uuid_size, default_kind, in_items, in_values, in_field, in_variant}
use Rattle.frame.proofs.DefaultLaws.{default-allowed}

-- ---- what is faulty is not sound

-- a sound kind table, taken apart
record SoundLead (c least : ℕ) (e : ℕ × ℕ) (es : List (ℕ × ℕ)) : Type 0 where
  rises : least ≤ e.0
  known : e.0 ≤ 0x19
  inside : e.1 < c
  rest : T (kinds_sound c (suc e.0) es)

sound-lead : (c least : ℕ) (e : ℕ × ℕ) (es : List (ℕ × ℕ)) → T (kinds_sound c least (e ∷ es)) → SoundLead c least e es
unfolding kinds_sound
sound-lead c least e es h =
    let x : Bool = leb least e.0 in
    let y : Bool = leb e.0 0x19 in
    let z : Bool = ltb e.1 c in
    let w : Bool = kinds_sound c (suc e.0) es in
    let xyz : T (x && y && z) = and_l (x && y && z) w h in
    let xy : T (x && y) = and_l (x && y) z xyz in
    record {
      rises = leb→le least e.0 (and_l x y xy);
      known = leb→le e.0 0x19 (and_r x y xy);
      inside = ltb→lt e.1 c (and_r (x && y) z xyz);
      rest = and_r (x && y && z) w h;
    }

-- every entry of a sound kind table
leads-sound : (c least : ℕ) (ks : List (ℕ × ℕ)) → T (kinds_sound c least ks) → (e : ℕ × ℕ) → Memᴰ e ks → (least ≤ e.0) × (e.0 ≤ 0x19) × (e.1 < c)
leads-sound c least [] h e m = absurd (Memᴰ.not-nil m)
leads-sound c least (f ∷ ks) h e m = go (sound-lead c least f ks h) (Memᴰ.cases_cons m) (λ g n. leads-sound c (suc f.0) ks g e n)
  where
    go : SoundLead c least f ks → (e ≡ f) ⊎ Memᴰ e ks → (T (kinds_sound c (suc f.0) ks) → Memᴰ e ks → (suc f.0 ≤ e.0) × (e.0 ≤ 0x19) × (e.1 < c))
        → (least ≤ e.0) × (e.0 ≤ 0x19) × (e.1 < c)
    go l (inl q) k = rw q (l.rises, l.known, l.inside)
    go l (inr n) k = let r = k l.rest n in let a : least ≤ f.0 = l.rises in (omega (arith, r.0), r.1, r.2)

leads-rise : (c least : ℕ) {ks : List (ℕ × ℕ)} → NotRising ks → T (kinds_sound c least ks) → ⊥
leads-rise c least (behind {e} {f} {es} m l) h =
    let r = leads-sound c (suc e.0) es (sound-lead c least e es h).rest f m in omega (arith, r.0, l)
leads-rise c least (further_on {e} {es} n) h = leads-rise c (suc e.0) n (sound-lead c least e es h).rest

names-sound : (c : ℕ) (ns : List ℕ) → T (positions_sound c ns) → (p : ℕ) → Memᴰ p ns → p < c
unfolding positions_sound
names-sound c [] h p m = absurd (Memᴰ.not-nil m)
names-sound c (q ∷ ns) h p m = go (Memᴰ.cases_cons m) (names-sound c ns (and_r (ltb q c) (positions_sound c ns) h) p)
  where
    go : (p ≡ q) ⊎ Memᴰ p ns → (Memᴰ p ns → p < c) → p < c
    go (inl e) k = rw e (ltb→lt q c (and_l (ltb q c) (positions_sound c ns) h))
    go (inr n) k = k n

pub variant-sound : {s : Schema} {vs : Variants} → VariantOf s vs → T (variants_sound vs) → T (not (eqb (schema_kind s) Kind.Union)) × T (schema_sound s)
variant-sound (first_variant {s} {vs}) h = let r = sound-variant s vs h in (r.no_union, r.schema)
variant-sound (later_variant {s} {t} {vs} m) h = variant-sound m (sound-variant t vs h).rest

pub field-sound : {n : Text} {d : Option Value} {s : Schema} {fs : Fields} → FieldOf n d s fs → T (fields_sound fs) → T (default_allowed d) × T (schema_sound s)
field-sound (first_field {n} {d} {s} {fs}) h = let r = sound-field n d s fs h in (r.allowed, r.schema)
field-sound (later_field {n} {m} {d} {e} {s} {t} {fs} i) h = field-sound i (sound-field m e t fs h).rest

pub has-field : {n : Text} {d : Option Value} {s : Schema} {fs : Fields} → FieldOf n d s fs → T (has_field n fs)
unfolding has_field
has-field (first_field {n}) = rw (same_refl n) tt
has-field (later_field {n} {m} {d} {e} {s} {t} {fs} i) = or_r (same m n) (has_field n fs) (has-field i)
  where
    or_r : (a b : Bool) → T b → T (a || b)
    or_r true b h = tt
    or_r false b h = h

names-differ : {fs : Fields} → NameTwice fs → T (fields_sound fs) → ⊥
names-differ (again {n} {d} {e} {s} {t} {fs} i) h = T_not (has_field n fs) (sound-field n d s fs h).new (has-field i)
names-differ (further {n} {d} {s} {fs} m) h = names-differ m (sound-field n d s fs h).rest

faulty-unsound : {s : Schema} → Faulty s → T (schema_sound s) → ⊥
unfolding schema_sound uuid_size_sound count_variants schema_kind
faulty-unsound (empty_union {ks} {ns}) h = let u = sound-union no_variants ks ns h in omega (arith, u.any)
faulty-unsound (union_variant {s} {vs} {ks} {ns} m e) h = rw e at (variant-sound m (sound-union vs ks ns h).variants).0
faulty-unsound (kind_past {e} {vs} {ks} {ns} m l) h = let r = leads-sound (count_variants vs) 0 ks (sound-union vs ks ns h).kinds e m in omega (arith, r.1, l)
faulty-unsound (kind_falls {vs} {ks} {ns} n) h = leads-rise (count_variants vs) 0 n (sound-union vs ks ns h).kinds
faulty-unsound (lead_past {e} {vs} {ks} {ns} m l) h = let r = leads-sound (count_variants vs) 0 ks (sound-union vs ks ns h).kinds e m in omega (arith, r.2, l)
faulty-unsound (named_past {p} {vs} {ks} {ns} m l) h = let r = names-sound (count_variants vs) ns (sound-union vs ks ns h).positions p m in omega (arith, r, l)
faulty-unsound (name_repeats t) h = names-differ t h
faulty-unsound (duration_size {n} f) h = f (eqb→eq n 12 h)
faulty-unsound (uuid_size {n} f) h = f (eqb→eq n 16 h)
faulty-unsound (default_kind {n} {v} i f) h = f ((default-allowed v).0 (field-sound i h).0)
faulty-unsound (in_items f) h = faulty-unsound f h
faulty-unsound (in_values f) h = faulty-unsound f h
faulty-unsound (in_field i f) h = faulty-unsound f (field-sound i h).1
faulty-unsound (in_variant {s} {vs} {ks} {ns} m f) h = faulty-unsound f (variant-sound m (sound-union vs ks ns h).variants).1

-- ---- what is not sound is faulty

and-false : (a b : Bool) → (a && b) ≡ false → (a ≡ false) ⊎ (b ≡ false)
and-false true b e = inr e
and-false false b e = inl refl

not-false : (b : Bool) → not b ≡ false → T b
not-false true e = tt
not-false false e = let z : ◌≡◌ {A = ℕ} 0 1 = cc in absurd (omega arith)

-- what is wrong with a kind table
data LeadFault (c least : ℕ) (ks : List (ℕ × ℕ)) : Type 0 where
  low : (e : ℕ × ℕ) → Memᴰ e ks → e.0 < least → LeadFault c least ks
  past : (e : ℕ × ℕ) → Memᴰ e ks → 0x19 < e.0 → LeadFault c least ks
  far : (e : ℕ × ℕ) → Memᴰ e ks → c ≤ e.1 → LeadFault c least ks
  falls : NotRising ks → LeadFault c least ks

later-fault : (c least : ℕ) (e : ℕ × ℕ) (es : List (ℕ × ℕ)) → LeadFault c (suc e.0) es → LeadFault c least (e ∷ es)
later-fault c least e es (low f m l) = let k : f.0 ≤ e.0 = omega arith in falls (behind m k)
later-fault c least e es (past f m l) = past f (Memᴰ.tail m) l
later-fault c least e es (far f m l) = far f (Memᴰ.tail m) l
later-fault c least e es (falls n) = falls (further_on n)

leads-fault : (c least : ℕ) (ks : List (ℕ × ℕ)) → kinds_sound c least ks ≡ false → LeadFault c least ks
unfolding kinds_sound
leads-fault c least [] h = let z : ◌≡◌ {A = ℕ} 0 1 = cc in absurd (omega arith)
leads-fault c least (e ∷ es) h = all (and-false (x && y && z) w h) (λ g. leads-fault c (suc e.0) es g)
  where
    x : Bool
    x = leb least e.0

    y : Bool
    y = leb e.0 0x19

    z : Bool
    z = ltb e.1 c

    w : Bool
    w = kinds_sound c (suc e.0) es

    one : (x ≡ false) ⊎ (y ≡ false) → LeadFault c least (e ∷ es)
    one (inl f) = low e (Memᴰ.head refl) (leb-false least e.0 f)
    one (inr f) = past e (Memᴰ.head refl) (leb-false e.0 0x19 f)

    two : (x && y ≡ false) ⊎ (z ≡ false) → LeadFault c least (e ∷ es)
    two (inl f) = one (and-false x y f)
    two (inr f) = far e (Memᴰ.head refl) (ltb-false e.1 c f)

    all : (x && y && z ≡ false) ⊎ (w ≡ false) → (w ≡ false → LeadFault c (suc e.0) es) → LeadFault c least (e ∷ es)
    all (inl f) k = two (and-false (x && y) z f)
    all (inr f) k = later-fault c least e es (k f)

names-fault : (c : ℕ) (ns : List ℕ) → positions_sound c ns ≡ false → (p : ℕ) × (Memᴰ p ns × (c ≤ p))
unfolding positions_sound
names-fault c [] h = let z : ◌≡◌ {A = ℕ} 0 1 = cc in absurd (omega arith)
names-fault c (q ∷ ns) h = go (and-false (ltb q c) (positions_sound c ns) h) (λ g. names-fault c ns g)
  where
    go : (ltb q c ≡ false) ⊎ (positions_sound c ns ≡ false) → (positions_sound c ns ≡ false → (p : ℕ) × (Memᴰ p ns × (c ≤ p)))
        → (p : ℕ) × (Memᴰ p (q ∷ ns) × (c ≤ p))
    go (inl f) k = (q, (Memᴰ.head refl, ltb-false q c f))
    go (inr f) k = let r = k f in (r.0, (Memᴰ.tail r.1.0, r.1.1))

-- a field of that name
field-named : (n : Text) (fs : Fields) → T (has_field n fs) → (d : Option Value) × ((s : Schema) × FieldOf n d s fs)
unfolding has_field
field-named n no_fields h = absurd h
field-named n (field m d s fs) h = go (same m n) refl h (λ t. field-named n fs t)
  where
    go : (b : Bool) → same m n ≡ b → T (b || has_field n fs) → (T (has_field n fs) → (e : Option Value) × ((t : Schema) × FieldOf n e t fs))
        → (e : Option Value) × ((t : Schema) × FieldOf n e t (field m d s fs))
    go true e t k = (d, (s, subst (λ (x : Text). FieldOf x d s (field m d s fs)) (same→≡ m n (rw e tt)) first_field))
    go false e t k = let r = k t in (r.0, (r.1.0, later_field r.1.1))

-- what is wrong with variants: one is a union, or is faulty itself
BadVariant : Variants → Type 0
BadVariant vs = (s : Schema) × (VariantOf s vs × ((schema_kind s ≡ Kind.Union) ⊎ Faulty s))

-- what is wrong with fields: a name stands twice, a default is not allowed, or a schema is faulty itself
data BadField (fs : Fields) : Type 0 where
  twice : NameTwice fs → BadField fs
  not-allowed : {n : Text} {v : Value} {s : Schema} → FieldOf n (some v) s fs → (Allowed v → ⊥) → BadField fs
  faulty : {n : Text} {d : Option Value} {s : Schema} → FieldOf n d s fs → Faulty s → BadField fs

later-bad : (n : Text) (d : Option Value) (s : Schema) (fs : Fields) → BadField fs → BadField (field n d s fs)
later-bad n d s fs (twice t) = twice (further t)
later-bad n d s fs (not-allowed i f) = not-allowed (later_field i) f
later-bad n d s fs (faulty i f) = faulty (later_field i) f

default-bad : (n : Text) (d : Option Value) (s : Schema) (fs : Fields) → default_allowed d ≡ false → BadField (field n d s fs)
unfolding default_allowed
default-bad n none s fs e = let z : ◌≡◌ {A = ℕ} 0 1 = cc in absurd (omega arith)
default-bad n (some v) s fs e = not-allowed first_field (λ a. subst T e ((default-allowed v).1 a))

field-bad : (n : Text) (d : Option Value) (s : Schema) (fs : Fields) → (schema_sound s ≡ false → Faulty s) → (fields_sound fs ≡ false → BadField fs)
    → (not (has_field n fs) && default_allowed d && schema_sound s && fields_sound fs) ≡ false → BadField (field n d s fs)
field-bad n d s fs f g h = all (and-false (a && default_allowed d && schema_sound s) (fields_sound fs) h)
  where
    a : Bool
    a = not (has_field n fs)

    one : (a ≡ false) ⊎ (default_allowed d ≡ false) → BadField (field n d s fs)
    one (inl e) = let r = field-named n fs (not-false (has_field n fs) e) in twice (again r.1.1)
    one (inr e) = default-bad n d s fs e

    two : (a && default_allowed d ≡ false) ⊎ (schema_sound s ≡ false) → BadField (field n d s fs)
    two (inl e) = one (and-false a (default_allowed d) e)
    two (inr e) = faulty first_field (f e)

    all : (a && default_allowed d && schema_sound s ≡ false) ⊎ (fields_sound fs ≡ false) → BadField (field n d s fs)
    all (inl e) = two (and-false (a && default_allowed d) (schema_sound s) e)
    all (inr e) = later-bad n d s fs (g e)

variant-bad : (s : Schema) (vs : Variants) → (schema_sound s ≡ false → Faulty s) → (variants_sound vs ≡ false → BadVariant vs)
    → (not (eqb (schema_kind s) Kind.Union) && schema_sound s && variants_sound vs) ≡ false → BadVariant (variant s vs)
unfolding BadVariant
variant-bad s vs f g h = all (and-false (a && schema_sound s) (variants_sound vs) h)
  where
    a : Bool
    a = not (eqb (schema_kind s) Kind.Union)

    one : (a ≡ false) ⊎ (schema_sound s ≡ false) → BadVariant (variant s vs)
    one (inl e) = (s, (first_variant, inl (eqb→eq (schema_kind s) Kind.Union (not-false (eqb (schema_kind s) Kind.Union) e))))
    one (inr e) = (s, (first_variant, inr (f e)))

    all : (a && schema_sound s ≡ false) ⊎ (variants_sound vs ≡ false) → BadVariant (variant s vs)
    all (inl e) = one (and-false a (schema_sound s) e)
    all (inr e) = let r = g e in (r.0, (later_variant r.1.0, r.1.1))

union-bad : (vs : Variants) (ks : List (ℕ × ℕ)) (ns : List ℕ) → (variants_sound vs ≡ false → BadVariant vs)
    → (ltb 0 (count_variants vs) && variants_sound vs && kinds_sound (count_variants vs) 0 ks && positions_sound (count_variants vs) ns) ≡ false → Faulty (Schema.Union vs ks ns)
unfolding BadVariant count_variants
union-bad vs ks ns g h = all (and-false (a && b && k) p h)
  where
    a : Bool
    a = ltb 0 (count_variants vs)

    b : Bool
    b = variants_sound vs

    k : Bool
    k = kinds_sound (count_variants vs) 0 ks

    p : Bool
    p = positions_sound (count_variants vs) ns

    empty : (us : Variants) → ltb 0 (count_variants us) ≡ false → Faulty (Schema.Union us ks ns)
    empty no_variants e = empty_union
    empty (variant s us) e = let l = ltb-false 0 (count_variants (variant s us)) e in absurd (omega (arith, l))

    bad : (r : BadVariant vs) → Faulty (Schema.Union vs ks ns)
    bad r = pick r.1.1
      where
        pick : (schema_kind r.0 ≡ Kind.Union) ⊎ Faulty r.0 → Faulty (Schema.Union vs ks ns)
        pick (inl e) = union_variant r.1.0 e
        pick (inr f) = in_variant r.1.0 f

    lead : LeadFault (count_variants vs) 0 ks → Faulty (Schema.Union vs ks ns)
    lead (low e m l) = absurd (omega (arith, l))
    lead (past e m l) = kind_past m l
    lead (far e m l) = lead_past m l
    lead (falls n) = kind_falls n

    one : (a ≡ false) ⊎ (b ≡ false) → Faulty (Schema.Union vs ks ns)
    one (inl e) = empty vs e
    one (inr e) = bad (g e)

    two : (a && b ≡ false) ⊎ (k ≡ false) → Faulty (Schema.Union vs ks ns)
    two (inl e) = one (and-false a b e)
    two (inr e) = lead (leads-fault (count_variants vs) 0 ks e)

    all : (a && b && k ≡ false) ⊎ (p ≡ false) → Faulty (Schema.Union vs ks ns)
    all (inl e) = two (and-false (a && b) k e)
    all (inr e) = let r = names-fault (count_variants vs) ns e in named_past r.1.0 r.1.1

uuid-bad : (f : UuidForm) → uuid_size_sound f ≡ false → Faulty (Schema.Uuid f)
unfolding uuid_size_sound
uuid-bad UuidForm.bytes e = let z : ◌≡◌ {A = ℕ} 0 1 = cc in absurd (omega arith)
uuid-bad UuidForm.string e = let z : ◌≡◌ {A = ℕ} 0 1 = cc in absurd (omega arith)
uuid-bad (UuidForm.fixed n) e = uuid_size (eqb-false n 16 e)

record-bad : (fs : Fields) → BadField fs → Faulty (Schema.Record fs)
record-bad fs (twice t) = name_repeats t
record-bad fs (not-allowed i f) = default_kind i f
record-bad fs (faulty i f) = in_field i f

true-false : {A : Type 0} → true ≡ false → A
true-false e = let z : ◌≡◌ {A = ℕ} 0 1 = cc in absurd (omega arith)

mutual
  unfolding schema_sound

  unsound-bad : (s : Schema) → schema_sound s ≡ false → Faulty s
  unsound-bad (Schema.Plain k) e = true-false e
  unsound-bad (Schema.Fixed n) e = true-false e
  unsound-bad (Schema.Decimal p c n) e = true-false e
  unsound-bad (Schema.Uuid f) e = uuid-bad f e
  unsound-bad (Schema.Duration n) e = duration_size (eqb-false n 12 e)
  unsound-bad (Schema.Enum ss d) e = true-false e
  unsound-bad (Schema.Array s) e = in_items (unsound-bad s e)
  unsound-bad (Schema.Map s) e = in_values (unsound-bad s e)
  unsound-bad (Schema.Record fs) e = record-bad fs (unsound-fields fs e)
  unsound-bad (Schema.Union vs ks ns) e = union-bad vs ks ns (λ h. unsound-variants vs h) e

  unsound-fields : (fs : Fields) → fields_sound fs ≡ false → BadField fs
  unsound-fields no_fields e = true-false e
  unsound-fields (field n d s fs) e = field-bad n d s fs (λ h. unsound-bad s h) (λ h. unsound-fields fs h) e

  unsound-variants : (vs : Variants) → variants_sound vs ≡ false → BadVariant vs
  unsound-variants no_variants e = true-false e
  unsound-variants (variant s vs) e = variant-bad s vs (λ h. unsound-bad s h) (λ h. unsound-variants vs h) e

-- number 3 stops a schema exactly where the rules' sentence says so
pub unsound-faulty : (s : Schema) → (schema_sound s ≡ false) ↔ Faulty s
unsound-faulty s = (unsound-bad s, λ f. is_false (schema_sound s) (not_T (schema_sound s) (faulty-unsound f)))
