-- Sound parts of a schema frame, and the lengths of those whose defaults are short: the children of a node, and the loops over the
-- variants of a union and the fields of a record.
use Prim.Native.Nat.{ℕ, ◌+◌, ◌-◌, ◌≤◌, ◌<◌}
use mathlib.Core.Path.{◌≡◌, refl, sym, ap, ◌∙◌, subst}
use mathlib.Core.List.{List, [], ◌∷◌}
use mathlib.Core.Option.{none, some}
use mathlib.Core.Bool.{Bool, true, false, ◌&&◌, not}
use native.Mathlib.Omega.{arith}
use lib.Dec.{T, leb}
use lib.ListN.{length, get_or, drop, length-drop}
use lib.Seq.{drop-drop}
use lib.Ieee.Fits.{and_i, and_l, and_r}
use borrow.Author.Tests.{leb-true, leb-false}
use Rattle.std.specs.Prelude.{Option, Some, None}
use Rattle.std.specs.Option.{is_some}
use Rattle.number.specs.Number.{number_at}
use Rattle.text.specs.Read.{Read, ◌>>=◌}
use Rattle.text.specs.Measured.{Reads}
use Rattle.frame.specs.Tree.{Schema, schema_kind}
use Rattle.frame.specs.Readers.{read_many}
use Rattle.frame.specs.SchemaFrame.{Field, fields_of, variants_of, read_field, read_schema}
use Rattle.frame.specs.Sound.{schema_sound, fields_sound, variants_sound, has_field, default_allowed}
use Rattle.frame.specs.Checks.{Spans}
use Rattle.frame.proofs.Reading.{map_read, map-inv, reads-some}
use Rattle.frame.proofs.Measuring.{spans-le, spans-some, spans-rest, spans-eq, spans-drop, spans-map}
use Rattle.frame.proofs.Counting.{First, many-first, many-none}
use Rattle.frame.proofs.SchemaNodes.{schema-there, schema-kind}
use Rattle.schema.specs.Parts.{field_sound}
use Rattle.avro.specs.Defaults.{defaults_short, field_defaults_short, variant_defaults_short}
use Rattle.frame.proofs.SoundLaws.{sound-union, sound-variant}
use Rattle.variants.specs.Ways.{Ready}
use Rattle.defaults.specs.Shortness.{SoundRead, test_read, ShortLen, field_short}
use Rattle.walk.proofs.ReadParts.{schema-array, schema-map, schema-fields}
use Rattle.variants.proofs.UnionReading.{union-parts}

-- ---- what was read

pub sound-reads : {A : Type 0} {test : A → Bool} {x : Read A} → SoundRead test x → Reads x
sound-reads w = reads-some w.tree w.rest w.reads

pub test-some : {A : Type 0} (test : A → Bool) (x : Read A) (a : A) (r : List ℕ) → x ≡ some (a, r) → test_read test x ≡ test a
unfolding test_read
test-some test x a r e = ap (test_read test) e

-- ---- the length of what passes a test

module _ {A : Type 0} (test : A → Bool) (x : Read A) (s : List ℕ) where
  pub len-le : (n : ℕ) → ShortLen test x s (Some n) → n ≤ length s
  unfolding ShortLen
  len-le n w = spans-le x s n w.1

  pub len-tells : (o : Option ℕ) → ShortLen test x s o → is_some o ≡ test_read test x
  unfolding ShortLen
  len-tells None w = sym w
  len-tells (Some n) w = sym w.0

  pub fails : test_read test x ≡ false → ShortLen test x s None
  unfolding ShortLen
  fails e = e

-- a node whose defaults are short
pub node-len : (d : ℕ) (s : List ℕ) → test_read defaults_short (read_schema d s) ≡ true → (n : ℕ) → Spans (read_schema d s) s n → ShortLen defaults_short (read_schema d s) s (Some n)
unfolding ShortLen
node-len d s e n v = (e, v)

-- a length with one byte more in front
abbrev pub next_len : Option ℕ → Option ℕ
next_len None = None
next_len (Some n) = Some (1 + n)

-- ---- a node that is as sound and as short as its child

module _ {A B : Type 0} (g : A → B) (f : A → Bool) (h : B → Bool) (q : (a : A) → h (g a) ≡ f a) where
  child-sound : (x : Read B) (y : Read A) → x ≡ map_read g y → SoundRead h x → SoundRead f y
  child-sound x y e w =
      let m = map-inv g y w.tree w.rest (sym e ∙ w.reads) in
      record { tree = m.0; rest = w.rest; reads = m.1.0; sound = subst T (ap h m.1.1 ∙ q m.0) w.sound }

  test-map : (y : Read A) → test_read h (map_read g y) ≡ test_read f y
  unfolding test_read ◌>>=◌
  test-map none = refl
  test-map (some x) = q x.0

  child-test : (x : Read B) (y : Read A) → x ≡ map_read g y → test_read h x ≡ test_read f y
  child-test x y e = ap (test_read h) e ∙ test-map y

  -- the child stands behind the kind byte
  child-len : (x : Read B) (y : Read A) (s : List ℕ) → 0 < length s → x ≡ map_read g y → (o : Option ℕ) → ShortLen f y (drop 1 s) o → ShortLen h x s (next_len o)
  unfolding ShortLen
  child-len x y s l e None w = child-test x y e ∙ w
  child-len x y s l e (Some n) w = (child-test x y e ∙ w.0, spans-eq x (map_read g y) s (1 + n) e (spans-map g y s (1 + n) (spans-drop y s 1 n l w.1)))

-- a schema that has no child has no default
leaf : (t : Schema) (k : ℕ) → schema_kind t ≡ k → (k ≡ 8 → ⊥) → (k ≡ 9 → ⊥) → (k ≡ 10 → ⊥) → (k ≡ 11 → ⊥) → defaults_short t ≡ true
unfolding schema_kind defaults_short
leaf (Schema.Plain j) k e a m u r = refl
leaf (Schema.Fixed n) k e a m u r = refl
leaf (Schema.Decimal p c n) k e a m u r = refl
leaf (Schema.Uuid f) k e a m u r = refl
leaf (Schema.Duration n) k e a m u r = refl
leaf (Schema.Enum ss d) k e a m u r = refl
leaf (Schema.Array t) k e a m u r = absurd (a (sym e))
leaf (Schema.Map t) k e a m u r = absurd (m (sym e))
leaf (Schema.Record fs) k e a m u r = absurd (r (sym e))
leaf (Schema.Union vs ks ns) k e a m u r = absurd (u (sym e))

module _ (d : ℕ) (s : List ℕ) (w : SoundRead schema_sound (read_schema d s)) where
  pub sound-there : (0 < d) × (0 < length s)
  sound-there = schema-there d s (sound-reads w)

  pub items-sound : get_or s 0 0 ≡ 8 → SoundRead schema_sound (read_schema (d - 1) (drop 1 s))
  unfolding schema_sound
  items-sound e = child-sound Schema.Array schema_sound schema_sound (λ a. refl) _ _ (schema-array d s (sound-reads w) e) w

  pub items-len : get_or s 0 0 ≡ 8 → (o : Option ℕ) → ShortLen defaults_short (read_schema (d - 1) (drop 1 s)) (drop 1 s) o → ShortLen defaults_short (read_schema d s) s (next_len o)
  unfolding defaults_short
  items-len e = child-len Schema.Array defaults_short defaults_short (λ a. refl) _ _ s sound-there.1 (schema-array d s (sound-reads w) e)

  pub values-sound : get_or s 0 0 ≡ 9 → SoundRead schema_sound (read_schema (d - 1) (drop 1 s))
  unfolding schema_sound
  values-sound e = child-sound Schema.Map schema_sound schema_sound (λ a. refl) _ _ (schema-map d s (sound-reads w) e) w

  pub values_len : get_or s 0 0 ≡ 9 → (o : Option ℕ) → ShortLen defaults_short (read_schema (d - 1) (drop 1 s)) (drop 1 s) o → ShortLen defaults_short (read_schema d s) s (next_len o)
  unfolding defaults_short
  values_len e = child-len Schema.Map defaults_short defaults_short (λ a. refl) _ _ s sound-there.1 (schema-map d s (sound-reads w) e)

  pub leaf-len : (get_or s 0 0 ≡ 8 → ⊥) → (get_or s 0 0 ≡ 9 → ⊥) → (get_or s 0 0 ≡ 10 → ⊥) → (get_or s 0 0 ≡ 11 → ⊥) → (n : ℕ) → Spans (read_schema d s) s n → ShortLen defaults_short (read_schema d s) s (Some n)
  leaf-len a m u r =
      let k = schema-kind d s w.tree w.rest w.reads in
      node-len d s (test-some defaults_short _ w.tree w.rest w.reads ∙ leaf w.tree (get_or s 0 0) k a m u r)

-- the kind of an array, or of a map
module _ {P : Type 0} (k : ℕ) (l : 8 ≤ k) (h : k < 10) (a : k ≡ 8 → P) (m : k ≡ 9 → P) where
  at-most : (b : Bool) → leb k 8 ≡ b → P
  at-most true q = let u = leb-true k 8 q in a (omega arith)
  at-most false q = let u = leb-false k 8 q in m (omega arith)

  pub array-or-map : P
  array-or-map = at-most (leb k 8) refl

-- a sound schema whose defaults turned out short
pub short-ready : (d : ℕ) (s : List ℕ) → SoundRead schema_sound (read_schema d s) → test_read defaults_short (read_schema d s) ≡ true → Ready d s
short-ready d s w e = record {
  tree = w.tree;
  rest = w.rest;
  reads = w.reads;
  sound = w.sound;
  short = subst T (sym e ∙ test-some defaults_short _ w.tree w.rest w.reads) tt;
}

-- ---- a loop over things that are known to be there and sound

-- it has come to `at` with `left` of them to go: these are sound, `whole` says whether they are short, and `end` holds of what is
-- behind them
pub record Left {A : Type 0} (p : List ℕ → Read A) (sound short : List A → Bool) (whole : Bool) (end : List ℕ → Type 0) (s : List ℕ) (left at : ℕ) : Type 0 where
  pub inside : at ≤ length s
  pub items : List A
  pub rest : List ℕ
  pub reads : read_many p left (drop at s) ≡ some (items, rest)
  pub are-sound : T (sound items)
  pub are-short : whole ≡ short items
  pub ends : end rest

-- how soundness and shortness of many go by those of one
pub record Piecewise {A : Type 0} (sound short : List A → Bool) (one test : A → Bool) : Type 0 where
  pub none-short : short [] ≡ true
  pub first-sound : (a : A) (xs : List A) → T (sound (a ∷ xs)) → T (one a)
  pub others-sound : (a : A) (xs : List A) → T (sound (a ∷ xs)) → T (sound xs)
  pub short-both : (a : A) (xs : List A) → short (a ∷ xs) ≡ (test a && short xs)

module _ {A : Type 0} {p : List ℕ → Read A} {sound short : List A → Bool} {one test : A → Bool} (by : Piecewise sound short one test) {whole : Bool} {end : List ℕ → Type 0} {s : List ℕ} {left at : ℕ} (w : Left p sound short whole end s left at) where
  pub left-first : 0 < left → SoundRead one (p (drop at s))
  left-first h =
      let f = many-first p left (drop at s) w.items w.rest h w.reads in
      record { tree = f.item; rest = f.behind; reads = f.first; sound = by.first-sound f.item f.others (subst (λ l. T (sound l)) f.cons w.are-sound) }

  left_both : (f : First p left (drop at s) w.items w.rest) → whole ≡ (test_read test (p (drop at s)) && short f.others)
  left_both f =
      w.are-short ∙ ap short f.cons ∙ by.short-both f.item f.others
      ∙ ap (λ x. x && short f.others) (sym (test-some test _ f.item f.behind f.first))

  -- one that is not short
  pub left-long : 0 < left → ShortLen test (p (drop at s)) (drop at s) None → whole ≡ false
  unfolding ShortLen
  left-long h v =
      let f = many-first p left (drop at s) w.items w.rest h w.reads in
      left_both f ∙ ap (λ x. x && short f.others) v

  -- one that is short, of m bytes
  pub left-short : 0 < left → (m : ℕ) → ShortLen test (p (drop at s)) (drop at s) (Some m) → Left p sound short whole end s (left - 1) (at + m)
  unfolding ShortLen
  left-short h m v =
      let f = many-first p left (drop at s) w.items w.rest h w.reads in
      let t : f.behind ≡ drop (at + m) s = spans-rest _ _ m v.1 f.item f.behind f.first ∙ drop-drop m at s in
      record {
        inside = omega (arith, w.inside, len-le test _ _ m v, length-drop at s);
        items = f.others;
        rest = w.rest;
        reads = ap (read_many p (left - 1)) (sym t) ∙ f.reads;
        are-sound = by.others-sound f.item f.others (subst (λ l. T (sound l)) f.cons w.are-sound);
        are-short = left_both f ∙ ap (λ x. x && short f.others) v.0;
        ends = w.ends;
      }

  pub left_end : left ≤ 0 → (whole ≡ true) × end (drop at s)
  left_end h =
      let q = many-none p left (drop at s) w.items w.rest h w.reads in
      (w.are-short ∙ ap short q.0 ∙ by.none-short, subst end (sym q.1) w.ends)

-- ---- the fields of a record

abbrev pub all_fields_sound : List Field → Bool
all_fields_sound fs = fields_sound (fields_of fs)

abbrev pub all_fields_short : List Field → Bool
all_fields_short fs = field_defaults_short (fields_of fs)

-- behind the fields stands what is behind their record
abbrev pub FieldsLeft : ℕ → List ℕ → ℕ → ℕ → Type 0
FieldsLeft d s left at = Left (read_field (read_schema (d - 1))) all_fields_sound all_fields_short (test_read defaults_short (read_schema d s)) (λ r. (t : Schema) × (read_schema d s ≡ some (t, r))) s left at

pub by-fields : Piecewise all_fields_sound all_fields_short field_sound field_short
unfolding schema_sound defaults_short fields_of field_short
by-fields = record {
  none-short = refl;
  first-sound = λ f fs h.
      let n = not (has_field f.0 (fields_of fs)) in
      let g : T (n && default_allowed f.1 && schema_sound f.2) = and_l (n && default_allowed f.1 && schema_sound f.2) (fields_sound (fields_of fs)) h in
      and_i (default_allowed f.1) (schema_sound f.2) (and_r n (default_allowed f.1) (and_l (n && default_allowed f.1) (schema_sound f.2) g)) (and_r (n && default_allowed f.1) (schema_sound f.2) g);
  others-sound = λ f fs h. and_r (not (has_field f.0 (fields_of fs)) && default_allowed f.1 && schema_sound f.2) (fields_sound (fields_of fs)) h;
  short-both = λ f fs. refl;
}

module _ (d : ℕ) (s : List ℕ) (w : SoundRead schema_sound (read_schema d s)) (e : get_or s 0 0 ≡ 11) where
  pub fields-long : 3 ≤ length s
  fields-long = (schema-fields d s (sound-reads w) e).0

  pub fields-start : (n : ℕ) → n ≡ number_at s 1 2 → FieldsLeft d s n 3
  unfolding schema_sound defaults_short
  fields-start n q =
      let p = read_field (read_schema (d - 1)) in
      let m = map-inv (λ fs. Schema.Record (fields_of fs)) (read_many p (number_at s 1 2) (drop 3 s)) w.tree w.rest (sym (schema-fields d s (sound-reads w) e).1 ∙ w.reads) in
      record {
        inside = fields-long;
        items = m.0;
        rest = w.rest;
        reads = ap (λ k. read_many p k (drop 3 s)) q ∙ m.1.0;
        are-sound = subst (λ t. T (schema_sound t)) m.1.1 w.sound;
        are-short = test-some defaults_short _ w.tree w.rest w.reads ∙ ap defaults_short m.1.1;
        ends = (w.tree, w.reads);
      }

pub fields-end : (d : ℕ) (s : List ℕ) (left at : ℕ) → FieldsLeft d s left at → left ≤ 0 → ShortLen defaults_short (read_schema d s) s (Some at)
fields-end d s left at w h =
    let q = left_end by-fields w h in
    node-len d s q.0 at (spans-some (read_schema d s) s at q.1.0 w.inside q.1.1)

-- ---- the variants of a union

abbrev pub all_variants_sound : List Schema → Bool
all_variants_sound vs = variants_sound (variants_of vs)

abbrev pub all_variants_short : List Schema → Bool
all_variants_short vs = variant_defaults_short (variants_of vs)

abbrev pub VariantsLeft : ℕ → List ℕ → ℕ → ℕ → Type 0
VariantsLeft d s left at = Left (read_schema (d - 1)) all_variants_sound all_variants_short (test_read defaults_short (read_schema d s)) (λ r. Unit) s left at

pub by_variants : Piecewise all_variants_sound all_variants_short schema_sound defaults_short
unfolding variants_of defaults_short
by_variants = record {
  none-short = refl;
  first-sound = λ v vs h. (sound-variant v (variants_of vs) h).schema;
  others-sound = λ v vs h. (sound-variant v (variants_of vs) h).rest;
  short-both = λ v vs. refl;
}

module _ (d : ℕ) (s : List ℕ) (w : SoundRead schema_sound (read_schema d s)) (e : get_or s 0 0 ≡ 10) where
  pub variants-long : 3 ≤ length s
  variants-long = (union-parts d s w.tree w.rest w.reads e).long

  pub variants-start : (n : ℕ) → n ≡ number_at s 1 2 → VariantsLeft d s n 3
  unfolding defaults_short
  variants-start n q =
      let p = union-parts d s w.tree w.rest w.reads e in
      record {
        inside = p.long;
        items = p.variants;
        rest = p.behind;
        reads = ap (λ k. read_many (read_schema (d - 1)) k (drop 3 s)) q ∙ p.reads-variants;
        are-sound = (sound-union (variants_of p.variants) p.kinds p.named (subst (λ t. T (schema_sound t)) p.is w.sound)).variants;
        are-short = test-some defaults_short _ w.tree w.rest w.reads ∙ ap defaults_short p.is;
        ends = tt;
      }
