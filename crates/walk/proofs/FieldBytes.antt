-- The bytes of a map's entry and of a record's field: a name, and the bytes of its node.
use Prim.Native.Nat.{ℕ, ◌+◌, ◌-◌, ◌≤◌}
use mathlib.Core.Path.{◌≡◌, refl, sym, ap, ◌∙◌, subst}
use mathlib.Core.List.{List, ◌++◌}
use mathlib.Core.Option.{Option, none, some}
use native.Mathlib.Omega.{arith}
use lib.Dec.{T}
use lib.ListN.{length, take, drop, length-drop}
use lib.Seq.{length-take-le, take-add}
use Rattle.base.specs.Base.{Result, ok, stop, after}
use Rattle.number.specs.Number.{all_bytes, big_endian, number_at, bytes_of}
use Rattle.number.proofs.Laws.{all_bytes-take, bytes_of-big_endian}
use Rattle.text.specs.Read.{Read, read_counted, read_text}
use Rattle.text.specs.Measured.{Reads}
use Rattle.text.proofs.ReadLaws.{reads-counted, read_text-counted}
use Rattle.frame.specs.Tree.{Value, entries}
use Rattle.frame.specs.ValueFrame.{read_entry, read_value, write_text}
use Rattle.frame.specs.SchemaFrame.{Field, read_field, read_schema}
use Rattle.frame.specs.Sound.{schema_sound}
use Rattle.frame.proofs.Reading.{read-what, read-rest, bind_inv, map-inv, reads-some}
use Rattle.avro.specs.Resolve.{last_under, field_value, start_default}
use Rattle.avro.specs.Defaults.{defaults_short, short_default}
use Rattle.find.specs.Find.{Located, entry_under}
use Rattle.field.specs.Parts.{DefaultAt, FieldParts}
use Rattle.types.specs.Contract.{on_both}
use Rattle.find.proofs.FindLaws.{located-at, located-nothing}
use Rattle.walk.specs.Contract.{ReadyField, ReadyDefault, node_bytes, entry_bytes, default_bytes, field_bytes}
use Rattle.variants.specs.Ways.{Ready}
use Rattle.std.specs.Prelude.{Some, None}
use Rattle.field.specs.declared.FieldAt.{FieldAt}
use Rattle.walk.proofs.Pieces.{both_some, front}
use Rattle.schema.proofs.Checking.{name-is as field-name}

-- ---- a name, as it is written

pub text_head : (s x t : List ℕ) → T (all_bytes s) → read_counted s ≡ some (x, t) → take (length x + 2) s ≡ write_text x
unfolding write_text
text_head s x t b e =
    let k = reads-counted s (reads-some x t e) in
    let q : x ≡ take (number_at s 0 2) (drop 2 s) = read-what (sym e ∙ k.is) in
    let l : length x ≡ number_at s 0 2 = ap length q ∙ length-take-le (number_at s 0 2) (drop 2 s) (omega (arith, length-drop 2 s, k.room)) in
    let l₂ : length (take 2 s) ≡ 2 = length-take-le 2 s k.two in
    let h : bytes_of 2 (number_at s 0 2) ≡ take 2 s = ap (λ (j : ℕ). bytes_of j (big_endian (take 2 s))) (sym l₂) ∙ bytes_of-big_endian (take 2 s) (all_bytes-take 2 s b) in
    let n : length x + 2 ≡ 2 + number_at s 0 2 = omega arith in
    ap (λ (j : ℕ). take j s) n
    ∙ take-add 2 (number_at s 0 2) s
    ∙ ap (λ (y : List ℕ). y ++ take (number_at s 0 2) (drop 2 s)) (sym h)
    ∙ ap (λ (j : ℕ). bytes_of 2 j ++ take (number_at s 0 2) (drop 2 s)) (sym l)
    ∙ ap (λ (y : List ℕ). bytes_of 2 (length x) ++ y) (sym q)

-- the name of what was read behind a text
name-is : (s name t x : List ℕ) → read_text s ≡ some (name, t) → read_counted s ≡ some (x, drop (2 + length x) s) → (name ≡ x) × (t ≡ drop (length x + 2) s)
name-is s name t x e f =
    let p = sym (read_text-counted s name t e).0 ∙ f in
    let n : 2 + length x ≡ length x + 2 = omega arith in
    (read-what p, read-rest p ∙ ap (λ (j : ℕ). drop j s) n)

-- ---- entries

module _ (node : List ℕ → Read Value) (s x : List ℕ) (p : Reads (read_entry node s)) (e : read_counted s ≡ some (x, drop (2 + length x) s)) where
  entry-parts : (w : Value) × ((u : List ℕ) × ((node (drop (length x + 2) s) ≡ some (w, u)) × (read_entry node s ≡ some ((x, w), u))))
  unfolding read_entry Reads
  entry-parts =
      let i = bind_inv (read_text s) _ (p.0, p.1.0) p.1.1 in
      let n = name-is s i.0.0 i.0.1 x i.1.0 e in
      let j = map-inv (λ v. (i.0.0, v)) (node i.0.1) p.0 p.1.0 i.1.1 in
      let k : p.0 ≡ (x, j.0) = j.1.1 ∙ ap (λ y. (y, j.0)) n.0 in
      (j.0, (p.1.0, (ap node (sym n.1) ∙ j.1.0, p.1.1 ∙ ap (λ y. some (y, p.1.0)) k)))

  pub entry_value : Reads (node (drop (length x + 2) s))
  entry_value = reads-some entry-parts.0 entry-parts.1.0 entry-parts.1.1.0

pub entry_whole : (ds dv : ℕ) (s v x : List ℕ) (r : Ready ds s) (p : Reads (read_entry (read_value dv) v)) → T (all_bytes v) → read_counted v ≡ some (x, drop (2 + length x) v)
    → on_both entry_bytes (read_schema ds s) (read_entry (read_value dv) v) ≡ front (take (length x + 2) v) (on_both node_bytes (read_schema ds s) (read_value dv (drop (length x + 2) v)))
unfolding entry_bytes
entry_whole ds dv s v x r p b e =
    let i = entry-parts (read_value dv) v x p e in
    both_some entry_bytes _ _ r.tree (x, i.0) r.rest i.1.0 r.reads i.1.1.1
    ∙ ap (λ y. front y (node_bytes r.tree i.0)) (sym (text_head v x (drop (2 + length x) v) b e))
    ∙ ap (front (take (length x + 2) v)) (sym (both_some node_bytes _ _ r.tree i.0 r.rest i.1.0 r.reads i.1.1.0))

-- ---- fields

pub ready-field-reads : (ds : ℕ) (s : List ℕ) → ReadyField ds s → Reads (read_field (read_schema ds) s)
ready-field-reads ds s r = reads-some (r.name, r.default, r.tree) r.rest r.reads

front-after : {A : Type 0} (h : List ℕ) (o : Result A) (g : A → Result (List ℕ)) → after o (λ y. front h (g y)) ≡ front h (after o g)
unfolding after
front-after h (stop k) g = refl
front-after h (ok a) g = refl

-- the default of a field that has one
pub record Given (s : List ℕ) (p : ℕ) (d : Option Value) : Type 0 where
  pub value : Value
  pub rest : List ℕ
  pub there : d ≡ some value
  pub inside : p ≤ length s
  pub reads : read_value 16 (drop p s) ≡ some (value, rest)

pub default-given : (s : List ℕ) (p : ℕ) (d : Option Value) → DefaultAt s (Some p) d → Given s p d
unfolding DefaultAt
default-given s p none w = absurd w
default-given s p (some v) w = record { value = v; rest = w.1.0; there = refl; inside = w.0; reads = w.1.1 }

pub default_none : (s : List ℕ) (d : Option Value) → DefaultAt s None d → d ≡ none
unfolding DefaultAt
default_none s none w = refl
default_none s (some v) w = absurd w

-- the value that was found under a name
module _ (x v : List ℕ) (dv p : ℕ) (l : Located (entry_under x (read_value dv v)) (dv - 1) v (Some p)) where
  found-parts : (p ≤ length v) × ((w : Value) × ((entry_under x (read_value dv v) ≡ some w) × ((r : List ℕ) × (read_value (dv - 1) (drop p v) ≡ some (w, r)))))
  found-parts = located-at (entry_under x (read_value dv v)) (dv - 1) v p l

  pub found_inside : p ≤ length v
  found_inside = found-parts.0

  pub found-value : Reads (read_value (dv - 1) (drop p v))
  found-value = let i = found-parts.1 in reads-some i.0 i.1.1.0 i.1.1.1

module _ (ds : ℕ) (s : List ℕ) (rf : ReadyField ds s) (f : FieldAt) (fp : FieldParts ds s f) where
  same-field : ◌≡◌ {A = Field} (rf.name, rf.default, rf.tree) (fp.name, fp.default, fp.tree)
  same-field = read-what (sym rf.reads ∙ fp.reads)

  pub field-inside : f.schema_at ≤ length s
  field-inside = fp.inside

  pub field-schema : Ready ds (drop f.schema_at s)
  field-schema =
      let q = ap (λ (y : Field). y.2) same-field in
      record {
        tree = fp.tree;
        rest = fp.rest;
        reads = fp.schema_at;
        sound = subst (λ t. T (schema_sound t)) q rf.sound;
        short = subst (λ t. T (defaults_short t)) q rf.short;
      }

  module _ (dv : ℕ) (v x : List ℕ) (pv : Reads (read_value dv v)) (b : T (all_bytes s)) (e : read_counted s ≡ some (x, drop (2 + length x) s)) where
    -- the field's bytes, by the value that is looked for
    field_open : (o : Option Value) → entry_under x (read_value dv v) ≡ o
        → on_both field_bytes (read_field (read_schema ds) s) (read_value dv v)
        ≡ after (field_value o fp.default (λ d. start_default fp.tree d)) (λ y. front (take (length x + 2) s) (node_bytes fp.tree y))
    unfolding field_bytes Reads entry_under
    field_open o q =
        let n : fp.name ≡ x = sym (field-name (read_schema ds) s (fp.name, fp.default, fp.tree) fp.rest fp.reads x (drop (2 + length x) s) e) in
        let w : last_under x (entries pv.0) ≡ o = sym (ap (entry_under x) pv.1.1) ∙ q in
        both_some field_bytes _ _ (fp.name, fp.default, fp.tree) pv.0 fp.rest pv.1.0 fp.reads pv.1.1
        ∙ ap (λ y. field_bytes (y, fp.default, fp.tree) pv.0) n
        ∙ ap (λ y. after (field_value y fp.default (λ d. start_default fp.tree d)) (λ z. after (node_bytes fp.tree z) (λ b. ok (write_text x ++ b)))) w
        ∙ ap (λ y. after (field_value o fp.default (λ d. start_default fp.tree d)) (λ z. front y (node_bytes fp.tree z))) (sym (text_head s x (drop (2 + length x) s) b e))

    module _ (p : ℕ) (l : Located (entry_under x (read_value dv v)) (dv - 1) v (Some p)) where
      pub field_found : on_both field_bytes (read_field (read_schema ds) s) (read_value dv v) ≡ front (take (length x + 2) s) (on_both node_bytes (read_schema ds (drop f.schema_at s)) (read_value (dv - 1) (drop p v)))
      unfolding field_value after
      field_found =
          let i = (found-parts x v dv p l).1 in
          field_open (some i.0) i.1.0
          ∙ ap (front (take (length x + 2) s)) (sym (both_some node_bytes _ _ fp.tree i.0 fp.rest i.1.1.0 fp.schema_at i.1.1.1))

    module _ (l : Located (entry_under x (read_value dv v)) (dv - 1) v None) where
      not_found : entry_under x (read_value dv v) ≡ none
      not_found = located-nothing (entry_under x (read_value dv v)) (dv - 1) v l

      pub field-none : f.default ≡ None → on_both field_bytes (read_field (read_schema ds) s) (read_value dv v) ≡ stop 17
      unfolding field_value after
      field-none h = field_open none not_found ∙ ap (λ y. after (field_value none y (λ d. start_default fp.tree d)) (λ y. front (take (length x + 2) s) (node_bytes fp.tree y))) (default_none s fp.default (rw h at fp.default_at))

  module _ (p : ℕ) (h : f.default ≡ Some p) where
    given : Given s p fp.default
    given = default-given s p fp.default (rw h at fp.default_at)

    pub default-inside : p ≤ length s
    default-inside = given.inside

    pub field-default : ReadyDefault ds (drop f.schema_at s) (drop p s)
    unfolding field-schema
    field-default =
        let i = given in
        let q : T (short_default fp.tree fp.default) = subst (λ (y : Field). T (short_default y.2 y.1)) same-field rf.start in
        record {
          schema = field-schema;
          value = i.value;
          rest = i.rest;
          reads = i.reads;
          start = subst (λ o. T (short_default fp.tree o)) i.there q;
        }

    pub field-defaults : (dv : ℕ) (v x : List ℕ) (pv : Reads (read_value dv v)) → T (all_bytes s) → read_counted s ≡ some (x, drop (2 + length x) s) → Located (entry_under x (read_value dv v)) (dv - 1) v None
        → on_both field_bytes (read_field (read_schema ds) s) (read_value dv v) ≡ front (take (length x + 2) s) (on_both default_bytes (read_schema ds (drop f.schema_at s)) (read_value 16 (drop p s)))
    unfolding field_value default_bytes
    field-defaults dv v x pv b e l =
        let i = given in
        field_open dv v x pv b e none (not_found dv v x pv b e l)
        ∙ ap (λ y. after (field_value none y (λ d. start_default fp.tree d)) (λ y. front (take (length x + 2) s) (node_bytes fp.tree y))) i.there
        ∙ front-after (take (length x + 2) s) (start_default fp.tree i.value) (λ w. node_bytes fp.tree w)
        ∙ ap (front (take (length x + 2) s)) (sym (both_some default_bytes _ _ fp.tree i.value fp.rest i.rest fp.schema_at i.reads))
