-- The kinds of values and schemas: those to look for in a union's tables, the base kind of a schema's part, and which position comes first.
use Prim.Native.Nat.{ℕ, ◌-◌, ◌≤◌, ◌<◌}
use mathlib.Core.Path.{◌≡◌, refl, sym, ap, ◌∙◌}
use mathlib.Core.List.{List}
use mathlib.Core.Option.{Option, none, some}
use mathlib.Core.Bool.{Bool, true, false, ◌||◌}
use native.Mathlib.Omega.{arith}
use lib.Dec.{leb, eqb}
use lib.ListN.{length, drop, get_or, length-drop}
use lib.Seq.{drop-drop, get_or-drop}
use borrow.Author.Tests.{leb-true, leb-false, le-leb, lt-leb, ne_eqb, eqb-false}
use Rattle.base.specs.Base.{when◌then◌else◌}
use Rattle.number.specs.Number.{number_at}
use Rattle.number.proofs.Laws.{number_at-one}
use Rattle.text.specs.Read.{Read, ◌>>=◌, read_number}
use Rattle.text.proofs.ReadLaws.{read_number-some}
use Rattle.frame.specs.Tree.{Schema, UuidForm, schema_kind, schema_to_base_schemakind}
use Rattle.frame.specs.Readers.{read_option}
use Rattle.frame.specs.SchemaFrame.{read_uuid_form, read_formed, read_schema_content, read_schema}
use Rattle.frame.proofs.Reading.{read-what, read-rest, not-both, bind_inv, map-inv, reads-some, reads-number, option-zero, option-one, option-long, option-is-one}
use Rattle.frame.proofs.SchemaNodes.{schema-kind}
use Rattle.schema_parts.proofs.Leaves.{kind_past}
use Rattle.avro.specs.Union.{unnamed_kind, named_kind, must_be_tried}
use Rattle.variants.specs.Ways.{base_read}
use Rattle.variants.proofs.UnionReading.{schema-content}

-- ---- kinds to look for

pub named-map : (k : ℕ) → k ≡ 9 → named_kind k ≡ some 11
unfolding named_kind
named-map k e = rw e

pub named-low : (k : ℕ) → (k ≡ 9 → ⊥) → k < 11 → named_kind k ≡ none
unfolding named_kind
named-low k n h = rw (ne_eqb k 14 (omega arith), ne_eqb k 15 (omega arith), ne_eqb k 25 (omega arith), ne_eqb k 11 (omega arith), ne_eqb k 12 (omega arith), ne_eqb k 13 (omega arith), ne_eqb k 9 n)

pub named-itself : (k : ℕ) → 11 ≤ k → k < 14 → named_kind k ≡ some k
unfolding named_kind
named-itself k l h = rw (ne_eqb k 14 (omega arith), ne_eqb k 15 (omega arith), ne_eqb k 25 (omega arith)) (go (eqb k 11) (eqb k 12) (eqb k 13) refl refl refl)
  where
    go : (a b c : Bool) → eqb k 11 ≡ a → eqb k 12 ≡ b → eqb k 13 ≡ c → (when a || b || c then some k else (when eqb k 9 then some 11 else none)) ≡ some k
    go true b c p q r = refl
    go false true c p q r = refl
    go false false true p q r = refl
    go false false false p q r = absurd (eqb-false k 13 r (omega (arith, eqb-false k 11 p, eqb-false k 12 q)))

pub named-fixed : (k : ℕ) → 14 ≤ k → k < 16 → named_kind k ≡ some 13
unfolding named_kind
named-fixed k l h = go (eqb k 14) (eqb k 15) refl refl
  where
    go : (a b : Bool) → eqb k 14 ≡ a → eqb k 15 ≡ b → named_kind k ≡ some 13
    go true b p q = rw p
    go false true p q = rw (p, q)
    go false false p q = absurd (eqb-false k 15 q (omega (arith, eqb-false k 14 p)))

pub named-duration : (k : ℕ) → k ≡ 25 → named_kind k ≡ some 13
unfolding named_kind
named-duration k e = rw e

pub named_none : (k : ℕ) → 16 ≤ k → (k ≡ 25 → ⊥) → named_kind k ≡ none
unfolding named_kind
named_none k l n = rw (ne_eqb k 14 (omega arith), ne_eqb k 15 (omega arith), ne_eqb k 25 n, ne_eqb k 11 (omega arith), ne_eqb k 12 (omega arith), ne_eqb k 13 (omega arith), ne_eqb k 9 (omega arith))

pub unnamed-low : (k : ℕ) → k < 11 → unnamed_kind k ≡ some k
unfolding unnamed_kind
unnamed-low k h = rw (ne_eqb k 14 (omega arith), ne_eqb k 15 (omega arith), ne_eqb k 16 (omega arith), ne_eqb k 17 (omega arith), lt-leb 18 k (omega arith), ne_eqb k 25 (omega arith), ne_eqb k 11 (omega arith), ne_eqb k 12 (omega arith), ne_eqb k 13 (omega arith))

pub unnamed-named : (k : ℕ) → 11 ≤ k → k < 14 → unnamed_kind k ≡ none
unfolding unnamed_kind
unnamed-named k l h = rw (ne_eqb k 14 (omega arith), ne_eqb k 15 (omega arith), ne_eqb k 16 (omega arith), ne_eqb k 17 (omega arith), lt-leb 18 k (omega arith), ne_eqb k 25 (omega arith)) (go (eqb k 11) (eqb k 12) (eqb k 13) refl refl refl)
  where
    go : (a b c : Bool) → eqb k 11 ≡ a → eqb k 12 ≡ b → eqb k 13 ≡ c → ◌≡◌ {A = Option ℕ} (when a || b || c then none else some k) none
    go true b c p q r = refl
    go false true c p q r = refl
    go false false true p q r = refl
    go false false false p q r = absurd (eqb-false k 13 r (omega (arith, eqb-false k 11 p, eqb-false k 12 q)))

pub unnamed-decimal : (k : ℕ) → k ≡ 14 → unnamed_kind k ≡ some 6
unfolding unnamed_kind
unnamed-decimal k e = rw e

pub unnamed-uuid : (k : ℕ) → k ≡ 15 → unnamed_kind k ≡ some 7
unfolding unnamed_kind
unnamed-uuid k e = rw e

pub unnamed-int : (k : ℕ) → 16 ≤ k → k < 18 → unnamed_kind k ≡ some 2
unfolding unnamed_kind
unnamed-int k l h = go (eqb k 16) (eqb k 17) refl refl
  where
    go : (a b : Bool) → eqb k 16 ≡ a → eqb k 17 ≡ b → unnamed_kind k ≡ some 2
    go true b p q = rw (ne_eqb k 14 (omega arith), ne_eqb k 15 (omega arith), p)
    go false true p q = rw (ne_eqb k 14 (omega arith), ne_eqb k 15 (omega arith), p, q)
    go false false p q = absurd (eqb-false k 17 q (omega (arith, eqb-false k 16 p)))

pub unnamed-long : (k : ℕ) → 18 ≤ k → k < 25 → unnamed_kind k ≡ some 3
unfolding unnamed_kind
unnamed-long k l h = rw (ne_eqb k 14 (omega arith), ne_eqb k 15 (omega arith), ne_eqb k 16 (omega arith), ne_eqb k 17 (omega arith), le-leb 18 k l, le-leb k 24 (omega arith))

pub unnamed-duration : (k : ℕ) → k ≡ 25 → unnamed_kind k ≡ none
unfolding unnamed_kind
unnamed-duration k e = rw e

pub unnamed-past : (k : ℕ) → 25 < k → unnamed_kind k ≡ some k
unfolding unnamed_kind
unnamed-past k l = rw (ne_eqb k 14 (omega arith), ne_eqb k 15 (omega arith), ne_eqb k 16 (omega arith), ne_eqb k 17 (omega arith), le-leb 18 k (omega arith), lt-leb k 24 (omega arith), ne_eqb k 25 (omega arith), ne_eqb k 11 (omega arith), ne_eqb k 12 (omega arith), ne_eqb k 13 (omega arith))

-- ---- the base kind by the kind

pub base-itself : (v : Schema) (k : ℕ) → schema_kind v ≡ k → k < 14 → schema_to_base_schemakind v ≡ k
unfolding schema_to_base_schemakind schema_kind
base-itself (Schema.Plain j) k e h = rw (ne_eqb j 16 (omega arith), ne_eqb j 17 (omega arith), lt-leb 18 j (omega arith)) e
base-itself (Schema.Fixed n) k e h = e
base-itself (Schema.Decimal p s n) k e h = absurd (omega arith)
base-itself (Schema.Uuid f) k e h = absurd (omega arith)
base-itself (Schema.Duration n) k e h = absurd (omega arith)
base-itself (Schema.Enum ss d) k e h = e
base-itself (Schema.Array s) k e h = e
base-itself (Schema.Map s) k e h = e
base-itself (Schema.Record fs) k e h = e
base-itself (Schema.Union vs ks ns) k e h = e

pub base-int : (v : Schema) (k : ℕ) → schema_kind v ≡ k → 16 ≤ k → k < 18 → schema_to_base_schemakind v ≡ 2
unfolding schema_to_base_schemakind schema_kind
base-int (Schema.Plain j) k e l h = go (eqb j 16) (eqb j 17) refl refl
  where
    go : (a b : Bool) → eqb j 16 ≡ a → eqb j 17 ≡ b → schema_to_base_schemakind (Schema.Plain j) ≡ 2
    go true b p q = rw p
    go false true p q = rw (p, q)
    go false false p q = absurd (eqb-false j 17 q (omega (arith, eqb-false j 16 p)))
base-int (Schema.Fixed n) k e l h = absurd (omega arith)
base-int (Schema.Decimal p s n) k e l h = absurd (omega arith)
base-int (Schema.Uuid f) k e l h = absurd (omega arith)
base-int (Schema.Duration n) k e l h = absurd (omega arith)
base-int (Schema.Enum ss d) k e l h = absurd (omega arith)
base-int (Schema.Array s) k e l h = absurd (omega arith)
base-int (Schema.Map s) k e l h = absurd (omega arith)
base-int (Schema.Record fs) k e l h = absurd (omega arith)
base-int (Schema.Union vs ks ns) k e l h = absurd (omega arith)

pub base-long : (v : Schema) (k : ℕ) → schema_kind v ≡ k → 18 ≤ k → k < 25 → schema_to_base_schemakind v ≡ 3
unfolding schema_to_base_schemakind schema_kind
base-long (Schema.Plain j) k e l h = rw (ne_eqb j 16 (omega arith), ne_eqb j 17 (omega arith), le-leb 18 j (omega arith))
base-long (Schema.Fixed n) k e l h = absurd (omega arith)
base-long (Schema.Decimal p s n) k e l h = absurd (omega arith)
base-long (Schema.Uuid f) k e l h = absurd (omega arith)
base-long (Schema.Duration n) k e l h = absurd (omega arith)
base-long (Schema.Enum ss d) k e l h = absurd (omega arith)
base-long (Schema.Array s) k e l h = absurd (omega arith)
base-long (Schema.Map s) k e l h = absurd (omega arith)
base-long (Schema.Record fs) k e l h = absurd (omega arith)
base-long (Schema.Union vs ks ns) k e l h = absurd (omega arith)

-- ---- a Decimal, a Uuid or a Duration by its bytes

-- a reader that gives something has its bytes
number-there : (n : ℕ) (s : List ℕ) (a : ℕ) (r : List ℕ) → read_number n s ≡ some (a, r) → (n ≤ length s) × ((a ≡ number_at s 0 n) × (r ≡ drop n s))
number-there n s a r e =
    let h = reads-number n s (reads-some a r e) in
    let q : ◌≡◌ {A = Read ℕ} (some (a, r)) (some (number_at s 0 n, drop n s)) = sym e ∙ read_number-some n s h in
    (h, (read-what q, read-rest q))

-- what a Decimal's content is made of
record DecimalParts (s : List ℕ) (t : Schema) : Type 0 where
  pub precision : ℕ
  pub scale : ℕ
  pub size : Option ℕ
  pub is : t ≡ Schema.Decimal precision scale size
  pub long : 8 ≤ length s
  pub rest : List ℕ
  pub reads : read_option (read_number 2) (drop 8 s) ≡ some (size, rest)

module _ (node : List ℕ → Read Schema) (s : List ℕ) (t : Schema) (r : List ℕ) where
  decimal-parts : read_schema_content node 14 s ≡ some (t, r) → DecimalParts s t
  unfolding read_formed
  decimal-parts e =
      let a = bind_inv (read_number 4 s) _ (t, r) e in
      let b = bind_inv (read_number 4 a.0.1) _ (t, r) a.1.1 in
      let o = bind_inv (read_option (read_number 2) b.0.1) _ (t, r) b.1.1 in
      let x = number-there 4 s a.0.0 a.0.1 a.1.0 in
      let y = number-there 4 a.0.1 b.0.0 b.0.1 b.1.0 in
      let l : length a.0.1 ≡ length s - 4 = ap length x.1.1 ∙ length-drop 4 s in
      let g : b.0.1 ≡ drop 8 s = y.1.1 ∙ ap (drop 4) x.1.1 ∙ drop-drop 4 4 s in
      record {
        precision = a.0.0;
        scale = b.0.0;
        size = o.0.0;
        rest = o.0.1;
        is = sym (read-what o.1.1);
        long = omega (arith, x.0, y.0);
        reads = ap (read_option (read_number 2)) (sym g) ∙ o.1.0;
      }

  uuid-form : read_schema_content node 15 s ≡ some (t, r) → (f : UuidForm) × ((t ≡ Schema.Uuid f) × ((u : List ℕ) × (read_uuid_form s ≡ some (f, u))))
  unfolding read_formed
  uuid-form e =
      let a = bind_inv (read_uuid_form s) _ (t, r) e in
      (a.0.0, (sym (read-what a.1.1), (a.0.1, a.1.0)))

  duration-form : read_schema_content node 25 s ≡ some (t, r) → (n : ℕ) × (t ≡ Schema.Duration n)
  unfolding read_formed
  duration-form e =
      let a = bind_inv (read_number 2 s) _ (t, r) e in
      (a.0.0, sym (read-what a.1.1))

-- the first byte of a form
form-there : (s : List ℕ) (f : UuidForm) (u : List ℕ) → read_uuid_form s ≡ some (f, u) → 0 < length s
unfolding read_uuid_form
form-there s f u e =
    let a = bind_inv (read_number 1 s) _ (f, u) e in
    omega (arith, (number-there 1 s a.0.0 a.0.1 a.1.0).0)

form-bytes : (s : List ℕ) (f : UuidForm) (u : List ℕ) → read_uuid_form s ≡ some (f, u) → get_or s 0 0 ≡ 0 → f ≡ UuidForm.bytes
unfolding read_uuid_form ◌>>=◌
form-bytes s f u e z =
    let h = form-there s f u e in
    read-what (sym e ∙ got h)
  where
    got : 0 < length s → read_uuid_form s ≡ some (UuidForm.bytes, drop 1 s)
    got h = rw (read_number-some 1 s h, number_at-one s 0 h, z)

form-string : (s : List ℕ) (f : UuidForm) (u : List ℕ) → read_uuid_form s ≡ some (f, u) → get_or s 0 0 ≡ 1 → f ≡ UuidForm.string
unfolding read_uuid_form ◌>>=◌
form-string s f u e z =
    let h = form-there s f u e in
    read-what (sym e ∙ got h)
  where
    got : 0 < length s → read_uuid_form s ≡ some (UuidForm.string, drop 1 s)
    got h = rw (read_number-some 1 s h, number_at-one s 0 h, z)

form-base : (f : UuidForm) → (f ≡ UuidForm.bytes → ⊥) → (f ≡ UuidForm.string → ⊥) → schema_to_base_schemakind (Schema.Uuid f) ≡ 13
unfolding schema_to_base_schemakind
form-base UuidForm.bytes a b = absurd (a refl)
form-base UuidForm.string a b = absurd (b refl)
form-base (UuidForm.fixed n) a b = refl

-- a form that is neither 0 nor 1 is that of a fixed one
form-not : (s : List ℕ) (f : UuidForm) (u : List ℕ) → read_uuid_form s ≡ some (f, u) → (get_or s 0 0 ≡ 0 → ⊥) → (get_or s 0 0 ≡ 1 → ⊥) → schema_to_base_schemakind (Schema.Uuid f) ≡ 13
unfolding read_uuid_form ◌>>=◌ schema_to_base_schemakind
form-not s f u e n m = go (eqb (get_or s 0 0) 2) refl
  where
    got : (b : Bool) → eqb (get_or s 0 0) 2 ≡ b → read_uuid_form s ≡ (when b then (read_number 2 (drop 1 s) >>= (λ q. some (UuidForm.fixed q.0, q.1))) else none)
    got b g = let h = form-there s f u e in rw (read_number-some 1 s h, number_at-one s 0 h, ne_eqb _ _ n, ne_eqb _ _ m, g)

    go : (b : Bool) → eqb (get_or s 0 0) 2 ≡ b → schema_to_base_schemakind (Schema.Uuid f) ≡ 13
    go true g =
        let a = bind_inv (read_number 2 (drop 1 s)) _ (f, u) (sym (got true g) ∙ e) in
        ap (λ x. schema_to_base_schemakind (Schema.Uuid x)) (sym (read-what a.1.1))
    go false g = absurd (not-both (got false g) e)

-- ---- the base kind of a schema's part, by its bytes

module _ (d : ℕ) (s : List ℕ) (t : Schema) (r : List ℕ) (e : read_schema d s ≡ some (t, r)) where
  base-is : (b : ℕ) → schema_to_base_schemakind t ≡ b → b ≡ base_read (read_schema d s)
  unfolding base_read
  base-is b h = rw e (sym h)

  content-of : (k : ℕ) → get_or s 0 0 ≡ k → read_schema_content (read_schema (d - 1)) k (drop 1 s) ≡ some (t, r)
  content-of k h = ap (λ x. read_schema_content (read_schema (d - 1)) x (drop 1 s)) (sym h) ∙ schema-content d s t r e

  pub low-base : get_or s 0 0 < 14 → get_or s 0 0 ≡ base_read (read_schema d s)
  low-base h = base-is _ (base-itself t (get_or s 0 0) (schema-kind d s t r e) h)

  pub int-base : 16 ≤ get_or s 0 0 → get_or s 0 0 < 18 → 2 ≡ base_read (read_schema d s)
  int-base l h = base-is 2 (base-int t (get_or s 0 0) (schema-kind d s t r e) l h)

  pub long-base : 18 ≤ get_or s 0 0 → get_or s 0 0 < 25 → 3 ≡ base_read (read_schema d s)
  long-base l h = base-is 3 (base-long t (get_or s 0 0) (schema-kind d s t r e) l h)

  pub duration-base : 25 ≤ get_or s 0 0 → 13 ≡ base_read (read_schema d s)
  unfolding schema_to_base_schemakind
  duration-base l = go (leb (get_or s 0 0) 25) refl
    where
      go : (b : Bool) → leb (get_or s 0 0) 25 ≡ b → 13 ≡ base_read (read_schema d s)
      go true g =
          let q = duration-form (read_schema (d - 1)) (drop 1 s) t r (content-of 25 (omega (arith, leb-true (get_or s 0 0) 25 g))) in
          base-is 13 (ap schema_to_base_schemakind q.1)
      go false g = absurd (not-both (kind_past _ (read_schema (d - 1)) (drop 1 s) (get_or s 0 0) (leb-false (get_or s 0 0) 25 g)) (schema-content d s t r e))

  module _ (h : get_or s 0 0 ≡ 14) where
    decimal : DecimalParts (drop 1 s) t
    decimal = decimal-parts (read_schema (d - 1)) (drop 1 s) t r (content-of 14 h)

    ninth : get_or (drop 8 (drop 1 s)) 0 0 ≡ get_or s 9 0
    ninth = get_or-drop 8 (drop 1 s) 0 0 ∙ get_or-drop 1 s 8 0

    decimal-there : 0 < length (drop 8 (drop 1 s))
    decimal-there = option-long (read_number 2) (drop 8 (drop 1 s)) (reads-some decimal.size decimal.rest decimal.reads)

    pub decimal-long : 9 < length s
    decimal-long = omega (arith, decimal-there, length-drop 8 (drop 1 s), length-drop 1 s)

    pub decimal-bytes : get_or s 9 0 ≡ 0 → 6 ≡ base_read (read_schema d s)
    unfolding schema_to_base_schemakind
    decimal-bytes z =
        let q = decimal in
        let o : q.size ≡ none = read-what (sym q.reads ∙ option-zero (read_number 2) (drop 8 (drop 1 s)) decimal-there (ninth ∙ z)) in
        base-is 6 (ap schema_to_base_schemakind (q.is ∙ ap (Schema.Decimal q.precision q.scale) o))

    pub decimal-fixed : (get_or s 9 0 ≡ 0 → ⊥) → 13 ≡ base_read (read_schema d s)
    unfolding schema_to_base_schemakind
    decimal-fixed z =
        let q = decimal in
        let one = option-is-one (read_number 2) (drop 8 (drop 1 s)) (reads-some q.size q.rest q.reads) (λ e. z (sym ninth ∙ e)) in
        let o = map-inv some (read_number 2 (drop 1 (drop 8 (drop 1 s)))) q.size q.rest (sym (option-one (read_number 2) (drop 8 (drop 1 s)) decimal-there one) ∙ q.reads) in
        base-is 13 (ap schema_to_base_schemakind (q.is ∙ ap (Schema.Decimal q.precision q.scale) o.1.1))

  module _ (h : get_or s 0 0 ≡ 15) where
    form : (f : UuidForm) × ((t ≡ Schema.Uuid f) × ((u : List ℕ) × (read_uuid_form (drop 1 s) ≡ some (f, u))))
    form = uuid-form (read_schema (d - 1)) (drop 1 s) t r (content-of 15 h)

    second : get_or (drop 1 s) 0 0 ≡ get_or s 1 0
    second = get_or-drop 1 s 0 0

    pub uuid-long : 1 < length s
    uuid-long = omega (arith, form-there (drop 1 s) form.0 form.1.1.0 form.1.1.1, length-drop 1 s)

    pub uuid-bytes : get_or s 1 0 ≡ 0 → 6 ≡ base_read (read_schema d s)
    unfolding schema_to_base_schemakind
    uuid-bytes z = base-is 6 (ap schema_to_base_schemakind (form.1.0 ∙ ap Schema.Uuid (form-bytes (drop 1 s) form.0 form.1.1.0 form.1.1.1 (second ∙ z))))

    pub uuid-string : get_or s 1 0 ≡ 1 → 7 ≡ base_read (read_schema d s)
    unfolding schema_to_base_schemakind
    uuid-string z = base-is 7 (ap schema_to_base_schemakind (form.1.0 ∙ ap Schema.Uuid (form-string (drop 1 s) form.0 form.1.1.0 form.1.1.1 (second ∙ z))))

    pub uuid-fixed : (get_or s 1 0 ≡ 0 → ⊥) → (get_or s 1 0 ≡ 1 → ⊥) → 13 ≡ base_read (read_schema d s)
    uuid-fixed n m = base-is 13 (ap schema_to_base_schemakind form.1.0 ∙ form-not (drop 1 s) form.0 form.1.1.0 form.1.1.1 (λ z. n (sym second ∙ z)) (λ z. m (sym second ∙ z)))

-- ---- an Array or a Map

pub map-tried : (k : ℕ) → k ≡ 9 → true ≡ must_be_tried k
unfolding must_be_tried
map-tried k e = rw e

pub array-tried : (k : ℕ) → (k ≡ 9 → ⊥) → eqb k 8 ≡ must_be_tried k
unfolding must_be_tried
array-tried k n = rw (ne_eqb k 9 n)
