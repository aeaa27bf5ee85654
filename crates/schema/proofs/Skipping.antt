-- The length of schema nodes and their parts that are known to be there: what can be read in them, and how long they are by their
-- parts. Assumes nothing.
use Prim.Native.Nat.{ℕ, zero, suc, ◌+◌, ◌-◌, ◌*◌, ◌≤◌, ◌<◌}
use mathlib.Core.Path.{◌≡◌, refl, sym, ap, ◌∙◌, subst}
use mathlib.Core.List.{List, [], ◌∷◌}
use mathlib.Core.Option.{none, some}
use mathlib.Core.Bool.{Bool, true, false}
use native.Mathlib.Omega.{arith}
use lib.Dec.{eqb, leb}
use lib.ListN.{length, drop, get_or, length-drop}
use lib.Seq.{drop-drop}
use borrow.Author.Tests.{eqb-true, eqb-false, ne_eqb, leb-true, leb-false}
use Rattle.number.specs.Number.{number_at}
use Rattle.number.proofs.Laws.{number_at-one}
use Rattle.text.specs.Read.{Read, ◌>>=◌, read_number, read_counted, read_text}
use Rattle.text.specs.Measured.{Reads}
use Rattle.text.proofs.ReadLaws.{read_number-some}
use Rattle.frame.specs.Tree.{Schema, UuidForm}
use Rattle.frame.specs.Readers.{read_many, read_list, read_option}
use Rattle.frame.specs.ValueFrame.{read_value}
use Rattle.frame.specs.SchemaFrame.{Form, Under, bare, read_field, read_lead, read_tables, read_symbols, read_uuid_form, read_formed, read_schema_under}
use Rattle.frame.specs.Checks.{Spans}
use Rattle.frame.proofs.Reading.{map_read, not-reads, reads-eq, reads_first, reads-number, option-zero, option-one, option-long, option-is-one}
use Rattle.frame.proofs.Measuring.{spans-le, spans-some, spans-eq, spans-drop, spans-map, spans-after, reads-behind, number-spans, text-spans}
use Rattle.frame.proofs.Counting.{list-many, reads-list}
use Rattle.frame.proofs.SchemaNodes.{schema-there-under, schema-opened-under}
use Rattle.schema_parts.proofs.Leaves.{plain-low, plain-high, kind_past}
use Rattle.schema.proofs.Nodes.{bare-content, array-content, map-content, record-content, enum-content}

-- ---- two and three things, one behind the other

module _ {A B C : Type 0} (x : Read A) (p : List ℕ → Read B) (g : A → B → C) (s : List ℕ) (r : Reads (x >>= (λ y. map_read (g y.0) (p y.1)))) where
  pub two-first : Reads x
  two-first = reads_first x _ r

  pub two-second : (a : ℕ) → Spans x s a → Reads (p (drop a s))
  two-second a w = reads_first (p (drop a s)) _ (reads-behind x _ s a w r).1

  pub two-spans : (a b : ℕ) → Spans x s a → Spans (p (drop a s)) (drop a s) b → Spans (x >>= (λ y. map_read (g y.0) (p y.1))) s (a + b)
  two-spans a b w v = spans-after x _ s a b w (λ y. spans-map (g y) (p (drop a s)) (drop a s) b v)

module _ {A B C D : Type 0} (x : Read A) (p : List ℕ → Read B) (q : List ℕ → Read C) (g : A → B → C → D) (s : List ℕ) (r : Reads (x >>= (λ y. p y.1 >>= (λ z. map_read (g y.0 z.0) (q z.1))))) where
  pub three-first : Reads x
  three-first = reads_first x _ r

  module _ (a : ℕ) (w : Spans x s a) where
    behind : (y : A) × Reads (p (drop a s) >>= (λ z. map_read (g y z.0) (q z.1)))
    behind = reads-behind x _ s a w r

    pub three-second : Reads (p (drop a s))
    three-second = reads_first (p (drop a s)) _ behind.1

    module _ (b : ℕ) (v : Spans (p (drop a s)) (drop a s) b) where
      pub three_third : Reads (q (drop (a + b) s))
      three_third = reads-eq _ _ (ap q (drop-drop b a s)) (two-second (p (drop a s)) q (g behind.0) (drop a s) behind.1 b v)

      pub three-spans : (c : ℕ) → Spans (q (drop (a + b) s)) (drop (a + b) s) c → Spans (x >>= (λ y. p y.1 >>= (λ z. map_read (g y.0 z.0) (q z.1)))) s (a + b + c)
      three-spans c u =
          let t : Spans (q (drop b (drop a s))) (drop b (drop a s)) c = subst (λ l. Spans (q l) l c) (sym (drop-drop b a s)) u in
          subst (Spans _ s) (omega arith)
          (spans-after x _ s a (b + c) w (λ y. spans-after (p (drop a s)) _ (drop a s) b c v (λ z. spans-map (g y z) (q (drop b (drop a s))) (drop b (drop a s)) c t)))

-- ---- many things of one width: f n bytes for n of them

module _ {A : Type 0} (p : List ℕ → Read A) (w : ℕ) (f : ℕ → ℕ) (none : f 0 ≡ 0) (more : (n : ℕ) → f (suc n) ≡ w + f n) (one : (s : List ℕ) → Reads (p s) → Spans (p s) s w) where
  many-spans : (n : ℕ) (s : List ℕ) → Reads (read_many p n s) → Spans (read_many p n s) s (f n)
  unfolding read_many
  many-spans zero s r = rw none (spans-some (read_many p 0 s) s 0 [] (omega arith) refl)
  many-spans (suc n) s r =
      let v = one s (reads_first (p s) _ r) in
      let t = reads_first (read_many p n (drop w s)) _ (reads-behind (p s) _ s w v r).1 in
      rw (more n) (spans-after (p s) _ s w (f n) v (λ a. spans-map (λ xs. a ∷ xs) (read_many p n (drop w s)) (drop w s) (f n) (many-spans n (drop w s) t)))

  list-spans : (s : List ℕ) (n : ℕ) → Reads (read_list p s) → n ≡ number_at s 0 2 → Spans (read_list p s) s (2 + f n)
  list-spans s n r e =
      let h = reads-list p s r in
      let q : read_list p s ≡ read_many p n (drop 2 s) = list-many p s h ∙ ap (λ k. read_many p k (drop 2 s)) (sym e) in
      spans-eq _ _ s _ q (spans-drop _ s 2 (f n) h (many-spans n (drop 2 s) (reads-eq _ _ q r)))

lead-spans : (s : List ℕ) → Reads (read_lead s) → Spans (read_lead s) s 3
unfolding read_lead
lead-spans s r =
    let a = number-spans 1 s (two-first (read_number 1 s) (read_number 2) (λ k p. (k, p)) s r) in
    two-spans (read_number 1 s) (read_number 2) (λ k p. (k, p)) s r 1 2 a (number-spans 2 (drop 1 s) (two-second (read_number 1 s) (read_number 2) (λ k p. (k, p)) s r 1 a))

pub leads-spans : (s : List ℕ) (n : ℕ) → Reads (read_list read_lead s) → n ≡ number_at s 0 2 → Spans (read_list read_lead s) s (2 + 3 * n)
leads-spans = list-spans read_lead 3 (λ n. 3 * n) (omega arith) (λ n. omega arith) lead-spans

pub positions-spans : (s : List ℕ) (n : ℕ) → Reads (read_list (read_number 2) s) → n ≡ number_at s 0 2 → Spans (read_list (read_number 2) s) s (2 + 2 * n)
positions-spans = list-spans (read_number 2) 2 (λ n. 2 * n) (omega arith) (λ n. omega arith) (number-spans 2)

-- ---- texts, by the part that holds their bytes

pub text-held : (s t : List ℕ) → Reads (read_text s) → read_counted s ≡ some (t, drop (2 + length t) s) → 2 + length t ≤ length s → Spans (read_text s) s (2 + length t)
text-held s t r e h = text-spans s (2 + length t) r (spans-some (read_counted s) s (2 + length t) t h e)

-- ---- 00, or 01 and a thing

module _ {A : Type 0} (p : List ℕ → Read A) (s : List ℕ) (r : Reads (read_option p s)) where
  pub option-none-spans : get_or s 0 0 ≡ 0 → Spans (read_option p s) s 1
  option-none-spans e = let h = option-long p s r in spans-some _ s 1 none h (option-zero p s h e)

  module _ (f : get_or s 0 0 ≡ 0 → ⊥) where
    option-open : read_option p s ≡ map_read some (p (drop 1 s))
    option-open = option-one p s (option-long p s r) (option-is-one p s r f)

    pub option-thing : Reads (p (drop 1 s))
    option-thing = reads_first (p (drop 1 s)) _ (reads-eq _ _ option-open r)

    pub option-some-spans : (m : ℕ) → Spans (p (drop 1 s)) (drop 1 s) m → Spans (read_option p s) s (1 + m)
    option-some-spans m w = spans-eq _ _ s _ option-open (spans-drop _ s 1 m (option-long p s r) (spans-map some (p (drop 1 s)) (drop 1 s) m w))

-- ---- symbols and default

module _ (s : List ℕ) (r : Reads (read_symbols s)) where
  pub symbols-texts : Reads (read_list read_text s)
  unfolding read_symbols
  symbols-texts = two-first (read_list read_text s) (read_option read_text) (λ ss d. (ss, d)) s r

  pub symbols-default : (a : ℕ) → Spans (read_list read_text s) s a → Reads (read_option read_text (drop a s))
  unfolding read_symbols
  symbols-default = two-second (read_list read_text s) (read_option read_text) (λ ss d. (ss, d)) s r

  pub symbols-spans : (a b : ℕ) → Spans (read_list read_text s) s a → Spans (read_option read_text (drop a s)) (drop a s) b → Spans (read_symbols s) s (a + b)
  unfolding read_symbols
  symbols-spans = two-spans (read_list read_text s) (read_option read_text) (λ ss d. (ss, d)) s r

-- ---- 00 bytes, 01 string, 02 fixed and size

module _ (s : List ℕ) (r : Reads (read_uuid_form s)) where
  pub uuid_form-long : 0 < length s
  unfolding read_uuid_form
  uuid_form-long = reads-number 1 s (reads_first (read_number 1 s) _ r)

  module _ (e : get_or s 0 0 ≡ 2) where
    uuid_form-sized : read_uuid_form s ≡ map_read UuidForm.fixed (read_number 2 (drop 1 s))
    unfolding read_uuid_form ◌>>=◌
    uuid_form-sized = rw (read_number-some 1 s uuid_form-long, number_at-one s 0 uuid_form-long, e)

    pub uuid_form-fixed : Spans (read_uuid_form s) s 3
    uuid_form-fixed =
        let z : Spans (read_number 2 (drop 1 s)) (drop 1 s) 2 = number-spans 2 (drop 1 s) (reads_first (read_number 2 (drop 1 s)) _ (reads-eq _ _ uuid_form-sized r)) in
        spans-eq _ _ s 3 uuid_form-sized (spans-drop _ s 1 2 uuid_form-long (spans-map UuidForm.fixed (read_number 2 (drop 1 s)) (drop 1 s) 2 z))

  pub uuid_form-free : (get_or s 0 0 ≡ 2 → ⊥) → Spans (read_uuid_form s) s 1
  unfolding read_uuid_form ◌>>=◌
  uuid_form-free f = go (eqb (get_or s 0 0) 0) (eqb (get_or s 0 0) 1) refl refl
    where
      go : (a b : Bool) → eqb (get_or s 0 0) 0 ≡ a → eqb (get_or s 0 0) 1 ≡ b → Spans (read_uuid_form s) s 1
      go true b e g = spans-some _ s 1 UuidForm.bytes uuid_form-long (rw (read_number-some 1 s uuid_form-long, number_at-one s 0 uuid_form-long, e))
      go false true e g = spans-some _ s 1 UuidForm.string uuid_form-long (rw (read_number-some 1 s uuid_form-long, number_at-one s 0 uuid_form-long, e, g))
      go false false e g = absurd (not-reads _ (rw (read_number-some 1 s uuid_form-long, number_at-one s 0 uuid_form-long, e, g, ne_eqb _ _ f)) r)

-- ---- prepared tables: leads and positions

module _ (vs : List Schema) (s : List ℕ) (r : Reads (read_tables Form.prepared vs s)) where
  pub tables-leads : Reads (read_list read_lead s)
  unfolding read_tables
  tables-leads = two-first (read_list read_lead s) (read_list (read_number 2)) (λ ks ns. (ks, ns)) s r

  pub tables-positions : (a : ℕ) → Spans (read_list read_lead s) s a → Reads (read_list (read_number 2) (drop a s))
  unfolding read_tables
  tables-positions = two-second (read_list read_lead s) (read_list (read_number 2)) (λ ks ns. (ks, ns)) s r

  -- whatever the variants are
  pub tables-spans : (a b : ℕ) → Spans (read_list read_lead s) s a → Spans (read_list (read_number 2) (drop a s)) (drop a s) b → (ws : List Schema) → Spans (read_tables Form.prepared ws s) s (a + b)
  unfolding read_tables
  tables-spans a b w v ws = two-spans (read_list read_lead s) (read_list (read_number 2)) (λ ks ns. (ks, ns)) s r a b w v

-- ---- the content of a node

not-parent : (k j : ℕ) → (8 ≤ k → 11 < k) → 8 ≤ j → j ≤ 11 → k ≡ j → ⊥
not-parent k j h l u e = let z = h (omega arith) in omega arith

-- a kind without child nodes has the same content in each form and whatever reads the children
pub leaf-content : (form other-form : Form) (node other : List ℕ → Read Schema) (k : ℕ) (s : List ℕ) → (8 ≤ k → 11 < k) → read_formed form node k s ≡ read_formed other-form other k s
unfolding read_formed
leaf-content form other-form node other k s h =
    rw (ne_eqb k 8 (not-parent k 8 h (omega arith) (omega arith)), ne_eqb k 9 (not-parent k 9 h (omega arith) (omega arith)), ne_eqb k 10 (not-parent k 10 h (omega arith) (omega arith)), ne_eqb k 11 (not-parent k 11 h (omega arith) (omega arith)))

module _ (form : Form) (node : List ℕ → Read Schema) (s : List ℕ) where
  module _ (r : Reads (read_formed form node 8 s)) where
    pub array_known : Reads (node s)
    array_known = reads_first (node s) _ (reads-eq _ _ (array-content form node s) r)

    pub array-spans : (n : ℕ) → Spans (node s) s n → Spans (read_formed form node 8 s) s n
    array-spans n w = spans-eq _ _ s n (array-content form node s) (spans-map Schema.Array (node s) s n w)

  module _ (r : Reads (read_formed form node 9 s)) where
    pub map-known : Reads (node s)
    map-known = reads_first (node s) _ (reads-eq _ _ (map-content form node s) r)

    pub map-spans : (n : ℕ) → Spans (node s) s n → Spans (read_formed form node 9 s) s n
    map-spans n w = spans-eq _ _ s n (map-content form node s) (spans-map Schema.Map (node s) s n w)

  -- an array or a map
  module _ (k : ℕ) (l : 8 ≤ k) (h : k ≤ 9) (r : Reads (read_formed form node k s)) where
    pub child-known : Reads (node s)
    child-known = go (eqb k 8) refl
      where
        go : (b : Bool) → eqb k 8 ≡ b → Reads (node s)
        go true e = array_known (rw (eqb-true _ _ e) at r)
        go false e = let f = eqb-false _ _ e in let q : k ≡ 9 = omega arith in map-known (rw q at r)

    pub child-spans : (n : ℕ) → Spans (node s) s n → Spans (read_formed form node k s) s n
    child-spans n w = go (eqb k 8) refl
      where
        go : (b : Bool) → eqb k 8 ≡ b → Spans (read_formed form node k s) s n
        go true e = rw (eqb-true _ _ e) (array-spans (rw (eqb-true _ _ e) at r) n w)
        go false e = let f = eqb-false _ _ e in let q : k ≡ 9 = omega arith in rw q (map-spans (rw q at r) n w)

  module _ (r : Reads (read_formed form node 11 s)) where
    pub record-known : Reads (read_list (read_field node) s)
    record-known = reads_first (read_list (read_field node) s) _ (reads-eq _ _ (record-content form node s) r)

    pub record-spans : (n : ℕ) → Spans (read_list (read_field node) s) s n → Spans (read_formed form node 11 s) s n
    record-spans n w = spans-eq _ _ s n (record-content form node s) (spans-map _ (read_list (read_field node) s) s n w)

  module _ (r : Reads (read_formed form node 10 s)) where
    pub union-variants : Reads (read_list node s)
    unfolding read_formed
    union-variants = reads_first (read_list node s) _ r

    pub union-tables : (a : ℕ) → Spans (read_list node s) s a → (vs : List Schema) × Reads (read_tables form vs (drop a s))
    unfolding read_formed
    union-tables a w = let q = reads-behind (read_list node s) _ s a w r in (q.0, reads_first (read_tables form q.0 (drop a s)) _ q.1)

    pub union-spans : (a b : ℕ) → Spans (read_list node s) s a → ((vs : List Schema) → Spans (read_tables form vs (drop a s)) (drop a s) b) → Spans (read_formed form node 10 s) s (a + b)
    unfolding read_formed
    union-spans a b w v = spans-after (read_list node s) _ s a b w (λ vs. spans-map _ (read_tables form vs (drop a s)) (drop a s) b (v vs))

  module _ (r : Reads (read_formed form node 12 s)) where
    pub enum_known : Reads (read_symbols s)
    enum_known = reads_first (read_symbols s) _ (reads-eq _ _ (enum-content form node s) r)

    pub enum-spans : (n : ℕ) → Spans (read_symbols s) s n → Spans (read_formed form node 12 s) s n
    enum-spans n w = spans-eq _ _ s n (enum-content form node s) (spans-map _ (read_symbols s) s n w)

  module _ (r : Reads (read_formed form node 13 s)) where
    pub fixed-spans : Spans (read_formed form node 13 s) s 2
    unfolding read_formed
    fixed-spans = spans-map Schema.Fixed (read_number 2 s) s 2 (number-spans 2 s (reads_first (read_number 2 s) _ r))

  module _ (r : Reads (read_formed form node 25 s)) where
    pub duration-spans : Spans (read_formed form node 25 s) s 2
    unfolding read_formed
    duration-spans = spans-map Schema.Duration (read_number 2 s) s 2 (number-spans 2 s (reads_first (read_number 2 s) _ r))

  -- precision, scale and size
  module _ (r : Reads (read_formed form node 14 s)) where
    precision-spans : Spans (read_number 4 s) s 4
    unfolding read_formed
    precision-spans = number-spans 4 s (three-first (read_number 4 s) (read_number 4) (read_option (read_number 2)) (λ p c n. Schema.Decimal p c n) s r)

    scale-spans : Spans (read_number 4 (drop 4 s)) (drop 4 s) 4
    unfolding read_formed
    scale-spans = number-spans 4 (drop 4 s) (three-second (read_number 4 s) (read_number 4) (read_option (read_number 2)) (λ p c n. Schema.Decimal p c n) s r 4 precision-spans)

    pub decimal-size : Reads (read_option (read_number 2) (drop 8 s))
    unfolding read_formed
    decimal-size = three_third (read_number 4 s) (read_number 4) (read_option (read_number 2)) (λ p c n. Schema.Decimal p c n) s r 4 precision-spans 4 scale-spans

    pub decimal-spans : (n : ℕ) → Spans (read_option (read_number 2) (drop 8 s)) (drop 8 s) n → Spans (read_formed form node 14 s) s (8 + n)
    unfolding read_formed
    decimal-spans n w = three-spans (read_number 4 s) (read_number 4) (read_option (read_number 2)) (λ p c n. Schema.Decimal p c n) s r 4 precision-spans 4 scale-spans n w

    pub decimal-long : 8 ≤ length s
    decimal-long = omega (arith, spans-le _ _ _ precision-spans, spans-le _ _ _ scale-spans, length-drop 4 s)

  module _ (r : Reads (read_formed form node 15 s)) where
    pub uuid_known : Reads (read_uuid_form s)
    unfolding read_formed
    uuid_known = reads_first (read_uuid_form s) _ r

    pub uuid-spans : (n : ℕ) → Spans (read_uuid_form s) s n → Spans (read_formed form node 15 s) s n
    unfolding read_formed
    uuid-spans n w = spans-map Schema.Uuid (read_uuid_form s) s n w

  -- a kind with no content; none is past Duration
  module _ (k : ℕ) (r : Reads (read_formed form node k s)) where
    pub plain-spans : (7 < k → 15 < k) → (k ≡ 25 → ⊥) → Spans (read_formed form node k s) s 0
    plain-spans h f = go (leb k 7) (leb k 25) refl refl
      where
        go : (a b : Bool) → leb k 7 ≡ a → leb k 25 ≡ b → Spans (read_formed form node k s) s 0
        go true b e g = spans-some _ s 0 (Schema.Plain k) (omega arith) (plain-low form node s k (omega (arith, leb-true k 7 e)))
        go false true e g = spans-some _ s 0 (Schema.Plain k) (omega arith) (plain-high form node s k (h (leb-false k 7 e)) (omega (arith, leb-true k 25 g, f)))
        go false false e g = absurd (not-reads _ (kind_past form node s k (leb-false k 25 g)) r)

module _ (node : List ℕ → Read Schema) (s : List ℕ) (r : Reads (read_field node s)) where
  pub field-text : Reads (read_text s)
  unfolding read_field
  field-text = three-first (read_text s) (read_option (read_value 16)) node (λ name d f. (name, d, f)) s r

  pub field-default : (a : ℕ) → Spans (read_text s) s a → Reads (read_option (read_value 16) (drop a s))
  unfolding read_field
  field-default = three-second (read_text s) (read_option (read_value 16)) node (λ name d f. (name, d, f)) s r

  pub field-schema : (a : ℕ) → Spans (read_text s) s a → (b : ℕ) → Spans (read_option (read_value 16) (drop a s)) (drop a s) b → Reads (node (drop (a + b) s))
  unfolding read_field
  field-schema = three_third (read_text s) (read_option (read_value 16)) node (λ name d f. (name, d, f)) s r

  pub field-spans : (a : ℕ) → Spans (read_text s) s a → (b : ℕ) → Spans (read_option (read_value 16) (drop a s)) (drop a s) b → (c : ℕ) → Spans (node (drop (a + b) s)) (drop (a + b) s) c
      → Spans (read_field node s) s (a + b + c)
  unfolding read_field
  field-spans = three-spans (read_text s) (read_option (read_value 16)) node (λ name d f. (name, d, f)) s r

-- ---- a node

module _ (u : Under) (d : ℕ) (s : List ℕ) (r : Reads (read_schema_under u d s)) where
  pub known-content : Reads (read_formed u.form (read_schema_under u (d - 1)) (get_or s 0 0) (drop 1 s))
  known-content = reads-eq _ _ (schema-opened-under u d s r _ refl) r

  pub bare-spans : bare (get_or s 0 0) ≡ true → Spans (read_schema_under u d s) s 1
  bare-spans e = spans-some _ s 1 (Schema.Plain (get_or s 0 0)) (schema-there-under u d s r).1 (schema-opened-under u d s r _ refl ∙ bare-content _ _ _ _ e)

  pub schema-spans : (n : ℕ) → Spans (read_formed u.form (read_schema_under u (d - 1)) (get_or s 0 0) (drop 1 s)) (drop 1 s) n → Spans (read_schema_under u d s) s (1 + n)
  schema-spans n w = spans-eq _ _ s _ (schema-opened-under u d s r _ refl) (spans-drop _ s 1 n (schema-there-under u d s r).1 w)
