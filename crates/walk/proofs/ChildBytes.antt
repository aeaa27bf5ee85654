-- The bytes of a resolved Map and Record: a header and then those of each entry or field.
use Prim.Native.Nat.{ℕ, suc, ◌-◌, ◌≤◌}
use mathlib.Core.Path.{◌≡◌, refl, sym, ap, ◌∙◌, subst}
use mathlib.Core.Logic.{◌⊎◌, ⊎_elim, inl, inr}
use mathlib.Core.List.{List, [], ◌∷◌, ◌++◌}
use mathlib.Core.Option.{some}
use mathlib.Core.Bool.{◌&&◌, not}
use native.Mathlib.Omega.{arith}
use lib.Dec.{T}
use lib.ListN.{length, get_or, take, drop}
use lib.Ieee.Fits.{and_l, and_r}
use borrow.Author.Tests.{eq-eqb, ne_eqb}
use Rattle.base.specs.Base.{Result, ok, stop, after}
use Rattle.number.specs.Number.{all_bytes, number_at, bytes_of}
use Rattle.text.specs.Text.{Text}
use Rattle.text.specs.Measured.{Reads}
use Rattle.frame.specs.Tree.{Value, Entries, Schema, Fields, no_entries, entry, kind_of, entries, peel}
use Rattle.frame.specs.Readers.{read_many}
use Rattle.frame.specs.ValueFrame.{entries_of, read_entry, read_value, write_text, count_entries, encode_value, encode_entries}
use Rattle.frame.specs.SchemaFrame.{Field, fields_of, read_field, read_schema}
use Rattle.frame.specs.Sound.{schema_sound, fields_sound, has_field, default_allowed}
use Rattle.frame.proofs.Reading.{read-what, bind-some, map-inv, reads-some, reads-eq, reads_first}
use Rattle.frame.proofs.Counting.{many-length}
use Rattle.frame.proofs.ValueNodes.{value-kind}
use Rattle.types.specs.Types.{Outcome}
use Rattle.types.specs.Contract.{encoded, on_read, on_both}
use Rattle.avro.specs.Resolve.{each_entry, resolve_map, last_under, field_value, resolve_record, resolve, resolve_fields, start_default}
use Rattle.avro.specs.Defaults.{defaults_short, field_defaults_short, short_default}
use Rattle.find.specs.Find.{Keyed}
use Rattle.walk.specs.Contract.{node_bytes, entry_bytes, field_bytes}
use Rattle.variants.specs.Ways.{Ready}
use Rattle.leaf.specs.Leaf.{resolve_peeled, peeled_bytes}
use Rattle.walk.proofs.ReadParts.{value-map, schema-fields}
use Rattle.variants.proofs.UnionReading.{ready-reads}
use Rattle.walk.proofs.Pieces.{both_some, on_first, on_second, front, each_bytes}
use Rattle.walk.proofs.NodeBytes.{value-inv, head_bytes, no_ok}

-- ---- maps

count_entries_lem : (f : Value → Outcome) (xs : List (Text × Value)) (ws : Entries) → each_entry f (entries_of xs) ≡ ok ws → count_entries ws ≡ length xs
unfolding each_entry entries_of count_entries
count_entries_lem f [] ws e = let q : no_entries ≡ ws = cc in sym (ap count_entries q)
count_entries_lem f (x ∷ xs) ws e = go (f x.1) (each_entry f (entries_of xs)) (λ us. count_entries_lem f xs us) e
  where
    go : (o : Outcome) (y : Result Entries) → ((us : Entries) → y ≡ ok us → count_entries us ≡ length xs) → after o (λ r. after y (λ rs. ok (entry x.0 r rs))) ≡ ok ws → count_entries ws ≡ suc (length xs)
    go (stop k) y ih q = absurd (no_ok k ws (unfold after in q))
    go (ok r) (stop k) ih q = absurd (no_ok k ws (unfold after in q))
    go (ok r) (ok us) ih q =
        let q' : ◌≡◌ {A = Result Entries} (ok (entry x.0 r us)) (ok ws) = unfold after in q in
        let h : entry x.0 r us ≡ ws = cc in
        sym (ap count_entries h) ∙ ap suc (ih us refl)

entries-each : (t : Schema) (xs : List (Text × Value)) → after (each_entry (λ x. resolve t x) (entries_of xs)) (λ ws. ok (encode_entries ws)) ≡ each_bytes (entry_bytes t) xs
unfolding each_entry entries_of each_bytes entry_bytes node_bytes after encoded encode_value
entries-each t [] = refl
entries-each t (x ∷ xs) = go (resolve t x.1) (each_entry (λ x. resolve t x) (entries_of xs)) (each_bytes (entry_bytes t) xs) (entries-each t xs)
  where
    go : (o : Outcome) (y : Result Entries) (z : Result (List ℕ)) → after y (λ ws. ok (encode_entries ws)) ≡ z
        → after (after o (λ r. after y (λ rs. ok (entry x.0 r rs)))) (λ ws. ok (encode_entries ws)) ≡ after (after (encoded o) (λ b. ok (write_text x.0 ++ b))) (λ b. front b z)
    go (stop k) y z h = refl
    go (ok r) (stop k) z h = rw (← h)
    go (ok r) (ok us) z h = rw (← h)

map_whole : (t : Schema) (xs : List (Text × Value)) (h : List ℕ) → h ≡ 9 ∷ bytes_of 2 (length xs) → peeled_bytes (Schema.Map t) (Value.Map (entries_of xs)) ≡ front h (each_bytes (entry_bytes t) xs)
unfolding peeled_bytes resolve_peeled resolve peel resolve_map kind_of entries
map_whole t xs h e = go (each_entry (λ x. resolve t x) (entries_of xs)) refl ∙ ap (front h) (entries-each t xs)
  where
    go : (o : Result Entries) → each_entry (λ x. resolve t x) (entries_of xs) ≡ o → encoded (after o (λ vs. ok (Value.Map vs))) ≡ front h (after o (λ ws. ok (encode_entries ws)))
    go (stop k) q = unfold after encoded in refl
    go (ok ws) q = unfold after encoded encode_value in rw (e, count_entries_lem (λ x. resolve t x) xs ws q)

map_other : (t : Schema) (w : Value) → (kind_of w ≡ 9 → ⊥) → peeled_bytes (Schema.Map t) w ≡ stop 6
unfolding peeled_bytes resolve_peeled resolve peel resolve_map encoded
map_other t w f = rw (ne_eqb (kind_of w) 9 f)

module _ (ds dv : ℕ) (s v : List ℕ) (r : Ready ds s) (pv : Reads (read_value dv v)) (es : get_or s 0 0 ≡ 9) (b : T (all_bytes v)) where
  pub map-no : (get_or v 0 0 ≡ 9 → ⊥) → on_both peeled_bytes (read_schema ds s) (read_value dv v) ≡ stop 6
  unfolding Reads
  map-no f =
      let i = value-inv ds s r es in
      both_some peeled_bytes _ _ r.tree pv.0 r.rest pv.1.0 r.reads pv.1.1
      ∙ ap (λ t. peeled_bytes t pv.0) i.1.1
      ∙ map_other i.0 pv.0 (λ q. f (sym (value-kind dv v b pv.0 pv.1.0 pv.1.1) ∙ q))

  module _ (ev : get_or v 0 0 ≡ 9) (n : ℕ) (hn : n ≡ number_at v 1 2) where
    pub map-others : Reads (read_many (read_entry (read_value (dv - 1))) n (drop 3 v))
    map-others = rw hn (reads_first _ _ (reads-eq _ _ (value-map dv v pv ev).1 pv))

    pub map-start : on_both peeled_bytes (read_schema ds s) (read_value dv v) ≡ front (take 3 v) (on_read (each_bytes (on_first entry_bytes (read_schema (ds - 1) (drop 1 s)))) (read_many (read_entry (read_value (dv - 1))) n (drop 3 v)))
    unfolding Reads on_read on_first
    map-start =
        let i = value-inv ds s r es in
        let o = map-others in
        let x = o.0 in
        let l : length x ≡ n = many-length (read_entry (read_value (dv - 1))) n (drop 3 v) x o.1.0 o.1.1 in
        let m : read_many (read_entry (read_value (dv - 1))) (number_at v 1 2) (drop 3 v) ≡ some (x, o.1.0) = ap (λ j. read_many (read_entry (read_value (dv - 1))) j (drop 3 v)) (sym hn) ∙ o.1.1 in
        let y : read_value dv v ≡ some (Value.Map (entries_of x), o.1.0) = (value-map dv v pv ev).1 ∙ bind-some _ _ x o.1.0 m in
        let h : take 3 v ≡ 9 ∷ bytes_of 2 (length x) = head_bytes v 9 b (value-map dv v pv ev).0 ev ∙ ap (λ (j : ℕ). 9 ∷ bytes_of 2 j) (sym (l ∙ hn)) in
        both_some peeled_bytes _ _ r.tree (Value.Map (entries_of x)) r.rest o.1.0 r.reads y
        ∙ ap (λ t. peeled_bytes t (Value.Map (entries_of x))) i.1.1
        ∙ map_whole i.0 x (take 3 v) h
        ∙ rw (i.1.0, o.1.1)

-- ---- records

-- what becomes of a field, before its bytes
abbrev field_outcome : Field → Entries → Outcome
field_outcome f es = after (field_value (last_under f.0 es) f.1 (λ w. start_default f.2 w)) (λ v. resolve f.2 v)

fields-next : (f : Field) (fs : List Field) (es : Entries) → resolve_fields (fields_of (f ∷ fs)) es ≡ after (field_outcome f es) (λ r. after (resolve_fields (fields_of fs) es) (λ rs. ok (entry f.0 r rs)))
unfolding resolve fields_of
fields-next f fs es = go (field_value (last_under f.0 es) f.1 (λ w. start_default f.2 w))
  where
    go : (o : Outcome) → after o (λ v. after (resolve f.2 v) (λ r. after (resolve_fields (fields_of fs) es) (λ rs. ok (entry f.0 r rs))))
        ≡ after (after o (λ v. resolve f.2 v)) (λ r. after (resolve_fields (fields_of fs) es) (λ rs. ok (entry f.0 r rs)))
    go (stop k) = unfold after in refl
    go (ok v) = unfold after in refl

field-outcome : (f : Field) (w : Value) → field_bytes f w ≡ after (encoded (field_outcome f (entries w))) (λ b. ok (write_text f.0 ++ b))
unfolding field_bytes node_bytes
field-outcome f w = go (field_value (last_under f.0 (entries w)) f.1 (λ d. start_default f.2 d))
  where
    go : (o : Outcome) → after o (λ x. after (encoded (resolve f.2 x)) (λ b. ok (write_text f.0 ++ b))) ≡ after (encoded (after o (λ v. resolve f.2 v))) (λ b. ok (write_text f.0 ++ b))
    go (stop k) = unfold after encoded in refl
    go (ok v) = unfold after in refl

count_none : (es ws : Entries) → resolve_fields (fields_of []) es ≡ ok ws → count_entries ws ≡ 0
unfolding resolve fields_of count_entries
count_none es ws e = let q : no_entries ≡ ws = cc in sym (ap count_entries q)

count-fields : (fs : List Field) (es ws : Entries) → resolve_fields (fields_of fs) es ≡ ok ws → count_entries ws ≡ length fs
count-fields [] es ws e = count_none es ws e
count-fields (f ∷ fs) es ws e = go (field_outcome f es) (resolve_fields (fields_of fs) es) (λ us. count-fields fs es us) (sym (fields-next f fs es) ∙ e)
  where
    go : (o : Outcome) (y : Result Entries) → ((us : Entries) → y ≡ ok us → count_entries us ≡ length fs) → after o (λ r. after y (λ rs. ok (entry f.0 r rs))) ≡ ok ws → count_entries ws ≡ suc (length fs)
    go (stop k) y ih q = absurd (no_ok k ws (unfold after in q))
    go (ok r) (stop k) ih q = absurd (no_ok k ws (unfold after in q))
    go (ok r) (ok us) ih q =
        let q' : ◌≡◌ {A = Result Entries} (ok (entry f.0 r us)) (ok ws) = unfold after in q in
        let h : entry f.0 r us ≡ ws = cc in
        sym (ap count_entries h) ∙ unfold count_entries in ap suc (ih us refl)

fields-each : (fs : List Field) (w : Value) → after (resolve_fields (fields_of fs) (entries w)) (λ ws. ok (encode_entries ws)) ≡ each_bytes (λ f. field_bytes f w) fs
fields-each [] w = unfold resolve fields_of each_bytes after encode_value in refl
fields-each (f ∷ fs) w =
    ap (λ x. after x (λ ws. ok (encode_entries ws))) (fields-next f fs (entries w))
    ∙ go (field_outcome f (entries w)) (resolve_fields (fields_of fs) (entries w)) (each_bytes (λ f. field_bytes f w) fs) (fields-each fs w)
    ∙ unfold each_bytes in ap (λ x. after x (λ b. front b (each_bytes (λ f. field_bytes f w) fs))) (sym (field-outcome f w))
  where
    go : (o : Outcome) (y : Result Entries) (z : Result (List ℕ)) → after y (λ ws. ok (encode_entries ws)) ≡ z
        → after (after o (λ r. after y (λ rs. ok (entry f.0 r rs)))) (λ ws. ok (encode_entries ws)) ≡ after (after (encoded o) (λ b. ok (write_text f.0 ++ b))) (λ b. front b z)
    go (stop k) y z h = unfold after encoded in refl
    go (ok r) (stop k) z h = unfold after encoded in rw (← h)
    go (ok r) (ok us) z h = unfold after encoded encode_value in rw (← h)

record-whole : (fs : List Field) (w : Value) (h : List ℕ) → (kind_of w ≡ 9) ⊎ (kind_of w ≡ 11) → h ≡ 11 ∷ bytes_of 2 (length fs) → peeled_bytes (Schema.Record (fields_of fs)) w ≡ front h (each_bytes (λ f. field_bytes f w) fs)
unfolding peeled_bytes resolve_peeled resolve peel resolve_record
record-whole fs w h k e =
    ⊎_elim (λ p. rw (eq-eqb (kind_of w) 9 p) main) (λ p. rw (eq-eqb (kind_of w) 11 p, ne_eqb (kind_of w) 9 (λ q. omega arith)) main) k
  where
    go : (o : Result Entries) → resolve_fields (fields_of fs) (entries w) ≡ o → encoded (after o (λ vs. ok (Value.Record vs))) ≡ front h (after o (λ ws. ok (encode_entries ws)))
    go (stop k) q = unfold after encoded in refl
    go (ok ws) q = unfold after encoded encode_value in rw (e, count-fields fs (entries w) ws q)

    main : encoded (after (resolve_fields (fields_of fs) (entries w)) (λ vs. ok (Value.Record vs))) ≡ front h (each_bytes (λ f. field_bytes f w) fs)
    main = go (resolve_fields (fields_of fs) (entries w)) refl ∙ ap (front h) (fields-each fs w)

record-other : (fs : Fields) (w : Value) → (kind_of w ≡ 9 → ⊥) → (kind_of w ≡ 11 → ⊥) → peeled_bytes (Schema.Record fs) w ≡ stop 6
unfolding peeled_bytes resolve_peeled resolve peel resolve_record encoded
record-other fs w f g = rw (ne_eqb (kind_of w) 9 f, ne_eqb (kind_of w) 11 g)

module _ (ds : ℕ) (s : List ℕ) (r : Ready ds s) (es : get_or s 0 0 ≡ 11) where
  fields-inv : (fs : List Field) × ((read_many (read_field (read_schema (ds - 1))) (number_at s 1 2) (drop 3 s) ≡ some (fs, r.rest)) × (r.tree ≡ Schema.Record (fields_of fs)))
  fields-inv = map-inv (λ fs. Schema.Record (fields_of fs)) _ r.tree r.rest (sym (schema-fields ds s (ready-reads ds s r) es).1 ∙ r.reads)

  pub fields-long : 3 ≤ length s
  fields-long = (schema-fields ds s (ready-reads ds s r) es).0

  pub record-no : (dv : ℕ) (v : List ℕ) → Reads (read_value dv v) → T (all_bytes v) → (get_or v 0 0 ≡ 11 → ⊥) → (get_or v 0 0 ≡ 9 → ⊥) → on_both peeled_bytes (read_schema ds s) (read_value dv v) ≡ stop 6
  unfolding Reads
  record-no dv v pv b g f =
      let i = fields-inv in
      let k = sym (value-kind dv v b pv.0 pv.1.0 pv.1.1) in
      both_some peeled_bytes _ _ r.tree pv.0 r.rest pv.1.0 r.reads pv.1.1
      ∙ ap (λ t. peeled_bytes t pv.0) i.1.1
      ∙ record-other (fields_of i.0) pv.0 (λ q. f (k ∙ q)) (λ q. g (k ∙ q))

  module _ (dv : ℕ) (v : List ℕ) (pv : Reads (read_value dv v)) (b : T (all_bytes s)) (c : T (all_bytes v)) (ev : Keyed v) (n : ℕ) (hn : n ≡ number_at s 1 2) where
    pub fields-others : Reads (read_many (read_field (read_schema (ds - 1))) n (drop 3 s))
    fields-others = rw hn (reads-some fields-inv.0 r.rest fields-inv.1.0)

    pub fields-start : on_both peeled_bytes (read_schema ds s) (read_value dv v) ≡ front (take 3 s) (on_read (each_bytes (on_second field_bytes (read_value dv v))) (read_many (read_field (read_schema (ds - 1))) n (drop 3 s)))
    unfolding Reads on_read on_second Keyed
    fields-start =
        let i = fields-inv in
        let x = i.0 in
        let m : read_many (read_field (read_schema (ds - 1))) n (drop 3 s) ≡ some (x, r.rest) = ap (λ j. read_many (read_field (read_schema (ds - 1))) j (drop 3 s)) hn ∙ i.1.0 in
        let l : length x ≡ n = many-length (read_field (read_schema (ds - 1))) n (drop 3 s) x r.rest m in
        let h : take 3 s ≡ 11 ∷ bytes_of 2 (length x) = head_bytes s 11 b fields-long es ∙ ap (λ (j : ℕ). 11 ∷ bytes_of 2 j) (sym (l ∙ hn)) in
        let k = sym (value-kind dv v c pv.0 pv.1.0 pv.1.1) in
        let kk : (kind_of pv.0 ≡ 9) ⊎ (kind_of pv.0 ≡ 11) = ⊎_elim (λ q. inl (sym k ∙ q)) (λ q. inr (sym k ∙ q)) ev in
        both_some peeled_bytes _ _ r.tree pv.0 r.rest pv.1.0 r.reads pv.1.1
        ∙ ap (λ t. peeled_bytes t pv.0) i.1.1
        ∙ record-whole x pv.0 (take 3 s) kk h
        ∙ rw (m, pv.1.1)

-- ---- fields that are sound, with short defaults

abbrev pub FineFields : List Field → Type 0
FineFields fs = T (fields_sound (fields_of fs)) × T (field_defaults_short (fields_of fs))

pub fine-none : FineFields []
unfolding schema_sound defaults_short fields_of
fine-none = (tt, tt)

pub fine-first : (f : Field) (fs : List Field) → FineFields (f ∷ fs) → T (schema_sound f.2) × (T (defaults_short f.2) × T (short_default f.2 f.1))
unfolding schema_sound defaults_short fields_of
fine-first f fs h =
    let a = and_l (not (has_field f.0 (fields_of fs)) && default_allowed f.1 && schema_sound f.2) (fields_sound (fields_of fs)) h.0 in
    let c = and_l (short_default f.2 f.1 && defaults_short f.2) (field_defaults_short (fields_of fs)) h.1 in
    (and_r (not (has_field f.0 (fields_of fs)) && default_allowed f.1) (schema_sound f.2) a, (and_r (short_default f.2 f.1) (defaults_short f.2) c, and_l (short_default f.2 f.1) (defaults_short f.2) c))

pub fine-rest : (f : Field) (fs : List Field) → FineFields (f ∷ fs) → FineFields fs
unfolding schema_sound defaults_short fields_of
fine-rest f fs h = (
  and_r (not (has_field f.0 (fields_of fs)) && default_allowed f.1 && schema_sound f.2) (fields_sound (fields_of fs)) h.0,
  and_r (short_default f.2 f.1 && defaults_short f.2) (field_defaults_short (fields_of fs)) h.1,
)

fine-all : (t : Schema) (fs : List Field) → t ≡ Schema.Record (fields_of fs) → T (schema_sound t) → T (defaults_short t) → FineFields fs
unfolding schema_sound defaults_short
fine-all t fs e p q = (rw e at p, rw e at q)

pub fields-fine : (ds : ℕ) (s : List ℕ) (r : Ready ds s) (es : get_or s 0 0 ≡ 11) (n : ℕ) → n ≡ number_at s 1 2 → (xs : List Field) (u : List ℕ) → read_many (read_field (read_schema (ds - 1))) n (drop 3 s) ≡ some (xs, u) → FineFields xs
fields-fine ds s r es n hn xs u e =
    let i = fields-inv ds s r es in
    let m : read_many (read_field (read_schema (ds - 1))) n (drop 3 s) ≡ some (i.0, r.rest) = ap (λ j. read_many (read_field (read_schema (ds - 1))) j (drop 3 s)) hn ∙ i.1.0 in
    subst FineFields (read-what (sym m ∙ e)) (fine-all r.tree i.0 i.1.1 r.sound r.short)
