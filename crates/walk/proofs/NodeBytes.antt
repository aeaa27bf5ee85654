-- The bytes of a resolved Array, Map and Record: a header and then those of each child; and what a sound schema says of its parts.
use Prim.Native.Nat.{ℕ, suc, ◌-◌, ◌≤◌}
use mathlib.Core.Path.{◌≡◌, refl, sym, ap, ◌∙◌}
use mathlib.Core.List.{List, [], ◌∷◌}
use mathlib.Core.Option.{none, some}
use native.Mathlib.Omega.{arith}
use lib.Dec.{T}
use lib.ListN.{length, get_or, take, drop}
use lib.Seq.{length-take-le}
use borrow.Author.Tests.{ne_eqb}
use Rattle.base.specs.Base.{Result, ok, stop, after}
use Rattle.number.specs.Number.{all_bytes, big_endian, number_at, bytes_of}
use Rattle.number.proofs.Laws.{all_bytes-take, all_bytes-tail, bytes_of-big_endian}
use Rattle.text.specs.Read.{Read}
use Rattle.text.specs.Measured.{Reads}
use Rattle.frame.specs.Tree.{Value, Values, Schema, no_items, item, kind_of, items, peel}
use Rattle.frame.specs.Readers.{read_many}
use Rattle.frame.specs.ValueFrame.{items_of, read_value, count_items, encode_value, encode_items}
use Rattle.frame.specs.SchemaFrame.{read_schema}
use Rattle.frame.specs.Sound.{schema_sound}
use Rattle.frame.proofs.Reading.{bind-some, map-inv, reads-eq, reads_first}
use Rattle.frame.proofs.Counting.{many-length}
use Rattle.frame.proofs.ValueNodes.{value-kind}
use Rattle.types.specs.Types.{Outcome}
use Rattle.types.specs.Contract.{encoded, on_read, on_both}
use Rattle.avro.specs.Union.{resolve_union}
use Rattle.avro.specs.Resolve.{each_item, resolve_array, resolve}
use Rattle.avro.specs.Defaults.{defaults_short}
use Rattle.find.specs.Find.{peel_read}
use Rattle.walk.specs.Contract.{node_bytes}
use Rattle.variants.specs.Ways.{Ready}
use Rattle.leaf.specs.Leaf.{resolve_peeled, peeled_bytes}
use Rattle.walk.proofs.ReadParts.{value-array, schema-array, schema-map}
use Rattle.variants.proofs.UnionReading.{ready-reads}
use Rattle.walk.proofs.Pieces.{both_some, on_first, front, each_bytes}
use Rattle.find.proofs.PeelLaws.{peel-reads as peeled-reads}

-- ---- peeling

resolve-peel : (t : Schema) (v : Value) → resolve t v ≡ resolve_peeled t (peel v)
unfolding resolve resolve_peeled resolve_union peel
resolve-peel (Schema.Plain k) v = refl
resolve-peel (Schema.Fixed n) v = refl
resolve-peel (Schema.Decimal p s n) v = refl
resolve-peel (Schema.Uuid f) v = refl
resolve-peel (Schema.Duration n) v = refl
resolve-peel (Schema.Enum ss d) v = refl
resolve-peel (Schema.Array s) v = refl
resolve-peel (Schema.Map s) v = refl
resolve-peel (Schema.Record fs) v = refl
resolve-peel (Schema.Union vs ks ns) v = refl

pub node-peel : (t : Schema) (v : Value) → node_bytes t v ≡ peeled_bytes t (peel v)
unfolding node_bytes peeled_bytes
node-peel t v = ap encoded (resolve-peel t v)

pub both-peel : (x : Read Schema) (y z : Read Value) → z ≡ peel_read y → on_both node_bytes x y ≡ on_both peeled_bytes x z
both-peel x y z e = go x y ∙ ap (on_both peeled_bytes x) (sym e)
  where
    go : (x : Read Schema) (y : Read Value) → on_both node_bytes x y ≡ on_both peeled_bytes x (peel_read y)
    go none none = unfold on_both peel_read in refl
    go none (some y) = unfold on_both peel_read in refl
    go (some x) none = unfold on_both peel_read in refl
    go (some x) (some y) = unfold on_both peel_read in node-peel x.0 y.0

pub peel-reads : (y z : Read Value) → z ≡ peel_read y → Reads y → Reads z
peel-reads y z e p = reads-eq _ _ (sym e) (peeled-reads y p)

-- ---- parts of a sound schema

sound-array : (t i : Schema) → t ≡ Schema.Array i → T (schema_sound t) → T (defaults_short t) → T (schema_sound i) × T (defaults_short i)
unfolding schema_sound defaults_short
sound-array t i e p q = (rw e at p, rw e at q)

sound-map : (t i : Schema) → t ≡ Schema.Map i → T (schema_sound t) → T (defaults_short t) → T (schema_sound i) × T (defaults_short i)
unfolding schema_sound defaults_short
sound-map t i e p q = (rw e at p, rw e at q)

module _ (d : ℕ) (s : List ℕ) (r : Ready d s) where
  item-inv : get_or s 0 0 ≡ 8 → (i : Schema) × ((read_schema (d - 1) (drop 1 s) ≡ some (i, r.rest)) × (r.tree ≡ Schema.Array i))
  item-inv e = map-inv Schema.Array (read_schema (d - 1) (drop 1 s)) r.tree r.rest (sym (schema-array d s (ready-reads d s r) e) ∙ r.reads)

  pub ready-array : get_or s 0 0 ≡ 8 → Ready (d - 1) (drop 1 s)
  ready-array e =
      let i = item-inv e in
      let h = sound-array r.tree i.0 i.1.1 r.sound r.short in
      record { tree = i.0; rest = r.rest; reads = i.1.0; sound = h.0; short = h.1 }

  pub value-inv : get_or s 0 0 ≡ 9 → (i : Schema) × ((read_schema (d - 1) (drop 1 s) ≡ some (i, r.rest)) × (r.tree ≡ Schema.Map i))
  value-inv e = map-inv Schema.Map (read_schema (d - 1) (drop 1 s)) r.tree r.rest (sym (schema-map d s (ready-reads d s r) e) ∙ r.reads)

  pub ready-map : get_or s 0 0 ≡ 9 → Ready (d - 1) (drop 1 s)
  ready-map e =
      let i = value-inv e in
      let h = sound-map r.tree i.0 i.1.1 r.sound r.short in
      record { tree = i.0; rest = r.rest; reads = i.1.0; sound = h.0; short = h.1 }

-- ---- headers

pub head_bytes : (s : List ℕ) (k : ℕ) → T (all_bytes s) → 3 ≤ length s → get_or s 0 0 ≡ k → take 3 s ≡ k ∷ bytes_of 2 (number_at s 1 2)
head_bytes [] k b h e = absurd (omega arith)
head_bytes (x ∷ s) k b h e =
    let l : length (take 2 s) ≡ 2 = length-take-le 2 s (omega arith) in
    let q : bytes_of (length (take 2 s)) (big_endian (take 2 s)) ≡ take 2 s = bytes_of-big_endian (take 2 s) (all_bytes-take 2 s (all_bytes-tail x s b)) in
    ap (λ (j : ℕ). j ∷ take 2 s) e ∙ ap (λ (t : List ℕ). k ∷ t) (sym q ∙ ap (λ (j : ℕ). bytes_of j (big_endian (take 2 s))) l)

pub no_ok : {A : Type 0} (k : ℕ) (a : A) → ◌≡◌ {A = Result A} (stop k) (ok a) → ⊥
no_ok k a e = let z : ◌≡◌ {A = ℕ} 0 1 = cc in omega arith

-- ---- arrays

count-items : (f : Value → Outcome) (xs : List Value) (ws : Values) → each_item f (items_of xs) ≡ ok ws → count_items ws ≡ length xs
unfolding each_item items_of count_items
count-items f [] ws e = let q : no_items ≡ ws = cc in sym (ap count_items q)
count-items f (x ∷ xs) ws e = go (f x) (each_item f (items_of xs)) (λ us. count-items f xs us) e
  where
    go : (o : Outcome) (y : Result Values) → ((us : Values) → y ≡ ok us → count_items us ≡ length xs) → after o (λ r. after y (λ rs. ok (item r rs))) ≡ ok ws → count_items ws ≡ suc (length xs)
    go (stop k) y ih q = absurd (no_ok k ws (unfold after in q))
    go (ok r) (stop k) ih q = absurd (no_ok k ws (unfold after in q))
    go (ok r) (ok us) ih q =
        let q' : ◌≡◌ {A = Result Values} (ok (item r us)) (ok ws) = unfold after in q in
        let h : item r us ≡ ws = cc in
        sym (ap count_items h) ∙ ap suc (ih us refl)

items-each : (f : Value → Outcome) (xs : List Value) → after (each_item f (items_of xs)) (λ ws. ok (encode_items ws)) ≡ each_bytes (λ v. encoded (f v)) xs
unfolding each_item items_of each_bytes after encoded encode_value
items-each f [] = refl
items-each f (x ∷ xs) = go (f x) (each_item f (items_of xs)) (each_bytes (λ v. encoded (f v)) xs) (items-each f xs)
  where
    go : (o : Outcome) (y : Result Values) (z : Result (List ℕ)) → after y (λ ws. ok (encode_items ws)) ≡ z
        → after (after o (λ r. after y (λ rs. ok (item r rs)))) (λ ws. ok (encode_items ws)) ≡ after (encoded o) (λ b. front b z)
    go (stop k) y z h = refl
    go (ok r) (stop k) z h = rw (← h)
    go (ok r) (ok us) z h = rw (← h)

array_whole : (t : Schema) (xs : List Value) (h : List ℕ) → h ≡ 8 ∷ bytes_of 2 (length xs) → peeled_bytes (Schema.Array t) (Value.Array (items_of xs)) ≡ front h (each_bytes (node_bytes t) xs)
unfolding peeled_bytes node_bytes resolve_peeled resolve peel resolve_array kind_of items
array_whole t xs h e = go (each_item (λ x. resolve t x) (items_of xs)) refl ∙ ap (front h) (items-each (λ x. resolve t x) xs)
  where
    go : (o : Result Values) → each_item (λ x. resolve t x) (items_of xs) ≡ o → encoded (after o (λ vs. ok (Value.Array vs))) ≡ front h (after o (λ ws. ok (encode_items ws)))
    go (stop k) q = unfold after encoded in refl
    go (ok ws) q = unfold after encoded encode_value in rw (e, count-items (λ x. resolve t x) xs ws q)

array-other : (t : Schema) (w : Value) → (kind_of w ≡ 8 → ⊥) → peeled_bytes (Schema.Array t) w ≡ stop 6
unfolding peeled_bytes resolve_peeled resolve peel resolve_array encoded
array-other t w f = rw (ne_eqb (kind_of w) 8 f)

module _ (ds dv : ℕ) (s v : List ℕ) (r : Ready ds s) (pv : Reads (read_value dv v)) (es : get_or s 0 0 ≡ 8) (b : T (all_bytes v)) where
  pub array-no : (get_or v 0 0 ≡ 8 → ⊥) → on_both peeled_bytes (read_schema ds s) (read_value dv v) ≡ stop 6
  unfolding Reads
  array-no f =
      let i = item-inv ds s r es in
      both_some peeled_bytes _ _ r.tree pv.0 r.rest pv.1.0 r.reads pv.1.1
      ∙ ap (λ t. peeled_bytes t pv.0) i.1.1
      ∙ array-other i.0 pv.0 (λ q. f (sym (value-kind dv v b pv.0 pv.1.0 pv.1.1) ∙ q))

  module _ (ev : get_or v 0 0 ≡ 8) (n : ℕ) (hn : n ≡ number_at v 1 2) where
    pub array-others : Reads (read_many (read_value (dv - 1)) n (drop 3 v))
    array-others = rw hn (reads_first _ _ (reads-eq _ _ (value-array dv v pv ev).1 pv))

    pub array-start : on_both peeled_bytes (read_schema ds s) (read_value dv v) ≡ front (take 3 v) (on_read (each_bytes (on_first node_bytes (read_schema (ds - 1) (drop 1 s)))) (read_many (read_value (dv - 1)) n (drop 3 v)))
    unfolding Reads on_read on_first
    array-start =
        let i = item-inv ds s r es in
        let o = array-others in
        let x = o.0 in
        let l : length x ≡ n = many-length (read_value (dv - 1)) n (drop 3 v) x o.1.0 o.1.1 in
        let m : read_many (read_value (dv - 1)) (number_at v 1 2) (drop 3 v) ≡ some (x, o.1.0) = ap (λ j. read_many (read_value (dv - 1)) j (drop 3 v)) (sym hn) ∙ o.1.1 in
        let y : read_value dv v ≡ some (Value.Array (items_of x), o.1.0) = (value-array dv v pv ev).1 ∙ bind-some _ _ x o.1.0 m in
        let h : take 3 v ≡ 8 ∷ bytes_of 2 (length x) = head_bytes v 8 b (value-array dv v pv ev).0 ev ∙ ap (λ (j : ℕ). 8 ∷ bytes_of 2 j) (sym (l ∙ hn)) in
        both_some peeled_bytes _ _ r.tree (Value.Array (items_of x)) r.rest o.1.0 r.reads y
        ∙ ap (λ t. peeled_bytes t (Value.Array (items_of x))) i.1.1
        ∙ array_whole i.0 x (take 3 v) h
        ∙ rw (i.1.0, o.1.1)
