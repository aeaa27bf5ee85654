-- The rules' sentences on arrays, maps and records: which refusal is given, the last value under a name, and what a missing
-- field takes. Where a sentence can be read in two directions, both stand.
use Prim.Native.Nat.{ℕ}
use mathlib.Core.Path.{◌≡◌, refl, sym, ap, ◌∙◌}
use mathlib.Core.List.{List, [], ◌∷◌}
use mathlib.Core.Logic.{◌⊎◌, inl, inr}
use mathlib.Core.Option.{Option, none, some, or_else}
use mathlib.Core.Bool.{Bool, true, false}
use native.Mathlib.Omega.{arith}
use borrow.Author.Tests.{eq-eqb, ne_eqb}
use Rattle.base.specs.Base.{when◌then◌else◌, Result, ok, stop, after}
use Rattle.text.specs.Text.{Text, same}
use Rattle.text.proofs.TextLaws.{same_refl, same→≡}
use Rattle.frame.specs.Kind
use Rattle.frame.specs.Tree.{Value, Values, Entries, Schema, Fields, Variants, no_items, item, no_entries, entry, no_fields, field, variant, kind_of, items, entries, peel, schema_kind}
use Rattle.types.specs.Types.{Outcome}
use Rattle.avro.specs.Resolve.{each_item, each_entry, resolve_array, resolve_map, last_under, first, field_value, resolve_record, resolve, resolve_fields, start_default}
use Rattle.avro.proofs.UnionLaws.{none-some}

-- ---- "the first met in the walk is given"

-- the first refusal among outcomes, in their order, is e
unfoldable pub FirstRefusal : ℕ → List Outcome → Type 0
FirstRefusal e [] = ⊥
FirstRefusal e (ok r ∷ xs) = FirstRefusal e xs
FirstRefusal e (stop n ∷ xs) = n ≡ e

stop-same : {A : Type 0} (n e : ℕ) → ◌≡◌ {A = Result A} (stop n) (stop e) → n ≡ e
stop-same n e h = cc

ok-stop : {A B : Type 0} (a : A) (e : ℕ) → ok a ≡ stop e → B
ok-stop a e h = let z : ◌≡◌ {A = ℕ} 0 1 = cc in absurd (omega arith)

ok_same : {A : Type 0} (a b : A) → ok a ≡ ok b → a ≡ b
ok_same a b h = cc

-- one outcome more in front of a walk
module _ {A B : Type 0} (e : ℕ) (xs : List Outcome) (g : Value → A → B) where
  walk_refused : (x : Outcome) (y : Result A) → (FirstRefusal e xs → y ≡ stop e) → FirstRefusal e (x ∷ xs) → after x (λ r. after y (λ a. ok (g r a))) ≡ stop e
  unfolding after FirstRefusal
  walk_refused (stop n) y k h = ap stop h
  walk_refused (ok r) y k h = ap (λ z. after z (λ a. ok (g r a))) (k h)

  walk_first : (x : Outcome) (y : Result A) → (y ≡ stop e → FirstRefusal e xs) → after x (λ r. after y (λ a. ok (g r a))) ≡ stop e → FirstRefusal e (x ∷ xs)
  unfolding after FirstRefusal
  walk_first (stop n) y k h = stop-same n e h
  walk_first (ok r) (stop n) k h = k (ap stop (stop-same n e h))
  walk_first (ok r) (ok a) k h = ok-stop (g r a) e h

  walk-made : (x : Outcome) (y : Result A) (r : Value) (a : A) → x ≡ ok r → y ≡ ok a → after x (λ r. after y (λ a. ok (g r a))) ≡ ok (g r a)
  unfolding after
  walk-made x y r a p q = ap (λ z. after z (λ r. after y (λ a. ok (g r a)))) p ∙ ap (λ z. after z (λ a. ok (g r a))) q

  walk-each : (x : Outcome) (y : Result A) (b : B) → after x (λ r. after y (λ a. ok (g r a))) ≡ ok b → (r : Value) × ((a : A) × ((x ≡ ok r) × ((y ≡ ok a) × (g r a ≡ b))))
  unfolding after
  walk-each (stop n) y b h = ok-stop b n (sym h)
  walk-each (ok r) (stop n) b h = ok-stop b n (sym h)
  walk-each (ok r) (ok a) b h = (r, (a, (refl, (refl, ok_same (g r a) b h))))

-- ---- "array items ... in order"

unfoldable pub item_outcomes : (Value → Outcome) → Values → List Outcome
item_outcomes f no_items = []
item_outcomes f (item v vs) = f v ∷ item_outcomes f vs

module _ (f : Value → Outcome) (e : ℕ) where
  items_refused : (vs : Values) → FirstRefusal e (item_outcomes f vs) → each_item f vs ≡ stop e
  unfolding item_outcomes each_item FirstRefusal
  items_refused no_items h = absurd h
  items_refused (item v vs) h = walk_refused e (item_outcomes f vs) item (f v) (each_item f vs) (items_refused vs) h

  items-first : (vs : Values) → each_item f vs ≡ stop e → FirstRefusal e (item_outcomes f vs)
  unfolding item_outcomes each_item
  items-first no_items h = ok-stop no_items e h
  items-first (item v vs) h = walk_first e (item_outcomes f vs) item (f v) (each_item f vs) (items-first vs) h

-- each item becomes what it resolves to
unfoldable pub EachItem : (Value → Outcome) → Values → Values → Type 0
EachItem f no_items no_items = Unit {0}
EachItem f no_items (item r rs) = ⊥
EachItem f (item v vs) no_items = ⊥
EachItem f (item v vs) (item r rs) = (f v ≡ ok r) × EachItem f vs rs

no_item : {A : Type 0} (r : Value) (rs : Values) → no_items ≡ item r rs → A
no_item r rs h = let z : ◌≡◌ {A = ℕ} 0 1 = cc in absurd (omega arith)

item-same : (v r : Value) (vs rs : Values) → item v vs ≡ item r rs → (v ≡ r) × (vs ≡ rs)
item-same v r vs rs h = (cc, cc)

module _ (f : Value → Outcome) where
  items-made : (vs rs : Values) → EachItem f vs rs → each_item f vs ≡ ok rs
  unfolding EachItem each_item
  items-made no_items no_items h = refl
  items-made no_items (item r rs) h = absurd h
  items-made (item v vs) no_items h = absurd h
  items-made (item v vs) (item r rs) h = walk-made 0 [] item (f v) (each_item f vs) r rs h.0 (items-made vs rs h.1)

  items-each : (vs rs : Values) → each_item f vs ≡ ok rs → EachItem f vs rs
  unfolding EachItem each_item
  items-each no_items no_items h = tt
  items-each no_items (item r rs) h = no_item r rs (ok_same no_items (item r rs) h)
  items-each (item v vs) no_items h =
      let q = walk-each 0 [] item (f v) (each_item f vs) no_items h in
      no_item q.0 q.1.0 (sym q.1.1.1.1)
  items-each (item v vs) (item r rs) h =
      let q = walk-each 0 [] item (f v) (each_item f vs) (item r rs) h in
      let a = item-same q.0 r q.1.0 rs q.1.1.1.1 in
      (q.1.1.0 ∙ ap ok a.0, items-each vs rs (q.1.1.1.0 ∙ ap ok a.1))

-- what is refused behind a value's kind
behind-refused : {A B : Type 0} (x : Result A) (g : A → B) (e : ℕ) → x ≡ stop e → after x (λ a. ok (g a)) ≡ stop e
unfolding after
behind-refused x g e h = ap (λ y. after y (λ a. ok (g a))) h

behind-first : {A B : Type 0} (x : Result A) (g : A → B) (e : ℕ) → after x (λ a. ok (g a)) ≡ stop e → x ≡ stop e
unfolding after
behind-first (stop n) g e h = ap stop (stop-same n e h)
behind-first (ok a) g e h = ok-stop (g a) e h

-- what is made behind it
behind-each : {A B : Type 0} (x : Result A) (g : A → B) (b : B) → after x (λ a. ok (g a)) ≡ ok b → (a : A) × ((x ≡ ok a) × (g a ≡ b))
unfolding after
behind-each (stop n) g b h = ok-stop b n (sym h)
behind-each (ok a) g b h = (a, (refl, ok_same (g a) b h))

module _ (s : Schema) (vs : Values) (e : ℕ) where
  pub array-refused : FirstRefusal e (item_outcomes (λ w. resolve s w) vs) → resolve (Schema.Array s) (Value.Array vs) ≡ stop e
  unfolding resolve resolve_array peel kind_of items
  array-refused h = behind-refused (each_item (λ w. resolve s w) vs) Value.Array e (items_refused (λ w. resolve s w) e vs h)

  pub array-first : resolve (Schema.Array s) (Value.Array vs) ≡ stop e → FirstRefusal e (item_outcomes (λ w. resolve s w) vs)
  unfolding resolve resolve_array peel kind_of items
  array-first h = items-first (λ w. resolve s w) e vs (behind-first (each_item (λ w. resolve s w) vs) Value.Array e h)

pub array_made : (s : Schema) (vs rs : Values) → EachItem (λ w. resolve s w) vs rs → resolve (Schema.Array s) (Value.Array vs) ≡ ok (Value.Array rs)
unfolding resolve resolve_array peel kind_of items after
array_made s vs rs h = ap (λ x. after x (λ y. ok (Value.Array y))) (items-made (λ w. resolve s w) vs rs h)

pub array-each : (s : Schema) (vs : Values) (r : Value) → resolve (Schema.Array s) (Value.Array vs) ≡ ok r → (rs : Values) × ((r ≡ Value.Array rs) × EachItem (λ w. resolve s w) vs rs)
unfolding resolve resolve_array peel kind_of items
array-each s vs r h =
    let q = behind-each (each_item (λ w. resolve s w) vs) Value.Array r h in
    (q.0, (sym q.1.1, items-each (λ w. resolve s w) vs q.0 q.1.0))

-- 6, for a value of any other kind
pub array-six : (s : Schema) (v : Value) → (kind_of (peel v) ≡ Kind.Array → ⊥) → resolve (Schema.Array s) v ≡ stop 6
unfolding resolve resolve_array
array-six s v h = rw (ne_eqb (kind_of (peel v)) Kind.Array h)

-- ---- map entries in order. (That it is the order of their keys: `map-number` in MapNumbers.)

unfoldable pub entry_outcomes : (Value → Outcome) → Entries → List Outcome
entry_outcomes f no_entries = []
entry_outcomes f (entry n v es) = f v ∷ entry_outcomes f es

module _ (f : Value → Outcome) (e : ℕ) where
  entries-refused : (es : Entries) → FirstRefusal e (entry_outcomes f es) → each_entry f es ≡ stop e
  unfolding entry_outcomes each_entry FirstRefusal
  entries-refused no_entries h = absurd h
  entries-refused (entry n v es) h = walk_refused e (entry_outcomes f es) (entry n) (f v) (each_entry f es) (entries-refused es) h

  entries-first : (es : Entries) → each_entry f es ≡ stop e → FirstRefusal e (entry_outcomes f es)
  unfolding entry_outcomes each_entry
  entries-first no_entries h = ok-stop no_entries e h
  entries-first (entry n v es) h = walk_first e (entry_outcomes f es) (entry n) (f v) (each_entry f es) (entries-first es) h

-- each entry keeps its key, and its value becomes what it resolves to
unfoldable pub EachEntry : (Value → Outcome) → Entries → Entries → Type 0
EachEntry f no_entries no_entries = Unit {0}
EachEntry f no_entries (entry m r rs) = ⊥
EachEntry f (entry n v es) no_entries = ⊥
EachEntry f (entry n v es) (entry m r rs) = (n ≡ m) × ((f v ≡ ok r) × EachEntry f es rs)

no_entry : {A : Type 0} (m : Text) (r : Value) (rs : Entries) → no_entries ≡ entry m r rs → A
no_entry m r rs h = let z : ◌≡◌ {A = ℕ} 0 1 = cc in absurd (omega arith)

entry-same : (n m : Text) (v r : Value) (es rs : Entries) → entry n v es ≡ entry m r rs → (n ≡ m) × ((v ≡ r) × (es ≡ rs))
entry-same n m v r es rs h = (cc, (cc, cc))

module _ (f : Value → Outcome) where
  entries-made : (es rs : Entries) → EachEntry f es rs → each_entry f es ≡ ok rs
  unfolding EachEntry each_entry
  entries-made no_entries no_entries h = refl
  entries-made no_entries (entry m r rs) h = absurd h
  entries-made (entry n v es) no_entries h = absurd h
  entries-made (entry n v es) (entry m r rs) h = walk-made 0 [] (entry n) (f v) (each_entry f es) r rs h.1.0 (entries-made es rs h.1.1) ∙ ap (λ x. ok (entry x r rs)) h.0

  entries-each : (es rs : Entries) → each_entry f es ≡ ok rs → EachEntry f es rs
  unfolding EachEntry each_entry
  entries-each no_entries no_entries h = tt
  entries-each no_entries (entry m r rs) h = no_entry m r rs (ok_same no_entries (entry m r rs) h)
  entries-each (entry n v es) no_entries h =
      let q = walk-each 0 [] (entry n) (f v) (each_entry f es) no_entries h in
      no_entry n q.0 q.1.0 (sym q.1.1.1.1)
  entries-each (entry n v es) (entry m r rs) h =
      let q = walk-each 0 [] (entry n) (f v) (each_entry f es) (entry m r rs) h in
      let a = entry-same n m q.0 r q.1.0 rs q.1.1.1.1 in
      (a.0, (q.1.1.0 ∙ ap ok a.1.0, entries-each es rs (q.1.1.1.0 ∙ ap ok a.1.1)))

module _ (s : Schema) (es : Entries) (e : ℕ) where
  pub map-refused : FirstRefusal e (entry_outcomes (λ w. resolve s w) es) → resolve (Schema.Map s) (Value.Map es) ≡ stop e
  unfolding resolve resolve_map peel kind_of entries
  map-refused h = behind-refused (each_entry (λ w. resolve s w) es) Value.Map e (entries-refused (λ w. resolve s w) e es h)

  pub map_first : resolve (Schema.Map s) (Value.Map es) ≡ stop e → FirstRefusal e (entry_outcomes (λ w. resolve s w) es)
  unfolding resolve resolve_map peel kind_of entries
  map_first h = entries-first (λ w. resolve s w) e es (behind-first (each_entry (λ w. resolve s w) es) Value.Map e h)

pub map-made : (s : Schema) (es rs : Entries) → EachEntry (λ w. resolve s w) es rs → resolve (Schema.Map s) (Value.Map es) ≡ ok (Value.Map rs)
unfolding resolve resolve_map peel kind_of entries after
map-made s es rs h = ap (λ x. after x (λ y. ok (Value.Map y))) (entries-made (λ w. resolve s w) es rs h)

pub map_each : (s : Schema) (es : Entries) (r : Value) → resolve (Schema.Map s) (Value.Map es) ≡ ok r → (rs : Entries) × ((r ≡ Value.Map rs) × EachEntry (λ w. resolve s w) es rs)
unfolding resolve resolve_map peel kind_of entries
map_each s es r h =
    let q = behind-each (each_entry (λ w. resolve s w) es) Value.Map r h in
    (q.0, (sym q.1.1, entries-each (λ w. resolve s w) es q.0 q.1.0))

pub map-six : (s : Schema) (v : Value) → (kind_of (peel v) ≡ Kind.Map → ⊥) → resolve (Schema.Map s) v ≡ stop 6
unfolding resolve resolve_map
map-six s v h = rw (ne_eqb (kind_of (peel v)) Kind.Map h)

-- ---- "reader fields in order"

-- a field's value, resolved against its schema
unfoldable pub field_outcome : Text → Option Value → Schema → Entries → Outcome
field_outcome n d s es = after (field_value (last_under n es) d (λ w. start_default s w)) (λ v. resolve s v)

unfoldable pub field_outcomes : Fields → Entries → List Outcome
field_outcomes no_fields es = []
field_outcomes (field n d s fs) es = field_outcome n d s es ∷ field_outcomes fs es

after-after : {A B C : Type 0} (x : Result A) (f : A → Result B) (g : B → Result C) → after x (λ a. after (f a) g) ≡ after (after x f) g
unfolding after
after-after (ok a) f g = refl
after-after (stop n) f g = refl

fields-step : (n : Text) (d : Option Value) (s : Schema) (fs : Fields) (es : Entries)
    → resolve_fields (field n d s fs) es ≡ after (field_outcome n d s es) (λ r. after (resolve_fields fs es) (λ rs. ok (entry n r rs)))
unfolding resolve field_outcome
fields-step n d s fs es = after-after (field_value (last_under n es) d (λ w. start_default s w)) (λ v. resolve s v) (λ r. after (resolve_fields fs es) (λ rs. ok (entry n r rs)))

module _ (es : Entries) (e : ℕ) where
  fields-refused : (fs : Fields) → FirstRefusal e (field_outcomes fs es) → resolve_fields fs es ≡ stop e
  unfolding field_outcomes FirstRefusal
  fields-refused no_fields h = absurd h
  fields-refused (field n d s fs) h = fields-step n d s fs es ∙ walk_refused e (field_outcomes fs es) (entry n) (field_outcome n d s es) (resolve_fields fs es) (fields-refused fs) h

  fields-first : (fs : Fields) → resolve_fields fs es ≡ stop e → FirstRefusal e (field_outcomes fs es)
  unfolding field_outcomes resolve
  fields-first no_fields h = ok-stop no_entries e h
  fields-first (field n d s fs) h = walk_first e (field_outcomes fs es) (entry n) (field_outcome n d s es) (resolve_fields fs es) (fields-first fs) (sym (fields-step n d s fs es) ∙ h)

-- each field has its schema's name, in the schema's order, and its outcome
unfoldable pub EachField : Fields → Entries → Entries → Type 0
EachField no_fields es no_entries = Unit {0}
EachField no_fields es (entry m r rs) = ⊥
EachField (field n d s fs) es no_entries = ⊥
EachField (field n d s fs) es (entry m r rs) = (n ≡ m) × ((field_outcome n d s es ≡ ok r) × EachField fs es rs)

module _ (es : Entries) where
  fields_made : (fs : Fields) (rs : Entries) → EachField fs es rs → resolve_fields fs es ≡ ok rs
  unfolding EachField resolve
  fields_made no_fields no_entries h = refl
  fields_made no_fields (entry m r rs) h = absurd h
  fields_made (field n d s fs) no_entries h = absurd h
  fields_made (field n d s fs) (entry m r rs) h =
      fields-step n d s fs es ∙ walk-made 0 [] (entry n) (field_outcome n d s es) (resolve_fields fs es) r rs h.1.0 (fields_made fs rs h.1.1) ∙ ap (λ x. ok (entry x r rs)) h.0

  fields-each : (fs : Fields) (rs : Entries) → resolve_fields fs es ≡ ok rs → EachField fs es rs
  unfolding EachField resolve
  fields-each no_fields no_entries h = tt
  fields-each no_fields (entry m r rs) h = no_entry m r rs (ok_same no_entries (entry m r rs) h)
  fields-each (field n d s fs) no_entries h =
      let q = walk-each 0 [] (entry n) (field_outcome n d s es) (resolve_fields fs es) no_entries (sym (fields-step n d s fs es) ∙ h) in
      no_entry n q.0 q.1.0 (sym q.1.1.1.1)
  fields-each (field n d s fs) (entry m r rs) h =
      let q = walk-each 0 [] (entry n) (field_outcome n d s es) (resolve_fields fs es) (entry m r rs) (sym (fields-step n d s fs es) ∙ h) in
      let a = entry-same n m q.0 r q.1.0 rs q.1.1.1.1 in
      (a.0, (q.1.1.0 ∙ ap ok a.1.0, fields-each fs rs (q.1.1.1.0 ∙ ap ok a.1.1)))

-- a Record and a Map alike
module _ (fs : Fields) (es : Entries) (e : ℕ) where
  pub record-refused : FirstRefusal e (field_outcomes fs es) → (resolve (Schema.Record fs) (Value.Record es) ≡ stop e) × (resolve (Schema.Record fs) (Value.Map es) ≡ stop e)
  unfolding resolve resolve_record peel kind_of entries
  record-refused h =
      let f = behind-refused (resolve_fields fs es) Value.Record e (fields-refused es e fs h) in
      (f, f)

  pub record-first : resolve (Schema.Record fs) (Value.Record es) ≡ stop e → FirstRefusal e (field_outcomes fs es)
  unfolding resolve resolve_record peel kind_of entries
  record-first h = fields-first es e fs (behind-first (resolve_fields fs es) Value.Record e h)

pub record-made : (fs : Fields) (es rs : Entries) → EachField fs es rs → (resolve (Schema.Record fs) (Value.Record es) ≡ ok (Value.Record rs)) × (resolve (Schema.Record fs) (Value.Map es) ≡ ok (Value.Record rs))
unfolding resolve resolve_record peel kind_of entries after
record-made fs es rs h =
    let f = ap (λ x. after x (λ y. ok (Value.Record y))) (fields_made es fs rs h) in
    (f, f)

pub record-each : (fs : Fields) (es : Entries) (r : Value) → resolve (Schema.Record fs) (Value.Record es) ≡ ok r → (rs : Entries) × ((r ≡ Value.Record rs) × EachField fs es rs)
unfolding resolve resolve_record peel kind_of entries
record-each fs es r h =
    let q = behind-each (resolve_fields fs es) Value.Record r h in
    (q.0, (sym q.1.1, fields-each es fs q.0 q.1.0))

pub record-six : (fs : Fields) (v : Value) → (kind_of (peel v) ≡ Kind.Map → ⊥) → (kind_of (peel v) ≡ Kind.Record → ⊥) → resolve (Schema.Record fs) v ≡ stop 6
unfolding resolve resolve_record
record-six fs v m r = rw (ne_eqb (kind_of (peel v)) Kind.Map m, ne_eqb (kind_of (peel v)) Kind.Record r)

-- ---- "Names in a value record may repeat: the last counts."

-- no value stands under the name
unfoldable pub Absent : Text → Entries → Type 0
Absent n no_entries = Unit {0}
Absent n (entry m w es) = (m ≡ n → ⊥) × Absent n es

-- v is the last value under the name
unfoldable pub LastUnder : Text → Value → Entries → Type 0
LastUnder n v no_entries = ⊥
LastUnder n v (entry m w es) = LastUnder n v es ⊎ ((m ≡ n) × ((w ≡ v) × Absent n es))

last_under-if : (n m : Text) (v : Value) (es : Entries) → last_under n (entry m v es) ≡ or_else (last_under n es) (when same m n then some v else none)
unfolding last_under
last_under-if n m v es = refl

differ : (m n : Text) → (m ≡ n → ⊥) → same m n ≡ false
differ m n h = go (same m n) refl
  where
    go : (b : Bool) → same m n ≡ b → same m n ≡ false
    go false e = e
    go true e = absurd (h (same→≡ m n (rw e tt)))

equal : (m n : Text) → m ≡ n → same m n ≡ true
equal m n e = ap (λ x. same x n) e ∙ same_refl n

pub absent_none : (n : Text) (es : Entries) → Absent n es → last_under n es ≡ none
unfolding Absent last_under or_else
absent_none n no_entries h = refl
absent_none n (entry m w es) h = last_under-if n m w es ∙ ap (λ x. or_else x (when same m n then some w else none)) (absent_none n es h.1) ∙ ap (λ b. or_else none (when b then some w else none)) (differ m n h.0)

pub last-counts : (n : Text) (v : Value) (es : Entries) → LastUnder n v es → last_under n es ≡ some v
unfolding LastUnder or_else
last-counts n v no_entries h = absurd h
last-counts n v (entry m w es) (inl h) = last_under-if n m w es ∙ ap (λ x. or_else x (when same m n then some w else none)) (last-counts n v es h)
last-counts n v (entry m w es) (inr h) =
    last_under-if n m w es ∙ ap (λ x. or_else x (when same m n then some w else none)) (absent_none n es h.1.1)
    ∙ ap (λ b. or_else none (when b then some w else none)) (equal m n h.0) ∙ ap some h.1.0

pub none-absent : (n : Text) (es : Entries) → last_under n es ≡ none → Absent n es
unfolding Absent or_else
none-absent n no_entries h = tt
none-absent n (entry m w es) h = go (none-absent n es) (last_under n es) refl (same m n) refl
  where
    go : (last_under n es ≡ none → Absent n es) → (x : Option Value) → last_under n es ≡ x → (b : Bool) → same m n ≡ b → (m ≡ n → ⊥) × Absent n es
    go rest none p false q = ((λ e. let f = equal m n e in let z : ◌≡◌ {A = ℕ} 0 1 = cc in omega arith), rest p)
    go rest none p true q = none-some _ w h (last_under-if n m w es ∙ ap (λ x. or_else x (when same m n then some w else none)) p ∙ ap (λ b. or_else none (when b then some w else none)) q)
    go rest (some v) p b q = none-some _ v h (last_under-if n m w es ∙ ap (λ x. or_else x (when same m n then some w else none)) p)

pub counts-last : (n : Text) (v : Value) (es : Entries) → last_under n es ≡ some v → LastUnder n v es
unfolding LastUnder or_else last_under
counts-last n v no_entries h = none-some none v refl h
counts-last n v (entry m w es) h = go (counts-last n v es) (last_under n es) refl (same m n) refl
  where
    go : (last_under n es ≡ some v → LastUnder n v es) → (x : Option Value) → last_under n es ≡ x → (b : Bool) → same m n ≡ b → LastUnder n v (entry m w es)
    go rest (some u) p b q =
        let f : some u ≡ some v = sym (last_under-if n m w es ∙ ap (λ x. or_else x (when same m n then some w else none)) p) ∙ h in
        inl (rest (p ∙ f))
    go rest none p true q =
        let f : some w ≡ some v = sym (last_under-if n m w es ∙ ap (λ x. or_else x (when same m n then some w else none)) p ∙ ap (λ b. or_else none (when b then some w else none)) q) ∙ h in
        inr (same→≡ m n (rw q tt), (cc, none-absent n es p))
    go rest none p false q = none-some _ v (last_under-if n m w es ∙ ap (λ x. or_else x (when same m n then some w else none)) p ∙ ap (λ b. or_else none (when b then some w else none)) q) h

-- ---- "A missing field takes its default.", 17: "A field is missing without default."

module _ (n : Text) (s : Schema) (es : Entries) where
  pub field-present : (d : Option Value) (v : Value) → LastUnder n v es → field_outcome n d s es ≡ resolve s v
  unfolding field_outcome field_value after
  field-present d v h = ap (λ x. after (field_value x d (λ w. start_default s w)) (λ w. resolve s w)) (last-counts n v es h)

  pub field-seventeen : Absent n es → field_outcome n none s es ≡ stop 17
  unfolding field_outcome field_value after
  field-seventeen h = ap (λ x. after (field_value x none (λ w. start_default s w)) (λ w. resolve s w)) (absent_none n es h)

  default-starts : (d : Value) → Absent n es → field_outcome n (some d) s es ≡ after (start_default s d) (λ w. resolve s w)
  unfolding field_outcome field_value
  default-starts d h = ap (λ x. after (field_value x (some d) (λ w. start_default s w)) (λ w. resolve s w)) (absent_none n es h)

-- in a field that is no union
pub start_plain : (t : Schema) (d : Value) → (schema_kind t ≡ Kind.Union → ⊥) → start_default t d ≡ ok d
unfolding resolve schema_kind
start_plain (Schema.Plain k) d f = refl
start_plain (Schema.Fixed n) d f = refl
start_plain (Schema.Decimal p s n) d f = refl
start_plain (Schema.Uuid u) d f = refl
start_plain (Schema.Duration n) d f = refl
start_plain (Schema.Enum ss e) d f = refl
start_plain (Schema.Array s) d f = refl
start_plain (Schema.Map s) d f = refl
start_plain (Schema.Record fs) d f = refl
start_plain (Schema.Union vs ks ns) d f = absurd (f refl)

pub default-taken : (n : Text) (s : Schema) (es : Entries) (d : Value) → Absent n es → (schema_kind s ≡ Kind.Union → ⊥) → field_outcome n (some d) s es ≡ resolve s d
unfolding after
default-taken n s es d h f = default-starts n s es d h ∙ ap (λ x. after x (λ w. resolve s w)) (start_plain s d f)

-- ---- "In a union field the default goes to the first variant, then the union is resolved anew; a Null first variant gives Null whatever the default is."

module _ (t : Schema) (vs : Variants) (ks : List (ℕ × ℕ)) (ns : List ℕ) (d : Value) where
  abbrev union : Schema
  union = Schema.Union (variant t vs) ks ns

  pub start-tried : (schema_kind t ≡ Kind.Null → ⊥) → start_default union d ≡ after (resolve t d) (λ r. ok (Value.Union 0 r))
  unfolding resolve first
  start-tried f = rw (ne_eqb (schema_kind t) Kind.Null f)

  pub start-null : schema_kind t ≡ Kind.Null → start_default union d ≡ ok (Value.Union 0 (Value.Scalar Kind.Null 0))
  unfolding resolve first after
  start-null e = rw (eq-eqb (schema_kind t) Kind.Null e)

  pub union-default : (n : Text) (es : Entries) → Absent n es → (schema_kind t ≡ Kind.Null → ⊥) → field_outcome n (some d) union es ≡ after (resolve t d) (λ r. resolve union (Value.Union 0 r))
  unfolding after
  union-default n es h f =
      default-starts n union es d h ∙ ap (λ x. after x (λ w. resolve union w)) (start-tried f)
      ∙ sym (after-after (resolve t d) (λ r. ok (Value.Union 0 r)) (λ w. resolve union w))

  pub null-default : (n : Text) (es : Entries) → Absent n es → schema_kind t ≡ Kind.Null → field_outcome n (some d) union es ≡ resolve union (Value.Union 0 (Value.Scalar Kind.Null 0))
  unfolding after
  null-default n es h e = default-starts n union es d h ∙ ap (λ x. after x (λ w. resolve union w)) (start-null e)
