-- Schema nodes with children, at each way that their readers go, over any reader of the children.
use Prim.Native.Nat.{ℕ, ◌+◌, ◌-◌}
use mathlib.Core.Path.{◌≡◌, refl, ap, ◌∙◌}
use mathlib.Core.List.{List}
use mathlib.Core.Option.{Option, none, some}
use mathlib.Core.Bool.{Bool, true, ◌&&◌}
use native.Mathlib.Omega.{arith}
use lib.ListN.{length, drop, get_or, length-drop}
use lib.Seq.{drop-drop}
use Rattle.text.specs.Text.{Text}
use Rattle.text.specs.Read.{Read, ◌>>=◌, read_text}
use Rattle.frame.specs.Tree.{Value, Schema}
use Rattle.frame.specs.Readers.{read_list, read_option}
use Rattle.frame.specs.ValueFrame.{read_value}
use Rattle.frame.specs.SchemaFrame.{Form, Under, Tables, bare, fields_of, variants_of, read_field, read_tables, read_symbols, read_formed, read_schema_under}
use Rattle.frame.specs.Sound.{schema_sound}
use Rattle.frame.specs.Checks.{Checks}
use Rattle.text.specs.Measured.{Measured}
use Rattle.std.specs.Prelude.{Some, None}
use Rattle.frame.specs.Sound.{default_allowed}
use Rattle.frame.proofs.Reading.{bind-some, bind-none, map_read}
use Rattle.frame.proofs.Measuring.{told, Long, long, held, checks-some, checks-broken}
use Rattle.frame.proofs.SchemaNodes.{schema-node}
use Rattle.schema.specs.Parts.{field_sound}

-- ---- a kind without content

pub bare-content : (form : Form) (node : List ℕ → Read Schema) (k : ℕ) (s : List ℕ) → bare k ≡ true → read_formed form node k s ≡ some (Schema.Plain k, s)
unfolding read_formed
bare-content form node k s e = rw e refl

pub bare-checks : (u : Under) (d : ℕ) (s : List ℕ) → (d ≡ 0 → ⊥) → (length s ≡ 0 → ⊥) → bare (get_or s 0 0) ≡ true → Checks schema_sound (read_schema_under u d s) s (told 1 true)
unfolding Checks schema_sound
bare-checks u d s f g e = (omega arith, (Schema.Plain (get_or s 0 0), (schema-node u d s f g ∙ bare-content _ _ _ _ e, refl)))

-- ---- the answer for a node from that for its content

pub node-checks : (u : Under) (d : ℕ) (s : List ℕ) (m : ℕ) (b : Bool) → (d ≡ 0 → ⊥) → (length s ≡ 0 → ⊥) → Checks schema_sound (read_formed u.form (read_schema_under u (d - 1)) (get_or s 0 0) (drop 1 s)) (drop 1 s) (told m b)
    → Checks schema_sound (read_schema_under u d s) s (told (1 + m) b)
unfolding Checks
node-checks u d s m b f g w = (omega (arith, w.0, length-drop 1 s), (w.1.0, (schema-node u d s f g ∙ w.1.1.0 ∙ ap (λ t. some (w.1.0, t)) (drop-drop m 1 s), w.1.1.1)))

-- ---- contents by their parts

module _ (form : Form) (node : List ℕ → Read Schema) (s : List ℕ) where
  pub array-content : read_formed form node 8 s ≡ map_read Schema.Array (node s)
  unfolding read_formed
  array-content = refl

  pub map-content : read_formed form node 9 s ≡ map_read Schema.Map (node s)
  unfolding read_formed
  map-content = refl

  pub record-content : read_formed form node 11 s ≡ map_read (λ fs. Schema.Record (fields_of fs)) (read_list (read_field node) s)
  unfolding read_formed
  record-content = refl

  pub enum-content : read_formed form node 12 s ≡ map_read (λ e. Schema.Enum e.0 e.1) (read_symbols s)
  unfolding read_formed
  enum-content = refl

  pub record-none : read_list (read_field node) s ≡ none → read_formed form node 11 s ≡ none
  record-none e = record-content ∙ bind-none _ _ e

  -- ---- unions

  module _ (a : ℕ) (vs : List Schema) (e : read_list node s ≡ some (vs, drop a s)) where
    union-open : read_formed form node 10 s ≡ map_read (λ ts. Schema.Union (variants_of vs) ts.0 ts.1) (read_tables form vs (drop a s))
    unfolding read_formed ◌>>=◌
    union-open = rw e

    pub union-none₂ : read_tables form vs (drop a s) ≡ none → read_formed form node 10 s ≡ none
    union-none₂ g = union-open ∙ bind-none _ _ g

    pub union-got : (b : ℕ) (ts : Tables) → read_tables form vs (drop a s) ≡ some (ts, drop b (drop a s)) → read_formed form node 10 s ≡ some (Schema.Union (variants_of vs) ts.0 ts.1, drop (a + b) s)
    union-got b ts g = union-open ∙ bind-some _ _ ts (drop b (drop a s)) g ∙ ap (λ t. some (Schema.Union (variants_of vs) ts.0 ts.1, t)) (drop-drop b a s)

  pub union-none : read_list node s ≡ none → read_formed form node 10 s ≡ none
  unfolding read_formed ◌>>=◌
  union-none e = rw e

-- ---- fields

module _ (node : List ℕ → Read Schema) (s : List ℕ) where
  pub field-none : read_text s ≡ none → read_field node s ≡ none
  unfolding read_field ◌>>=◌
  field-none e = rw e

  module _ (a : ℕ) (name : Text) (e : read_text s ≡ some (name, drop a s)) where
    pub field-none₂ : read_option (read_value 16) (drop a s) ≡ none → read_field node s ≡ none
    unfolding read_field ◌>>=◌
    field-none₂ g = rw (e, g)

    module _ (b : ℕ) (d : Option Value) (g : read_option (read_value 16) (drop a s) ≡ some (d, drop b (drop a s))) where
      field_open : read_field node s ≡ map_read (λ f. (name, d, f)) (node (drop (a + b) s))
      unfolding read_field ◌>>=◌
      field_open = rw (e, g, drop-drop b a s)

      field-none₃ : node (drop (a + b) s) ≡ none → read_field node s ≡ none
      field-none₃ h = field_open ∙ bind-none _ _ h

      pub field-got : (m : ℕ) (f : Schema) → node (drop (a + b) s) ≡ some (f, drop m (drop (a + b) s)) → read_field node s ≡ some ((name, d, f), drop (a + b + m) s)
      field-got m f h = field_open ∙ bind-some _ _ f (drop m (drop (a + b) s)) h ∙ ap (λ t. some ((name, d, f), t)) (drop-drop m (a + b) s)

-- ---- fields by the answers for their parts

module _ (node : List ℕ → Read Schema) (s : List ℕ) (a : ℕ) where
  module _ (v : Measured (read_text s) s (Some a)) where
    pub field-broken₂ : Checks default_allowed (read_option (read_value 16) (drop a s)) (drop a s) None → read_field node s ≡ none
    field-broken₂ w =
        let q : Long (read_text s) s a = long _ _ a v in
        field-none₂ node s a q.what q.read (checks-broken _ _ _ w)

    module _ (b : ℕ) (ok : Bool) (w : Checks default_allowed (read_option (read_value 16) (drop a s)) (drop a s) (told b ok)) where
      pub field-broken₃ : node (drop (a + b) s) ≡ none → read_field node s ≡ none
      field-broken₃ u =
          let q : Long (read_text s) s a = long _ _ a v in
          let r = held _ _ _ b ok w in
          field-none₃ node s a q.what q.read b r.what r.read u

      pub field-checks : (m : ℕ) (fine both : Bool) → Checks schema_sound (node (drop (a + b) s)) (drop (a + b) s) (told m fine) → both ≡ ok && fine → Checks field_sound (read_field node s) s (told (a + b + m) both)
      field-checks m fine both u e =
          let q : Long (read_text s) s a = long _ _ a v in
          let r = held _ _ _ b ok w in
          let t = held _ _ _ m fine u in
          checks-some field_sound _ s (a + b + m) both (omega (arith, q.inside, r.inside, t.inside, length-drop a s, length-drop (a + b) s)) _ (field-got node s a q.what q.read b r.what r.read m t.what t.read)
          (e ∙ ap (λ y. y && fine) r.tells ∙ ap (λ y. default_allowed r.what && y) t.tells)
