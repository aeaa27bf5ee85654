-- A schema tree that a frame can hold, written and read again, is the tree.
use Prim.Native.Nat.{ℕ, zero, suc}
use mathlib.Core.Path.{◌≡◌, refl, ap}
use mathlib.Core.List.{List, [], ◌∷◌, ◌++◌, append_assoc, append-nil}
use mathlib.Core.Option.{Option, none, some}
use native.Mathlib.Omega.{arith}
use lib.Dec.{T, leb, ltb}
use lib.ListN.{length}
use lib.Ieee.Bits.{is_true}
use Rattle.number.specs.Number.{bytes_of}
use Rattle.text.specs.Text.{Text}
use Rattle.text.specs.Read.{Read, ◌>>=◌, read_number, read_text}
use Rattle.frame.specs.Kind
use Rattle.frame.specs.Tree.{Value, Schema, Fields, Variants, UuidForm, no_fields, field, no_variants, variant}
use Rattle.frame.specs.Readers.{read_many, read_list, read_option}
use Rattle.frame.specs.ValueFrame.{read_value, write_text, encode_value}
use Rattle.frame.specs.SchemaFrame.{Field, fields_of, variants_of, read_field, read_lead, read_tables, read_uuid_form, read_symbols, bare, read_formed, read_schema_content, read_schema_under, read_schema, decode_schema, write_option, write_all, write_list, write_lead, write_uuid_form, count_fields, encode_schema, encode_fields, encode_variants}
use Rattle.frame.specs.Sound.{count_variants}
use Rattle.frame.proofs.ReadHeld.{Each, HeldNumber, HeldLead, HeldTables, HeldText, HeldDefault, HeldSchema, HeldFields, HeldVariants}
use Rattle.frame.proofs.RoundTrip.{text_held, read_number-back, read_flag-back, read_text-back, list_back, many-back, value-back, whole_back}

-- ---- what HeldSchema leaves: every size, precision and scale, and all that a union's tables hold, is in range

abbrev pub HeldSize : Option ℕ → Type 0
HeldSize none = Unit
HeldSize (some n) = HeldNumber 2 n

abbrev pub HeldForm : UuidForm → Type 0
HeldForm UuidForm.bytes = Unit
HeldForm UuidForm.string = Unit
HeldForm (UuidForm.fixed n) = HeldNumber 2 n

abbrev mutual
  pub HeldNumbers : Schema → Type 0
  HeldNumbers (Schema.Plain k) = Unit
  HeldNumbers (Schema.Fixed n) = HeldNumber 2 n
  HeldNumbers (Schema.Decimal p s n) = HeldNumber 4 p × HeldNumber 4 s × HeldSize n
  HeldNumbers (Schema.Uuid f) = HeldForm f
  HeldNumbers (Schema.Duration n) = HeldNumber 2 n
  HeldNumbers (Schema.Enum ss d) = Unit
  HeldNumbers (Schema.Array s) = HeldNumbers s
  HeldNumbers (Schema.Map s) = HeldNumbers s
  HeldNumbers (Schema.Record fs) = HeldFieldNumbers fs
  HeldNumbers (Schema.Union vs ks ns) = HeldTables ks ns × HeldVariantNumbers vs

  pub HeldFieldNumbers : Fields → Type 0
  HeldFieldNumbers no_fields = Unit
  HeldFieldNumbers (field n d s fs) = HeldNumbers s × HeldFieldNumbers fs

  pub HeldVariantNumbers : Variants → Type 0
  HeldVariantNumbers no_variants = Unit
  HeldVariantNumbers (variant s vs) = HeldNumbers s × HeldVariantNumbers vs

-- ---- reading what was written

-- p reads back what w writes of a
abbrev Back : {A : Type 0} → (List ℕ → Read A) → (A → List ℕ) → A → Type 0
Back p w a = (r : List ℕ) → p (w a ++ r) ≡ some (a, r)

number-back : (w n : ℕ) → HeldNumber w n → Back (read_number w) (bytes_of w) n
number-back w n h r = read_number-back w n r h

text-back : (t : Text) → T (text_held t) → Back read_text write_text t
text-back t h r = read_text-back t r h

option-none : {A : Type 0} (p : List ℕ → Read A) (w : A → List ℕ) → Back (read_option p) (write_option w) none
unfolding read_option write_option ◌>>=◌
option-none p w r = rw (read_flag-back 0 r tt)

option-some : {A : Type 0} (p : List ℕ → Read A) (w : A → List ℕ) (a : A) → Back p w a → Back (read_option p) (write_option w) (some a)
unfolding read_option write_option ◌>>=◌
option-some p w a h r = rw (append_assoc, read_flag-back 1 (w a ++ r) tt, h r)

module _ {A : Type 0} (P : A → Type 0) (p : List ℕ → Read A) (w : A → List ℕ) (g : (a : A) → P a → Back p w a) where
  all_back : (xs : List A) → Each P xs → (r : List ℕ) → read_many p (length xs) (write_all w xs ++ r) ≡ some (xs, r)
  unfolding read_many write_all
  all_back [] h r = refl
  all_back (x ∷ xs) h r = many-back p (length xs) x xs (w x) (write_all w xs) r (g x h.0 (write_all w xs ++ r)) (all_back xs h.1 r)

  each_back : (xs : List A) → Each P xs → T (ltb (length xs) 65536) → Back (read_list p) (write_list w) xs
  unfolding write_list
  each_back xs h l r = list_back p (length xs) (write_all w xs) r xs l (all_back xs h r)

lead-back : (e : ℕ × ℕ) → HeldLead e → Back read_lead write_lead e
unfolding read_lead write_lead ◌>>=◌
lead-back e h r = rw (append_assoc, read_number-back 1 e.0 (bytes_of 2 e.1 ++ r) h.0, read_number-back 2 e.1 r h.1)

size_back : (n : Option ℕ) → HeldSize n → Back (read_option (read_number 2)) (write_option (bytes_of 2)) n
size_back none h = option-none (read_number 2) (bytes_of 2)
size_back (some n) h = option-some (read_number 2) (bytes_of 2) n (number-back 2 n h)

default-text-back : (t : Option Text) → HeldText t → Back (read_option read_text) (write_option write_text) t
default-text-back none h = option-none read_text write_text
default-text-back (some t) h = option-some read_text write_text t (text-back t h)

default-back : (d : Option Value) → HeldDefault d → Back (read_option (read_value 16)) (write_option encode_value) d
default-back none h = option-none (read_value 16) encode_value
default-back (some v) h = option-some (read_value 16) encode_value v (value-back v 16 h)

form-back : (f : UuidForm) → HeldForm f → Back read_uuid_form write_uuid_form f
unfolding read_uuid_form write_uuid_form ◌>>=◌
form-back UuidForm.bytes h r = rw (read_number-back 1 0 r (omega arith))
form-back UuidForm.string h r = rw (read_number-back 1 1 r (omega arith))
form-back (UuidForm.fixed n) h r = rw (append_assoc, read_number-back 1 2 (bytes_of 2 n ++ r) (omega arith), read_number-back 2 n r h)

-- ---- any tree

variant_list : Variants → List Schema
variant_list no_variants = []
variant_list (variant s vs) = s ∷ variant_list vs

variants_of-variant_list : (vs : Variants) → variants_of (variant_list vs) ≡ vs
unfolding variants_of variant_list
variants_of-variant_list no_variants = refl
variants_of-variant_list (variant s vs) = ap (λ (r : Variants). variant s r) (variants_of-variant_list vs)

field_list : Fields → List Field
field_list no_fields = []
field_list (field n d s fs) = (n, d, s) ∷ field_list fs

fields_of-field_list : (fs : Fields) → fields_of (field_list fs) ≡ fs
unfolding fields_of field_list
fields_of-field_list no_fields = refl
fields_of-field_list (field n d s fs) = ap (λ (r : Fields). field n d s r) (fields_of-field_list fs)

pub apart₃ : (a b c r : List ℕ) → a ++ b ++ c ++ r ≡ a ++ (b ++ (c ++ r))
apart₃ a b c r = simp append_assoc

module _ (node : List ℕ → Read Schema) where
  plain_back : (k : ℕ) (r : List ℕ) → T (bare k) → read_schema_content node k r ≡ some (Schema.Plain k, r)
  unfolding read_formed
  plain_back k r h = rw (is_true (bare k) h)

  decimal-back : (p c : ℕ) (n : Option ℕ) (r : List ℕ) → HeldNumber 4 p → HeldNumber 4 c → HeldSize n
      → read_schema_content node Kind.Decimal (bytes_of 4 p ++ bytes_of 4 c ++ write_option (bytes_of 2) n ++ r) ≡ some (Schema.Decimal p c n, r)
  unfolding read_formed ◌>>=◌
  decimal-back p c n r h g e = rw (
    apart₃ (bytes_of 4 p) (bytes_of 4 c) (write_option (bytes_of 2) n) r,
    read_number-back 4 p (bytes_of 4 c ++ (write_option (bytes_of 2) n ++ r)) h,
    read_number-back 4 c (write_option (bytes_of 2) n ++ r) g,
    size_back n e r,
  )

  sized-back : (n : ℕ) (r : List ℕ) → HeldNumber 2 n → read_schema_content node Kind.Fixed (bytes_of 2 n ++ r) ≡ some (Schema.Fixed n, r)
  unfolding read_formed ◌>>=◌
  sized-back n r h = rw (read_number-back 2 n r h)

  duration-back : (n : ℕ) (r : List ℕ) → HeldNumber 2 n → read_schema_content node Kind.Duration (bytes_of 2 n ++ r) ≡ some (Schema.Duration n, r)
  unfolding read_formed ◌>>=◌
  duration-back n r h = rw (read_number-back 2 n r h)

  uuid-back : (f : UuidForm) (r : List ℕ) → HeldForm f → read_schema_content node Kind.Uuid (write_uuid_form f ++ r) ≡ some (Schema.Uuid f, r)
  unfolding read_formed ◌>>=◌
  uuid-back f r h = rw (form-back f h r)

  enum_back : (ss : List Text) (t : Option Text) (r : List ℕ) → Each (λ s. T (text_held s)) ss → T (ltb (length ss) 65536) → HeldText t
      → read_schema_content node Kind.Enum (write_list write_text ss ++ write_option write_text t ++ r) ≡ some (Schema.Enum ss t, r)
  unfolding read_formed read_symbols ◌>>=◌
  enum_back ss t r h l d = rw (append_assoc, each_back (λ s. T (text_held s)) read_text write_text text-back ss h l (write_option write_text t ++ r), default-text-back t d r)

  array_back : (s : Schema) (b r : List ℕ) → node (b ++ r) ≡ some (s, r) → read_schema_content node Kind.Array (b ++ r) ≡ some (Schema.Array s, r)
  unfolding read_formed ◌>>=◌
  array_back s b r e = rw e

  map_back : (s : Schema) (b r : List ℕ) → node (b ++ r) ≡ some (s, r) → read_schema_content node Kind.Map (b ++ r) ≡ some (Schema.Map s, r)
  unfolding read_formed ◌>>=◌
  map_back s b r e = rw e

  record-back : (fs : Fields) (b r : List ℕ) → T (ltb (count_fields fs) 65536) → read_many (read_field node) (count_fields fs) (b ++ r) ≡ some (field_list fs, r)
      → read_schema_content node Kind.Record (bytes_of 2 (count_fields fs) ++ b ++ r) ≡ some (Schema.Record fs, r)
  unfolding read_formed ◌>>=◌
  record-back fs b r h e = rw (list_back (read_field node) (count_fields fs) b r (field_list fs) h e, fields_of-field_list)

  union-back : (vs : Variants) (ks : List (ℕ × ℕ)) (ns : List ℕ) (b r : List ℕ) → T (ltb (count_variants vs) 65536) → HeldTables ks ns
      → ((t : List ℕ) → read_many node (count_variants vs) (b ++ t) ≡ some (variant_list vs, t))
      → read_schema_content node Kind.Union (bytes_of 2 (count_variants vs) ++ b ++ write_list write_lead ks ++ write_list (bytes_of 2) ns ++ r) ≡ some (Schema.Union vs ks ns, r)
  unfolding read_formed read_tables ◌>>=◌
  union-back vs ks ns b r h t e =
      let k : List ℕ = write_list write_lead ks in
      let n : List ℕ = write_list (bytes_of 2) ns in
      rw (
        apart₃ (bytes_of 2 (count_variants vs) ++ b) k n r,
        list_back node (count_variants vs) b (k ++ (n ++ r)) (variant_list vs) h (e (k ++ (n ++ r))),
        each_back HeldLead read_lead write_lead lead-back ks t.0 t.1 (n ++ r),
        each_back (HeldNumber 2) (read_number 2) (bytes_of 2) (number-back 2) ns t.2 t.3 r,
        variants_of-variant_list,
      )

  field_back : (n : Text) (d : Option Value) (s : Schema) (b r : List ℕ) → T (text_held n) → HeldDefault d → node (b ++ r) ≡ some (s, r)
      → read_field node (write_text n ++ write_option encode_value d ++ b ++ r) ≡ some ((n, d, s), r)
  unfolding read_field ◌>>=◌
  field_back n d s b r h g e = rw (
    apart₃ (write_text n) (write_option encode_value d) b r,
    read_text-back n (write_option encode_value d ++ (b ++ r)) h,
    default-back d g (b ++ r),
    e,
  )

mutual
  unfolding encode_schema read_schema_under read_many count_fields count_variants variant_list field_list

  pub schema-back : (s : Schema) (d : ℕ) → HeldSchema s d → HeldNumbers s → (r : List ℕ) → read_schema d (encode_schema s ++ r) ≡ some (s, r)
  schema-back (Schema.Plain k) zero h g r = absurd h
  schema-back (Schema.Plain k) (suc d) h g r = plain_back (read_schema d) k r h
  schema-back (Schema.Fixed n) zero h g r = absurd h
  schema-back (Schema.Fixed n) (suc d) h g r = sized-back (read_schema d) n r g
  schema-back (Schema.Decimal p c n) zero h g r = absurd h
  schema-back (Schema.Decimal p c n) (suc d) h g r = decimal-back (read_schema d) p c n r g.0 g.1 g.2
  schema-back (Schema.Uuid f) zero h g r = absurd h
  schema-back (Schema.Uuid f) (suc d) h g r = uuid-back (read_schema d) f r g
  schema-back (Schema.Duration n) zero h g r = absurd h
  schema-back (Schema.Duration n) (suc d) h g r = duration-back (read_schema d) n r g
  schema-back (Schema.Enum ss t) zero h g r = absurd h
  schema-back (Schema.Enum ss t) (suc d) h g r = enum_back (read_schema d) ss t r h.0 h.1 h.2
  schema-back (Schema.Array s) zero h g r = absurd h
  schema-back (Schema.Array s) (suc d) h g r = array_back (read_schema d) s (encode_schema s) r (schema-back s d h g r)
  schema-back (Schema.Map s) zero h g r = absurd h
  schema-back (Schema.Map s) (suc d) h g r = map_back (read_schema d) s (encode_schema s) r (schema-back s d h g r)
  schema-back (Schema.Record fs) zero h g r = absurd h
  schema-back (Schema.Record fs) (suc d) h g r = record-back (read_schema d) fs (encode_fields fs) r h.0 (fields_back fs d h.1 g r)
  schema-back (Schema.Union vs ks ns) zero h g r = absurd h
  schema-back (Schema.Union vs ks ns) (suc d) h g r =
      union-back (read_schema d) vs ks ns (encode_variants vs) r h.0 g.0 (λ t. variants-back vs d h.1 g.1 t)

  fields_back : (fs : Fields) (d : ℕ) → HeldFields fs d → HeldFieldNumbers fs → (r : List ℕ)
      → read_many (read_field (read_schema d)) (count_fields fs) (encode_fields fs ++ r) ≡ some (field_list fs, r)
  fields_back no_fields d h g r = refl
  fields_back (field n v s fs) d h g r =
      many-back (read_field (read_schema d)) (count_fields fs) (n, v, s) (field_list fs) (write_text n ++ write_option encode_value v ++ encode_schema s) (encode_fields fs) r
      (field_back (read_schema d) n v s (encode_schema s) (encode_fields fs ++ r) h.0 h.1 (schema-back s d h.2 g.0 (encode_fields fs ++ r)))
      (fields_back fs d h.3 g.1 r)

  variants-back : (vs : Variants) (d : ℕ) → HeldVariants vs d → HeldVariantNumbers vs → (r : List ℕ)
      → read_many (read_schema d) (count_variants vs) (encode_variants vs ++ r) ≡ some (variant_list vs, r)
  variants-back no_variants d h g r = refl
  variants-back (variant s vs) d h g r =
      many-back (read_schema d) (count_variants vs) s (variant_list vs) (encode_schema s) (encode_variants vs) r
      (schema-back s d h.0 g.0 (encode_variants vs ++ r))
      (variants-back vs d h.1 g.1 r)

-- a tree that a frame can hold, and whose frame is no longer than 65,535 bytes, is read back
pub decode-encode-schema : (t : Schema) → HeldSchema t 16 → HeldNumbers t → T (leb (length (encode_schema t)) 65535) → decode_schema (encode_schema t) ≡ some t
unfolding decode_schema
decode-encode-schema t h g l = whole_back (read_schema 16) (encode_schema t) t l (rw append-nil at (schema-back t 16 h g []))
