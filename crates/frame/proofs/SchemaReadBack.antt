-- A schema that is read with its tables as they are written, written again, is the bytes that it was read from; and every number in it is in range.
use Prim.Native.Nat.{ℕ, zero, suc, ◌≤◌}
use mathlib.Core.Path.{◌≡◌, refl, sym, ap, ◌∙◌, subst}
use mathlib.Core.List.{List, [], ◌∷◌, ◌++◌, append_assoc}
use mathlib.Core.Option.{Option, some}
use mathlib.Core.Bool.{Bool, true, false, not}
use lib.Dec.{T, leb, ltb, eqb, leb→le, eqb→eq}
use lib.ListN.{length}
use lib.Ieee.Fits.{and_r}
use native.Mathlib.Omega.{arith}
use Rattle.base.specs.Base.{when◌then◌else◌}
use Rattle.base.proofs.Okay.{Found}
use Rattle.number.specs.Number.{all_bytes, bytes_of}
use Rattle.text.specs.Text.{Text}
use Rattle.text.specs.Read.{Read, read_number, read_text}
use Rattle.frame.specs.Kind
use Rattle.frame.specs.Tree.{Schema}
use Rattle.frame.specs.Readers.{read_flag, read_list, read_option}
use Rattle.frame.specs.ValueFrame.{read_value, write_text, encode_value}
use Rattle.frame.specs.SchemaFrame.{Form, Tables, Field, fields_of, variants_of, read_field, read_lead, read_tables, read_uuid_form, read_symbols, bare, read_formed, read_schema_content, read_schema_under, read_schema, decode_schema, write_option, write_all, write_list, write_lead, write_uuid_form, encode_schema, encode_fields, encode_variants}
use Rattle.frame.proofs.SchemaNodes.{count-variants}
use Rattle.frame.proofs.ReadHeld.{Each, Got, got-if, got-bind, got-any, number-got, text-got, list-got, option-got, value-got, symbols-got, prepared-got, whole-got, count-fields}
use Rattle.frame.proofs.ReadBack.{Exact, Any, Behind, exact-if, exact-bind, exact-then, number-exact, flag-exact, text-exact, list-exact, behind-bind, behind-exact, value-exact, whole-exact}
use Rattle.frame.proofs.SchemaRoundTrip.{apart₃, HeldSize, HeldForm, HeldNumbers, HeldFieldNumbers, HeldVariantNumbers}

-- ---- the bytes that it was read from

option-exact : {A : Type 0} (w : A → List ℕ) (p : List ℕ → Read A) → ((s : List ℕ) → T (all_bytes s) → Exact Any w s (p s)) → (s : List ℕ) → T (all_bytes s)
    → Exact Any (write_option w) s (read_option p s)
unfolding read_option write_option
option-exact w p g s h =
    exact-bind _ _ _ _ s (read_flag s) _ (flag-exact s h)
    λ n r l e q. exact-if _ _ s (eqb n 0) _ _ (λ t. (tt, e ∙ rw (eqb→eq n 0 t), q))
    λ t. exact-then _ _ _ _ s r (p r) _ (g r q) λ a u _ f b. (tt, e ∙ rw (one n l t, f, append_assoc), b)
  where
    one : (n : ℕ) → T (leb n 1) → T (not (eqb n 0)) → n ≡ 1
    one zero l t = absurd t
    one (suc n) l t = omega (arith, leb→le (suc n) 1 l)

lead-exact : (s : List ℕ) → T (all_bytes s) → Exact Any write_lead s (read_lead s)
unfolding read_lead write_lead
lead-exact s h =
    exact-bind _ _ _ _ s (read_number 1 s) _ (number-exact 1 s h)
    λ k r _ e q. exact-then _ _ _ _ s r (read_number 2 r) _ (number-exact 2 r q) λ p t _ f u. (tt, e ∙ rw (f, append_assoc), u)

form-exact : (s : List ℕ) → T (all_bytes s) → Exact Any write_uuid_form s (read_uuid_form s)
unfolding read_uuid_form write_uuid_form
form-exact s h =
    exact-bind _ _ _ _ s (read_number 1 s) _ (number-exact 1 s h)
    λ f r _ e q. exact-if _ _ s (eqb f 0) _ _ (λ t. (tt, e ∙ rw (eqb→eq f 0 t), q))
    λ _. exact-if _ _ s (eqb f 1) _ _ (λ t. (tt, e ∙ rw (eqb→eq f 1 t), q))
    λ _. exact-if _ _ s (eqb f 2) _ _ (λ t. exact-then _ _ _ _ s r (read_number 2 r) _ (number-exact 2 r q) λ n x _ g u. (tt, e ∙ rw (eqb→eq f 2 t, g, append_assoc), u))
    λ _. tt

write_tables : Tables → List ℕ
write_tables ts = write_list write_lead ts.0 ++ write_list (bytes_of 2) ts.1

tables-exact : (vs : List Schema) (s : List ℕ) → T (all_bytes s) → Exact Any write_tables s (read_tables Form.prepared vs s)
unfolding read_tables write_tables
tables-exact vs s h =
    exact-bind _ _ _ _ s (read_list read_lead s) _ (list-exact write_lead read_lead lead-exact s h)
    λ ks r _ e q. exact-then _ _ _ _ s r (read_list (read_number 2) r) _ (list-exact (bytes_of 2) (read_number 2) (number-exact 2) r q)
    λ ns t _ f u. (tt, e ∙ rw (f, append_assoc), u)

write_symbols : List Text × Option Text → List ℕ
write_symbols e = write_list write_text e.0 ++ write_option write_text e.1

symbols-exact : (s : List ℕ) → T (all_bytes s) → Exact Any write_symbols s (read_symbols s)
unfolding read_symbols write_symbols
symbols-exact s h =
    exact-bind _ _ _ _ s (read_list read_text s) _ (list-exact write_text read_text text-exact s h)
    λ ss r _ e q. exact-then _ _ _ _ s r (read_option read_text r) _ (option-exact write_text read_text text-exact r q)
    λ d t _ f u. (tt, e ∙ rw (f, append_assoc), u)

write_field : Field → List ℕ
write_field f = write_text f.0 ++ write_option encode_value f.1 ++ encode_schema f.2

fields-written : (xs : List Field) → encode_fields (fields_of xs) ≡ write_all write_field xs
unfolding encode_schema fields_of write_all write_field
fields-written [] = refl
fields-written (f ∷ fs) = ap (λ (r : List ℕ). write_text f.0 ++ write_option encode_value f.1 ++ encode_schema f.2 ++ r) (fields-written fs)

variants-written : (xs : List Schema) → encode_variants (variants_of xs) ≡ write_all encode_schema xs
unfolding encode_schema variants_of write_all
variants-written [] = refl
variants-written (v ∷ vs) = ap (λ (r : List ℕ). encode_schema v ++ r) (variants-written vs)

behind-if : {A : Type 0} (u : A → List ℕ) (k : ℕ) (s : List ℕ) (b : Bool) (x y : Read A) → (T b → Behind u k s x) → (T (not b) → Behind u k s y) → Behind u k s (when b then x else y)
behind-if u k s true x y f g = f tt
behind-if u k s false x y f g = g tt

module _ (node : List ℕ → Read Schema) (g : (s : List ℕ) → T (all_bytes s) → Exact Any encode_schema s (node s)) where
  field-exact : (s : List ℕ) → T (all_bytes s) → Exact Any write_field s (read_field node s)
  unfolding read_field write_field
  field-exact s h =
      exact-bind _ _ _ _ s (read_text s) _ (text-exact s h)
      λ n r _ e q. exact-then _ _ _ _ s r (read_option (read_value 16) r) _ (option-exact encode_value (read_value 16) (value-exact 16) r q)
      λ d t _ f u. exact-then _ _ _ _ s t (node t) _ (g t u) λ a x _ c b. (tt, e ∙ rw (f, c, append_assoc, append_assoc), b)

  schema-content-exact : (k : ℕ) (s : List ℕ) → T (all_bytes s) → Behind encode_schema k s (read_schema_content node k s)
  unfolding read_formed encode_schema write_list write_tables write_symbols
  schema-content-exact k s h =
      behind-if _ k s (bare k) _ _ (λ _. (refl, h))
      λ _. behind-if _ k s (eqb k Kind.Array) _ _
      (λ t. behind-bind _ _ _ k s s (node s) _ (g s h) λ i r _ e q. (rw (eqb→eq k Kind.Array t, e), q))
      λ _. behind-if _ k s (eqb k Kind.Map) _ _
      (λ t. behind-bind _ _ _ k s s (node s) _ (g s h) λ i r _ e q. (rw (eqb→eq k Kind.Map t, e), q))
      λ _. behind-if _ k s (eqb k Kind.Union) _ _
      (λ t. behind-bind _ _ _ k s s (read_list node s) _ (list-exact encode_schema node g s h)
      λ vs r _ e q. behind-bind _ _ _ k s r (read_tables Form.prepared vs r) _ (tables-exact vs r q)
      λ ts x _ f b. (rw (eqb→eq k Kind.Union t, e, f, count-variants vs, variants-written vs) (ap (λ (y : List ℕ). Kind.Union ∷ y) (ap (λ (y : List ℕ). write_list encode_schema vs ++ y) (append_assoc (write_list write_lead ts.0) (write_list (bytes_of 2) ts.1) x) ∙ sym (apart₃ (write_list encode_schema vs) (write_list write_lead ts.0) (write_list (bytes_of 2) ts.1) x))), b))
      λ _. behind-if _ k s (eqb k Kind.Record) _ _
      (λ t. behind-bind _ _ _ k s s (read_list (read_field node) s) _ (list-exact write_field (read_field node) field-exact s h)
      λ fs r _ e q. (rw (eqb→eq k Kind.Record t, e, count-fields fs, fields-written fs), q))
      λ _. behind-if _ k s (eqb k Kind.Enum) _ _
      (λ t. behind-bind _ _ _ k s s (read_symbols s) _ (symbols-exact s h) λ x r _ e q. (rw (eqb→eq k Kind.Enum t, e), q))
      λ _. behind-if _ k s (eqb k Kind.Fixed) _ _
      (λ t. behind-bind _ _ _ k s s (read_number 2 s) _ (number-exact 2 s h) λ n r _ e q. (rw (eqb→eq k Kind.Fixed t, e), q))
      λ _. behind-if _ k s (eqb k Kind.Decimal) _ _
      (λ t. behind-bind _ _ _ k s s (read_number 4 s) _ (number-exact 4 s h)
      λ p r _ e q. behind-bind _ _ _ k s r (read_number 4 r) _ (number-exact 4 r q)
      λ c u _ f b. behind-bind _ _ _ k s u (read_option (read_number 2) u) _ (option-exact (bytes_of 2) (read_number 2) (number-exact 2) u b)
      λ n x _ d a. (rw (eqb→eq k Kind.Decimal t, e, f, d) (simp append_assoc), a))
      λ _. behind-if _ k s (eqb k Kind.Uuid) _ _
      (λ t. behind-bind _ _ _ k s s (read_uuid_form s) _ (form-exact s h) λ f r _ e q. (rw (eqb→eq k Kind.Uuid t, e), q))
      λ _. behind-if _ k s (eqb k Kind.Duration) _ _
      (λ t. behind-bind _ _ _ k s s (read_number 2 s) _ (number-exact 2 s h) λ n r _ e q. (rw (eqb→eq k Kind.Duration t, e), q))
      λ _. tt

pub schema-exact : (d : ℕ) (s : List ℕ) → T (all_bytes s) → Exact Any encode_schema s (read_schema d s)
unfolding read_schema_under all_bytes
schema-exact zero s h = tt
schema-exact (suc d) [] h = tt
schema-exact (suc d) (k ∷ s) h =
    behind-exact encode_schema k s (read_schema_content (read_schema d) k s) (schema-content-exact (read_schema d) (λ t b. schema-exact d t b) k s (and_r (ltb k 256) (all_bytes s) h))

-- ---- numbers in range

form-numbers : (s : List ℕ) → T (all_bytes s) → Got HeldForm (read_uuid_form s)
unfolding read_uuid_form
form-numbers s h =
    got-bind _ _ (read_number 1 s) _ (number-got 1 s h)
    λ f r p q. got-if _ (eqb f 0) _ _ (λ _. (tt, q))
    λ _. got-if _ (eqb f 1) _ _ (λ _. (tt, q))
    λ _. got-if _ (eqb f 2) _ _ (λ _. got-bind _ _ (read_number 2 r) _ (number-got 2 r q) λ n t w u. (w, u)) (λ _. tt)

field-numbers : (xs : List Field) → Each (λ f. HeldNumbers f.2) xs → HeldFieldNumbers (fields_of xs)
unfolding fields_of
field-numbers [] h = tt
field-numbers (f ∷ fs) h = (h.0, field-numbers fs h.1)

variant-numbers : (xs : List Schema) → Each HeldNumbers xs → HeldVariantNumbers (variants_of xs)
unfolding variants_of
variant-numbers [] h = tt
variant-numbers (s ∷ ss) h = (h.0, variant-numbers ss h.1)

module _ (node : List ℕ → Read Schema) (g : (s : List ℕ) → T (all_bytes s) → Got HeldNumbers (node s)) where
  read-field-numbers : (s : List ℕ) → T (all_bytes s) → Got (λ f. HeldNumbers f.2) (read_field node s)
  unfolding read_field
  read-field-numbers s h =
      got-bind _ _ (read_text s) _ (text-got s h)
      λ n r p q. got-bind _ _ (read_option (read_value 16) r) _ (option-got (λ _. Unit) (read_value 16) tt any_value r q)
      λ v t w u. got-bind _ _ (node t) _ (g t u) λ f x y z. (y, z)
    where
      any_value : (s : List ℕ) → T (all_bytes s) → Got (λ _. Unit) (read_value 16 s)
      any_value s h = got-any _ (read_value 16 s) (value-got 16 s h)

  content-numbers : (k : ℕ) (s : List ℕ) → T (all_bytes s) → Got HeldNumbers (read_schema_content node k s)
  unfolding read_formed
  content-numbers k s h =
      got-if _ (bare k) _ _ (λ _. (tt, h))
      λ _. got-if _ (eqb k Kind.Array) _ _ (λ _. got-bind _ _ (node s) _ (g s h) λ i r p q. (p, q))
      λ _. got-if _ (eqb k Kind.Map) _ _ (λ _. got-bind _ _ (node s) _ (g s h) λ i r p q. (p, q))
      λ _. got-if _ (eqb k Kind.Union) _ _
      (λ _. got-bind _ _ (read_list node s) _ (list-got _ node g s h)
      λ vs r p q. got-bind _ _ (read_tables Form.prepared vs r) _ (prepared-got vs r q)
      λ ts t w u. ((w, variant-numbers vs p.0), u))
      λ _. got-if _ (eqb k Kind.Record) _ _
      (λ _. got-bind _ _ (read_list (read_field node) s) _ (list-got _ (read_field node) read-field-numbers s h) λ fs r p q. (field-numbers fs p.0, q))
      λ _. got-if _ (eqb k Kind.Enum) _ _ (λ _. got-bind _ _ (read_symbols s) _ (symbols-got s h) λ e r p q. (tt, q))
      λ _. got-if _ (eqb k Kind.Fixed) _ _ (λ _. got-bind _ _ (read_number 2 s) _ (number-got 2 s h) λ n r p q. (p, q))
      λ _. got-if _ (eqb k Kind.Decimal) _ _
      (λ _. got-bind _ _ (read_number 4 s) _ (number-got 4 s h)
      λ a r p q. got-bind _ _ (read_number 4 r) _ (number-got 4 r q)
      λ b t w u. got-bind _ _ (read_option (read_number 2) t) _ (option-got HeldSize (read_number 2) tt (number-got 2) t u)
      λ n x y z. ((p, w, y), z))
      λ _. got-if _ (eqb k Kind.Uuid) _ _ (λ _. got-bind _ _ (read_uuid_form s) _ (form-numbers s h) λ f r p q. (p, q))
      λ _. got-if _ (eqb k Kind.Duration) _ _ (λ _. got-bind _ _ (read_number 2 s) _ (number-got 2 s h) λ n r p q. (p, q)) (λ _. tt)

schema-numbers : (d : ℕ) (s : List ℕ) → T (all_bytes s) → Got HeldNumbers (read_schema d s)
unfolding read_schema_under all_bytes
schema-numbers zero s h = tt
schema-numbers (suc d) [] h = tt
schema-numbers (suc d) (k ∷ s) h = content-numbers (read_schema d) (λ t b. schema-numbers d t b) k s (and_r (ltb k 256) (all_bytes s) h)

-- ---- whole frames

module _ (s : List ℕ) (t : Schema) (h : T (all_bytes s)) (e : decode_schema s ≡ some t) where
  -- a schema frame is the bytes of its tree, and no longer than a frame may be
  pub encode-decode-schema : (encode_schema t ≡ s) × (length s ≤ 65535)
  unfolding decode_schema
  encode-decode-schema = subst (λ (o : Option Schema). Found (λ t. (encode_schema t ≡ s) × (length s ≤ 65535)) o) e (whole-exact encode_schema (read_schema 16) s (schema-exact 16 s h))

  pub numbers-held : HeldNumbers t
  unfolding decode_schema
  numbers-held = subst (λ (o : Option Schema). Found HeldNumbers o) e (whole-got HeldNumbers (read_schema 16) s (schema-numbers 16 s h))
