-- What a field that was read is called, and the soundness of fields: each by itself, and their names.
use Prim.Native.Nat.{ℕ}
use mathlib.Core.Path.{◌≡◌, refl, sym, ap, ◌∙◌}
use mathlib.Core.List.{List, [], ◌∷◌}
use mathlib.Core.Option.{some}
use mathlib.Core.Bool.{Bool, true, false, ◌&&◌, not}
use Rattle.text.specs.Read.{Read, read_counted, read_text}
use Rattle.text.proofs.ReadLaws.{read_text-counted}
use Rattle.frame.specs.Tree.{Schema}
use Rattle.frame.specs.Readers.{read_option}
use Rattle.frame.specs.ValueFrame.{read_value}
use Rattle.frame.specs.SchemaFrame.{Field, fields_of, read_field}
use Rattle.frame.specs.Sound.{schema_sound, fields_sound, default_allowed, has_field}
use Rattle.frame.proofs.Reading.{read-what, bind_inv}
use Rattle.schema.specs.Parts.{each_sound, names_differ}

-- ---- the name of a field that was read

pub field-name : (node : List ℕ → Read Schema) (s : List ℕ) (f : Field) (r : List ℕ) → read_field node s ≡ some (f, r) → (u : List ℕ) × (read_counted s ≡ some (f.0, u))
unfolding read_field
field-name node s f r e =
    let w = bind_inv (read_text s) _ (f, r) e in
    let v = bind_inv (read_option (read_value 16) w.0.1) _ (f, r) w.1.1 in
    let k = bind_inv (node v.0.1) _ (f, r) v.1.1 in
    let q : ◌≡◌ {A = Field} (w.0.0, v.0.0, k.0.0) f = read-what k.1.1 in
    (w.0.1, (read_text-counted s w.0.0 w.0.1 w.1.0).0 ∙ ap (λ (g : Field). some (g.0, w.0.1)) q)

-- ---- soundness of fields: each by itself, and their names

shuffle : (a b c d e : Bool) → a && b && c && (d && e) ≡ b && c && d && (a && e)
shuffle true false c d e = refl
shuffle true true false d e = refl
shuffle true true true d e = refl
shuffle false false c d e = refl
shuffle false true false d e = refl
shuffle false true true false e = refl
shuffle false true true true e = refl

pub fields-sound : (fs : List Field) → each_sound fs && names_differ fs ≡ fields_sound (fields_of fs)
unfolding each_sound names_differ fields_sound fields_of
fields-sound [] = refl
fields-sound (f ∷ fs) =
    sym (ap (λ y. not (has_field f.0 (fields_of fs)) && default_allowed f.1 && schema_sound f.2 && y) (sym (fields-sound fs))
    ∙ shuffle (not (has_field f.0 (fields_of fs))) (default_allowed f.1) (schema_sound f.2) (each_sound fs) (names_differ fs))
