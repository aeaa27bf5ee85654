-- What a schema is asked of the parts of a record and of a union, one by one and together.
use Rattle.std.specs.Prelude.{ℕ, ◌≡◌, List, [], ◌∷◌, Bool, true, ◌&&◌, not}
use Rattle.std.proofs.Math.Option.{some}
use Rattle.text.specs.Read.{Read}
use Rattle.frame.specs.Tree.{Schema}
use Rattle.frame.specs.SchemaFrame.{Field, fields_of, variants_of}
use Rattle.frame.specs.Sound.{schema_sound, variants_sound, default_allowed, has_field}

abbrev pub field_sound : Field → Bool
field_sound f = default_allowed f.1 && schema_sound f.2

unfoldable pub each_sound : List Field → Bool
each_sound [] = true
each_sound (f ∷ fs) = field_sound f && each_sound fs

-- no name stands again among the later fields
unfoldable pub names_differ : List Field → Bool
names_differ [] = true
names_differ (f ∷ fs) = not (has_field f.0 (fields_of fs)) && names_differ fs

abbrev pub no_unions : List Schema → Bool
no_unions vs = variants_sound (variants_of vs)

-- b is what f says of the thing that x read
abbrev pub Says : {A : Type 0} → Read A → (A → Bool) → Bool → Type 0
Says {A} x f b = (a : A) (u : List ℕ) → x ≡ some (a, u) → b ≡ f a
