-- Where the parts of a field stand: its default, if it has one, and its schema.
use Rattle.std.specs.Prelude as std
use Rattle.std.specs.Prelude.{ℕ, ◌≤◌, ◌≡◌, List, length, drop, Some, None}
use Rattle.std.proofs.Math.Option.{Option, none, some}
use Rattle.text.specs.Text.{Text}
use Rattle.frame.specs.Tree.{Value, Schema}
use Rattle.frame.specs.ValueFrame.{read_value}
use Rattle.frame.specs.SchemaFrame.{Under, as_written, read_schema_under, read_field}
use Rattle.field.specs.declared.FieldAt.{FieldAt}

-- the default is at the place that is told, and none is told if there is none
unfoldable pub DefaultAt : List ℕ → std.Option ℕ → Option Value → Type 0
DefaultAt s (Some p) none = ⊥
DefaultAt s (Some p) (some d) = (p ≤ length s) × ((r : List ℕ) × (read_value 16 (drop p s) ≡ some (d, r)))
DefaultAt s None none = Unit {0}
DefaultAt s None (some d) = ⊥

-- a field at the front of s whose parts are where f says
pub record FieldPartsUnder (u : Under) (depth : ℕ) (s : List ℕ) (f : FieldAt) : Type 0 where
  pub name : Text
  pub default : Option Value
  pub tree : Schema
  pub rest : List ℕ
  pub reads : read_field (read_schema_under u depth) s ≡ some ((name, default, tree), rest)
  pub default_at : DefaultAt s f.default default
  pub inside : f.schema_at ≤ length s
  pub schema_at : read_schema_under u depth (drop f.schema_at s) ≡ some (tree, rest)

-- with the tables as they are written
abbrev pub FieldParts : ℕ → List ℕ → FieldAt → Type 0
FieldParts = FieldPartsUnder as_written
