-- What resolution over parts of frames requires, and what its answers say.
use Rattle.std.specs.Prelude as std
use Rattle.std.specs.Prelude.{ℕ, ◌<◌, ◌≡◌, List, ◌++◌, T, get_or}
use Rattle.std.proofs.Math.Option.{Option, some}
use Rattle.base.specs.Base.{Result, ok, after, ◌>>=◌}
use Rattle.text.specs.Text.{Text}
use Rattle.text.specs.Measured.{Reads}
use Rattle.frame.specs.Tree.{Value, Schema, entries}
use Rattle.frame.specs.ValueFrame.{read_entry, read_value, write_text}
use Rattle.frame.specs.SchemaFrame.{Field, read_schema, read_field}
use Rattle.frame.specs.Sound.{schema_sound}
use Rattle.types.specs.Contract.{encoded}
use Rattle.avro.specs.Resolve.{resolve, start_default, last_under, field_value}
use Rattle.avro.specs.Defaults.{defaults_short, short_default}
use Rattle.find.specs.Find.{Keyed}
use Rattle.find.specs.Marks.{Marked}
use Rattle.variants.specs.Ways.{Ready}
use Rattle.walk.specs.declared.Walk.{Walk}

-- ---- parts that were checked

-- a field of such a schema
pub record ReadyField (depth : ℕ) (s : List ℕ) : Type 0 where
  pub name : Text
  pub default : Option Value
  pub tree : Schema
  pub rest : List ℕ
  pub reads : read_field (read_schema depth) s ≡ some ((name, default, tree), rest)
  pub sound : T (schema_sound tree)
  pub short : T (defaults_short tree)
  pub start : T (short_default tree default)

-- a default and the schema of its field
pub record ReadyDefault (depth : ℕ) (s d : List ℕ) : Type 0 where
  pub schema : Ready depth s
  pub value : Value
  pub rest : List ℕ
  pub reads : read_value 16 d ≡ some (value, rest)
  pub start : T (short_default schema.tree (some value))

-- ---- what the functions are called with

-- a schema and a value
pub record Node (w : Walk) (s v : List ℕ) : Type 0 where
  pub schema : Ready w.schema s
  pub value : Reads (read_value w.value v)

-- the same, the schema of kind k
pub record NodeOf (k : ℕ) (w : Walk) (s v : List ℕ) : Type 0 where
  pub schema : Ready w.schema s
  pub value : Reads (read_value w.value v)
  pub kind : get_or s 0 0 ≡ k

-- the schema of a map's items, and an entry
pub record EntryNode (w : Walk) (s v : List ℕ) : Type 0 where
  pub schema : Ready w.schema s
  pub entry : Reads (read_entry (read_value w.value) v)

-- a record schema, and a Record or a Map
pub record KeyedNode (w : Walk) (s v : List ℕ) : Type 0 where
  pub schema : Ready w.schema s
  pub value : Reads (read_value w.value v)
  pub kind : get_or s 0 0 ≡ 11
  pub keyed : Keyed v

-- the same, with a table of the names of the entries or none
pub record FieldsNode (w : Walk) (s v : List ℕ) (marks : std.Option (List ℕ)) : Type 0 where
  pub schema : Ready w.schema s
  pub value : Reads (read_value w.value v)
  pub kind : get_or s 0 0 ≡ 11
  pub keyed : Keyed v
  pub told : Marked marks w.value v

-- a field, and the Record or Map that it is looked for in
pub record FieldNode (w : Walk) (s v : List ℕ) (marks : std.Option (List ℕ)) : Type 0 where
  pub field : ReadyField w.schema s
  pub value : Reads (read_value w.value v)
  pub keyed : Keyed v
  pub told : Marked marks w.value v

-- a union's variant of position i
pub record VariantNode (w : Walk) (s v : List ℕ) (i : ℕ) : Type 0 where
  pub schema : Ready w.schema s
  pub value : Reads (read_value w.value v)
  pub small : i < 65536

-- ---- outcomes

-- the bytes of a node
unfoldable pub node_bytes : Schema → Value → Result (List ℕ)
node_bytes t w = encoded (resolve t w)

-- the bytes of a map's entry
unfoldable pub entry_bytes : Schema → Text × Value → Result (List ℕ)
entry_bytes t e = after (node_bytes t e.1) (λ b. ok (write_text e.0 ++ b))

-- the bytes of a default in its field
unfoldable pub default_bytes : Schema → Value → Result (List ℕ)
default_bytes t d = after (start_default t d) (λ w. node_bytes t w)

-- the bytes of a field, for the Record or Map that it is looked for in
unfoldable pub field_bytes : Field → Value → Result (List ℕ)
field_bytes f w = after (field_value (last_under f.0 (entries w)) f.1 (λ d. start_default f.2 d))
    (λ x. after (node_bytes f.2 x) (λ b. ok (write_text f.0 ++ b)))

-- the bytes of a union's variant behind its index
unfoldable pub indexed_bytes : ℕ → Schema → Value → Result (List ℕ)
indexed_bytes i t w = encoded (resolve t w >>= (λ r. ok (Value.Union i r)))
