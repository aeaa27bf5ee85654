-- The claims of demand 3 (docs/RULES.md), that no result holds a NaN, and that nothing is left undecided, made of the entry: over what its calls show, that is
-- their answers, their result buffers and their workspaces.
use Rattle.std.specs.Prelude.{ℕ, ◌≤◌, ◌≡◌, List, [], ◌∷◌, T, length, take}
use Rattle.std.proofs.Math.Option.{some}
use Rattle.base.specs.Base.{Result, ok, stop}
use Rattle.number.specs.Number.{all_bytes}
use Rattle.frame.specs.Tree.{Value, Schema}
use Rattle.frame.specs.ValueFrame.{decode_value}
use Rattle.frame.specs.SchemaFrame.{decode_schema}
use Rattle.frame.specs.Sound.{keys_rise}
use Rattle.buffer.specs.After.{buffer_after}
use Rattle.hulmbax.specs.Answer.{answer, workspace_after, workspace_size}
use Rattle.hulmbax.specs.Entry.{resolved_of}
use Rattle.avro.specs.Matches.{fits}
use Rattle.avro.specs.Nans.{no_nan}
use Rattle.avro.specs.Pairs.{nullable_pairs}
use Rattle.stability.specs.Stability.{strip}

-- a call of the entry with a schema and a record: what the result buffer and the workspace hold before and after it, and its answer. The slices hold bytes,
-- and the three equalities are the entry's contract
pub record Called (schema value buffer buffer' workspace workspace' : List ℕ) (r : Result ℕ) : Type 0 where
  pub schema_bytes : T (all_bytes schema)
  pub value_bytes : T (all_bytes value)
  pub answered : r ≡ resolved_of (answer schema value (length buffer) (length workspace))
  pub contents : buffer' ≡ buffer_after (answer schema value (length buffer) (length workspace)) buffer
  pub cleared : workspace' ≡ workspace_after (answer schema value (length buffer) (length workspace)) workspace

-- ---- no NaN

-- an accepted result is a frame that holds no NaN at any depth, whatever schema and record are
unfoldable pub WithoutNan : Type 0
WithoutNan =
    (schema value buffer buffer' workspace workspace' : List ℕ) (n : ℕ) → Called schema value buffer buffer' workspace workspace' (ok n)
    → (r : Value) × (decode_value (take n buffer') ≡ some r) × T (no_nan r)

-- ---- fitting and repeating

-- what they are claimed of: a schema whose unions are nullable pairs, and any record
pub record Suits (schema value : List ℕ) : Type 0 where
  pub tree : Schema
  pub input : Value
  pub schema_is : decode_schema schema ≡ some tree
  pub value_is : decode_value value ≡ some input
  pub pairs : T (nullable_pairs tree)

-- an accepted result is a frame that fits the schema
unfoldable pub Fits : Type 0
Fits =
    (schema value buffer buffer' workspace workspace' : List ℕ) (n : ℕ) → Called schema value buffer buffer' workspace workspace' (ok n) → (h : Suits schema value)
    → (r : Value) × (decode_value (take n buffer') ≡ some r) × T (fits h.tree r)

-- a repeat: what its result buffer and its workspace hold before and after it, and its answer
pub record Repeat : Type 0 where
  pub buffer : List ℕ
  pub buffer' : List ℕ
  pub workspace : List ℕ
  pub workspace' : List ℕ
  pub told : Result ℕ

-- the result of a call, where it stands in its buffer
unfoldable pub standing : Result ℕ → List ℕ → List ℕ
standing (ok n) buffer' = take n buffer'
standing (stop e) buffer' = []

-- each repeat gets the schema, as its record the last result where it stands, a buffer that is long enough, and a workspace that passes 1
unfoldable pub Repeated : List ℕ → List ℕ → List Repeat → Type 0
Repeated schema last [] = Unit {0}
Repeated schema last (c ∷ cs) =
    Called schema last c.buffer c.buffer' c.workspace c.workspace' c.told
    × (length last ≤ length c.buffer) × (workspace_size ≤ length c.workspace) × Repeated schema (standing c.told c.buffer') cs

-- each repeat is accepted, with this result
unfoldable pub AllGive : List ℕ → List Repeat → Type 0
AllGive result [] = Unit {0}
AllGive result (c ∷ cs) = (c.told ≡ ok (length result)) × (take (length result) c.buffer' ≡ result) × AllGive result cs

-- however often an accepted call is repeated, and whatever the buffers hold, the result is the same
unfoldable pub Repeats : Type 0
Repeats =
    (schema value buffer buffer' workspace workspace' : List ℕ) (n : ℕ) → Called schema value buffer buffer' workspace workspace' (ok n) → Suits schema value
    → (calls : List Repeat) → Repeated schema (take n buffer') calls → AllGive (take n buffer') calls

-- ---- being alike

-- two value frames that are alike (the rules' term), neither of which is stopped by 5: equal once stripped
pub record AreAlike (tree : Schema) (a b : List ℕ) : Type 0 where
  pub left : Value
  pub right : Value
  pub left_is : decode_value a ≡ some left
  pub right_is : decode_value b ≡ some right
  pub left_keys : T (keys_rise left)
  pub right_keys : T (keys_rise right)
  pub equal : strip tree left ≡ strip tree right

-- handed in with equal schema, buffer and workspace, they get the same answer, and leave the same in buffer and workspace
unfoldable pub Alike : Type 0
Alike =
    (schema : List ℕ) (tree : Schema) → decode_schema schema ≡ some tree → T (nullable_pairs tree)
    → (a b : List ℕ) → AreAlike tree a b
    → (buffer workspace buffer₁ workspace₁ buffer₂ workspace₂ : List ℕ) (r₁ r₂ : Result ℕ)
    → Called schema a buffer buffer₁ workspace workspace₁ r₁ → Called schema b buffer buffer₂ workspace workspace₂ r₂
    → (r₁ ≡ r₂) × (buffer₁ ≡ buffer₂) × (workspace₁ ≡ workspace₂)

-- ---- nothing is left undecided

-- two calls with equal schema, record, buffer and workspace get the same answer, and leave the same in buffer and workspace
unfoldable pub Decided : Type 0
Decided =
    (schema value buffer workspace buffer₁ workspace₁ buffer₂ workspace₂ : List ℕ) (r₁ r₂ : Result ℕ)
    → Called schema value buffer buffer₁ workspace workspace₁ r₁ → Called schema value buffer buffer₂ workspace workspace₂ r₂
    → (r₁ ≡ r₂) × (buffer₁ ≡ buffer₂) × (workspace₁ ≡ workspace₂)
