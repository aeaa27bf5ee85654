-- The turns of a union's variants: what a turn tries, what may be known when it comes, and what it says when it passes.
use Rattle.std.specs.Prelude as std
use Rattle.std.specs.Prelude.{ℕ, ◌+◌, ◌-◌, ◌*◌, ◌^◌, ◌≤◌, ◌<◌, ◌≡◌, ◌⊎◌, List, [], Bool, false, not, ltb, get_or, Some, None}
use Rattle.std.proofs.Math.Option.{Option, none, some}
use Rattle.base.specs.Base.{when◌then◌else◌, accepted}
use Rattle.number.specs.Number.{number_at}
use Rattle.frame.specs.Tree.{Value, Schema}
use Rattle.avro.specs.Union.{Trial, no_trial, find_schema_with_known_schemata, unnamed_kind, named_kind, named_variant, table_lookup, take_variant, takes}
use Rattle.avro.specs.Resolve.{trials}
use Rattle.variants.specs.Ways.{Numbers, Ready, VariantAt, base_at, count_of, found_of, kind_table, named_table, union_variants}
use Rattle.turns.specs.declared.Due.{Due}
use Rattle.turns.specs.declared.Turn.{Turn}
use Rattle.turns.specs.declared.Way.{Way}

-- a union's part that was checked
pub record UnionPart (depth : ℕ) (s : List ℕ) : Type 0 where
  pub schema : Ready depth s
  pub kind : get_or s 0 0 ≡ 10

-- ---- positions in bytes

-- the j-th of the positions at a place
abbrev pub position_at : List ℕ → ℕ → ℕ → ℕ
position_at s at j = number_at s (at + 2 * j) 2

-- each of them is above those before it
unfoldable pub PositionsRise : List ℕ → ℕ → ℕ → Type 0
PositionsRise s at count = (i j : ℕ) → i < j → j < count → position_at s at i < position_at s at j

-- from the n-th on they are not below u
unfoldable pub NotBelow : List ℕ → ℕ → ℕ → ℕ → ℕ → Type 0
NotBelow s at count u n = (n ≤ count) × ((j : ℕ) → n ≤ j → j < count → u ≤ position_at s at j)

-- from the n-th on they are not below the table's, if it has one
unfoldable pub Splits : List ℕ → ℕ → ℕ → std.Option ℕ → ℕ → Type 0
Splits s at count table n = (n ≤ count) × ((u : ℕ) → table ≡ Some u → NotBelow s at count u n)

-- ---- what the choice goes by

-- the named positions to try for a value's kind, and the base kind that they must have: those of named_index, or none
unfoldable pub Wants : ℕ → ℕ → List ℕ → List ℕ → Type 0
Wants kind wanted named ns = ((named_kind kind ≡ some wanted) × (ns ≡ named)) ⊎ ((named_kind kind ≡ none) × (ns ≡ []))

pub record Goes (depth : ℕ) (s : List ℕ) (way : Way) : Type 0 where
  pub part : UnionPart depth s
  pub kind : ℕ
  pub named : List ℕ
  pub table : way.table ≡ found_of (table_lookup (kind_table part.schema.tree) (unnamed_kind kind))
  pub wants : Wants kind way.kind (named_table part.schema.tree) named
  pub numbers : Numbers s named (record { at = way.at; count = way.count })
  pub splits : Splits s way.at way.count way.table way.before

abbrev pub tree_of : {depth : ℕ} {s : List ℕ} {way : Way} → Goes depth s way → Schema
tree_of g = g.part.schema.tree

-- ---- what a turn tries

module _ {depth : ℕ} {s : List ℕ} {way : Way} (g : Goes depth s way) where
  -- the j-th named position has another base kind, or stands before
  unfoldable pub Skipped : ℕ → Type 0
  Skipped j = (base_at (tree_of g) (get_or g.named j 0) ≡ way.kind → ⊥) ⊎ ((m : ℕ) × ((m < j) × (get_or g.named m 0 ≡ get_or g.named j 0)))

  -- the j-th named position is i and has the base kind that is looked for
  unfoldable pub NamedIs : ℕ → ℕ → Type 0
  NamedIs j i = (get_or g.named j 0 ≡ i) × (base_at (tree_of g) i ≡ way.kind)

  unfoldable pub Skips : Turn → Type 0
  Skips (Turn.Before j) = j < way.before → Skipped j
  Skips Turn.Table = way.table ≡ None
  Skips (Turn.Behind j) = j < way.count → Skipped j ⊎ (way.table ≡ Some (get_or g.named j 0))
  Skips (Turn.Any i) = (i < count_of (tree_of g)) × ((way.table ≡ Some i) ⊎ ((j : ℕ) × ((j < way.count) × NamedIs j i)))

  unfoldable pub Tries : Turn → ℕ → Type 0
  Tries (Turn.Before j) i = (j < way.before) × NamedIs j i
  Tries Turn.Table i = way.table ≡ Some i
  Tries (Turn.Behind j) i = (j < way.count) × NamedIs j i
  Tries (Turn.Any n) i = n ≡ i

  unfoldable pub NoneLeft : Turn → Type 0
  NoneLeft (Turn.Before j) = ⊥
  NoneLeft Turn.Table = ⊥
  NoneLeft (Turn.Behind j) = ⊥
  NoneLeft (Turn.Any i) = count_of (tree_of g) ≤ i

  -- the same of the named positions before `end`, without `skip`
  unfoldable pub NamedTells : ℕ → ℕ → std.Option ℕ → Due → Type 0
  NamedTells j end skip (Due.At p) = (p.position < count_of (tree_of g)) × (VariantAt depth s p.position p.at × ((j < end) × NamedIs j p.position))
  NamedTells j end skip (Due.Not p) = VariantAt depth s p.position p.at × (j < end → Skipped j ⊎ (skip ≡ Some (get_or g.named j 0)))
  NamedTells j end skip Due.Over = ⊥

  -- what is told of a turn: the variant that it tries, or that it tries none, and where the search stands then
  unfoldable pub Tells : Turn → Due → Type 0
  Tells turn (Due.At p) = (p.position < count_of (tree_of g)) × (VariantAt depth s p.position p.at × Tries turn p.position)
  Tells turn (Due.Not p) = VariantAt depth s p.position p.at × Skips turn
  Tells turn Due.Over = NoneLeft turn

-- ---- what is known when a turn comes, for a value

module _ {depth : ℕ} {s : List ℕ} {way : Way} (g : Goes depth s way) (w : Value) where
  abbrev pub trials_for : List Trial
  trials_for = trials (union_variants (tree_of g)) w

  abbrev pub resolves : ℕ → Bool
  resolves i = accepted (get_or trials_for i no_trial).outcome

  -- none of the first j named positions is taken
  unfoldable pub NoneTaken : ℕ → Type 0
  NoneTaken j = (m : ℕ) → m < j → takes way.kind trials_for (get_or g.named m 0) ≡ false

  -- the kind table's variant is not taken
  unfoldable pub Untaken : Type 0
  Untaken = take_variant trials_for (table_lookup (kind_table (tree_of g)) (unnamed_kind g.kind)) ≡ none

  -- the crate's choice
  unfoldable pub chosen_for : Option ℕ
  chosen_for = find_schema_with_known_schemata trials_for (kind_table (tree_of g)) (named_table (tree_of g)) g.kind

  -- the turn is one of this union's, and what the turns before it told
  unfoldable pub ToldBefore : Turn → Type 0
  ToldBefore (Turn.Before j) = (j ≤ way.before) × NoneTaken j
  ToldBefore Turn.Table = NoneTaken way.before
  ToldBefore (Turn.Behind j) = (way.before ≤ j) × ((j ≤ way.count) × (NoneTaken j × Untaken))
  ToldBefore (Turn.Any i) = (i ≤ count_of (tree_of g)) × (NoneTaken way.count × (Untaken × ((m : ℕ) → m < i → resolves m ≡ false)))

  -- the turn passes
  unfoldable pub Passes : Turn → Type 0
  Passes (Turn.Before j) = j < way.before → takes way.kind trials_for (get_or g.named j 0) ≡ false
  Passes Turn.Table = Untaken
  Passes (Turn.Behind j) = j < way.count → takes way.kind trials_for (get_or g.named j 0) ≡ false
  Passes (Turn.Any i) = (i < count_of (tree_of g)) × (resolves i ≡ false)

  -- the first named position that is taken is i, behind the table's u
  pub record Beaten (u i : ℕ) : Type 0 where
    pub named : named_variant trials_for g.named (some way.kind) ≡ some i
    pub table : way.table ≡ Some u
    pub behind : u < i

-- ---- one turn after another

-- the turn that follows one that passed
unfoldable pub next_turn : Way → Turn → Turn
next_turn way (Turn.Before j) = when ltb j way.before then Turn.Before (j + 1) else Turn.Table
next_turn way Turn.Table = Turn.Behind way.before
next_turn way (Turn.Behind j) = when ltb j way.count then Turn.Behind (j + 1) else Turn.Any 0
next_turn way (Turn.Any i) = Turn.Any (i + 1)

-- how many turns there can still be, of a union with n variants
unfoldable pub turns_left : ℕ → Way → Turn → ℕ
turns_left n way (Turn.Before j) = way.before - j + (way.count + n + 4)
turns_left n way Turn.Table = way.count + n + 3
turns_left n way (Turn.Behind j) = way.count - j + (n + 2)
turns_left n way (Turn.Any i) = n - i

-- the place of a turn is one that can be counted on from
unfoldable pub Within : Turn → Type 0
Within (Turn.Before j) = Unit {0}
Within Turn.Table = Unit {0}
Within (Turn.Behind j) = Unit {0}
Within (Turn.Any i) = i < 2 ^ 63

-- the table's position, where it comes before i
unfoldable pub sooner_than : std.Option ℕ → ℕ → std.Option ℕ
sooner_than (Some u) i = when ltb u i then Some u else None
sooner_than None i = None

-- the same in the turn of a named position i: a variant that stands in any other turn is the choice
unfoldable pub table_before : std.Option ℕ → ℕ → Turn → std.Option ℕ
table_before table i (Turn.Before j) = sooner_than table i
table_before table i Turn.Table = None
table_before table i (Turn.Behind j) = None
table_before table i (Turn.Any n) = None

-- the refusal of a variant in its turn is the answer: of the table's, unless it must be tried
unfoldable pub is_last : Turn → Bool → Bool
is_last (Turn.Before j) tried = false
is_last Turn.Table tried = not tried
is_last (Turn.Behind j) tried = false
is_last (Turn.Any i) tried = false
