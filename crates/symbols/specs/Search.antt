-- What the search for a symbol answers, and `resolve_enum` at an Enum schema that was read.
use Rattle.std.specs.Prelude.{ℕ, zero, suc, ◌≡◌, List, eqb}
use Rattle.std.proofs.Math.Option.{Option, none, some}
use Rattle.base.specs.Base.{when◌then◌else◌, stop}
use Rattle.text.specs.Text.{Text}
use Rattle.text.specs.Read.{Read, text_at}
use Rattle.frame.specs.Tree.{Value, Schema}
use Rattle.types.specs.Types.{Outcome, position, resolve_enum}
use Rattle.symbols.specs.declared.Place.{Place}
use Rattle.symbols.specs.declared.Place.TheVariants.{Symbol, Default, Nowhere}

-- ---- the place of a symbol or of the default

-- the default, where its place is known
unfoldable pub default_at : Option ℕ → Place
default_at none = Nowhere
default_at (some i) = Default i

-- the place of the default, where there is one
unfoldable pub default_place : List Text → Option Text → Place
default_place ss none = Nowhere
default_place ss (some d) = default_at (position d ss)

-- the symbol, where its place is known, or else what is given
unfoldable pub symbol_or : Place → Option ℕ → Place
symbol_or p none = p
symbol_or p (some i) = Symbol i

-- the first place of a symbol, or else that of the default: `validate_symbol` without the values
unfoldable pub place_of : List Text → Option Text → Text → Place
place_of ss d t = symbol_or (default_place ss d) (position t ss)

-- the same of symbols and a default that were read
unfoldable pub place_in : Text → Read (List Text × Option Text) → Place
place_in t none = Nowhere
place_in t (some e) = place_of e.0.0 e.0.1 t

-- ---- the rounds of the search

-- what a round looks for: at 0 the symbol, and elsewhere the text that starts there
unfoldable pub sought_in : List ℕ → Text → ℕ → Text
sought_in s t from = when eqb from 0 then t else text_at s from

-- what such a round finds at a place
unfoldable pub placed : ℕ → ℕ → Place
placed zero i = Symbol i
placed (suc n) i = Default i

-- the default of symbols that were read
unfoldable pub default_in : Read (List Text × Option Text) → Option Text
default_in none = none
default_in (some e) = e.0.1

-- there is one
unfoldable pub Defaulted : Read (List Text × Option Text) → Type 0
Defaulted x = (d : Text) × (default_in x ≡ some d)

-- ---- the resolution

-- resolve_enum at an Enum schema; no other schema comes here
unfoldable pub resolve_enum_at : Schema → Value → Outcome
resolve_enum_at (Schema.Plain k) v = stop 0
resolve_enum_at (Schema.Fixed n) v = stop 0
resolve_enum_at (Schema.Decimal p c n) v = stop 0
resolve_enum_at (Schema.Uuid f) v = stop 0
resolve_enum_at (Schema.Duration n) v = stop 0
resolve_enum_at (Schema.Enum ss d) v = resolve_enum ss d v
resolve_enum_at (Schema.Array s) v = stop 0
resolve_enum_at (Schema.Map s) v = stop 0
resolve_enum_at (Schema.Record fs) v = stop 0
resolve_enum_at (Schema.Union vs ks ns) v = stop 0
