-- Q-10: which values hold a NaN, and of which a Float or a Double would be one.
use Rattle.std.specs.Prelude.{ℕ, Bool, true, false, ◌&&◌, not, T, eqb}
use Rattle.base.specs.Base.{when◌then◌else◌}
use Rattle.text.specs.Text.{ascii}
use Rattle.scalar.specs.Conversion.{float_is_nan, double_is_nan}
use Rattle.frame.specs.Kind
use Rattle.frame.specs.Tree.{Value, Values, Entries, no_items, item, no_entries, entry}

-- a number of kind k that is a NaN
abbrev pub nan_of : ℕ → ℕ → Bool
nan_of k n = when eqb k Kind.Float then float_is_nan n else when eqb k Kind.Double then double_is_nan n else false

-- no Float and no Double in it is a NaN, at any depth
unfoldable mutual
  pub no_nan : Value → Bool
  no_nan (Value.Scalar k n) = not (nan_of k n)
  no_nan (Value.Octets k s) = true
  no_nan (Value.Enum i s) = true
  no_nan (Value.Array vs) = items_no_nan vs
  no_nan (Value.Map es) = entries_no_nan es
  no_nan (Value.Record es) = entries_no_nan es
  no_nan (Value.Union i v) = no_nan v

  pub items_no_nan : Values → Bool
  items_no_nan no_items = true
  items_no_nan (item v vs) = no_nan v && items_no_nan vs

  pub entries_no_nan : Entries → Bool
  entries_no_nan no_entries = true
  entries_no_nan (entry n v es) = no_nan v && entries_no_nan es

-- what would be a NaN as a Float or a Double: a NaN of either kind, and the text
pub data NotANumber : Value → Type 0 where
  float_nan : (b : ℕ) → T (float_is_nan b) → NotANumber (Value.Scalar Kind.Float b)
  double_nan : (b : ℕ) → T (double_is_nan b) → NotANumber (Value.Scalar Kind.Double b)
  nan_text : NotANumber (Value.Octets Kind.String (ascii "NaN"))
