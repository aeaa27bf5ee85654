-- An instance of each claim, with nothing left to assume: the starred nullable Double of docs/RULES.md, a sail number for a Fixed, a record with and without a further
-- field, and a stored one with a NaN.
use Prim.Native.Nat.{ℕ}
use native.Mathlib.Omega.{arith}
use mathlib.Core.Path.{◌≡◌, refl, sym, ap, ◌∙◌}
use mathlib.Core.List.{List, [], ◌∷◌}
use mathlib.Core.Option.{none, some}
use lib.Dec.{T}
use lib.ListN.{length, take, replicate, length-replicate}
use Rattle.base.specs.Base.{Result, ok}
use Rattle.number.specs.Number.{all_bytes}
use Rattle.frame.specs.Kind
use Rattle.frame.specs.Tree.{Value, Schema, variant, no_variants, field, no_fields, entry, no_entries}
use Rattle.frame.specs.ValueFrame.{decode_value}
use Rattle.buffer.specs.After.{buffer_after}
use Rattle.hulmbax.specs.Answer.{answer, workspace_after, workspace_size}
use Rattle.hulmbax.specs.Entry.{resolved_of}
use Rattle.hulmbax.specs.Finishes.{hex}
use Rattle.hulmbax.proofs.Computed.{computed}
use Rattle.stability.specs.Stability
use Rattle.avro.specs.Matches.{fits}
use Rattle.avro.specs.Pairs
use Rattle.avro.specs.Nans.{no_nan}
use Rattle.stability.specs.Claims.{Called, WithoutNan, Suits, Fits, Repeat, standing, Repeated, AllGive, Repeats, AreAlike, Alike}
use Rattle.stability.proofs.Claims.{without-nan, fitting, repeating}
use Rattle.stability.proofs.Alike.{alike}

-- a workspace
pub room : (w : List ℕ) × (length w ≡ workspace_size)
room = let n : ℕ = 0 in (replicate 65536 n, length-replicate 65536 n)

-- an accepted call in that workspace
called : (schema value buffer result : List ℕ) → T (all_bytes schema) → T (all_bytes value) → answer schema value (length buffer) workspace_size ≡ ok result
    → Called schema value buffer (buffer_after (ok result) buffer) room.0 (workspace_after (ok result) room.0) (ok (length result))
unfolding resolved_of
called schema value buffer result h k e =
    let q : answer schema value (length buffer) (length room.0) ≡ ok result = ap (answer schema value (length buffer)) room.1 ∙ e in
    record {
      schema_bytes = h;
      value_bytes = k;
      answered = sym (ap resolved_of q);
      contents = ap (λ x. buffer_after x buffer) (sym q);
      cleared = ap (λ x. workspace_after x room.0) (sym q);
    }

-- ---- the starred nullable Double, with Int 5

abbrev double : List ℕ
double = hex "0a0002000500020000000500010000"

abbrev five : List ℕ
five = hex "0200000005"

abbrev five_double : List ℕ
five_double = hex "0a00000001054014000000000000"

-- a buffer of 14 bytes, whatever it holds
abbrev buffer : List ℕ
buffer = hex "0102030405060708090a0b0c0d0e"

pub double-suits : Suits double five
unfolding computed Pairs.nullable_pairs Pairs.nullable_pair Pairs.only_null_leads_to
double-suits = record {
  tree = Schema.Union (variant (Schema.Plain Kind.Null) (variant (Schema.Plain Kind.Double) no_variants)) ((0, 0) ∷ (5, 1) ∷ []) [];
  input = Value.Scalar Kind.Int 5;
  schema_is = refl;
  value_is = refl;
  pairs = tt;
}

double-called : Called double five buffer five_double room.0 (workspace_after (ok five_double) room.0) (ok 14)
unfolding computed
double-called = called double five buffer five_double tt tt refl

-- its result fits
pub double-fits : (r : Value) × (decode_value (take 14 five_double) ≡ some r) × T (fits double-suits.tree r)
unfolding Fits
double-fits = fitting double five buffer five_double room.0 (workspace_after (ok five_double) room.0) 14 double-called double-suits

-- and repeats, here twice
abbrev again : Repeat
again = record { buffer = buffer; buffer' = five_double; workspace = room.0; workspace' = workspace_after (ok five_double) room.0; told = ok 14 }

double-repeated : Repeated double (take 14 five_double) (again ∷ again ∷ [])
unfolding Repeated standing computed
double-repeated =
    let c : Called double five_double buffer five_double room.0 (workspace_after (ok five_double) room.0) (ok 14) = called double five_double buffer five_double tt tt refl in
    (c, omega arith, omega (arith, room.1), (c, omega arith, omega (arith, room.1), tt))

pub double-repeats : AllGive (take 14 five_double) (again ∷ again ∷ [])
unfolding Repeats
double-repeats =
    repeating double five buffer five_double room.0 (workspace_after (ok five_double) room.0) 14 double-called double-suits (again ∷ again ∷ []) double-repeated

-- ---- a sail number of four letters, `GBR7`, for a Fixed of 4

abbrev fixed : List ℕ
fixed = hex "0d0004"

abbrev sail : List ℕ
sail = hex "07000447425237"

abbrev fixed_sail : List ℕ
fixed_sail = hex "0d000447425237"

pub sail-suits : Suits fixed sail
unfolding computed Pairs.nullable_pairs
sail-suits = record {
  tree = Schema.Fixed 4;
  input = Value.Octets Kind.String (0x47 ∷ 0x42 ∷ 0x52 ∷ 0x37 ∷ []);
  schema_is = refl;
  value_is = refl;
  pairs = tt;
}

sail-called : Called fixed sail sail fixed_sail room.0 (workspace_after (ok fixed_sail) room.0) (ok 7)
unfolding computed
sail-called = called fixed sail sail fixed_sail tt tt refl

-- its result fits
pub sail-fits : (r : Value) × (decode_value (take 7 fixed_sail) ≡ some r) × T (fits sail-suits.tree r)
unfolding Fits
sail-fits = fitting fixed sail sail fixed_sail room.0 (workspace_after (ok fixed_sail) room.0) 7 sail-called sail-suits

-- and repeats
abbrev sail_again : Repeat
sail_again = record { buffer = sail; buffer' = fixed_sail; workspace = room.0; workspace' = workspace_after (ok fixed_sail) room.0; told = ok 7 }

sail-repeated : Repeated fixed (take 7 fixed_sail) (sail_again ∷ [])
unfolding Repeated standing computed
sail-repeated = (called fixed fixed_sail sail fixed_sail tt tt refl, omega arith, omega (arith, room.1), tt)

pub sail-repeats : AllGive (take 7 fixed_sail) (sail_again ∷ [])
unfolding Repeats
sail-repeats = repeating fixed sail sail fixed_sail room.0 (workspace_after (ok fixed_sail) room.0) 7 sail-called sail-suits (sail_again ∷ []) sail-repeated

-- ---- a record of one field, `a`, with and without a further one, `b`

abbrev one : List ℕ
one = hex "0b00010001610002"

abbrev without : List ℕ
without = hex "0b00010001610200000005"

abbrev further : List ℕ
further = hex "0b000200016102000000050001620200000007"

abbrev one_tree : Schema
one_tree = Schema.Record (field (0x61 ∷ []) none (Schema.Plain Kind.Int) no_fields)

one_alike : AreAlike one_tree without further
unfolding computed Stability.strip Stability.strip_field Stability.under_union Stability.change Stability.keep_entries Stability.keep_entry Stability.has_name
one_alike = record {
  left = Value.Record (entry (0x61 ∷ []) (Value.Scalar Kind.Int 5) no_entries);
  right = Value.Record (entry (0x61 ∷ []) (Value.Scalar Kind.Int 5) (entry (0x62 ∷ []) (Value.Scalar Kind.Int 7) no_entries));
  left_is = refl;
  right_is = refl;
  left_keys = tt;
  right_keys = tt;
  equal = refl;
}

-- both are accepted, say in a buffer of 11 bytes
abbrev small : List ℕ
small = hex "0102030405060708090a0b"

without-called : Called one without small without room.0 (workspace_after (ok without) room.0) (ok 11)
unfolding computed
without-called = called one without small without tt tt refl

further-called : Called one further small without room.0 (workspace_after (ok without) room.0) (ok 11)
unfolding computed
further-called = called one further small without tt tt refl

-- and get the same, whatever buffer and workspace they are handed in with
pub further-alike : (buffer workspace buffer₁ workspace₁ buffer₂ workspace₂ : List ℕ) (r₁ r₂ : Result ℕ)
    → Called one without buffer buffer₁ workspace workspace₁ r₁ → Called one further buffer buffer₂ workspace workspace₂ r₂
    → (r₁ ≡ r₂) × (buffer₁ ≡ buffer₂) × (workspace₁ ≡ workspace₂)
unfolding Alike computed Pairs.nullable_pairs
further-alike = alike one one_tree refl tt without further one_alike

-- ---- a stored record with a NaN under a name that the schema lacks

abbrev stored : List ℕ
stored = hex "0b00020001610200000005000162057ff8000000000123"

-- reads as a frame, its NaN with all bits
pub stored-reads : decode_value stored
    ≡ some (Value.Record (entry (0x61 ∷ []) (Value.Scalar Kind.Int 5) (entry (0x62 ∷ []) (Value.Scalar Kind.Double 0x7ff8_0000_0000_0123) no_entries)))
unfolding computed
stored-reads = refl

stored-called : Called one stored small without room.0 (workspace_after (ok without) room.0) (ok 11)
unfolding computed
stored-called = called one stored small without tt tt refl

-- and what comes of it holds none
pub stored-without-nan : (r : Value) × (decode_value (take 11 without) ≡ some r) × T (no_nan r)
unfolding WithoutNan
stored-without-nan = without-nan one stored small without room.0 (workspace_after (ok without) room.0) 11 stored-called
