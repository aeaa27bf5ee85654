-- Lists of frames worked by computing: sail A with seqs 1 and 2, sail B twice with seq 5; a negative seq; the refusals; and another order.
use Prim.Native.Nat.{ℕ, zero, suc, ◌<◌}
use Prim.Native.String.{String}
use mathlib.Core.Path.{◌≡◌, refl, sym, ap, ◌∙◌}
use native.Mathlib.Omega.{arith}
use lib.ListN.{get_or}
use mathlib.Core.Logic.{inl, inr}
use mathlib.Core.List.{List, [], ◌∷◌, ◌++◌}
use mathlib.Core.Bool.{true, false}
use mathlib.Core.Option
use mathlib.Core.Option.{Option, none, some, or_else}
use Rattle.base.specs.Base
use Rattle.base.specs.Base.{ok, stop}
use Rattle.number.specs.Number
use Rattle.utf8.specs.Utf8
use Rattle.rounding.specs.Rounding.{of_twos}
use Rattle.text.specs.Text
use Rattle.text.specs.Read
use Rattle.uuid_text.specs.Uuid
use Rattle.frame.specs.Kind
use Rattle.frame.specs.Tree
use Rattle.frame.specs.Tree.{Value, entry, no_entries}
use Rattle.frame.specs.Readers
use Rattle.frame.specs.ValueFrame
use Rattle.frame.specs.Sound
use Rattle.avro.specs.Resolve
use Rattle.buffer.specs.After
use Rattle.lists.specs.Frames
use Rattle.finishes.specs.Finish
use Rattle.finishes.specs.Words.{IsFinish}
use Rattle.finishes.proofs.RankOrder.{lessℤ}
use Rattle.current.specs.Current
use Rattle.current.specs.Claims.{In}
use Rattle.corrections.specs.Named
use Rattle.corrections.specs.Named.{names_for}
use Rattle.corrections.specs.Claims.{SaysAt, Reordered}
use Rattle.corrections.proofs.Words.{place-current}
use Rattle.corrections.proofs.Greatest.{no-greater-before, smaller-behind}

unfoldable computed : ℕ
unfolding Base.after Number.all_bytes Number.big_endian Utf8.lead_of Utf8.step_of Utf8.run Utf8.is_utf8 Text.ascii Text.same Text.less Read.◌>>=◌ Read.read_bytes Read.read_number Read.read_counted Read.read_text Uuid.hex_digit Uuid.hex_pair Uuid.hex_bytes Tree.kind_of Tree.number Tree.octets Tree.entries Readers.read_flag Readers.read_many Readers.read_list Readers.whole ValueFrame.contents ValueFrame.items_of ValueFrame.entries_of ValueFrame.read_entry ValueFrame.read_content ValueFrame.read_value ValueFrame.decode_value Sound.past_key Sound.keys_rise Sound.checked_value or_else Resolve.last_under After.checked_result Frames.frame_at Frames.frames_from Finish.rank Finish.string_of Finish.long_of Finish.fields Finish.said Finish.said_in Finish.finish_of Current.beats Current.over_by Current.current_by Current.without Current.listed_by Named.placed Named.finishes Named.places Named.names_of Named.names_for
computed = 0

-- a record of a one-letter sail and a seq, both in hexadecimal
abbrev hex : String → List ℕ
hex t = Option.get_or (Uuid.hex_bytes (Text.ascii t)) []

abbrev entered : String → String → List ℕ
entered sail seq = hex "0b000200047361696c070001" ++ hex sail ++ hex "000373657103" ++ hex seq

abbrev four : List ℕ
four = entered "41" "0000000000000001" ++ entered "42" "0000000000000005" ++ entered "41" "0000000000000002" ++ entered "42" "0000000000000005"

-- A's second frame, and B's second of two equal ones
pub corrected : names_for four (27 ∷ 54 ∷ 81 ∷ 108 ∷ []) 2 ≡ ok (2 ∷ 3 ∷ [])
unfolding computed
corrected = refl

abbrev both : List ℕ
both = entered "41" "0000000000000001" ++ entered "41" "ffffffffffffffff"

-- a negative seq is smaller
pub negative : names_for both (27 ∷ 54 ∷ []) 1 ≡ ok (0 ∷ [])
unfolding computed
negative = refl

-- ---- the theorems on whole numbers, of these lists

abbrev tree : ℕ → ℕ → Value
tree sail seq = Value.Record (entry (Text.ascii "sail") (Value.Octets Kind.String (sail ∷ [])) (entry (Text.ascii "seq") (Value.Scalar Kind.Long seq) no_entries))

-- what a frame of such a record says
unfoldable finish : (v : List ℕ) (sail seq : ℕ) → Sound.checked_value (ValueFrame.decode_value v) ≡ ok (tree sail seq) → IsFinish v (sail ∷ []) (Finish.rank seq)
unfolding computed
finish v sail seq e = record {
  tree = tree sail seq;
  whole = record { passes = e; kind = refl };
  sail = Value.Octets Kind.String (sail ∷ []);
  sail_there = refl;
  sail_kind = refl;
  sail_is = refl;
  seq = Value.Scalar Kind.Long seq;
  seq_there = refl;
  seq_kind = refl;
  seq_is = refl;
}

-- B's first frame has no greater seq than its second, which is current
pub no-greater : lessℤ (of_twos 64 5) (of_twos 64 5) ≡ false
unfolding computed finish In
no-greater =
    no-greater-before four (27 ∷ 54 ∷ 81 ∷ 108 ∷ []) tt 3 1 (0x42 ∷ []) (Finish.rank 5) (Finish.rank 5)
    (place-current four (27 ∷ 54 ∷ 81 ∷ 108 ∷ []) 2 (2 ∷ 3 ∷ []) corrected 3 (inr (inl refl)))
    (finish (entered "42" "0000000000000005") 0x42 5 refl) (finish (entered "42" "0000000000000005") 0x42 5 refl) (omega arith) (omega arith)

-- A's second frame has a smaller one than its first
pub smaller : lessℤ (of_twos 64 0xffffffffffffffff) (of_twos 64 1) ≡ true
unfolding computed finish In
smaller =
    smaller-behind both (27 ∷ 54 ∷ []) tt 0 1 (0x41 ∷ []) (Finish.rank 1) (Finish.rank 0xffffffffffffffff) (place-current both (27 ∷ 54 ∷ []) 1 (0 ∷ []) negative 0 (inl refl))
    (finish (entered "41" "0000000000000001") 0x41 1 refl) (finish (entered "41" "ffffffffffffffff") 0x41 0xffffffffffffffff refl) (omega arith) (omega arith)

pub no_frames : names_for [] [] 0 ≡ ok []
unfolding computed
no_frames = refl

-- an end past the input, one below its start, and too little room
pub past : names_for four (27 ∷ 54 ∷ 81 ∷ 109 ∷ []) 2 ≡ stop 24
unfolding computed
past = refl

pub below : names_for four (27 ∷ 54 ∷ 53 ∷ []) 2 ≡ stop 24
unfolding computed
below = refl

pub no_room : names_for four (27 ∷ 54 ∷ 81 ∷ 108 ∷ []) 1 ≡ stop 18
unfolding computed
no_room = refl

-- ---- two frames, and the same in the other order

abbrev first : List ℕ
first = entered "41" "0000000000000001"

abbrev second : List ℕ
second = entered "41" "0000000000000002"

unfoldable pub swap : ℕ → ℕ
swap zero = 1
swap (suc k) = 0

differ : (x : List ℕ) (n : ℕ) → Finish.finish_of first ≡ some (x, n) → Finish.finish_of second ≡ some (x, n) → ⊥
unfolding computed
differ x n p q =
    let e : ◌≡◌ {A = Option (List ℕ × ℕ)} (Finish.finish_of first) (Finish.finish_of second) = p ∙ sym q in
    let z : ◌≡◌ {A = ℕ} 0x8000000000000001 0x8000000000000002 = ap rank_or e in
    omega (arith, z)
  where
    rank_or : Option (List ℕ × ℕ) → ℕ
    rank_or none = 0
    rank_or (some x) = x.1

pub swapped : Reordered (first ∷ second ∷ []) (second ∷ first ∷ []) swap swap
unfolding swap
swapped = record { forth = forth; back = back; keeps = keeps }
  where
    forth : (p : ℕ) → p < 2 → (swap p < 2) × (get_or (first ∷ second ∷ []) (swap p) [] ≡ get_or (second ∷ first ∷ []) p [])
    forth zero h = (omega arith, refl)
    forth (suc zero) h = (omega arith, refl)
    forth (suc (suc p)) h = absurd (omega (arith, h))

    back : (q : ℕ) → q < 2 → (swap q < 2) × (swap (swap q) ≡ q)
    back zero h = (omega arith, refl)
    back (suc zero) h = (omega arith, refl)
    back (suc (suc q)) h = absurd (omega (arith, h))

    keeps : (p q : ℕ) (x : List ℕ) (n : ℕ) → p < q → SaysAt (second ∷ first ∷ []) p x n → SaysAt (second ∷ first ∷ []) q x n → swap p < swap q
    keeps zero zero x n l s t = absurd (omega (arith, l))
    keeps zero (suc zero) x n l s t = absurd (differ x n t.1 s.1)
    keeps zero (suc (suc q)) x n l s t = absurd (omega (arith, t.0))
    keeps (suc p) q x n l s t = absurd (omega (arith, l, t.0))

-- the same frame is named in both
pub in_order : names_for (first ++ second) (27 ∷ 54 ∷ []) 1 ≡ ok (1 ∷ [])
unfolding computed
in_order = refl

pub in-other-order : names_for (second ++ first) (27 ∷ 54 ∷ []) 1 ≡ ok (0 ∷ [])
unfolding computed
in-other-order = refl
