-- The request's words for a frame: what a finish is, and what is none.
use Rattle.std.specs.Prelude.{ℕ, ◌≡◌, List}
use Rattle.std.proofs.Math.Option.{none, some}
use Rattle.base.specs.Base.{ok, stop}
use Rattle.text.specs.Text.{Text, ascii}
use Rattle.frame.specs.Kind
use Rattle.frame.specs.Tree.{Value, kind_of, number, octets, entries}
use Rattle.frame.specs.ValueFrame.{decode_value}
use Rattle.frame.specs.Sound.{checked_value}
use Rattle.avro.specs.Resolve.{last_under}
use Rattle.finishes.specs.Finish.{rank}

-- the frame is a record that number 5 passes
pub record IsRecord (v : List ℕ) (w : Value) : Type 0 where
  pub passes : checked_value (decode_value v) ≡ ok w
  pub kind : kind_of w ≡ Kind.Record

-- its last `sail` is the String x, and its last `seq` a Long of rank n
pub record IsFinish (v : List ℕ) (x : Text) (n : ℕ) : Type 0 where
  pub tree : Value
  pub whole : IsRecord v tree
  pub sail : Value
  pub sail_there : last_under (ascii "sail") (entries tree) ≡ some sail
  pub sail_kind : kind_of sail ≡ Kind.String
  pub sail_is : octets sail ≡ x
  pub seq : Value
  pub seq_there : last_under (ascii "seq") (entries tree) ≡ some seq
  pub seq_kind : kind_of seq ≡ Kind.Long
  pub seq_is : rank (number seq) ≡ n

-- what 24 refuses
pub data NoFinish (v : List ℕ) : Type 0 where
  -- number 5 would stop it
  stopped : checked_value (decode_value v) ≡ stop 5 → NoFinish v
  -- it is no record
  no_record : (w : Value) → checked_value (decode_value v) ≡ ok w → (kind_of w ≡ Kind.Record → ⊥) → NoFinish v
  -- it lacks a field
  lacks_sail : (w : Value) → IsRecord v w → last_under (ascii "sail") (entries w) ≡ none → NoFinish v
  lacks_seq : (w : Value) → IsRecord v w → last_under (ascii "seq") (entries w) ≡ none → NoFinish v
  -- it has the wrong kind in one
  wrong_sail : (w s : Value) → IsRecord v w → last_under (ascii "sail") (entries w) ≡ some s → (kind_of s ≡ Kind.String → ⊥) → NoFinish v
  wrong_seq : (w s : Value) → IsRecord v w → last_under (ascii "seq") (entries w) ≡ some s → (kind_of s ≡ Kind.Long → ⊥) → NoFinish v
