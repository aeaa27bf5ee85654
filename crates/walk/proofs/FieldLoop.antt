-- The loop over the fields of a record schema: those to come are sound, and their defaults short.
use Prim.Native.Nat.{ℕ, ◌+◌, ◌-◌, ◌≤◌, ◌<◌, min}
use mathlib.Core.Path.{◌≡◌, refl, sym, ap, ◌∙◌, subst}
use mathlib.Core.Bool.{Bool, true, false}
use native.Mathlib.Omega.{arith}
use mathlib.Core.List.{List, ◌∷◌, ◌++◌}
use mathlib.Core.Option.{some}
use lib.Dec.{T, leb}
use lib.ListN.{length, get_or, take, drop}
use Rattle.number.specs.Number.{all_bytes, number_at}
use Rattle.text.specs.Read.{Read}
use Rattle.text.specs.Measured.{Reads}
use Rattle.frame.specs.Readers.{read_many}
use Rattle.frame.specs.Checks.{Spans}
use Rattle.frame.specs.ValueFrame.{read_value}
use Rattle.frame.specs.SchemaFrame.{Field, read_field, read_schema}
use borrow.Author.Tests.{leb-true, leb-false}
use Rattle.frame.proofs.Reading.{bind-some, read-what}
use Rattle.frame.proofs.Counting.{Split, many-split, many-zero}
use Rattle.types.specs.Contract.{on_read, on_both}
use Rattle.buffer.specs.Built.{Built, Wrote}
use Rattle.std.specs.Prelude.{Ok}
use Rattle.find.specs.Find.{Keyed}
use Rattle.walk.specs.Contract.{ReadyField, field_bytes}
use Rattle.variants.specs.Ways.{Ready}
use Rattle.leaf.specs.Leaf.{peeled_bytes}
use Rattle.walk.proofs.Pieces.{on_second, Loop, going_start, loop-reach, loop-tail}
use Rattle.walk.proofs.ChildBytes.{FineFields, fine-none, fine-first, fine-rest, fields-fine, fields-long, fields-others, fields-start}

abbrev FieldReads : ℕ → List ℕ → ℕ → ℕ → Read (List Field)
FieldReads ds s left from = read_many (read_field (read_schema (ds - 1))) left (drop from s)

pub record FieldLoop (s v : List ℕ) (ds dv len : ℕ) (out : List ℕ) (left at from : ℕ) : Type 0 where
  pub loop : Loop (read_field (read_schema (ds - 1))) (on_both peeled_bytes (read_schema ds s) (read_value dv v)) (on_second field_bytes (read_value dv v)) s len out left at from
  pub fine : (xs : List Field) (u : List ℕ) → FieldReads ds s left from ≡ some (xs, u) → FineFields xs

pub fields-begin : (s v : List ℕ) (ds dv n at : ℕ) (out : List ℕ) (r : Ready ds s) (pv : Reads (read_value dv v)) (es : get_or s 0 0 ≡ 11) → T (all_bytes s) → T (all_bytes v) → Keyed v → n ≡ number_at s 1 2
    → Built (take 3 s) out at → FieldLoop s v ds dv (length out) out n at 3
fields-begin s v ds dv n at out r pv es b c ev hn w = record {
  loop = record {
    inside = fields-long ds s r es;
    others = fields-others ds s r es dv v pv b c ev n hn;
    same = refl;
    going = going_start _ (take 3 s) out at _ w (fields-start ds s r es dv v pv b c ev n hn);
  };
  fine = fields-fine ds s r es n hn;
}

module _ (s v : List ℕ) (ds dv len : ℕ) (out : List ℕ) (left at from : ℕ) (w : FieldLoop s v ds dv len out left at from) (h : 0 < left) where
  abbrev next : Split (read_field (read_schema (ds - 1))) left (drop from s)
  next = many-split (read_field (read_schema (ds - 1))) left (drop from s) w.loop.others h

  joined : (xs : List Field) (u : List ℕ) → read_many (read_field (read_schema (ds - 1))) (left - 1) next.tail ≡ some (xs, u) → FineFields (next.item ∷ xs)
  joined xs u e = w.fine (next.item ∷ xs) u (next.joins ∙ bind-some _ _ xs u e)

  pub fields-ready : ReadyField (ds - 1) (drop from s)
  unfolding Reads
  fields-ready =
      let o = next.others in
      let f = fine-first next.item o.0 (joined o.0 o.1.0 o.1.1) in
      record {
        name = next.item.0;
        default = next.item.1;
        tree = next.item.2;
        rest = next.tail;
        reads = next.first;
        sound = f.0;
        short = f.1.0;
        start = f.1.1;
      }

  pub fields-step : (m : ℕ) → m ≤ length (drop from s) → (1 < left → Spans (read_field (read_schema (ds - 1)) (drop from s)) (drop from s) m) → (k a r : ℕ) (z : List ℕ) → k ≡ min at (length out)
      → length z ≡ length (take (length out - k) (drop k out)) → Wrote (on_read (on_second field_bytes (read_value dv v)) (read_field (read_schema (ds - 1)) (drop from s))) z (Ok a) → r ≡ min (at + a) 65536
      → FieldLoop s v ds dv len (take k out ++ (z ++ drop (length out - k) (drop k out))) (left - 1) r (from + m)
  fields-step m g u k a r z hk l hw hr = record {
    loop = loop-reach _ _ _ s len out left at from w.loop h m g u k a r z hk l hw hr;
    fine = λ xs t e. go xs t e (leb left 1) refl;
  }
    where
      go : (xs : List Field) (t : List ℕ) → FieldReads ds s (left - 1) (from + m) ≡ some (xs, t) → (b : Bool) → leb left 1 ≡ b → FineFields xs
      go xs t e true q = subst FineFields (sym (read-what (sym e ∙ many-zero _ (left - 1) (drop (from + m) s) (omega (arith, leb-true left 1 q))))) fine-none
      go xs t e false q =
          fine-rest next.item xs (joined xs t (ap (read_many (read_field (read_schema (ds - 1))) (left - 1)) (loop-tail _ _ _ s len out left at from w.loop h m (u (leb-false left 1 q))) ∙ e))
