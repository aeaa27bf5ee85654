-- The parts of a field that was read, one behind the other, and the places where they begin. Assumes nothing.
use Prim.Native.Nat.{ℕ, ◌+◌, ◌≤◌, ◌<◌}
use mathlib.Core.Path.{◌≡◌, sym, ap, ◌∙◌}
use mathlib.Core.List.{List}
use mathlib.Core.Option.{Option, none, some}
use native.Mathlib.Omega.{arith}
use lib.ListN.{length, drop, get_or, length-drop}
use lib.Seq.{drop-drop, get_or-drop}
use Rattle.std.specs.Prelude.{Some, None}
use Rattle.text.specs.Text.{Text}
use Rattle.text.specs.Read.{Read, read_counted, read_text}
use Rattle.text.specs.Measured.{Reads}
use Rattle.text.proofs.ReadLaws.{read_text-counted}
use Rattle.frame.specs.Tree.{Value, Schema}
use Rattle.frame.specs.Readers.{read_option}
use Rattle.frame.specs.ValueFrame.{read_value}
use Rattle.frame.specs.SchemaFrame.{Under, read_field, read_schema_under}
use Rattle.frame.specs.Checks.{Spans}
use Rattle.frame.proofs.Reading.{read-what, read-rest, bind_inv, map-inv, reads-some, option-zero, option-one, option-long, option-is-one}
use Rattle.frame.proofs.Measuring.{spans-le}
use Rattle.field.specs.Parts.{DefaultAt, FieldPartsUnder}

-- ---- an optional thing that was read

module _ {A : Type 0} (p : List ℕ → Read A) (t : List ℕ) (d : Option A) (u : List ℕ) (e : read_option p t ≡ some (d, u)) where
  option-there : 1 ≤ length t
  option-there = option-long p t (reads-some d u e)

  -- 00: nothing
  option-nothing : get_or t 0 0 ≡ 0 → ◌≡◌ {A = Read (Option A)} (some (none, drop 1 t)) (some (d, u))
  option-nothing z = sym (option-zero p t option-there z) ∙ e

  -- 01: a thing of p
  option-thing : (get_or t 0 0 ≡ 0 → ⊥) → (a : A) × ((p (drop 1 t) ≡ some (a, u)) × (d ≡ some a))
  option-thing z = map-inv some (p (drop 1 t)) d u (sym (option-one p t option-there (option-is-one p t (reads-some d u e) z)) ∙ e)

-- ---- the parts of a field

record Parted (node : List ℕ → Read Schema) (s : List ℕ) : Type 0 where
  pub name : Text
  pub default : Option Value
  pub tree : Schema
  pub rest : List ℕ
  pub flagged : List ℕ
  pub behind : List ℕ
  pub whole : read_field node s ≡ some ((name, default, tree), rest)
  pub first : read_counted s ≡ some (name, flagged)
  pub second : read_option (read_value 16) flagged ≡ some (default, behind)
  pub third : node behind ≡ some (tree, rest)

parted : (node : List ℕ → Read Schema) (s : List ℕ) → Reads (read_field node s) → Parted node s
unfolding read_field Reads
parted node s r =
    let w = bind_inv (read_text s) _ (r.0, r.1.0) r.1.1 in
    let v = bind_inv (read_option (read_value 16) w.0.1) _ (r.0, r.1.0) w.1.1 in
    let k = bind_inv (node v.0.1) _ (r.0, r.1.0) v.1.1 in
    record {
      name = w.0.0;
      default = v.0.0;
      tree = k.0.0;
      rest = k.0.1;
      flagged = w.0.1;
      behind = v.0.1;
      whole = r.1.1 ∙ sym k.1.1;
      first = (read_text-counted s w.0.0 w.0.1 w.1.0).0;
      second = v.1.0;
      third = k.1.0;
    }

-- ---- where they begin: the flag stands at n

module _ (u : Under) (depth : ℕ) (s : List ℕ) (r : Reads (read_field (read_schema_under u depth) s)) (name : Text) (n : ℕ) (g : read_counted s ≡ some (name, drop n s)) where
  field : Parted (read_schema_under u depth) s
  field = parted (read_schema_under u depth) s r

  second_at : read_option (read_value 16) (drop n s) ≡ some (field.default, field.behind)
  second_at = ap (read_option (read_value 16)) (sym (read-rest (sym field.first ∙ g))) ∙ field.second

  pub flag-inside : n < length s
  flag-inside = omega (arith, option-there (read_value 16) (drop n s) _ _ second_at, length-drop n s)

  pub behind-inside : n + 1 ≤ length s
  behind-inside = omega (arith, flag-inside)

  flag-byte : get_or (drop n s) 0 0 ≡ get_or s n 0
  flag-byte = get_or-drop n s 0 0 ∙ ap (λ k. get_or s k 0) (omega arith)

  -- 00: the schema stands behind the flag
  module _ (z : get_or s n 0 ≡ 0) where
    no_default : ◌≡◌ {A = Read (Option Value)} (some (none, drop 1 (drop n s))) (some (field.default, field.behind))
    no_default = option-nothing (read_value 16) (drop n s) _ _ second_at (flag-byte ∙ z)

    pub parts_none : FieldPartsUnder u depth s (record { default = None; schema_at = n + 1 })
    unfolding DefaultAt
    parts_none = record {
      name = field.name;
      default = none;
      tree = field.tree;
      rest = field.rest;
      reads = field.whole ∙ ap (λ d. some ((field.name, d, field.tree), field.rest)) (sym (read-what no_default));
      default_at = tt;
      inside = behind-inside;
      schema_at = ap (read_schema_under u depth) (sym (drop-drop 1 n s) ∙ read-rest no_default) ∙ field.third;
    }

  -- 01: the default stands behind the flag, and the schema behind the default
  module _ (z : get_or s n 0 ≡ 0 → ⊥) where
    a-default : (a : Value) × ((read_value 16 (drop 1 (drop n s)) ≡ some (a, field.behind)) × (field.default ≡ some a))
    a-default = option-thing (read_value 16) (drop n s) _ _ second_at (λ e. z (sym flag-byte ∙ e))

    default-is : read_value 16 (drop (n + 1) s) ≡ some (a-default.0, field.behind)
    default-is = ap (read_value 16) (sym (drop-drop 1 n s)) ∙ a-default.1.0

    pub default-reads : Reads (read_value 16 (drop (n + 1) s))
    default-reads = reads-some a-default.0 field.behind default-is

    module _ (m : ℕ) (w : Spans (read_value 16 (drop (n + 1) s)) (drop (n + 1) s) m) where
      pub schema-inside : n + 1 + m ≤ length s
      schema-inside = omega (arith, spans-le _ _ m w, length-drop (n + 1) s, behind-inside)

      behind-is : drop (n + 1 + m) s ≡ field.behind
      unfolding Spans
      behind-is = sym (drop-drop m (n + 1) s) ∙ read-rest (sym w.1.1 ∙ default-is)

      pub parts-some : FieldPartsUnder u depth s (record { default = Some (n + 1); schema_at = n + 1 + m })
      unfolding DefaultAt
      parts-some = record {
        name = field.name;
        default = some a-default.0;
        tree = field.tree;
        rest = field.rest;
        reads = field.whole ∙ ap (λ d. some ((field.name, d, field.tree), field.rest)) a-default.1.1;
        default_at = (behind-inside, (field.behind, default-is));
        inside = schema-inside;
        schema_at = ap (read_schema_under u depth) behind-is ∙ field.third;
      }
