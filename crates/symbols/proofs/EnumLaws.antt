-- Enum schemas and values as they stand in frames, and the ways of resolve_enum.
use Prim.Native.Nat.{ℕ, ◌/◌, ◌%◌, ◌^◌, ◌≤◌, ◌<◌}
use mathlib.Core.Path.{◌≡◌, refl, sym, ap, ◌∙◌, subst}
use mathlib.Core.List.{List, [], ◌∷◌, ◌++◌}
use mathlib.Core.Option.{Option, some}
use native.Mathlib.Omega.{arith}
use borrow.Author.Tests.{ne_eqb}
use lib.Dec.{T}
use lib.ListN.{length, get_or, drop, length-drop}
use lib.Seq.{drop-drop}
use Rattle.std.specs.Prelude as std
use Rattle.std.specs.Prelude.{Err}
use Rattle.base.specs.declared.refusal.Refusal.{Refusal}
use Rattle.base.specs.declared.refusal.Refusal.TheVariants.{Unsuited}
use Rattle.number.specs.Number.{all_bytes, number_at, bytes_of}
use Rattle.text.specs.Text.{Text}
use Rattle.text.specs.Read.{◌>>=◌, read_number, read_counted, read_text}
use Rattle.text.specs.Measured.{Reads}
use Rattle.text.proofs.ReadLaws.{read_number-some, read_text-counted, reads-text}
use Rattle.frame.specs.Kind
use Rattle.frame.specs.Tree.{Value, Schema, kind_of, octets}
use Rattle.frame.specs.ValueFrame.{symbol, read_content, read_value, write_text}
use Rattle.frame.specs.SchemaFrame.{read_symbols, read_formed, read_schema}
use Rattle.frame.proofs.Reading.{bind-some, map_read, map-inv, reads_first, reads-number}
use Rattle.frame.proofs.ValueNodes.{value_there, value-content, value-kind}
use Rattle.frame.proofs.SchemaNodes.{schema-opened}
use Rattle.buffer.specs.Built.{Built, Wrote}
use Rattle.types.specs.Types.{validate_symbol, resolve_enum}
use Rattle.types.specs.Contract.{encoded, on_read, on_both}
use Rattle.symbols.specs.Search.{resolve_enum_at}
use Rattle.types.proofs.Contents.{enum-content}
use Rattle.types.proofs.NodeLaws.{wrote-stop}
use Rattle.types.proofs.PartLaws.{length-bytes}

-- ---- the schema's node

-- what an Enum schema holds
record EnumSchema (ds : ℕ) (s : List ℕ) : Type 0 where
  ss : List Text
  d : Option Text
  r : List ℕ
  symbols : read_symbols (drop 1 s) ≡ some ((ss, d), r)
  schema : read_schema ds s ≡ some (Schema.Enum ss d, r)

enum-schema : (ds : ℕ) (s : List ℕ) → Reads (read_schema ds s) → get_or s 0 0 ≡ Kind.Enum → EnumSchema ds s
unfolding read_formed Reads
enum-schema ds s p e =
    let v = map-inv (λ q. Schema.Enum q.0 q.1) (read_symbols (drop 1 s)) p.0 p.1.0 (sym (schema-opened ds s p 12 e) ∙ p.1.1) in
    record { ss = v.0.0; d = v.0.1; r = p.1.0; symbols = v.1.0; schema = p.1.1 ∙ ap (λ t. some (t, p.1.0)) v.1.1 }

module _ (ds : ℕ) (s : List ℕ) (p : Reads (read_schema ds s)) (h : get_or s 0 0 ≡ Kind.Enum) where
  pub schema-symbols : Reads (read_symbols (drop 1 s))
  unfolding Reads
  schema-symbols = let y = enum-schema ds s p h in ((y.ss, y.d), (y.r, y.symbols))

  module _ (d : ℕ) (v : List ℕ) (w : Value) (r : List ℕ) (e : read_value d v ≡ some (w, r)) (o : List ℕ) (a : std.Result ℕ Refusal) where
    -- a value with a symbol
    pub enum-way : (t : Text) → ((ss : List Text) (q : Option Text) → resolve_enum ss q w ≡ validate_symbol ss q t) → Wrote (on_read (λ e. encoded (validate_symbol e.0 e.1 t)) (read_symbols (drop 1 s))) o a
        → Wrote (on_both (λ t w. encoded (resolve_enum_at t w)) (read_schema ds s) (read_value d v)) o a
    unfolding on_read on_both resolve_enum_at
    enum-way t g k =
        let y = enum-schema ds s p h in
        rw y.schema (rw e (rw (g y.ss y.d) (rw y.symbols at k)))

  -- a value of another kind
  pub enum-other : (d : ℕ) (v : List ℕ) (o : List ℕ) → Reads (read_value d v) → T (all_bytes v) → (get_or v 0 0 ≡ Kind.Enum → ⊥) → (get_or v 0 0 ≡ Kind.String → ⊥)
      → Wrote (on_both (λ t w. encoded (resolve_enum_at t w)) (read_schema ds s) (read_value d v)) o (Err Unsuited)
  unfolding on_read on_both resolve_enum_at resolve_enum encoded Reads
  enum-other d v o q b f g =
      let y = enum-schema ds s p h in
      let k : kind_of q.0 ≡ get_or v 0 0 = value-kind d v b q.0 q.1.0 q.1.1 in
      wrote-stop _ o Unsuited (rw y.schema (rw q.1.1 (rw (k, ne_eqb (get_or v 0 0) 12 f, ne_eqb (get_or v 0 0) 7 g))))

pub string-symbol : (t : Text) (ss : List Text) (q : Option Text) → resolve_enum ss q (Value.Octets Kind.String t) ≡ validate_symbol ss q t
unfolding resolve_enum kind_of octets
string-symbol t ss q = refl

pub enum-symbol : (i : ℕ) (t : Text) (ss : List Text) (q : Option Text) → resolve_enum ss q (Value.Enum i t) ≡ validate_symbol ss q t
unfolding resolve_enum kind_of octets
enum-symbol i t ss q = refl

-- ---- an Enum value's node

module _ (d : ℕ) (v : List ℕ) (p : Reads (read_value d v)) (h : get_or v 0 0 ≡ Kind.Enum) where
  symbol-opened : read_value d v ≡ (read_number 4 (drop 1 v) >>= (λ x. map_read (Value.Enum x.0) (read_text x.1)))
  unfolding read_content
  symbol-opened = value-content d v p Kind.Enum symbol enum-content h

  pub symbol-there : 5 ≤ length v
  symbol-there = omega (arith, reads-number 4 (drop 1 v) (reads_first (read_number 4 (drop 1 v)) _ (subst Reads symbol-opened p)), length-drop 1 v, (value_there d v p).1)

  symbol-text : read_value d v ≡ map_read (Value.Enum (number_at v 1 4)) (read_text (drop 5 v))
  symbol-text =
      let l : 4 ≤ length (drop 1 v) = omega (arith, symbol-there, length-drop 1 v) in
      symbol-opened ∙ bind-some (read_number 4 (drop 1 v)) _ _ _ (read_number-some 4 (drop 1 v) l) ∙ ap (λ (l : List ℕ). map_read (Value.Enum (number_at v 1 4)) (read_text l)) (drop-drop 4 1 v)

  text-reads : Reads (read_text (drop 5 v))
  text-reads = reads_first (read_text (drop 5 v)) _ (subst Reads symbol-text p)

  pub symbol-counted : Reads (read_counted (drop 5 v))
  symbol-counted = reads-text (drop 5 v) text-reads

  pub symbol-node : (t r : List ℕ) → read_counted (drop 5 v) ≡ some (t, r) → read_value d v ≡ some (Value.Enum (number_at v 1 4) t, r)
  unfolding Reads ◌>>=◌
  symbol-node t r e =
      let q = text-reads in
      let z : read_text (drop 5 v) ≡ some (t, r) = q.1.1 ∙ sym (read_text-counted (drop 5 v) q.0 q.1.0 q.1.1).0 ∙ e in
      symbol-text ∙ rw z

-- ---- the node that is put together

-- an index below 65,536
index-bytes : (i : ℕ) → i < 65536 → 0 ∷ 0 ∷ i / 256 ∷ i % 256 ∷ [] ≡ bytes_of 4 i
unfolding bytes_of
index-bytes i h =
    let a : 0 ≡ i / 256 ^ 3 % 256 = omega arith in
    let b : 0 ≡ i / 256 ^ 2 % 256 = omega arith in
    let c : i / 256 ≡ i / 256 ^ 1 % 256 = omega arith in
    let d : i % 256 ≡ i / 256 ^ 0 % 256 = omega arith in
    cc

pub built-enum : (i : ℕ) (t o : List ℕ) (r : ℕ) → i < 65536 → length t < 65536 → Built (Kind.Enum ∷ 0 ∷ 0 ∷ i / 256 ∷ i % 256 ∷ length t / 256 ∷ length t % 256 ∷ t) o r
    → Built (Kind.Enum ∷ (bytes_of 4 i ++ write_text t)) o r
unfolding write_text
built-enum i t o r h l w =
    subst (λ (x : List ℕ). Built (Kind.Enum ∷ (x ++ (bytes_of 2 (length t) ++ t))) o r) (index-bytes i h)
    (subst (λ (x : List ℕ). Built (Kind.Enum ∷ 0 ∷ 0 ∷ i / 256 ∷ i % 256 ∷ (x ++ t)) o r) (length-bytes (length t) l) w)
