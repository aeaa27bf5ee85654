-- Schemas without children: the tree that each kind byte gives, how many bytes such a schema has, and what resolution
-- against it makes of a value.
use Prim.Native.Nat.{ℕ, ◌+◌, ◌-◌, ◌≤◌, ◌<◌}
use mathlib.Core.Path.{◌≡◌, refl, sym, ap, ◌∙◌, subst}
use mathlib.Core.List.{List}
use mathlib.Core.Option.{Option, none, some}
use mathlib.Core.Bool.{Bool, true, false}
use native.Mathlib.Omega.{arith, by_contra}
use native.Mathlib.Nat.{add-zero}
use lib.Dec.{leb}
use lib.ListN.{length, get_or, take, drop, length-drop}
use lib.Seq.{drop-drop, get_or-drop}
use borrow.Author.Tests.{leb-true, leb-false}
use Rattle.std.specs.Prelude as std
use Rattle.base.specs.Base.{Result}
use Rattle.base.specs.declared.refusal.Refusal.{Refusal}
use Rattle.number.specs.Number.{big_endian, number_at}
use Rattle.text.specs.Text.{Text}
use Rattle.text.specs.Read.{Read, read_number}
use Rattle.text.specs.Measured.{Reads}
use Rattle.text.proofs.ReadLaws.{read_number-some, read_number-none}
use Rattle.frame.specs.Tree.{Value, Schema, UuidForm, peel}
use Rattle.frame.specs.Readers.{read_option}
use Rattle.frame.specs.SchemaFrame.{read_symbols, read_formed, read_schema_content, read_schema}
use Rattle.frame.proofs.Reading.{map-inv, not-reads, option-empty, option-zero, option-one-none, option-one-some, option-other}
use Rattle.frame.proofs.SchemaNodes.{schema-opened}
use Rattle.buffer.specs.Built.{Wrote}
use Rattle.types.specs.Types.{Outcome, resolve_plain, resolve_bytes, resolve_string, resolve_fixed, resolve_decimal, resolve_uuid, resolve_duration}
use Rattle.types.specs.Contract.{encoded, on_read, on_both}
use Rattle.symbols.specs.Search.{resolve_enum_at}
use Rattle.avro.specs.Resolve.{resolve}
use Rattle.schema_parts.proofs.Leaves.{fixed-got, fixed-none, decimal-none, decimal-got, decimal-later, uuid-empty, uuid-bytes, uuid-string, uuid-short, uuid-fixed, uuid-other, duration-got, duration-none, plain-low, plain-high, kind_past}
use Rattle.leaf.specs.Leaf.{Childless, resolve_peeled, peeled_bytes}

-- ---- answers

pub wrote-eq : (x y : Result (List ℕ)) (o : List ℕ) (r : std.Result ℕ Refusal) → x ≡ y → Wrote y o r → Wrote x o r
wrote-eq x y o r e w = subst (λ u. Wrote u o r) (sym e) w

-- ---- trees and lengths

module _ (d : ℕ) (s : List ℕ) (p : Reads (read_schema d s)) where
  never : (k : ℕ) → get_or s 0 0 ≡ k → read_schema_content (read_schema (d - 1)) k (drop 1 s) ≡ none → ⊥
  never k e g = not-reads _ (schema-opened d s p k e ∙ g) p

  -- the byte at n
  byte_at : (n : ℕ) → get_or (drop n s) 0 0 ≡ get_or s n 0
  byte_at n = get_or-drop n s 0 0 ∙ ap (λ m. get_or s m 0) (add-zero n)

  plain-tree : (k : ℕ) → get_or s 0 0 ≡ k → k ≤ 24 → (7 < k → 16 ≤ k) → read_schema d s ≡ some (Schema.Plain k, drop 1 s)
  plain-tree k e h g = schema-opened d s p k e ∙ go (leb k 7) refl
    where
      go : (b : Bool) → leb k 7 ≡ b → read_schema_content (read_schema (d - 1)) k (drop 1 s) ≡ some (Schema.Plain k, drop 1 s)
      go true q = plain-low _ _ _ k (omega (arith, leb-true k 7 q))
      go false q = plain-high _ _ _ k (omega (arith, g (leb-false k 7 q))) (omega arith)

  -- every kind byte is at most Duration's
  kind-small : get_or s 0 0 ≤ 25
  kind-small = by_contra (get_or s 0 0) 25 (λ h. never _ refl (kind_past _ _ _ _ h))

  pub kind-below : (get_or s 0 0 ≡ 25 → ⊥) → get_or s 0 0 ≤ 24
  kind-below f = by_contra (get_or s 0 0) 24 (λ h. f (omega (arith, kind-small)))

  -- ---- Fixed

  module _ (e : get_or s 0 0 ≡ 13) where
    pub fixed-long : 3 ≤ length s
    fixed-long =
        let h : 2 ≤ length (drop 1 s) = by_contra _ _ (λ h. never 13 e (fixed-none _ _ _ h)) in
        omega (arith, length-drop 1 s)

    fixed-tree : read_schema d s ≡ some (Schema.Fixed (number_at s 1 2), drop 2 (drop 1 s))
    fixed-tree = schema-opened d s p 13 e ∙ fixed-got _ _ _ (omega (arith, length-drop 1 s, fixed-long))

  -- ---- Duration

  module _ (e : get_or s 0 0 ≡ 25) where
    duration-tree : read_schema d s ≡ some (Schema.Duration (number_at s 1 2), drop 2 (drop 1 s))
    duration-tree = schema-opened d s p 25 e ∙ duration-got _ _ _ (by_contra _ _ (λ h. never 25 e (duration-none _ _ _ h)))

  -- ---- Decimal

  module _ (e : get_or s 0 0 ≡ 14) where
    decimal-head : 8 ≤ length (drop 1 s)
    decimal-head = by_contra _ _ (λ h. never 14 e (decimal-none _ _ _ h))

    option-never : read_option (read_number 2) (drop 9 s) ≡ none → ⊥
    option-never g = never 14 e (decimal-later _ _ _ decimal-head (ap (read_option (read_number 2)) (drop-drop 8 1 s) ∙ g))

    decimal-flag : 1 ≤ length (drop 9 s)
    decimal-flag = by_contra _ _ (λ h. option-never (option-empty _ _ (omega arith)))

    pub decimal-long : 9 < length s
    decimal-long = omega (arith, length-drop 9 s, decimal-flag)

    decimal-tree : (n : Option ℕ) (m : ℕ) → read_option (read_number 2) (drop 9 s) ≡ some (n, drop m (drop 9 s)) → read_schema d s ≡ some (Schema.Decimal (number_at s 1 4) (number_at s 5 4) n, drop (8 + m) (drop 1 s))
    decimal-tree n m g =
        schema-opened d s p 14 e
        ∙ decimal-got _ _ _ decimal-head n m (ap (read_option (read_number 2)) (drop-drop 8 1 s) ∙ g ∙ ap (λ u. some (n, drop m u)) (sym (drop-drop 8 1 s)))
        ∙ ap (λ u. some (Schema.Decimal (number_at s 1 4) (big_endian (take 4 u)) n, drop (8 + m) (drop 1 s))) (drop-drop 4 1 s)

    unsized-flag : (get_or s 9 0 ≡ 1 → ⊥) → get_or s 9 0 ≡ 0
    unsized-flag f = omega (arith, by_contra (get_or s 9 0) 1 (λ h. option-never (option-other _ _ decimal-flag (λ q. omega (arith, byte_at 9)) (λ q. omega (arith, byte_at 9)))), f)

    unsized-tree : (get_or s 9 0 ≡ 1 → ⊥) → read_schema d s ≡ some (Schema.Decimal (number_at s 1 4) (number_at s 5 4) none, drop (8 + 1) (drop 1 s))
    unsized-tree f = decimal-tree none 1 (option-zero _ _ decimal-flag (byte_at 9 ∙ unsized-flag f))

    module _ (h : get_or s 9 0 ≡ 1) where
      size-head : 2 ≤ length (drop 10 s)
      size-head = by_contra _ _ (λ g. option-never (option-one-none _ _ decimal-flag (byte_at 9 ∙ h) (ap (read_number 2) (drop-drop 1 9 s) ∙ read_number-none 2 (drop 10 s) g)))

      pub sized-long : 12 ≤ length s
      sized-long = omega (arith, length-drop 10 s, size-head)

      sized-tree : read_schema d s ≡ some (Schema.Decimal (number_at s 1 4) (number_at s 5 4) (some (number_at s 10 2)), drop (8 + 3) (drop 1 s))
      sized-tree = decimal-tree (some (number_at s 10 2)) 3 (option-one-some _ _ decimal-flag (byte_at 9 ∙ h) (number_at s 10 2) 2 (ap (read_number 2) (drop-drop 1 9 s) ∙ read_number-some 2 (drop 10 s) size-head ∙ ap (λ u. some (number_at s 10 2, drop 2 u)) (sym (drop-drop 1 9 s))))

  -- ---- Uuid

  module _ (e : get_or s 0 0 ≡ 15) where
    form-head : 1 ≤ length (drop 1 s)
    form-head = by_contra _ _ (λ h. never 15 e (uuid-empty _ _ _ (omega arith)))

    pub uuid-long : 1 < length s
    uuid-long = omega (arith, length-drop 1 s, form-head)

    bytes-tree : get_or s 1 0 ≡ 0 → read_schema d s ≡ some (Schema.Uuid UuidForm.bytes, drop 1 (drop 1 s))
    bytes-tree h = schema-opened d s p 15 e ∙ uuid-bytes _ _ _ form-head (byte_at 1 ∙ h)

    string-tree : get_or s 1 0 ≡ 1 → read_schema d s ≡ some (Schema.Uuid UuidForm.string, drop 1 (drop 1 s))
    string-tree h = schema-opened d s p 15 e ∙ uuid-string _ _ _ form-head (byte_at 1 ∙ h)

    module _ (f : get_or s 1 0 ≡ 0 → ⊥) (g : get_or s 1 0 ≡ 1 → ⊥) where
      form-two : get_or (drop 1 s) 0 0 ≡ 2
      form-two = omega (arith, by_contra 2 (get_or s 1 0) (λ h. omega arith), by_contra (get_or s 1 0) 2 (λ h. never 15 e (uuid-other _ _ _ form-head (λ q. omega (arith, byte_at 1)) (λ q. omega (arith, byte_at 1)) (λ q. omega (arith, byte_at 1)))), byte_at 1)

      form-size : 3 ≤ length (drop 1 s)
      form-size = by_contra _ _ (λ h. never 15 e (uuid-short _ _ _ form-head h (omega (arith, form-two))))

      pub uuid-fixed-long : 4 ≤ length s
      uuid-fixed-long = omega (arith, length-drop 1 s, form-size)

      uuid-fixed-tree : read_schema d s ≡ some (Schema.Uuid (UuidForm.fixed (number_at s 2 2)), drop 3 (drop 1 s))
      uuid-fixed-tree = schema-opened d s p 15 e ∙ uuid-fixed _ _ _ form-size form-two ∙ ap (λ u. some (Schema.Uuid (UuidForm.fixed (big_endian (take 2 u))), drop 3 (drop 1 s))) (drop-drop 1 1 s)

  -- ---- Enum

  module _ (e : get_or s 0 0 ≡ 12) where
    enum-tree : (t : Schema) (r : List ℕ) → read_schema d s ≡ some (t, r) → (ss : List Text) × ((q : Option Text) × (t ≡ Schema.Enum ss q))
    unfolding read_formed
    enum-tree t r g =
        let i = map-inv (λ q. Schema.Enum q.0 q.1) (read_symbols (drop 1 s)) t r (sym (schema-opened d s p 12 e) ∙ g) in
        (i.0.0, (i.0.1, i.1.1))

-- ---- outcomes

both_some : {A B C : Type 0} (f : A → B → Result C) (x : A × List ℕ) (y : Read B) → on_read (f x.0) y ≡ on_both f (some x) y
unfolding on_both on_read
both_some f x none = refl
both_some f x (some z) = refl

-- against a schema whose resolution is f
outcome : (f : Value → Outcome) (t : Schema) (r : List ℕ) (x : Read Schema) (y : Read Value) → x ≡ some (t, r) → ((w : Value) → resolve_peeled t w ≡ f w) → on_both peeled_bytes x y ≡ on_read (λ w. encoded (f w)) y
unfolding on_both on_read peeled_bytes
outcome f t r x none e g = rw e
outcome f t r x (some z) e g = rw (e, g z.0)

module _ (ds : ℕ) (s : List ℕ) (p : Reads (read_schema ds s)) (y : Read Value) where
  kind-outcome : (k : ℕ) → get_or s 0 0 ≡ k → k ≤ 24 → (7 < k → 16 ≤ k) → on_both peeled_bytes (read_schema ds s) y ≡ on_read (λ w. encoded (resolve_plain k w)) y
  unfolding resolve_peeled resolve peel
  kind-outcome k e h g = outcome _ _ _ _ y (plain-tree ds s p k e h g) (λ w. refl)

  pub bytes-outcome : get_or s 0 0 ≡ 6 → on_both peeled_bytes (read_schema ds s) y ≡ on_read (λ w. encoded (resolve_bytes w)) y
  unfolding resolve_plain
  bytes-outcome e = kind-outcome 6 e (omega arith) (λ h. omega arith)

  pub string-outcome : get_or s 0 0 ≡ 7 → on_both peeled_bytes (read_schema ds s) y ≡ on_read (λ w. encoded (resolve_string w)) y
  unfolding resolve_plain
  string-outcome e = kind-outcome 7 e (omega arith) (λ h. omega arith)

  pub plain-outcome : get_or s 0 0 ≤ 24 → (5 < get_or s 0 0 → 16 ≤ get_or s 0 0) → on_both peeled_bytes (read_schema ds s) y ≡ on_read (λ w. encoded (resolve_plain (get_or s 0 0) w)) y
  plain-outcome h g = kind-outcome (get_or s 0 0) refl h (λ q. g (omega arith))

  pub fixed-outcome : get_or s 0 0 ≡ 13 → (n : ℕ) → n ≡ number_at s 1 2 → on_both peeled_bytes (read_schema ds s) y ≡ on_read (λ w. encoded (resolve_fixed n w)) y
  unfolding resolve_peeled resolve peel
  fixed-outcome e n h = outcome _ _ _ _ y (fixed-tree ds s p e) (λ w. ap (λ m. resolve_fixed m w) (sym h))

  pub duration-outcome : get_or s 0 0 ≡ 25 → on_both peeled_bytes (read_schema ds s) y ≡ on_read (λ w. encoded (resolve_duration w)) y
  unfolding resolve_peeled resolve peel
  duration-outcome e = outcome _ _ _ _ y (duration-tree ds s p e) (λ w. refl)

  module _ (e : get_or s 0 0 ≡ 14) (a b : ℕ) (ha : a ≡ number_at s 1 4) (hb : b ≡ number_at s 5 4) where
    pub unsized-outcome : (get_or s 9 0 ≡ 1 → ⊥) → on_both peeled_bytes (read_schema ds s) y ≡ on_read (λ w. encoded (resolve_decimal a b none w)) y
    unfolding resolve_peeled resolve peel
    unsized-outcome f = outcome _ _ _ _ y (unsized-tree ds s p e f) (λ w. rw (ha, hb))

    pub sized-outcome : get_or s 9 0 ≡ 1 → (n : ℕ) → n ≡ number_at s 10 2 → on_both peeled_bytes (read_schema ds s) y ≡ on_read (λ w. encoded (resolve_decimal a b (some n) w)) y
    unfolding resolve_peeled resolve peel
    sized-outcome h n hn = outcome _ _ _ _ y (sized-tree ds s p e h) (λ w. rw (ha, hb, hn))

  module _ (e : get_or s 0 0 ≡ 15) where
    pub uuid-bytes-outcome : get_or s 1 0 ≡ 0 → on_both peeled_bytes (read_schema ds s) y ≡ on_read (λ w. encoded (resolve_uuid UuidForm.bytes w)) y
    unfolding resolve_peeled resolve peel
    uuid-bytes-outcome h = outcome _ _ _ _ y (bytes-tree ds s p e h) (λ w. refl)

    pub uuid-string-outcome : get_or s 1 0 ≡ 1 → on_both peeled_bytes (read_schema ds s) y ≡ on_read (λ w. encoded (resolve_uuid UuidForm.string w)) y
    unfolding resolve_peeled resolve peel
    uuid-string-outcome h = outcome _ _ _ _ y (string-tree ds s p e h) (λ w. refl)

    pub uuid-fixed-outcome : (get_or s 1 0 ≡ 0 → ⊥) → (get_or s 1 0 ≡ 1 → ⊥) → (n : ℕ) → n ≡ number_at s 2 2 → on_both peeled_bytes (read_schema ds s) y ≡ on_read (λ w. encoded (resolve_uuid (UuidForm.fixed n) w)) y
    unfolding resolve_peeled resolve peel
    uuid-fixed-outcome f g n h = outcome _ _ _ _ y (uuid-fixed-tree ds s p e f g) (λ w. ap (λ m. resolve_uuid (UuidForm.fixed m) w) (sym h))

  pub enum-outcome : get_or s 0 0 ≡ 12 → on_both peeled_bytes (read_schema ds s) y ≡ on_both (λ t w. encoded (resolve_enum_at t w)) (read_schema ds s) y
  unfolding Reads on_both on_read resolve_peeled resolve peel resolve_enum_at
  enum-outcome e =
      let i = enum-tree ds s p e p.0 p.1.0 p.1.1 in
      let q : read_schema ds s ≡ some (Schema.Enum i.0 i.1.0, p.1.0) = p.1.1 ∙ ap (λ t. some (t, p.1.0)) i.1.1 in
      outcome _ _ _ _ y q (λ w. refl) ∙ rw q (both_some {A = Schema} (λ t w. encoded (resolve_enum_at t w)) (Schema.Enum i.0 i.1.0, p.1.0) y)

-- ---- kinds

next : (n k : ℕ) → n ≤ k → (k ≡ n → ⊥) → n + 1 ≤ k
next n k h f = by_contra (n + 1) k (λ g. f (omega arith))

-- the kind of a schema without content and without children, other than Bytes and String
pub plain-kind : (s : List ℕ) → Childless s → (get_or s 0 0 ≡ 6 → ⊥) → (get_or s 0 0 ≡ 7 → ⊥) → (get_or s 0 0 ≡ 12 → ⊥) → (get_or s 0 0 ≡ 13 → ⊥) → (get_or s 0 0 ≡ 14 → ⊥) → (get_or s 0 0 ≡ 15 → ⊥) → 5 < get_or s 0 0 → 16 ≤ get_or s 0 0
plain-kind s w f6 f7 f12 f13 f14 f15 h =
    let h8 : 8 ≤ get_or s 0 0 = next 7 _ (next 6 _ h f6) f7 in
    let h10 : 10 ≤ get_or s 0 0 = next 9 _ (next 8 _ h8 w.no_array) w.no_map in
    let h12 : 12 ≤ get_or s 0 0 = next 11 _ (next 10 _ h10 w.no_union) w.no_fields in
    let h14 : 14 ≤ get_or s 0 0 = next 13 _ (next 12 _ h12 f12) f13 in
    next 15 _ (next 14 _ h14 f14) f15
