-- What an item is as a byte, by its node; and the loop over the items of an array.
use Prim.Native.Nat.{ℕ, ◌+◌, ◌-◌, ◌/◌, ◌%◌, ◌≤◌, ◌<◌}
use mathlib.Core.Path.{◌≡◌, refl, sym, ap, ◌∙◌, subst}
use mathlib.Core.List.{List, [], ◌∷◌, ◌++◌, append_assoc, append-nil}
use mathlib.Core.Option.{none, some}
use mathlib.Core.Logic.{◌⊎◌, inl, inr}
use native.Mathlib.Nat.{eq-or-lt_of_le}
use native.Mathlib.Omega.{arith}
use lib.ListN.{length, get_or, drop, length-drop, length-append}
use lib.Seq.{drop-drop}
use borrow.Author.Tests.{le-leb, lt-leb}
use Rattle.std.specs.Prelude as std
use Rattle.std.specs.Prelude.{Ok, Err}
use Rattle.base.specs.Base.{Result, ok, stop, after}
use Rattle.base.specs.Refusal.{number_of}
use Rattle.base.specs.declared.refusal.Refusal.{Refusal}
use Rattle.number.specs.Number.{number_at}
use Rattle.text.specs.Read.{Read, ◌>>=◌, read_number}
use Rattle.text.specs.Measured.{Reads}
use Rattle.text.proofs.ReadLaws.{read_number-some}
use Rattle.scalar.specs.Scalars.{content_of, refusal_of}
use Rattle.scalar.specs.declared.Scalar.{Scalar}
use Rattle.scalar.specs.declared.CastError.{CastError}
use Rattle.scalar.specs.declared.CastError.TheVariants.{Unsuited, OutOfRange}
use Rattle.frame.specs.Kind
use Rattle.frame.specs.Tree.{Value, kind_of, number, items, peel}
use Rattle.frame.specs.Readers.{read_many, read_list}
use Rattle.frame.specs.ValueFrame.{array, union, contents, kind_content, items_of, read_content, read_value}
use Rattle.frame.specs.Checks.{Spans}
use Rattle.frame.proofs.Reading.{bind-some, map_read, reads-some, reads-eq, not-reads, reads_first, reads-number}
use Rattle.frame.proofs.Counting.{many-suc, many-zero, list-many, reads-list}
use Rattle.frame.proofs.ValueNodes.{value-content}
use Rattle.buffer.specs.Built.{Built, Wrote}
use Rattle.types.specs.Types.{resolve_int, in_byte, int_byte, try_u8, byte_items, resolve_bytes}
use Rattle.types.specs.Contract.{encoded, on_read, value_of, cast_outcome}
use Rattle.types.proofs.Contents.{bytes-content, array-content}
use Rattle.types.proofs.NodeLaws.{wrote-ok, wrote-stop}
use Rattle.types.proofs.PartLaws.{encode-counted, built-counted}
use Rattle.value.proofs.NodeLaws.{array_of}
use Rattle.bytewise.specs.Items.{list_bytes, items_as_bytes}

-- ---- the kinds Bytes and String

pub six-or-seven : (k : ℕ) → 6 ≤ k → k ≤ 7 → (k ≡ 6) ⊎ (k ≡ 7)
six-or-seven k h l = go (eq-or-lt_of_le h)
  where
    go : (6 ≡ k) ⊎ (6 < k) → (k ≡ 6) ⊎ (k ≡ 7)
    go (inl e) = inl (sym e)
    go (inr g) = inr (omega arith)

-- ---- a byte

pub is_byte : (n : ℕ) → n ≤ 255 → ok n ≡ in_byte n
unfolding in_byte
is_byte n h = rw (le-leb n 255 h)

pub past-byte : (n : ℕ) → 255 < n → stop 8 ≡ in_byte n
unfolding in_byte
past-byte n h = rw (lt-leb n 255 h)

-- ---- a value as an Int

as_byte : (w : Value) (c : std.Result Scalar CastError) → cast_outcome c ≡ resolve_int w → int_byte w ≡ after (cast_outcome c) (λ n. in_byte (number n))
unfolding int_byte
as_byte w c e = ap (λ x. after x (λ n. in_byte (number n))) (sym e)

pub int_is : (w : Value) (s : Scalar) → cast_outcome (Ok s) ≡ resolve_int w → int_byte w ≡ in_byte (content_of s)
unfolding after cast_outcome value_of number
int_is w s e = as_byte w (Ok s) e

pub no-int : (w : Value) (x : CastError) → cast_outcome (Err x) ≡ resolve_int w → int_byte w ≡ stop (number_of (refusal_of x))
unfolding after cast_outcome
no-int w Unsuited e = as_byte w (Err Unsuited) e
no-int w OutOfRange e = as_byte w (Err OutOfRange) e

-- the answer for a value that was read
pub byte-answer : (f : Value → Result ℕ) (x : Read Value) (w : Value) (r : List ℕ) (y b : Result ℕ) → x ≡ some (w, r) → f w ≡ y → b ≡ y → b ≡ on_read f x
unfolding on_read
byte-answer f x w r y b e g h = h ∙ sym (ap (on_read f) e ∙ g)

-- ---- one Union peeled off

pub try-held : (i : ℕ) (w : Value) → try_u8 (Value.Union i w) ≡ int_byte w
unfolding try_u8 peel
try-held i w = refl

pub try-plain : (w : Value) → (kind_of w ≡ Kind.Union → ⊥) → try_u8 w ≡ int_byte w
unfolding try_u8 peel kind_of
try-plain (Value.Scalar k n) f = refl
try-plain (Value.Octets k b) f = refl
try-plain (Value.Enum i t) f = refl
try-plain (Value.Array vs) f = refl
try-plain (Value.Map es) f = refl
try-plain (Value.Record es) f = refl
try-plain (Value.Union i v) f = absurd (f refl)

content-Union : kind_content Kind.Union ≡ union
unfolding contents
content-Union = refl

-- a Union that was read, and what it holds
pub record Holding (d : ℕ) (s : List ℕ) : Type 0 where
  pub inside : 5 ≤ length s
  pub index : ℕ
  pub held : Value
  pub rest : List ℕ
  pub inner : read_value (d - 1) (drop 5 s) ≡ some (held, rest)
  pub outer : read_value d s ≡ some (Value.Union index held, rest)

module _ (d : ℕ) (s : List ℕ) (p : Reads (read_value d s)) where
  pub union-node : get_or s 0 0 ≡ Kind.Union → Holding d s
  unfolding read_content Reads
  union-node h =
      let q = value-content d s p Kind.Union union content-Union h in
      let r = reads-eq _ _ q p in
      let l : 4 ≤ length (drop 1 s) = reads-number 4 (drop 1 s) (reads_first (read_number 4 (drop 1 s)) _ r) in
      let e : read_number 4 (drop 1 s) ≡ some (number_at s 1 4, drop 5 s) = read_number-some 4 (drop 1 s) l ∙ rw (drop-drop 4 1 s) in
      let m : read_value d s ≡ map_read (Value.Union (number_at s 1 4)) (read_value (d - 1) (drop 5 s)) = q ∙ bind-some (read_number 4 (drop 1 s)) _ _ _ e in
      let g = reads_first (read_value (d - 1) (drop 5 s)) _ (reads-eq _ _ m p) in
      record {
        inside = omega (arith, length-drop 1 s);
        index = number_at s 1 4;
        held = g.0;
        rest = g.1.0;
        inner = g.1.1;
        outer = m ∙ bind-some (read_value (d - 1) (drop 5 s)) _ _ _ g.1.1;
      }

  pub union-answer : get_or s 0 0 ≡ Kind.Union → (x : List ℕ) → x ≡ drop 5 s → (b : Result ℕ) → b ≡ on_read int_byte (read_value (d - 1) x) → b ≡ on_read try_u8 (read_value d s)
  unfolding on_read
  union-answer h x l b e =
      let u = union-node h in
      let i : on_read int_byte (read_value (d - 1) x) ≡ int_byte u.held = ap (λ (z : List ℕ). on_read int_byte (read_value (d - 1) z)) l ∙ ap (on_read int_byte) u.inner in
      byte-answer try_u8 _ _ _ _ b u.outer (try-held u.index u.held) (e ∙ i)

  pub union-reads : get_or s 0 0 ≡ Kind.Union → (x : List ℕ) → x ≡ drop 5 s → Reads (read_value (d - 1) x)
  union-reads h x l = rw l (reads-some _ _ (union-node h).inner)

  -- the items of an Array
  array-node : get_or s 0 0 ≡ Kind.Array → read_value d s ≡ map_read array_of (read_list (read_value (d - 1)) (drop 1 s))
  unfolding read_content
  array-node h = value-content d s p Kind.Array array array-content h

  pub array-reads : get_or s 0 0 ≡ Kind.Array → (x : List ℕ) → x ≡ drop 1 s → Reads (read_list (read_value (d - 1)) x)
  array-reads h x l = rw l (reads_first (read_list (read_value (d - 1)) (drop 1 s)) _ (reads-eq _ _ (array-node h) p))

  pub array-answer : get_or s 0 0 ≡ Kind.Array → (x : List ℕ) → x ≡ drop 1 s → (o : List ℕ) (a : std.Result ℕ Refusal)
      → Wrote (on_read (λ vs. encoded (items_as_bytes vs)) (read_list (read_value (d - 1)) x)) o a → Wrote (on_read (λ w. encoded (resolve_bytes w)) (read_value d s)) o a
  unfolding on_read ◌>>=◌ items_as_bytes
  array-answer h x l o a w =
      subst (λ z. Wrote z o a)
      (ap (λ (y : List ℕ). on_read (λ vs. encoded (items_as_bytes vs)) (read_list (read_value (d - 1)) y)) l ∙ sym (ap (on_read (λ w. encoded (resolve_bytes w))) (array-node h) ∙ go (read_list (read_value (d - 1)) (drop 1 s)))) w
    where
      go : (y : Read (List Value)) → on_read (λ w. encoded (resolve_bytes w)) (map_read array_of y) ≡ on_read (λ vs. encoded (items_as_bytes vs)) y
      go none = refl
      go (some z) = refl

pub plain-answer : (d : ℕ) (s : List ℕ) (b : Result ℕ) → ((w : Value) (r : List ℕ) → read_value d s ≡ some (w, r) → kind_of w ≡ Kind.Union → ⊥) → b ≡ on_read int_byte (read_value d s)
    → b ≡ on_read try_u8 (read_value d s)
unfolding on_read
plain-answer d s b f e = e ∙ go (read_value d s) refl
  where
    go : (y : Read Value) → read_value d s ≡ y → on_read int_byte y ≡ on_read try_u8 y
    go none h = refl
    go (some z) h = sym (try-plain z.0 (f z.0 z.1 h))

-- ---- the loop over the items

-- an item in front of others
items-front : (a : Value) (y : Read (List Value)) (b : ℕ) → try_u8 a ≡ ok b → on_read list_bytes (map_read (λ xs. a ∷ xs) y) ≡ after (on_read list_bytes y) (λ t. ok (b ∷ t))
unfolding on_read ◌>>=◌ list_bytes items_of byte_items after
items-front a none b e = refl
items-front a (some z) b e = rw e

items-stopped : (a : Value) (y : Read (List Value)) (n : ℕ) → Reads y → try_u8 a ≡ stop n → on_read list_bytes (map_read (λ xs. a ∷ xs) y) ≡ stop n
unfolding on_read ◌>>=◌ list_bytes items_of byte_items after
items-stopped a none n r e = absurd (not-reads none refl r)
items-stopped a (some z) n r e = rw e

behind-done : (u : Result (List ℕ)) (done : List ℕ) (b : ℕ) → after (after u (λ t. ok (b ∷ t))) (λ t. ok (done ++ t)) ≡ after u (λ t. ok ((done ++ (b ∷ [])) ++ t))
unfolding after
behind-done (ok t) done b = ap ok (sym (append_assoc done (b ∷ []) t))
behind-done (stop n) done b = refl

-- what the answer says of the item that was read
byte-is : (x : Read Value) (a : Value) (r : List ℕ) (b : Result ℕ) → x ≡ some (a, r) → b ≡ on_read try_u8 x → try_u8 a ≡ b
unfolding on_read
byte-is x a r b e h = sym (h ∙ ap (on_read try_u8) e)

-- the loop has come to `at` with `left` items to go: the bytes of the items passed are in o behind the header
pub record Filling (p : List ℕ → Read Value) (s : List ℕ) (left at : ℕ) (o : List ℕ) (n : ℕ) : Type 0 where
  pub inside : at ≤ length s
  pub small : number_at s 0 2 < 65536
  pub done : List ℕ
  pub counts : length done + left ≡ number_at s 0 2
  pub reads : Reads (read_many p left (drop at s))
  pub outcome : on_read list_bytes (read_list p s) ≡ after (on_read list_bytes (read_many p left (drop at s))) (λ t. ok (done ++ t))
  pub built : Built (Kind.Bytes ∷ number_at s 0 2 / 256 ∷ number_at s 0 2 % 256 ∷ done) o n

pub filling-start : (p : List ℕ → Read Value) (s o : List ℕ) (k n : ℕ) → Reads (read_list p s) → k ≡ number_at s 0 2 → k < 65536 → Built (Kind.Bytes ∷ k / 256 ∷ k % 256 ∷ []) o n → Filling p s k 2 o n
unfolding after
filling-start p s o k n r e h w =
    let l = reads-list p s r in
    let m : read_list p s ≡ read_many p k (drop 2 s) = list-many p s l ∙ ap (λ j. read_many p j (drop 2 s)) (sym e) in
    record {
      inside = l;
      small = omega arith;
      done = [];
      counts = omega arith;
      reads = reads-eq _ _ m r;
      outcome = ap (on_read list_bytes) m ∙ same (on_read list_bytes (read_many p k (drop 2 s)));
      built = subst (λ (j : ℕ). Built (Kind.Bytes ∷ j / 256 ∷ j % 256 ∷ []) o n) e w;
    }
  where
    same : (u : Result (List ℕ)) → u ≡ after u (λ t. ok ([] ++ t))
    same (ok t) = refl
    same (stop i) = refl

module _ (p : List ℕ → Read Value) (s : List ℕ) (left at : ℕ) (o : List ℕ) (n : ℕ) (g : Filling p s left at o n) where
  pub filling-first : 0 < left → (x : List ℕ) → x ≡ drop at s → Reads (p x)
  filling-first h x l = rw l (reads_first (p (drop at s)) _ (reads-eq _ _ (many-suc p left (drop at s) h) g.reads))

  next : 0 < left → (a : Value) (r : List ℕ) → p (drop at s) ≡ some (a, r) → read_many p left (drop at s) ≡ map_read (λ xs. a ∷ xs) (read_many p (left - 1) r)
  next h a r e = many-suc p left (drop at s) h ∙ bind-some (p (drop at s)) _ a r e

  -- an item is a byte, which is written
  pub filling_step : 0 < left → (x : List ℕ) → x ≡ drop at s → (b m : ℕ) → ok b ≡ on_read try_u8 (p x) → (y : List ℕ) → y ≡ drop at s → Spans (p y) y m → (o' : List ℕ) (n' : ℕ)
      → ((c : List ℕ) → Built c o n → Built (c ++ (b ∷ [])) o' n') → Filling p s (left - 1) (at + m) o' n'
  unfolding Spans
  filling_step h x l b m e y k w o' n' f =
      let v : Spans (p (drop at s)) (drop at s) m = subst (λ (z : List ℕ). Spans (p z) z m) k w in
      let a = v.1.0 in
      let i : try_u8 a ≡ ok b = byte-is (p (drop at s)) a _ (ok b) v.1.1 (e ∙ ap (λ (z : List ℕ). on_read try_u8 (p z)) l) in
      let j : read_many p left (drop at s) ≡ map_read (λ xs. a ∷ xs) (read_many p (left - 1) (drop (at + m) s)) =
      next h a _ v.1.1 ∙ ap (λ r. map_read (λ xs. a ∷ xs) (read_many p (left - 1) r)) (drop-drop m at s) in
      record {
        inside = omega (arith, g.inside, v.0, length-drop at s);
        small = g.small;
        done = g.done ++ (b ∷ []);
        counts = omega (arith, g.counts, length-append g.done (b ∷ []));
        reads = reads_first (read_many p (left - 1) (drop (at + m) s)) _ (reads-eq _ _ j g.reads);
        outcome = g.outcome ∙ ap (λ (u : Result (List ℕ)). after u (λ t. ok (g.done ++ t))) (ap (on_read list_bytes) j ∙ items-front a _ b i) ∙ behind-done _ g.done b;
        built = f _ g.built;
      }

  -- an item is no byte
  pub filling-refused : 0 < left → (x : List ℕ) → x ≡ drop at s → (e : ℕ) → stop e ≡ on_read try_u8 (p x) → on_read list_bytes (read_list p s) ≡ stop e
  unfolding Reads after
  filling-refused h x l e q =
      let v = filling-first h (drop at s) refl in
      let i : try_u8 v.0 ≡ stop e = byte-is (p (drop at s)) v.0 _ (stop e) v.1.1 (q ∙ ap (λ (z : List ℕ). on_read try_u8 (p z)) l) in
      let j = next h v.0 _ v.1.1 in
      let k = reads_first (read_many p (left - 1) v.1.0) _ (reads-eq _ _ j g.reads) in
      g.outcome ∙ ap (λ (u : Result (List ℕ)). after u (λ t. ok (g.done ++ t))) (ap (on_read list_bytes) j ∙ items-stopped v.0 _ e k i)

  -- no item is left
  pub filling-end : left ≤ 0 → on_read list_bytes (read_list p s) ≡ ok g.done
  unfolding after on_read list_bytes items_of byte_items
  filling-end h =
      g.outcome
      ∙ ap (λ (u : Result (List ℕ)). after u (λ t. ok (g.done ++ t))) (ap (on_read list_bytes) (many-zero p left (drop at s) h))
      ∙ ap ok (append-nil g.done)

-- the outcome of all items, as a node
items-outcome : (y : Read (List Value)) → on_read (λ vs. encoded (items_as_bytes vs)) y ≡ encoded (after (on_read list_bytes y) (λ s. ok (Value.Octets Kind.Bytes s)))
unfolding on_read items_as_bytes resolve_bytes list_bytes encoded after kind_of items
items-outcome none = refl
items-outcome (some z) = refl

module _ (p : List ℕ → Read Value) (s : List ℕ) (left at : ℕ) (o : List ℕ) (n : ℕ) (g : Filling p s left at o n) where
  pub items-accepted : left ≤ 0 → Wrote (on_read (λ vs. encoded (items_as_bytes vs)) (read_list p s)) o (Ok n)
  unfolding encoded after
  items-accepted h =
      let c : number_at s 0 2 ≡ length g.done = omega (arith, g.counts) in
      wrote-ok _ _ o n
      (items-outcome (read_list p s) ∙ ap (λ (u : Result (List ℕ)). encoded (after u (λ s. ok (Value.Octets Kind.Bytes s)))) (filling-end p s left at o n g h) ∙ ap ok (encode-counted Kind.Bytes g.done bytes-content))
      (built-counted Kind.Bytes _ g.done o n c (omega (arith, g.small)) g.built)

  pub items_refused : 0 < left → (x : List ℕ) → x ≡ drop at s → (e : Refusal) → stop (number_of e) ≡ on_read try_u8 (p x) → (o' : List ℕ)
      → Wrote (on_read (λ vs. encoded (items_as_bytes vs)) (read_list p s)) o' (Err e)
  unfolding encoded after
  items_refused h x l e q o' =
      wrote-stop _ o' e
      (items-outcome (read_list p s) ∙ ap (λ (u : Result (List ℕ)). encoded (after u (λ s. ok (Value.Octets Kind.Bytes s)))) (filling-refused p s left at o n g h x l (number_of e) q))
