-- The kinds of a value that is known to be there.
use Prim.Native.Nat.{ℕ, ◌+◌, ◌-◌, ◌≤◌, ◌<◌}
use mathlib.Core.Path.{◌≡◌, refl, sym, ap, ◌∙◌, subst}
use mathlib.Core.List.{List}
use mathlib.Core.Option.{none, some}
use mathlib.Core.Bool.{Bool, true, false, ◌&&◌, not, or-false, and_assoc}
use native.Mathlib.Omega.{arith}
use lib.Dec.{T, leb, eqb, nleb→lt, eqb→eq}
use lib.ListN.{length, drop, get_or, length-drop}
use lib.Seq.{drop-drop}
use borrow.Author.Tests.{lt-leb, ne_eqb}
use Rattle.base.proofs.AllBelow.{all_below}
use Rattle.number.specs.Number.{number_at}
use Rattle.text.specs.Text.{Text}
use Rattle.text.specs.Read.{Read, ◌>>=◌, read_bytes, read_number, read_counted, read_text}
use Rattle.text.specs.Measured.{Reads}
use Rattle.scalar.specs.Conversion.{in_int, finite_double}
use Rattle.text.proofs.ReadLaws.{read_text-counted, read_number-some}
use Rattle.frame.specs.Tree.{Value}
use Rattle.frame.specs.Readers.{read_flag, read_list, read_option}
use Rattle.frame.specs.ValueFrame.{Content, wide, flag, counted, text, plain, array, map, union, entries, symbol, unknown, contents, kind_content, items_of, entries_of, read_entry, read_content, read_value}
use Rattle.frame.specs.Sound.{keys_rise, default_scalar, default_kinds, default_items, default_entries, default_allowed}
use Rattle.frame.specs.Checks.{Checks, Spans}
use Rattle.frame.proofs.ContentTable.{each-content}
use Rattle.frame.proofs.Reading.{read-what, read-rest, not-both, bind_inv, reads-some, reads-eq, reads_first, reads-number, option-one-some}
use Rattle.frame.proofs.Measuring.{told, held, checks-some}
use Rattle.frame.proofs.Counting.{First, Left, left-first, left_step}
use Rattle.frame.proofs.ValueNodes.{value-opened}
use native.Mathlib.Nat.{add_assoc}

-- ---- what is read and what is said of it

Says : Bool → Read Value → Type 0
Says b x = (v : Value) (u : List ℕ) → x ≡ some (v, u) → b ≡ default_kinds v

says_none : (b : Bool) → Says b none
unfolding Says
says_none b v u e = absurd (not-both {x = none} refl e)

says_some : (b : Bool) (v : Value) (u : List ℕ) → b ≡ default_kinds v → Says b (some (v, u))
unfolding Says
says_some b v u h w r e = h ∙ ap default_kinds (read-what e)

says-bind : (b : Bool) {A : Type 0} (x : Read A) (f : A × List ℕ → Read Value) → ((q : A × List ℕ) → x ≡ some q → Says b (f q)) → Says b (x >>= f)
unfolding ◌>>=◌
says-bind b none f h = says_none b
says-bind b (some q) f h = h q refl

-- ---- kinds by the table

kind_test : ℕ → Content → Bool
kind_test k (wide w) = true
kind_test k flag = true
kind_test k counted = not (leb k 2)
kind_test k text = not (leb k 2)
kind_test k (plain n) = not (leb k 2)
kind_test k array = eqb k 8
kind_test k map = eqb k 9
kind_test k union = not (leb k 2)
kind_test k entries = not (leb k 2)
kind_test k symbol = not (leb k 2)
kind_test k unknown = true

table-holds : T (all_below 26 (λ k. kind_test k (kind_content k)))
unfolding all_below kind_test contents
table-holds = tt

kind-test : (k : ℕ) → T (kind_test k (kind_content k))
unfolding kind_test
kind-test = each-content kind_test (λ k. tt) table-holds

not_low : (k : ℕ) → T (not (leb k 2)) → leb k 2 ≡ false
not_low k t = lt-leb k 2 (nleb→lt k 2 t)

module _ (k : ℕ) (f3 : k ≡ 3 → ⊥) (f5 : k ≡ 5 → ⊥) (f7 : k ≡ 7 → ⊥) (f8 : k ≡ 8 → ⊥) (f9 : k ≡ 9 → ⊥) where
  scalar-other : (n : ℕ) → leb k 2 ≡ default_scalar k n
  unfolding default_scalar
  scalar-other n = sym (rw (ne_eqb k 3 f3, ne_eqb k 5 f5, or-false, or-false))

  octets-other : T (not (leb k 2)) → leb k 2 ≡ eqb k 7
  octets-other t = not_low k t ∙ sym (ne_eqb k 7 f7)

  content-other : (node : List ℕ → Read Value) (c : Content) (s : List ℕ) → T (kind_test k c) → Says (leb k 2) (read_content node k c s)
  unfolding read_content default_kinds kind_test
  content-other node (wide w) s t = says-bind _ (read_number w s) _ (λ q e. says_some _ (Value.Scalar k q.0) q.1 (scalar-other q.0))
  content-other node flag s t = says-bind _ (read_flag s) _ (λ q e. says_some _ (Value.Scalar k q.0) q.1 (scalar-other q.0))
  content-other node counted s t = says-bind _ (read_counted s) _ (λ q e. says_some _ (Value.Octets k q.0) q.1 (octets-other t))
  content-other node text s t = says-bind _ (read_text s) _ (λ q e. says_some _ (Value.Octets k q.0) q.1 (octets-other t))
  content-other node (plain n) s t = says-bind _ (read_bytes n s) _ (λ q e. says_some _ (Value.Octets k q.0) q.1 (octets-other t))
  content-other node array s t = absurd (f8 (eqb→eq k 8 t))
  content-other node map s t = absurd (f9 (eqb→eq k 9 t))
  content-other node union s t = says-bind _ (read_number 4 s) _ (λ q e. says-bind _ (node q.1) _ (λ p g. says_some _ (Value.Union q.0 p.0) p.1 (not_low k t)))
  content-other node entries s t = says-bind _ (read_list (read_entry node) s) _ (λ q e. says_some _ (Value.Record (entries_of q.0)) q.1 (not_low k t))
  content-other node symbol s t = says-bind _ (read_number 4 s) _ (λ q e. says-bind _ (read_text q.1) _ (λ p g. says_some _ (Value.Enum q.0 p.0) p.1 (not_low k t)))
  content-other node unknown s t = says_none _

module _ (d : ℕ) (s : List ℕ) (r : Reads (read_value d s)) where
  says_at : (k : ℕ) (b : Bool) → get_or s 0 0 ≡ k → Says b (read_content (read_value (d - 1)) k (kind_content k) (drop 1 s)) → (v : Value) (u : List ℕ) → read_value d s ≡ some (v, u) → b ≡ default_kinds v
  unfolding Says
  says_at k b e w v u g = w v u (sym (value-opened d s r k e) ∙ g)

  pub other-kinds : (get_or s 0 0 ≡ 3 → ⊥) → (get_or s 0 0 ≡ 5 → ⊥) → (get_or s 0 0 ≡ 7 → ⊥) → (get_or s 0 0 ≡ 8 → ⊥) → (get_or s 0 0 ≡ 9 → ⊥) → (v : Value) (u : List ℕ) → read_value d s ≡ some (v, u) → leb (get_or s 0 0) 2 ≡ default_kinds v
  other-kinds f3 f5 f7 f8 f9 = says_at (get_or s 0 0) (leb (get_or s 0 0) 2) refl (content-other (get_or s 0 0) f3 f5 f7 f8 f9 (read_value (d - 1)) (kind_content (get_or s 0 0)) (drop 1 s) (kind-test (get_or s 0 0)))

  pub wide-there : (k : ℕ) → get_or s 0 0 ≡ k → kind_content k ≡ wide 8 → 9 ≤ length s
  unfolding read_content
  wide-there k e c =
      let h : 8 ≤ length (drop 1 s) = reads-number 8 (drop 1 s) (reads_first (read_number 8 (drop 1 s)) _ (reads-eq _ _ (value-opened d s r k e ∙ ap (λ c. read_content (read_value (d - 1)) k c (drop 1 s)) c) r)) in
      omega (arith, length-drop 1 s)

  wide-says : (k : ℕ) (b : Bool) → get_or s 0 0 ≡ k → kind_content k ≡ wide 8 → b ≡ default_scalar k (number_at s 1 8) → (v : Value) (u : List ℕ) → read_value d s ≡ some (v, u) → b ≡ default_kinds v
  unfolding read_content default_kinds
  wide-says k b e c h =
      says_at k b e (subst (λ c. Says b (read_content (read_value (d - 1)) k c (drop 1 s))) (sym c)
      (says-bind b (read_number 8 (drop 1 s)) _ (λ q g. says_some b (Value.Scalar k q.0) q.1 (h ∙ ap (default_scalar k) (read-what (sym (read_number-some 8 (drop 1 s) (omega (arith, length-drop 1 s, wide-there k e c))) ∙ g))))))

  pub long-there : get_or s 0 0 ≡ 3 → 9 ≤ length s
  unfolding contents
  long-there e = wide-there 3 e refl

  pub double-there : get_or s 0 0 ≡ 5 → 9 ≤ length s
  unfolding contents
  double-there e = wide-there 5 e refl

  pub long-says : get_or s 0 0 ≡ 3 → (b : Bool) → b ≡ not (in_int (number_at s 1 8)) → (v : Value) (u : List ℕ) → read_value d s ≡ some (v, u) → b ≡ default_kinds v
  unfolding contents default_scalar
  long-says e b h = wide-says 3 b e refl (h ∙ sym (or-false _))

  pub double-says : get_or s 0 0 ≡ 5 → (b : Bool) → b ≡ finite_double (number_at s 1 8) → (v : Value) (u : List ℕ) → read_value d s ≡ some (v, u) → b ≡ default_kinds v
  unfolding contents default_scalar
  double-says e b h = wide-says 5 b e refl h

  pub string-says : get_or s 0 0 ≡ 7 → (v : Value) (u : List ℕ) → read_value d s ≡ some (v, u) → true ≡ default_kinds v
  unfolding contents read_content default_kinds
  string-says e = says_at 7 true e (says-bind true (read_text (drop 1 s)) _ (λ q g. says_some true (Value.Octets 7 q.0) q.1 refl))

  pub array-reads : get_or s 0 0 ≡ 8 → Reads (read_list (read_value (d - 1)) (drop 1 s))
  unfolding contents read_content
  array-reads e = reads_first (read_list (read_value (d - 1)) (drop 1 s)) _ (reads-eq _ _ (value-opened d s r 8 e) r)

  pub map-reads : get_or s 0 0 ≡ 9 → Reads (read_list (read_entry (read_value (d - 1))) (drop 1 s))
  unfolding contents read_content
  map-reads e = reads_first (read_list (read_entry (read_value (d - 1))) (drop 1 s)) _ (reads-eq _ _ (value-opened d s r 9 e) r)

  pub array-says : get_or s 0 0 ≡ 8 → (b : Bool) → ((vs : List Value) (u : List ℕ) → read_list (read_value (d - 1)) (drop 1 s) ≡ some (vs, u) → b ≡ default_items (items_of vs)) → (v : Value) (u : List ℕ) → read_value d s ≡ some (v, u) → b ≡ default_kinds v
  unfolding contents read_content default_kinds
  array-says e b h = says_at 8 b e (says-bind b (read_list (read_value (d - 1)) (drop 1 s)) _ (λ q g. says_some b (Value.Array (items_of q.0)) q.1 (h q.0 q.1 g)))

  pub map-says : get_or s 0 0 ≡ 9 → (b : Bool) → ((es : List (Text × Value)) (u : List ℕ) → read_list (read_entry (read_value (d - 1))) (drop 1 s) ≡ some (es, u) → b ≡ default_entries (entries_of es)) → (v : Value) (u : List ℕ) → read_value d s ≡ some (v, u) → b ≡ default_kinds v
  unfolding contents read_content default_kinds
  map-says e b h = says_at 9 b e (says-bind b (read_list (read_entry (read_value (d - 1))) (drop 1 s)) _ (λ q g. says_some b (Value.Map (entries_of q.0)) q.1 (h q.0 q.1 g)))

-- ---- the loops

abbrev pub items_kinds : Bool → List Value → Bool
items_kinds ok vs = ok && default_items (items_of vs)

pub items-step : (node : List ℕ → Read Value) (s : List ℕ) (at left : ℕ) (ok : Bool) (w : Left (read_list node s) node (λ vs. default_items (items_of vs)) (items_kinds ok) s at left) (h : 0 < left)
    → (one ok' : Bool) → ((v : Value) (u : List ℕ) → node (drop at s) ≡ some (v, u) → one ≡ default_kinds v) → ok' ≡ ok && one → (m : ℕ) → Spans (node (drop at s)) (drop at s) m
    → Left (read_list node s) node (λ vs. default_items (items_of vs)) (items_kinds ok') s (at + m) (left - 1)
unfolding default_items items_of
items-step node s at left ok w h one ok' f e m k =
    let q = left-first _ node (λ vs. default_items (items_of vs)) (items_kinds ok) s at left w h in
    left_step _ node (λ vs. default_items (items_of vs)) (items_kinds ok) s at left w (items_kinds ok') h m k
    (ap (λ y. ok && (y && default_items (items_of q.others))) (sym (f q.item q.behind q.first)) ∙ sym (and_assoc ok one (default_items (items_of q.others))) ∙ ap (λ y. y && default_items (items_of q.others)) (sym e))

-- an entry that is there: its key, and the value behind it
pub record Entry (node : List ℕ → Read Value) (t : List ℕ) (e : Text × Value) (r : List ℕ) : Type 0 where
  pub behind : List ℕ
  pub key : read_counted t ≡ some (e.0, behind)
  pub value : node behind ≡ some (e.1, r)

pub entry-inv : (node : List ℕ → Read Value) (t : List ℕ) (e : Text × Value) (r : List ℕ) → read_entry node t ≡ some (e, r) → Entry node t e r
unfolding read_entry
entry-inv node t e r g =
    let w = bind_inv (read_text t) _ (e, r) g in
    let v = bind_inv (node w.0.1) _ (e, r) w.1.1 in
    let q : ◌≡◌ {A = Text × Value} (w.0.0, v.0.0) e = read-what v.1.1 in
    record {
      behind = w.0.1;
      key = (read_text-counted t w.0.0 w.0.1 w.1.0).0 ∙ ap (λ (x : Text × Value). some (x.0, w.0.1)) q;
      value = v.1.0 ∙ ap (λ (x : Text × Value). some (x.1, v.0.1)) q ∙ ap (λ u. some (e.1, u)) (read-rest v.1.1);
    }

abbrev pub entries_kinds : Bool → List (Text × Value) → Bool
entries_kinds ok es = ok && default_entries (entries_of es)

module _ (node : List ℕ → Read Value) (s : List ℕ) (at left : ℕ) (ok : Bool) (w : Left (read_list (read_entry node) s) (read_entry node) (λ es. default_entries (entries_of es)) (entries_kinds ok) s at left) (h : 0 < left) where
  one : First (read_entry node) left (drop at s) w.rest w.after
  one = left-first _ (read_entry node) (λ es. default_entries (entries_of es)) (entries_kinds ok) s at left w h

  parts : Entry node (drop at s) one.item one.behind
  parts = entry-inv node (drop at s) one.item one.behind one.first

  pub key_reads : Reads (read_counted (drop at s))
  key_reads = reads-some one.item.0 parts.behind parts.key

  module _ (key : Text) (g : read_counted (drop at s) ≡ some (key, drop (2 + length key) (drop at s))) where
    behind-key : parts.behind ≡ drop (at + (2 + length key)) s
    behind-key = read-rest (sym parts.key ∙ g) ∙ drop-drop (2 + length key) at s

    value_is : node (drop (at + (2 + length key)) s) ≡ some (one.item.1, one.behind)
    value_is = ap node (sym behind-key) ∙ parts.value

    pub entry-reads : Reads (node (drop (at + (2 + length key)) s))
    entry-reads = reads-some one.item.1 one.behind value_is

    pub entries-step : (2 + length key) ≤ length (drop at s) → (fine ok' : Bool) → ((v : Value) (u : List ℕ) → node (drop (at + (2 + length key)) s) ≡ some (v, u) → fine ≡ default_kinds v) → ok' ≡ ok && fine → (m : ℕ) → Spans (node (drop (at + (2 + length key)) s)) (drop (at + (2 + length key)) s) m
        → Left (read_list (read_entry node) s) (read_entry node) (λ es. default_entries (entries_of es)) (entries_kinds ok') s (at + (2 + length key) + m) (left - 1)
    unfolding default_entries entries_of Spans one
    entries-step i fine ok' f e m k =
        let spans : Spans (read_entry node (drop at s)) (drop at s) ((2 + length key) + m) =
        (omega (arith, i, k.0, length-drop at s, length-drop (at + (2 + length key)) s), (one.item, one.first ∙ ap (λ u. some (one.item, u)) (read-rest (sym value_is ∙ k.1.1) ∙ drop-drop m (at + (2 + length key)) s ∙ ap (λ j. drop j s) (add_assoc at (2 + length key) m) ∙ sym (drop-drop ((2 + length key) + m) at s)))) in
        subst (λ j. Left (read_list (read_entry node) s) (read_entry node) (λ es. default_entries (entries_of es)) (entries_kinds ok') s j (left - 1)) (sym (add_assoc at (2 + length key) m))
        (left_step _ (read_entry node) (λ es. default_entries (entries_of es)) (entries_kinds ok) s at left w (entries_kinds ok') h ((2 + length key) + m) spans
        (ap (λ y. ok && (y && default_entries (entries_of one.others))) (sym (f one.item.1 one.behind value_is)) ∙ sym (and_assoc ok fine (default_entries (entries_of one.others))) ∙ ap (λ y. y && default_entries (entries_of one.others)) (sym e)))

-- ---- the whole

pub default-checks : (s : List ℕ) → 0 < length s → get_or s 0 0 ≡ 1 → (m : ℕ) (rise : Bool) → Checks keys_rise (read_value 16 (drop 1 s)) (drop 1 s) (told m rise) → (kinds : Bool)
    → ((v : Value) (u : List ℕ) → read_value 16 (drop 1 s) ≡ some (v, u) → kinds ≡ default_kinds v) → (b : Bool) → b ≡ kinds && rise → Checks default_allowed (read_option (read_value 16) s) s (told (1 + m) b)
unfolding default_allowed
default-checks s h e m rise w kinds f b g =
    let q = held keys_rise (read_value 16 (drop 1 s)) (drop 1 s) m rise w in
    checks-some default_allowed _ s (1 + m) b (omega (arith, q.inside, length-drop 1 s)) (some q.what) (option-one-some (read_value 16) s h e q.what m q.read)
    (g ∙ ap (λ y. y && rise) (f q.what (drop m (drop 1 s)) q.read) ∙ ap (λ y. default_kinds q.what && y) q.tells)
