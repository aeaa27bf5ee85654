-- A union's part: its variants one behind another, and its two tables.
use Prim.Native.Nat.{ℕ, zero, suc, ◌+◌, ◌-◌, ◌*◌, ◌≤◌, ◌<◌}
use mathlib.Core.Path.{◌≡◌, refl, sym, ap, ◌∙◌}
use mathlib.Core.List.{List, ◌∷◌}
use mathlib.Core.Option.{none, some}
use mathlib.Core.Bool.{Bool, true, false}
use native.Mathlib.Omega.{arith}
use native.Mathlib.Nat.{mul-zero, mul-suc, add-zero}
use native.Mathlib.Numerals.{sub-one}
use lib.Dec.{leb}
use lib.ListN.{length, drop, get_or, length-drop}
use lib.Seq.{drop-drop, get_or-drop}
use borrow.Author.Tests.{leb-true, leb-false}
use Rattle.number.specs.Number.{number_at}
use Rattle.text.specs.Read.{Read, read_number}
use Rattle.text.specs.Measured.{Reads}
use Rattle.text.proofs.ReadLaws.{read_number-some, read_number-none}
use Rattle.frame.specs.Tree.{Schema}
use Rattle.frame.specs.Readers.{read_many, read_list}
use Rattle.frame.specs.SchemaFrame as frame
use Rattle.frame.specs.SchemaFrame.{Form, read_lead, read_tables, read_formed, read_schema_content, read_schema}
use Rattle.frame.specs.Sound.{count_variants}
use Rattle.frame.specs.Checks.{Spans}
use Rattle.frame.proofs.Reading.{read-what, read-rest, not-both, bind_inv, reads-some}
use Rattle.frame.proofs.Counting.{First, many-first, many-none, many-length, list-some}
use Rattle.frame.proofs.SchemaNodes.{schema-there, schema-opened, count-variants}
use Rattle.schema_parts.proofs.Tables.{lead-short, lead-got}
use Rattle.variants.specs.Ways.{union_variants, kind_table, named_table, OnRead, Ready, VariantAt, Numbers, count_of, union_parts}

-- ---- what was read

pub on_read : {A : Type 0} (P : A → Type 0) (x : Read A) (a : A) (r : List ℕ) → x ≡ some (a, r) → OnRead P x → P a
unfolding OnRead
on_read P x a r e h = rw e at h

pub on-read-of : {A : Type 0} (P : A → Type 0) (x : Read A) (a : A) (r : List ℕ) → x ≡ some (a, r) → P a → OnRead P x
unfolding OnRead
on-read-of P x a r e h = rw e h

pub ready-reads : (d : ℕ) (s : List ℕ) → Ready d s → Reads (read_schema d s)
ready-reads d s q = reads-some q.tree q.rest q.reads

-- ---- things of w bytes each

module _ {A : Type 0} (p : List ℕ → Read A) (w : ℕ) (f : List ℕ → A) (short : (s : List ℕ) → length s < w → p s ≡ none) (got : (s : List ℕ) → w ≤ length s → p s ≡ some (f s, drop w s)) where
  fixed-first : (s : List ℕ) (a : A) (r : List ℕ) → p s ≡ some (a, r) → (w ≤ length s) × ((a ≡ f s) × (r ≡ drop w s))
  fixed-first s a r e = go (leb w (length s)) refl
    where
      go : (b : Bool) → leb w (length s) ≡ b → (w ≤ length s) × ((a ≡ f s) × (r ≡ drop w s))
      go true g =
          let h : w ≤ length s = leb-true w (length s) g in
          let q : ◌≡◌ {A = Read A} (some (a, r)) (some (f s, drop w s)) = sym e ∙ got s h in
          (h, (read-what q, read-rest q))
      go false g = absurd (not-both (short s (leb-false w (length s) g)) e)

  pub fixed-many : (n : ℕ) (s : List ℕ) (xs : List A) (t : List ℕ) → read_many p n s ≡ some (xs, t)
      → (w * n ≤ length s) × ((t ≡ drop (w * n) s) × ((z : A) (j : ℕ) → j < n → get_or xs j z ≡ f (drop (w * j) s)))
  fixed-many zero s xs t e =
      (rw mul-zero (omega arith), (sym (many-none p zero s xs t (omega arith) e).1 ∙ ap (λ k. drop k s) (sym (mul-zero w)), λ z j h. absurd (omega arith)))
  fixed-many (suc n) s xs t e =
      let q = many-first p (suc n) s xs t (omega arith) e in
      let u = fixed-first s q.item q.behind q.first in
      let g : read_many p n (drop w s) ≡ some (q.others, t) = ap (λ k. read_many p k (drop w s)) (sym (sub-one (suc n))) ∙ ap (read_many p (suc n - 1)) (sym u.1.1) ∙ q.reads in
      let v = fixed-many n (drop w s) q.others t g in
      let m : w * suc n ≡ w + w * n = mul-suc w n ∙ omega arith in (
        omega (arith, v.0, u.0, length-drop w s),
        (
          v.1.0 ∙ drop-drop (w * n) w s ∙ ap (λ k. drop k s) (sym m),
          λ z j h. ap (λ l. get_or l j z) q.cons ∙ each n q.others v.1.1 q.item u.1.0 z j h,
        ),
      )
    where
      each : (n : ℕ) (ys : List A) → ((z : A) (j : ℕ) → j < n → get_or ys j z ≡ f (drop (w * j) (drop w s))) → (a : A) → a ≡ f s → (z : A) (j : ℕ) → j < suc n → get_or (a ∷ ys) j z ≡ f (drop (w * j) s)
      each n ys h a e z zero l = e ∙ ap (λ k. f (drop k s)) (sym (mul-zero w))
      each n ys h a e z (suc j) l =
          let m : w + w * j ≡ w * suc j = omega (arith, mul-suc w j) in
          h z j (omega arith) ∙ ap f (drop-drop (w * j) w s ∙ ap (λ k. drop k s) m)

-- a kind byte and a position
unfoldable pub lead_at : List ℕ → ℕ × ℕ
lead_at s = (get_or s 0 0, number_at s 1 2)

lead-at : (s : List ℕ) → 3 ≤ length s → read_lead s ≡ some (lead_at s, drop 3 s)
unfolding lead_at
lead-at s h = lead-got s h

pub lead-first : (s : List ℕ) (a : ℕ × ℕ) (r : List ℕ) → read_lead s ≡ some (a, r) → (3 ≤ length s) × ((a ≡ lead_at s) × (r ≡ drop 3 s))
lead-first s a r e = fixed-first read_lead 3 lead_at lead-short lead-at s a r e

abbrev first_two : List ℕ → ℕ
first_two s = number_at s 0 2

pub leads-many : (n : ℕ) (s : List ℕ) (xs : List (ℕ × ℕ)) (t : List ℕ) → read_many read_lead n s ≡ some (xs, t)
    → (3 * n ≤ length s) × ((t ≡ drop (3 * n) s) × ((z : ℕ × ℕ) (j : ℕ) → j < n → get_or xs j z ≡ lead_at (drop (3 * j) s)))
leads-many n s xs t e = fixed-many read_lead 3 lead_at lead-short lead-at n s xs t e

pub numbers-many : (n : ℕ) (s : List ℕ) (xs : List ℕ) (t : List ℕ) → read_many (read_number 2) n s ≡ some (xs, t)
    → (2 * n ≤ length s) × ((t ≡ drop (2 * n) s) × ((z : ℕ) (j : ℕ) → j < n → get_or xs j z ≡ number_at (drop (2 * j) s) 0 2))
numbers-many n s xs t e = fixed-many (read_number 2) 2 first_two (λ u h. read_number-none 2 u h) (λ u h. read_number-some 2 u h) n s xs t e

-- ---- a union's parts

pub schema-content : (d : ℕ) (s : List ℕ) (t : Schema) (r : List ℕ) → read_schema d s ≡ some (t, r) → read_schema_content (read_schema (d - 1)) (get_or s 0 0) (drop 1 s) ≡ some (t, r)
schema-content d s t r e = sym (schema-opened d s (reads-some t r e) _ refl) ∙ e

pub record Parts (depth : ℕ) (s : List ℕ) (t : Schema) : Type 0 where
  pub variants : List Schema
  pub kinds : List (ℕ × ℕ)
  pub named : List ℕ
  pub behind : List ℕ
  pub later : List ℕ
  pub rest : List ℕ
  pub is : t ≡ Schema.Union (frame.variants_of variants) kinds named
  pub long : 3 ≤ length s
  pub deep : 0 < depth
  pub reads-variants : read_many (read_schema (depth - 1)) (number_at s 1 2) (drop 3 s) ≡ some (variants, behind)
  pub reads-kinds : read_list read_lead behind ≡ some (kinds, later)
  pub reads-named : read_list (read_number 2) later ≡ some (named, rest)

pub union-parts : (d : ℕ) (s : List ℕ) (t : Schema) (r : List ℕ) → read_schema d s ≡ some (t, r) → get_or s 0 0 ≡ 10 → Parts d s t
unfolding read_formed read_tables
union-parts d s t r e k =
    let c : read_schema_content (read_schema (d - 1)) 10 (drop 1 s) ≡ some (t, r) = ap (λ x. read_schema_content (read_schema (d - 1)) x (drop 1 s)) (sym k) ∙ schema-content d s t r e in
    let a = bind_inv (read_list (read_schema (d - 1)) (drop 1 s)) _ (t, r) c in
    let q = bind_inv (read_tables Form.prepared a.0.0 a.0.1) _ (t, r) a.1.1 in
    let b = bind_inv (read_list read_lead a.0.1) _ q.0 q.1.0 in
    let n = bind_inv (read_list (read_number 2) b.0.1) _ q.0 b.1.1 in
    let v = list-some (read_schema (d - 1)) (drop 1 s) a.0.0 a.0.1 a.1.0 in
    record {
      variants = a.0.0;
      kinds = b.0.0;
      named = n.0.0;
      behind = a.0.1;
      later = b.0.1;
      rest = n.0.1;
      is = sym (read-what q.1.1) ∙ ap (λ ts. Schema.Union (frame.variants_of a.0.0) ts.0 ts.1) (sym (read-what n.1.1));
      long = omega (arith, v.0, length-drop 1 s);
      deep = (schema-there d s (reads-some t r e)).0;
      reads-variants = ap (read_many (read_schema (d - 1)) (number_at s 1 2)) (sym (drop-drop 2 1 s)) ∙ v.1;
      reads-kinds = b.1.0;
      reads-named = n.1.0;
    }

module _ (d : ℕ) (s : List ℕ) (t : Schema) (p : Parts d s t) where
  pub parts-variants : union_variants t ≡ frame.variants_of p.variants
  unfolding union_parts
  parts-variants = ap union_variants p.is

  pub parts-kinds : kind_table t ≡ p.kinds
  unfolding union_parts
  parts-kinds = ap kind_table p.is

  pub parts-named : named_table t ≡ p.named
  unfolding union_parts
  parts-named = ap named_table p.is

  pub parts-length : length p.variants ≡ number_at s 1 2
  parts-length = many-length (read_schema (d - 1)) (number_at s 1 2) (drop 3 s) p.variants p.behind p.reads-variants

  pub parts-count : count_of t ≡ number_at s 1 2
  parts-count = ap count_variants parts-variants ∙ count-variants p.variants ∙ parts-length

  -- ---- the walk over the variants

  pub passed_start : VariantAt d s 0 3
  passed_start =
      let z : number_at s 1 2 - 0 ≡ number_at s 1 2 = omega arith in
      record { variants = p.variants; rest = p.behind; all = p.reads-variants; inside = p.long; left = ap (λ k. read_many (read_schema (d - 1)) k (drop 3 s)) z ∙ p.reads-variants }

-- what is left of a list behind its first
drop-others : {A : Type 0} (xs : List A) (i : ℕ) (a : A) (ys : List A) → drop i xs ≡ a ∷ ys → drop (i + 1) xs ≡ ys
drop-others xs i a ys e = sym (drop-drop 1 i xs) ∙ ap (drop 1) e

get_or-first : {A : Type 0} (xs : List A) (i : ℕ) (z a : A) (ys : List A) → drop i xs ≡ a ∷ ys → get_or xs i z ≡ a
get_or-first xs i z a ys e = ap (λ k. get_or xs k z) (sym (add-zero i)) ∙ sym (get_or-drop i xs 0 z) ∙ ap (λ l. get_or l 0 z) e

module _ (d : ℕ) (s : List ℕ) (i r : ℕ) (w : VariantAt d s i r) (h : i < number_at s 1 2) where
  pub passed_first : First (read_schema (d - 1)) (number_at s 1 2 - i) (drop r s) (drop i w.variants) w.rest
  passed_first = many-first (read_schema (d - 1)) (number_at s 1 2 - i) (drop r s) (drop i w.variants) w.rest (omega arith) w.left

  pub passed-item : (z : Schema) → read_schema (d - 1) (drop r s) ≡ some (get_or w.variants i z, passed_first.behind)
  passed-item z = let q = passed_first in q.first ∙ ap (λ x. some (x, q.behind)) (sym (get_or-first w.variants i z q.item q.others q.cons))

  pub passed_reads : Reads (read_schema (d - 1) (drop r s))
  passed_reads = let q = passed_first in reads-some q.item q.behind q.first

  pub passed-step : (m : ℕ) → Spans (read_schema (d - 1) (drop r s)) (drop r s) m → VariantAt d s (i + 1) (r + m)
  unfolding Spans
  passed-step m v =
      let q = passed_first in
      let e : number_at s 1 2 - (i + 1) ≡ number_at s 1 2 - i - 1 = omega arith in
      let b : drop (r + m) s ≡ q.behind = sym (drop-drop m r s) ∙ read-rest (sym v.1.1 ∙ q.first) in
      record {
        variants = w.variants;
        rest = w.rest;
        all = w.all;
        inside = omega (arith, v.0, length-drop r s, w.inside);
        left = ap (λ k. read_many (read_schema (d - 1)) k (drop (r + m) s)) e ∙ ap (read_many (read_schema (d - 1)) (number_at s 1 2 - i - 1)) b ∙ q.reads ∙ ap (λ l. some (l, w.rest)) (sym (drop-others w.variants i q.item q.others q.cons));
      }

-- the variants that were passed over are the tree's
pub passed-variants : (d : ℕ) (s : List ℕ) (t : Schema) (p : Parts d s t) (i r : ℕ) (w : VariantAt d s i r) → w.variants ≡ p.variants
passed-variants d s t p i r w = read-what (sym w.all ∙ p.reads-variants)

-- ---- the tables, behind all variants

module _ (d : ℕ) (s : List ℕ) (t : Schema) (p : Parts d s t) (n r : ℕ) (w : VariantAt d s n r) (e : n ≡ number_at s 1 2) where
  table-behind : drop r s ≡ p.behind
  table-behind =
      (many-none (read_schema (d - 1)) (number_at s 1 2 - n) (drop r s) (drop n w.variants) w.rest (omega arith) w.left).1
      ∙ read-rest (sym w.all ∙ p.reads-variants)

  pub table-reads : read_list read_lead (drop r s) ≡ some (kind_table t, p.later)
  table-reads = ap (read_list read_lead) table-behind ∙ p.reads-kinds ∙ ap (λ ks. some (ks, p.later)) (sym (parts-kinds d s t p))

  table-some : (2 ≤ length (drop r s)) × (read_many read_lead (number_at s r 2) (drop 2 (drop r s)) ≡ some (kind_table t, p.later))
  table-some = list-some read_lead (drop r s) (kind_table t) p.later table-reads

  pub table-inside : r + 2 ≤ length s
  table-inside = omega (arith, table-some.0, length-drop r s, w.inside)

  module _ (k : ℕ) (f : k ≡ number_at s r 2) where
    leads : (3 * k ≤ length (drop 2 (drop r s))) × (p.later ≡ drop (3 * k) (drop 2 (drop r s)))
    leads =
        let g : read_many read_lead k (drop 2 (drop r s)) ≡ some (kind_table t, p.later) = ap (λ x. read_many read_lead x (drop 2 (drop r s))) f ∙ table-some.1 in
        let q = leads-many k (drop 2 (drop r s)) (kind_table t) p.later g in
        (q.0, q.1.0)

    named-behind : p.later ≡ drop (r + 2 + 3 * k) s
    named-behind = leads.1 ∙ ap (drop (3 * k)) (drop-drop 2 r s) ∙ drop-drop (3 * k) (r + 2) s

    named_some : (2 ≤ length (drop (r + 2 + 3 * k) s)) × (read_many (read_number 2) (number_at s (r + 2 + 3 * k) 2) (drop 2 (drop (r + 2 + 3 * k) s)) ≡ some (named_table t, p.rest))
    named_some = list-some (read_number 2) (drop (r + 2 + 3 * k) s) (named_table t) p.rest (ap (read_list (read_number 2)) (sym named-behind) ∙ p.reads-named ∙ ap (λ ns. some (ns, p.rest)) (sym (parts-named d s t p)))

    pub named-inside : r + 2 + 3 * k + 2 ≤ length s
    named-inside = omega (arith, named_some.0, leads.0, length-drop (r + 2 + 3 * k) s, length-drop 2 (drop r s), length-drop r s, table-inside)

    pub named-numbers : (c : ℕ) → c ≡ number_at s (r + 2 + 3 * k) 2 → Numbers s (named_table t) (record { at = r + 2 + 3 * k + 2; count = c })
    named-numbers c g =
        let a = r + 2 + 3 * k in
        let m : read_many (read_number 2) c (drop (a + 2) s) ≡ some (named_table t, p.rest) = ap (λ x. read_many (read_number 2) x (drop (a + 2) s)) g ∙ ap (read_many (read_number 2) (number_at s a 2)) (sym (drop-drop 2 a s)) ∙ named_some.1 in
        let q = numbers-many c (drop (a + 2) s) (named_table t) p.rest m in
        record {
          inside = omega (arith, q.0, length-drop (a + 2) s, named-inside);
          counted = many-length (read_number 2) c (drop (a + 2) s) (named_table t) p.rest m;
          each = λ j h. sym (q.1.1 0 j h ∙ ap (λ x. number_at x 0 2) (drop-drop (2 * j) (a + 2) s));
        }
