-- The loop over a kind table, and writing a Union's index before what its variant made.
use Prim.Native.Nat.{ℕ, suc, ◌+◌, ◌-◌, ◌≤◌, ◌<◌, min}
use mathlib.Core.Path.{◌≡◌, sym, ap, ◌∙◌, subst}
use mathlib.Core.List.{List, [], ◌∷◌, ◌++◌}
use mathlib.Core.Option.{some}
use native.Mathlib.Omega.{arith}
use native.Mathlib.Nat.{add-zero}
use lib.Dec.{eqb}
use lib.ListN.{length, take, drop, set, get_or, length-drop, length-append, length-set}
use lib.Seq.{drop-drop, get_or-drop, drop-set-lt, take-suc-set, take_at}
use borrow.Author.Tests.{eq-eqb, ne_eqb}
use Rattle.base.specs.Base.{when◌then◌else◌}
use Rattle.number.specs.Number.{number_at, bytes_of, written}
use Rattle.number.proofs.Laws.{length-bytes_of, length-written}
use Rattle.text.specs.Measured.{Reads}
use Rattle.frame.specs.Readers.{read_many, read_list}
use Rattle.frame.specs.SchemaFrame.{read_lead}
use Rattle.frame.proofs.Counting.{First, many-first, many-none, list-some}
use Rattle.buffer.specs.Built.{Built}
use Rattle.buffer.proofs.BuiltLaws.{built-front, built-over, built-append}
use Rattle.avro.specs.Union.{lookup_kind}
use Rattle.variants.specs.Ways.{found_of, lookup_read}
use Rattle.std.specs.Prelude.{Some, None}
use Rattle.variants.proofs.UnionReading.{lead-first, lead_at}

-- ---- the position that a kind table gives

-- the loop has `left` entries to go at `at`
pub record Looking (k : ℕ) (s : List ℕ) (left at : ℕ) : Type 0 where
  pub inside : at ≤ length s
  pub entries : List (ℕ × ℕ)
  pub rest : List ℕ
  pub reads : read_many read_lead left (drop at s) ≡ some (entries, rest)
  pub tells : lookup_read k (read_list read_lead s) ≡ lookup_kind k entries

pub looking-start : (k : ℕ) (s : List ℕ) (n : ℕ) → Reads (read_list read_lead s) → n ≡ number_at s 0 2 → Looking k s n 2
unfolding Reads lookup_read
looking-start k s n p e =
    let q = list-some read_lead s p.0 p.1.0 p.1.1 in
    record {
      inside = q.0;
      entries = p.0;
      rest = p.1.0;
      reads = ap (λ x. read_many read_lead x (drop 2 s)) e ∙ q.1;
      tells = ap (lookup_read k) p.1.1;
    }

module _ (k : ℕ) (s : List ℕ) (left at : ℕ) (w : Looking k s left at) where
  pub looking-end : left ≤ 0 → None ≡ found_of (lookup_read k (read_list read_lead s))
  unfolding lookup_kind found_of
  looking-end h = sym (ap found_of (w.tells ∙ ap (lookup_kind k) (many-none read_lead left (drop at s) w.entries w.rest (omega arith) w.reads).0))

  module _ (h : 0 < left) where
    next : First read_lead left (drop at s) w.entries w.rest
    next = many-first read_lead left (drop at s) w.entries w.rest h w.reads

    lead : (3 ≤ length (drop at s)) × ((next.item ≡ lead_at (drop at s)) × (next.behind ≡ drop 3 (drop at s)))
    lead = lead-first (drop at s) next.item next.behind next.first

    pub looking-inside : at + 3 ≤ length s
    looking-inside = omega (arith, lead.0, length-drop at s, w.inside)

    lead-kind : next.item.0 ≡ get_or s at 0
    unfolding lead_at
    lead-kind = ap (λ (x : ℕ × ℕ). x.0) lead.1.0 ∙ get_or-drop at s 0 0 ∙ ap (λ j. get_or s j 0) (add-zero at)

    lead-position : next.item.1 ≡ number_at s (at + 1) 2
    unfolding lead_at
    lead-position = ap (λ (x : ℕ × ℕ). x.1) lead.1.0 ∙ ap (λ l. number_at l 0 2) (drop-drop 1 at s)

    lookup-here : lookup_read k (read_list read_lead s) ≡ (when eqb (get_or s at 0) k then some (number_at s (at + 1) 2) else lookup_kind k next.others)
    unfolding lookup_kind
    lookup-here =
        w.tells ∙ ap (lookup_kind k) next.cons
        ∙ ap (λ x. when eqb x k then some next.item.1 else lookup_kind k next.others) lead-kind
        ∙ ap (λ x. when eqb (get_or s at 0) k then some x else lookup_kind k next.others) lead-position

    pub looking-hit : get_or s at 0 ≡ k → (p : ℕ) → p ≡ number_at s (at + 1) 2 → Some p ≡ found_of (lookup_read k (read_list read_lead s))
    unfolding found_of
    looking-hit e p f = sym (ap found_of (lookup-here ∙ ap (λ b. when b then some (number_at s (at + 1) 2) else lookup_kind k next.others) (eq-eqb _ _ e) ∙ ap some (sym f)))

    pub looking-step : (get_or s at 0 ≡ k → ⊥) → Looking k s (left - 1) (at + 3)
    looking-step n = record {
      inside = looking-inside;
      entries = next.others;
      rest = w.rest;
      reads = ap (read_many read_lead (left - 1)) (sym (drop-drop 3 at s) ∙ sym lead.1.1) ∙ next.reads;
      tells = lookup-here ∙ ap (λ b. when b then some (number_at s (at + 1) 2) else lookup_kind k next.others) (ne_eqb _ _ n);
    }

-- ---- a Union's index

abbrev index_bytes : ℕ → List ℕ
index_bytes i = 10 ∷ bytes_of 4 i

index-length : (i : ℕ) → length (index_bytes i) ≡ 5
index-length i = ap suc (length-bytes_of 4 i)

-- no room for the index
pub index-over : (c o : List ℕ) (i m r : ℕ) → length o < 5 → r ≡ min (5 + m) 65536 → Built c (drop 5 o) m → Built (index_bytes i ++ c) o r
unfolding Built
index-over c o i m r h e w =
    let l : length (index_bytes i ++ c) ≡ 5 + length c = length-append (index_bytes i) c ∙ ap (λ x. x + length c) (index-length i) in
    built-over (index_bytes i ++ c) o r (omega (arith, w.0, e, l)) (omega (arith, l))

index-written : (o : List ℕ) (i : ℕ) → 5 ≤ length o → written (set o 0 10) 1 (bytes_of 4 i) ≡ index_bytes i ++ drop 5 o
unfolding written
index-written o i h =
    let a : take 1 (set o 0 10) ≡ 10 ∷ [] = take-suc-set o 0 10 (omega arith) in
    let b : drop (1 + length (bytes_of 4 i)) (set o 0 10) ≡ drop 5 o = ap (λ k. drop (1 + k) (set o 0 10)) (length-bytes_of 4 i) ∙ drop-set-lt 5 o 0 10 (omega arith) in
    ap (λ x. x ++ bytes_of 4 i ++ drop (1 + length (bytes_of 4 i)) (set o 0 10)) a ∙ ap (λ x. index_bytes i ++ x) b

pub index-before : (c o x : List ℕ) (i m r : ℕ) → 5 ≤ length o → x ≡ written (set o 0 10) 1 (bytes_of 4 i) → r ≡ min (5 + m) 65536 → Built c (drop 5 o) m → Built (index_bytes i ++ c) x r
index-before c o x i m r h f e w =
    let g : x ≡ index_bytes i ++ drop 5 o = f ∙ index-written o i h in
    let lx : length x ≡ length o = ap length g ∙ length-append (index_bytes i) (drop 5 o) ∙ omega (arith, index-length i, length-drop 5 o) in
    let k : 5 ≡ min 5 (length x) = omega arith in
    let t : take 5 x ≡ index_bytes i = ap (take 5) g ∙ take_at (index_bytes i) (drop 5 o) 5 (index-length i) in
    subst (λ y. Built (index_bytes i ++ c) y r) (ap (λ y. y ++ drop 5 o) t ∙ sym g)
    (built-append (index_bytes i) c x (drop 5 o) 5 m 5 r (built-front (index_bytes i) (drop 5 o) x 5 (omega (arith, index-length i)) g) k (omega (arith, length-drop 5 o)) w e)

pub index_same : (o x : List ℕ) (k i : ℕ) → 5 ≤ length o → x ≡ written (set o 0 k) 1 (bytes_of 4 i) → length x ≡ length o
index_same o x k i h f = ap length f ∙ length-written (set o 0 k) (bytes_of 4 i) 1 (omega (arith, length-bytes_of 4 i, length-set o 0 k)) ∙ length-set o 0 k
