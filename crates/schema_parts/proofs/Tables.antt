-- The loops over the two tables of a union, and both tables together.
use Prim.Native.Nat.{ℕ, suc, ◌+◌, ◌-◌, ◌≤◌, ◌<◌}
use mathlib.Core.Path.{◌≡◌, refl, sym, ap, ◌∙◌, subst}
use mathlib.Core.List.{List}
use mathlib.Core.Option.{none, some}
use mathlib.Core.Bool.{Bool, true, false, ◌&&◌, and_assoc}
use native.Mathlib.Omega.{arith}
use native.Mathlib.Numerals.{add-one}
use native.Mathlib.Nat.{add-zero}
use lib.Dec.{leb, ltb}
use lib.ListN.{length, take, drop, get_or, length-drop}
use lib.Seq.{drop-drop, get_or-drop}
use borrow.Author.Tests.{leb-true, leb-false}
use Rattle.number.specs.Number.{big_endian, number_at}
use Rattle.text.specs.Read.{◌>>=◌, read_number}
use Rattle.text.proofs.ReadLaws.{read_number-some, read_number-none}
use Rattle.number.proofs.Laws.{number_at-one}
use Rattle.frame.specs.Readers.{read_list}
use Rattle.frame.specs.Tree.{Schema}
use Rattle.frame.specs.SchemaFrame.{Form, read_lead, read_tables}
use Rattle.frame.specs.Sound.{kinds_sound, positions_sound, tables_sound}
use Rattle.frame.specs.Checks.{Checks}
use Rattle.std.specs.Prelude.{None}
use Rattle.frame.proofs.Measuring.{told, held, checks-some, checks-none, checks-broken}
use Rattle.frame.proofs.Counting.{Going, going_step}

pub lead-short : (s : List ℕ) → length s < 3 → read_lead s ≡ none
unfolding read_lead ◌>>=◌
lead-short s h = go (leb 1 (length s)) refl
  where
    go : (b : Bool) → leb 1 (length s) ≡ b → read_lead s ≡ none
    go true e = rw (read_number-some 1 s (leb-true 1 (length s) e), read_number-none 2 (drop 1 s) (omega (arith, length-drop 1 s, leb-true 1 (length s) e)))
    go false e = rw (read_number-none 1 s (leb-false 1 (length s) e))

pub lead-got : (s : List ℕ) → 3 ≤ length s → read_lead s ≡ some ((get_or s 0 0, number_at s 1 2), drop 3 s)
unfolding read_lead ◌>>=◌
lead-got s h = rw (read_number-some 1 s (omega arith), read_number-some 2 (drop 1 s) (omega (arith, length-drop 1 s)), number_at-one s 0 (omega arith), drop-drop 2 1 s)

pub leads-step : (count : ℕ) (s : List ℕ) (at n i least : ℕ) (ok : Bool) → Going (read_list read_lead s) read_lead (kinds_sound count 0) s at (n - i) ok (kinds_sound count least)
    → i < n → 3 ≤ length s - at → (k p : ℕ) → k ≡ get_or s at 0 → p ≡ number_at s (at + 1) 2 → (fine ok' : Bool) → fine ≡ leb least k && leb k 25 && ltb p count → ok' ≡ ok && fine
    → Going (read_list read_lead s) read_lead (kinds_sound count 0) s (at + 3) (n - (i + 1)) ok' (kinds_sound count (k + 1))
unfolding kinds_sound
leads-step count s at n i least ok w h g k p ek ep fine ok' ef eo =
    subst (λ left. Going (read_list read_lead s) read_lead (kinds_sound count 0) s (at + 3) left ok' (kinds_sound count (k + 1))) (omega arith)
    (going_step _ read_lead (kinds_sound count 0) s at (n - i) ok (kinds_sound count least) w (omega arith) 3 (omega (arith, length-drop at s)) (k, p)
    (lead-got (drop at s) (omega (arith, length-drop at s)) ∙ ap (λ q. some (q, drop 3 (drop at s))) both)
    ok' (kinds_sound count (k + 1))
    (λ l. ap (λ y. ok && (y && kinds_sound count (suc k) l)) (sym ef) ∙ sym (and_assoc ok fine (kinds_sound count (suc k) l)) ∙ ap (λ y. y && kinds_sound count (suc k) l) (sym eo) ∙ ap (λ y. ok' && kinds_sound count y l) (sym (add-one k))))
  where
    both : ◌≡◌ {A = ℕ × ℕ} (get_or (drop at s) 0 0, number_at (drop at s) 1 2) (k, p)
    both = ap (λ y. (y, number_at (drop at s) 1 2)) (get_or-drop at s 0 0 ∙ ap (λ i. get_or s i 0) (add-zero at) ∙ sym ek) ∙ ap (λ y. (k, y)) (ap (λ t. big_endian (take 2 t)) (drop-drop 1 at s) ∙ sym ep)

pub positions-step : (count : ℕ) (s : List ℕ) (at n i : ℕ) (ok : Bool) → Going (read_list (read_number 2) s) (read_number 2) (positions_sound count) s at (n - i) ok (positions_sound count)
    → i < n → 2 ≤ length s - at → (p : ℕ) → p ≡ number_at s at 2 → (fine ok' : Bool) → fine ≡ ltb p count → ok' ≡ ok && fine
    → Going (read_list (read_number 2) s) (read_number 2) (positions_sound count) s (at + 2) (n - (i + 1)) ok' (positions_sound count)
unfolding positions_sound
positions-step count s at n i ok w h g p ep fine ok' ef eo =
    subst (λ left. Going (read_list (read_number 2) s) (read_number 2) (positions_sound count) s (at + 2) left ok' (positions_sound count)) (omega arith)
    (going_step _ (read_number 2) (positions_sound count) s at (n - i) ok (positions_sound count) w (omega arith) 2 (omega (arith, length-drop at s)) p
    (read_number-some 2 (drop at s) (omega (arith, length-drop at s)) ∙ ap (λ q. some (q, drop 2 (drop at s))) (sym ep))
    ok' (positions_sound count)
    (λ l. ap (λ y. ok && (y && positions_sound count l)) (sym ef) ∙ sym (and_assoc ok fine (positions_sound count l)) ∙ ap (λ y. y && positions_sound count l) (sym eo)))

-- ---- prepared tables: one behind the other

tables-read : (vs : List Schema) (s : List ℕ) (a : ℕ) (ks : List (ℕ × ℕ)) (b : ℕ) (ns : List ℕ) → read_list read_lead s ≡ some (ks, drop a s)
    → read_list (read_number 2) (drop a s) ≡ some (ns, drop b (drop a s)) → read_tables Form.prepared vs s ≡ some ((ks, ns), drop (a + b) s)
unfolding read_tables ◌>>=◌
tables-read vs s a ks b ns e g = rw (e, g, drop-drop b a s)

module _ (count : ℕ) (vs : List Schema) (s : List ℕ) where
  pub tables-broken : Checks (kinds_sound count 0) (read_list read_lead s) s None → Checks (tables_sound count) (read_tables Form.prepared vs s) s None
  unfolding read_tables ◌>>=◌
  tables-broken w = checks-none _ _ s (rw (checks-broken _ _ s w))

  module _ (a : ℕ) (kinds : Bool) (w : Checks (kinds_sound count 0) (read_list read_lead s) s (told a kinds)) where
    pub tables-broken₂ : Checks (positions_sound count) (read_list (read_number 2) (drop a s)) (drop a s) None → Checks (tables_sound count) (read_tables Form.prepared vs s) s None
    unfolding read_tables ◌>>=◌
    tables-broken₂ v = let q = held _ _ s a kinds w in checks-none _ _ s (rw (q.read, checks-broken _ _ (drop a s) v))

    pub tables-checks : (b : ℕ) (named : Bool) → Checks (positions_sound count) (read_list (read_number 2) (drop a s)) (drop a s) (told b named) → (ok : Bool) → ok ≡ kinds && named
        → Checks (tables_sound count) (read_tables Form.prepared vs s) s (told (a + b) ok)
    tables-checks b named v ok e =
        let q = held _ _ s a kinds w in
        let r = held _ _ (drop a s) b named v in
        checks-some _ _ s (a + b) ok (omega (arith, q.inside, r.inside, length-drop a s)) (q.what, r.what) (tables-read vs s a q.what b r.what q.read r.read)
        (e ∙ ap (λ y. y && named) q.tells ∙ ap (λ y. kinds_sound count 0 q.what && y) r.tells)
