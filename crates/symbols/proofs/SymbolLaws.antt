-- The search for the first of some texts that is the same as a given one, text by text.
use Prim.Native.Nat.{ℕ, suc, ◌+◌, ◌-◌, ◌≤◌, ◌<◌}
use mathlib.Core.Path.{◌≡◌, refl, sym, ap, ◌∙◌}
use mathlib.Core.List.{List, ◌∷◌}
use mathlib.Core.Option.{Option, none, some}
use mathlib.Core.Bool.{true, false}
use native.Mathlib.Omega.{arith}
use native.Mathlib.Nat.{zero-add, add-zero}
use lib.ListN.{length, drop}
use Rattle.number.specs.Number.{number_at}
use Rattle.text.specs.Text.{Text, same}
use Rattle.text.specs.Read.{read_counted, read_text}
use Rattle.text.specs.Measured.{Reads}
use Rattle.text.proofs.ReadLaws.{reads-text, read_text-counted}
use Rattle.frame.specs.Readers.{read_list}
use Rattle.frame.specs.Checks.{Spans}
use Rattle.frame.proofs.Reading.{read-what}
use Rattle.frame.proofs.Measuring.{spans-some}
use Rattle.frame.proofs.Counting.{list-many, reads-list, First, Walking, walking_start, walking-step, walking-end, Left, left-start, left-first, left-reads, left_step, left_end}
use Rattle.types.specs.Types.{position, next_place}

-- ---- a place counted from i on

pub later : ℕ → Option ℕ → Option ℕ
later i none = none
later i (some j) = some (i + j)

later-zero : (o : Option ℕ) → o ≡ later 0 o
unfolding later
later-zero none = refl
later-zero (some j) = ap some (sym (zero-add j))

later-next : (i : ℕ) (o : Option ℕ) → later i (next_place o) ≡ later (i + 1) o
unfolding later next_place
later-next i none = refl
later-next i (some j) = let e : i + suc j ≡ i + 1 + j = omega arith in ap some e

module _ (i : ℕ) (x t : Text) (ts : List Text) where
  place_here : same t x ≡ true → later i (position x (t ∷ ts)) ≡ some i
  unfolding later position
  place_here h = rw h (ap some (add-zero i))

  place-on : same t x ≡ false → later i (position x (t ∷ ts)) ≡ later (i + 1) (position x ts)
  unfolding position
  place-on h = rw h (later-next i (position x ts))

-- ---- the search

-- what the part from a place on gives back as a text
abbrev pub Content : List ℕ → Text → Type 0
Content u t = (read_counted u ≡ some (t, drop (2 + length t) u)) × ((2 + length t ≤ length u) × (length t < 65536))

-- what holds whenever the next text is looked at: `left` of them stand from `at` on, and the place of x is its place among these
pub record Searching (s x : List ℕ) (left at i : ℕ) : Type 0 where
  pub walk : Walking read_text s at left
  pub small : i + left < 65536
  pub look : Left (read_list read_text s) read_text (position x) (λ l. later i (position x l)) s at left

-- where x stands among the texts of s
abbrev pub Stands : List ℕ → Text → Option ℕ → Type 0
Stands s x o = (l : List Text) (r : List ℕ) → read_list read_text s ≡ some (l, r) → position x l ≡ o

pub search-starts : (s x : List ℕ) (left : ℕ) → Reads (read_list read_text s) → left ≡ number_at s 0 2 → left < 65536 → Searching s x left 2 0
search-starts s x left p e l =
    let h = reads-list read_text s p in
    record {
      walk = walking_start read_text s left p e;
      small = omega arith;
      look = left-start _ read_text (position x) _ s 2 left h (rw e (list-many read_text s h)) p (λ l. later-zero (position x l));
    }

module _ {s x : List ℕ} {left at i : ℕ} (v : Searching s x left at i) where
  -- a text is left
  module _ (g : 0 < left) where
    pub search-counted : Reads (read_counted (drop at s))
    search-counted = reads-text (drop at s) (left-reads _ read_text _ _ s at left v.look g)

    abbrev first : First read_text left (drop at s) v.look.rest v.look.after
    first = left-first _ read_text _ _ s at left v.look g

    module _ {t : Text} (k : Content (drop at s) t) where
      text-here : read_text (drop at s) ≡ some (t, drop (2 + length t) (drop at s))
      text-here = first.first ∙ sym (read_text-counted (drop at s) first.item first.behind first.first).0 ∙ k.0

      text-spans : Spans (read_text (drop at s)) (drop at s) (2 + length t)
      text-spans = spans-some _ _ _ t k.1.0 text-here

      item-same : same first.item x ≡ same t x
      item-same = ap (λ y. same y x) (read-what (sym first.first ∙ text-here))

      walked : Walking read_text s (at + (2 + length t)) (left - 1)
      walked = walking-step read_text s at left v.walk (2 + length t) g text-spans

      pub search-inside : at + (2 + length t) ≤ length s
      search-inside = walked.inside

      pub search-goes : same t x ≡ false → Searching s x (left - 1) (at + (2 + length t)) (i + 1)
      search-goes h = record {
        walk = walked;
        small = omega (arith, v.small);
        look = left_step _ read_text _ _ s at left v.look (λ l. later (i + 1) (position x l)) g (2 + length t) text-spans (place-on i x _ _ (item-same ∙ h));
      }

      pub search-found : same t x ≡ true → Stands s x (some i)
      search-found h l r q = v.look.tells l r q ∙ ap (λ y. later i (position x y)) first.cons ∙ place_here i x _ _ (item-same ∙ h)

  -- no text is left
  module _ (g : left ≤ 0) where
    pub search-missed : Stands s x none
    unfolding later position
    search-missed l r q = left_end _ read_text _ _ s at left v.look g l r q

    pub search-spans : Spans (read_list read_text s) s at
    search-spans = walking-end read_text s at left v.walk g
