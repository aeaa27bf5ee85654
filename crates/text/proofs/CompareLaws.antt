-- The number of byte pairs that a comparison looks at is the one that Q-3 asks for, and there is one for any two texts.
use Prim.Native.Nat.{ℕ, suc, ◌+◌, ◌-◌, ◌≤◌, ◌<◌}
use mathlib.Core.Path.{◌≡◌, refl, sym, ap, ◌∙◌, subst}
use mathlib.Core.List.{[], ◌∷◌, ◌++◌, reverse, reverse_aux-append, reverse_aux-eq}
use mathlib.Core.Bool.{Bool, true, false}
use native.Mathlib.Omega.{arith}
use borrow.Author.Tests.{eqb-true, eqb-false, eq-eqb, ne_eqb}
use lib.Dec.{T, eqb}
use lib.ListN.{length, get_or, take, drop, length-append, length-reverse, length-drop, drop_of_length-le}
use lib.Seq.{drop-cons, split_at, length-take-le}
use Rattle.text.specs.Text.{Text, ascii, same}
use Rattle.text.specs.Compare.{until_difference, looked, Looked, unequal_lengths, first_difference, no_difference}
use Rattle.text.proofs.TextLaws.{same_refl, same→≡}

-- ---- the number

until-shared : (l : Text) (x y : ℕ) (u v : Text) → (x ≡ y → ⊥) → until_difference (l ++ x ∷ u) (l ++ y ∷ v) ≡ suc (length l)
unfolding until_difference
until-shared [] x y u v h = rw (ne_eqb x y h)
until-shared (z ∷ l) x y u v h = rw (eq-eqb z z refl) (ap suc (until-shared l x y u v h))

until-same : (l : Text) → until_difference l l ≡ length l
unfolding until_difference
until-same [] = refl
until-same (z ∷ l) = rw (eq-eqb z z refl) (ap suc (until-same l))

-- what stands behind x comes first
reverse-at : (p c : Text) (x : ℕ) → reverse (p ++ x ∷ c) ≡ reverse c ++ x ∷ reverse p
reverse-at p c x = reverse_aux-append p (x ∷ c) [] ∙ reverse_aux-eq c (x ∷ reverse p)

until-turned : (p q c : Text) (x y : ℕ) → (x ≡ y → ⊥) → until_difference (reverse (p ++ x ∷ c)) (reverse (q ++ y ∷ c)) ≡ suc (length c)
until-turned p q c x y h = rw (reverse-at p c x, reverse-at q c y) (until-shared (reverse c) x y (reverse p) (reverse q) h ∙ ap suc (length-reverse c))

same-lengths : (p q c : Text) (x y : ℕ) → length p ≡ length q → length (p ++ x ∷ c) ≡ length (q ++ y ∷ c)
same-lengths p q c x y l = rw (length-append p (x ∷ c), length-append q (y ∷ c), l)

pub Looked→looked : {a b : Text} {n : ℕ} → Looked a b n → n ≡ looked a b
unfolding looked
Looked→looked {a} {b} (unequal_lengths h) = rw (ne_eqb (length a) (length b) h)
Looked→looked (first_difference p q c x y e f l h) = rw (e, f, eq-eqb _ _ (same-lengths p q c x y l)) (sym (until-turned p q c x y h))
Looked→looked {a} {b} (no_difference e) = rw (sym e, eq-eqb (length a) (length a) refl) (sym (until-same (reverse a) ∙ length-reverse a))

-- ---- any two texts have one

abbrev Some : Text → Text → Type 0
Some a b = (n : ℕ) × Looked a b n

-- one byte more at the front
further : (x y : ℕ) (xs ys : Text) {n : ℕ} → Looked xs ys n → Some (x ∷ xs) (y ∷ ys)
further x y xs ys (unequal_lengths h) = (0, unequal_lengths (λ e. h (omega (arith, e))))
further x y xs ys (first_difference p q c u v e f l h) = (_, first_difference (x ∷ p) (y ∷ q) c u v (ap (λ (t : Text). x ∷ t) e) (ap (λ (t : Text). y ∷ t) f) (ap suc l) h)
further x y xs ys (no_difference e) = here (eqb x y) refl
  where
    here : (t : Bool) → eqb x y ≡ t → Some (x ∷ xs) (y ∷ ys)
    here true q = let f : x ≡ y = eqb-true x y q in (_, no_difference cc)
    here false q = (_, first_difference [] [] xs x y refl (ap (λ (t : Text). y ∷ t) (sym e)) refl (eqb-false x y q))

some-looked : (a b : Text) → Some a b
some-looked [] [] = (0, no_difference refl)
some-looked [] (y ∷ ys) = (0, unequal_lengths (λ e. omega (arith, e)))
some-looked (x ∷ xs) [] = (0, unequal_lengths (λ e. omega (arith, e)))
some-looked (x ∷ xs) (y ∷ ys) = further x y xs ys (some-looked xs ys).1

pub looked→Looked : (a b : Text) → Looked a b (looked a b)
looked→Looked a b = let s = some-looked a b in subst (Looked a b) (Looked→looked s.1) s.1

-- one of each: the end differs, the front does, the lengths do, nothing does
pub looked-examples :
    (looked (ascii "finish-198") (ascii "finish-199") ≡ 1)
    × (looked (ascii "finish-198") (ascii "Finish-198") ≡ 10)
    × (looked (ascii "sail") (ascii "sails") ≡ 0)
    × (looked (ascii "sail") (ascii "sail") ≡ 4)
unfolding looked until_difference ascii
looked-examples = (refl, refl, refl, refl)

-- ---- what the comparison answers

≢→same : (a b : Text) → (a ≡ b → ⊥) → false ≡ same a b
≢→same a b h = go (same a b) (same→≡ a b)
  where
    go : (t : Bool) → (T t → a ≡ b) → false ≡ t
    go true f = absurd (h (f tt))
    go false f = refl

abbrev Answers : Text → Text → Bool → ℕ → Type 0
Answers a b equal n = (equal ≡ same a b) × (n ≡ looked a b)

module _ (a b : Text) where
  pub lengths_differ : (length a ≡ length b → ⊥) → Answers a b false 0
  lengths_differ h = (≢→same a b (λ e. h (ap length e)), Looked→looked (unequal_lengths h))

  pub nothing-behind : length a ≡ length b → drop (length a - 0) a ≡ drop (length a - 0) b
  nothing-behind l =
      let q : length a - 0 ≡ length a = omega arith in
      rw (q, drop_of_length-le a {i = length a} (omega arith), drop_of_length-le b {i = length a} (omega arith)) refl

  -- the last k bytes are the same
  module _ (k : ℕ) (e : drop (length a - k) a ≡ drop (length a - k) b) where
    pub none-differs : length a ≤ k → Answers a b true (length a)
    none-differs h =
        let q : length a - k ≡ 0 = omega arith in
        let f : a ≡ b = rw q at e in
        (rw (sym f) (sym (same_refl a)), Looked→looked (no_difference f))

    -- and the pair before them is looked at next
    module _ (l : length a ≡ length b) (g : k < length a) where
      abbrev i : ℕ
      i = length a - 1 - k

      behind : drop (suc i) a ≡ drop (suc i) b
      behind = let q : suc (length a - 1 - k) ≡ length a - k = omega arith in rw q e

      pub pair-differs : (get_or a i 0 ≡ get_or b i 0 → ⊥) → Answers a b false (k + 1)
      pair-differs f =
          let p = length-take-le i a (omega arith) ∙ sym (length-take-le i b (omega arith)) in
          let q : suc (length (drop (suc i) a)) ≡ k + 1 = omega (arith, length-drop (suc i) a) in
          let s : b ≡ take i b ++ get_or b i 0 ∷ drop (suc i) a = split_at b i 0 (omega arith) ∙ ap (λ (t : Text). take i b ++ get_or b i 0 ∷ t) (sym behind) in
          let d = first_difference (take i a) (take i b) (drop (suc i) a) (get_or a i 0) (get_or b i 0) (split_at a i 0 (omega arith)) s p f in
          (≢→same a b (λ z. f (ap (λ (t : Text). get_or t i 0) z)), sym q ∙ Looked→looked d)

      pub pair_same : get_or a i 0 ≡ get_or b i 0 → drop (length a - (k + 1)) a ≡ drop (length a - (k + 1)) b
      pair_same f =
          let q : length a - (k + 1) ≡ i = omega arith in
          rw (q, drop-cons a i 0 (omega arith), drop-cons b i 0 (omega arith), f, behind)
