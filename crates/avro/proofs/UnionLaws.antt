-- Laws of the searches in a union: the kind table's variant, the first named variant that resolves, and the first that resolves.
use Prim.Native.Nat.{ℕ, zero, suc, ◌<◌}
use mathlib.Core.Path.{◌≡◌, refl, sym, ap, ◌∙◌, subst}
use mathlib.Core.List.{List, [], ◌∷◌}
use mathlib.Core.Option.{Option, none, some}
use mathlib.Core.Bool.{Bool, true, false, ◌&&◌, not}
use native.Mathlib.Omega.{arith}
use lib.Dec.{eqb, ltb}
use lib.ListN.{length, get_or}
use borrow.Author.Tests.{eq-eqb, ne_eqb, eqb-true, le-ltb}
use Rattle.base.specs.Base.{when◌then◌else◌, accepted}
use Rattle.types.specs.Types.{next_place}
use Rattle.avro.specs.Union.{Trial, no_trial, must_be_tried, take_variant, takes, named_variant, first_that_resolves, byTable, byName, by_trials, choose, position_of}

pub none-some : {A B : Type 0} (x : Option A) (b : A) → x ≡ none → x ≡ some b → B
none-some x b e f = let z : ◌≡◌ {A = ℕ} 0 1 = cc in absurd (omega arith)

-- ---- the kind table's variant

module _ (ts : List Trial) (i : ℕ) where
  take-if : take_variant ts (some i) ≡ (when must_be_tried (get_or ts i no_trial).kind && not (accepted (get_or ts i no_trial).outcome) then none else some i)
  unfolding take_variant
  take-if = refl

  pub take-accepted : accepted (get_or ts i no_trial).outcome ≡ true → take_variant ts (some i) ≡ some i
  take-accepted e = take-if ∙ ap (λ b. when must_be_tried (get_or ts i no_trial).kind && not b then none else some i) e ∙ go (must_be_tried (get_or ts i no_trial).kind)
    where
      go : (b : Bool) → (when b && false then none else some i) ≡ some i
      go true = refl
      go false = refl

  pub take-untried : must_be_tried (get_or ts i no_trial).kind ≡ false → take_variant ts (some i) ≡ some i
  take-untried e = take-if ∙ ap (λ b. when b && not (accepted (get_or ts i no_trial).outcome) then none else some i) e

  pub take-refused : must_be_tried (get_or ts i no_trial).kind ≡ true → accepted (get_or ts i no_trial).outcome ≡ false → take_variant ts (some i) ≡ none
  take-refused e f = take-if ∙ ap (λ b. when b && not (accepted (get_or ts i no_trial).outcome) then none else some i) e ∙ ap (λ b. when true && not b then none else some i) f

-- ---- the first that resolves

pub first-none : (ts : List Trial) → ((j : ℕ) → j < length ts → accepted (get_or ts j no_trial).outcome ≡ false) → first_that_resolves ts ≡ none
unfolding first_that_resolves next_place
first-none [] h = refl
first-none (t ∷ ts) h =
    ap (λ b. when b then some 0 else next_place (first_that_resolves ts)) (h 0 (omega arith)) ∙ ap next_place (first-none ts (λ j l. h (suc j) (omega arith)))

pub first-at : (ts : List Trial) (i : ℕ) → i < length ts → ((j : ℕ) → j < i → accepted (get_or ts j no_trial).outcome ≡ false) → accepted (get_or ts i no_trial).outcome ≡ true → first_that_resolves ts ≡ some i
unfolding first_that_resolves next_place
first-at [] i l h e = absurd (omega arith)
first-at (t ∷ ts) zero l h e = ap (λ b. when b then some 0 else next_place (first_that_resolves ts)) e
first-at (t ∷ ts) (suc i) l h e =
    ap (λ b. when b then some 0 else next_place (first_that_resolves ts)) (h 0 (omega arith)) ∙ ap next_place (first-at ts i (omega arith) (λ j m. h (suc j) (omega arith)) e)

pub first-is : (ts : List Trial) (i : ℕ) → first_that_resolves ts ≡ some i
    → (i < length ts) × ((accepted (get_or ts i no_trial).outcome ≡ true) × ((j : ℕ) → j < i → accepted (get_or ts j no_trial).outcome ≡ false))
unfolding first_that_resolves next_place
first-is [] i e = none-some none i refl e
first-is (t ∷ ts) i e = go (accepted t.outcome) refl (first_that_resolves ts) refl (λ n f. first-is ts n f)
  where
    Says : ℕ → Type 0
    Says n = (n < length (t ∷ ts)) × ((accepted (get_or (t ∷ ts) n no_trial).outcome ≡ true) × ((j : ℕ) → j < n → accepted (get_or (t ∷ ts) j no_trial).outcome ≡ false))

    before : accepted t.outcome ≡ false → (n : ℕ) → ((j : ℕ) → j < n → accepted (get_or ts j no_trial).outcome ≡ false) → (j : ℕ) → j < suc n → accepted (get_or (t ∷ ts) j no_trial).outcome ≡ false
    before p n h zero l = p
    before p n h (suc j) l = h j (omega arith)

    go : (b : Bool) → accepted t.outcome ≡ b → (x : Option ℕ) → first_that_resolves ts ≡ x
        → ((n : ℕ) → first_that_resolves ts ≡ some n → (n < length ts) × ((accepted (get_or ts n no_trial).outcome ≡ true) × ((j : ℕ) → j < n → accepted (get_or ts j no_trial).outcome ≡ false)))
        → Says i
    go true p x q rest =
        let f : some 0 ≡ some i = sym (ap (λ b. when b then some 0 else next_place (first_that_resolves ts)) p) ∙ e in
        let z : 0 ≡ i = cc in
        subst Says z (omega arith, (p, λ j l. absurd (omega arith)))
    go false p none q rest =
        let f : none ≡ some i = sym (ap next_place q) ∙ sym (ap (λ b. when b then some 0 else next_place (first_that_resolves ts)) p) ∙ e in
        none-some none i refl f
    go false p (some n) q rest =
        let f : some (suc n) ≡ some i = sym (ap next_place q) ∙ sym (ap (λ b. when b then some 0 else next_place (first_that_resolves ts)) p) ∙ e in
        let z : suc n ≡ i = cc in
        let r = rest n q in
        subst Says z (omega (arith, r.0), (r.1.0, before p n r.1.1))

pub first-missed : (ts : List Trial) (j : ℕ) → first_that_resolves ts ≡ none → j < length ts → accepted (get_or ts j no_trial).outcome ≡ false
unfolding first_that_resolves next_place
first-missed [] j e l = absurd (omega arith)
first-missed (t ∷ ts) j e l = go (accepted t.outcome) refl (first_that_resolves ts) refl j l (λ n f h. first-missed ts n f h)
  where
    go : (b : Bool) → accepted t.outcome ≡ b → (x : Option ℕ) → first_that_resolves ts ≡ x → (j : ℕ) → j < suc (length ts)
        → ((n : ℕ) → first_that_resolves ts ≡ none → n < length ts → accepted (get_or ts n no_trial).outcome ≡ false) → accepted (get_or (t ∷ ts) j no_trial).outcome ≡ false
    go true p x q j l rest = none-some _ 0 e (ap (λ b. when b then some 0 else next_place (first_that_resolves ts)) p)
    go false p (some n) q j l rest = none-some _ (suc n) e (ap (λ b. when b then some 0 else next_place (first_that_resolves ts)) p ∙ ap next_place q)
    go false p none q zero l rest = p
    go false p none q (suc n) l rest = rest n q (omega arith)

-- ---- the first named one that resolves

pub takes-other : (k : ℕ) (ts : List Trial) (i : ℕ) → ((get_or ts i no_trial).base ≡ k → ⊥) → takes k ts i ≡ false
unfolding takes
takes-other k ts i n = ap (λ b. b && accepted (get_or ts i no_trial).outcome) (ne_eqb _ _ n)

pub takes-by : (k : ℕ) (ts : List Trial) (i : ℕ) → (get_or ts i no_trial).base ≡ k → takes k ts i ≡ accepted (get_or ts i no_trial).outcome
unfolding takes
takes-by k ts i e = ap (λ b. b && accepted (get_or ts i no_trial).outcome) (eq-eqb _ _ e)

-- a named position is taken where its variant has the base kind that is looked for and resolves, and only there
pub takes-is : (k : ℕ) (ts : List Trial) (i : ℕ) → takes k ts i ≡ true → ((get_or ts i no_trial).base ≡ k) × (accepted (get_or ts i no_trial).outcome ≡ true)
unfolding takes
takes-is k ts i h = go (eqb (get_or ts i no_trial).base k) (accepted (get_or ts i no_trial).outcome) refl refl h
  where
    go : (a b : Bool) → eqb (get_or ts i no_trial).base k ≡ a → accepted (get_or ts i no_trial).outcome ≡ b → (a && b) ≡ true → ((get_or ts i no_trial).base ≡ k) × (accepted (get_or ts i no_trial).outcome ≡ true)
    go true true p q r = (eqb-true _ _ p, q)
    go true false p q r = let z : ◌≡◌ {A = ℕ} 0 1 = cc in absurd (omega arith)
    go false b p q r = let z : ◌≡◌ {A = ℕ} 0 1 = cc in absurd (omega arith)

named-if : (ts : List Trial) (i : ℕ) (ns : List ℕ) (k : ℕ) → named_variant ts (i ∷ ns) (some k) ≡ (when takes k ts i then some i else named_variant ts ns (some k))
unfolding named_variant
named-if ts i ns k = refl

pub named-any : (ts : List Trial) (ns : List ℕ) → named_variant ts ns none ≡ none
unfolding named_variant
named-any ts ns = refl

pub named_none : (ts : List Trial) (ns : List ℕ) (k : ℕ) → ((j : ℕ) → j < length ns → takes k ts (get_or ns j 0) ≡ false) → named_variant ts ns (some k) ≡ none
unfolding named_variant
named_none ts [] k h = refl
named_none ts (n ∷ ns) k h =
    named-if ts n ns k ∙ ap (λ b. when b then some n else named_variant ts ns (some k)) (h 0 (omega arith)) ∙ named_none ts ns k (λ j l. h (suc j) (omega arith))

pub named-at : (ts : List Trial) (ns : List ℕ) (k j : ℕ) → j < length ns → ((m : ℕ) → m < j → takes k ts (get_or ns m 0) ≡ false) → takes k ts (get_or ns j 0) ≡ true → named_variant ts ns (some k) ≡ some (get_or ns j 0)
named-at ts [] k j l h e = absurd (omega arith)
named-at ts (n ∷ ns) k zero l h e = named-if ts n ns k ∙ ap (λ b. when b then some n else named_variant ts ns (some k)) e
named-at ts (n ∷ ns) k (suc j) l h e =
    named-if ts n ns k ∙ ap (λ b. when b then some n else named_variant ts ns (some k)) (h 0 (omega arith)) ∙ named-at ts ns k j (omega arith) (λ m q. h (suc m) (omega arith)) e

-- where none is taken, each of them fails
pub named-missed : (ts : List Trial) (ns : List ℕ) (k j : ℕ) → named_variant ts ns (some k) ≡ none → j < length ns → takes k ts (get_or ns j 0) ≡ false
named-missed ts [] k j e h = absurd (omega arith)
named-missed ts (n ∷ ns) k j e h = split (takes k ts n) refl j h (λ i f l. named-missed ts ns k i f l)
  where
    split : (b : Bool) → takes k ts n ≡ b → (j : ℕ) → j < suc (length ns) → ((i : ℕ) → named_variant ts ns (some k) ≡ none → i < length ns → takes k ts (get_or ns i 0) ≡ false) → takes k ts (get_or (n ∷ ns) j 0) ≡ false
    split true p j l rest = none-some _ n e (named-if ts n ns k ∙ ap (λ b. when b then some n else named_variant ts ns (some k)) p)
    split false p zero l rest = p
    split false p (suc i) l rest = rest i (sym (named-if ts n ns k ∙ ap (λ b. when b then some n else named_variant ts ns (some k)) p) ∙ e) (omega arith)

pub named-is : (ts : List Trial) (ns : List ℕ) (k i : ℕ) → named_variant ts ns (some k) ≡ some i
    → (j : ℕ) × ((j < length ns) × ((get_or ns j 0 ≡ i) × ((takes k ts i ≡ true) × ((m : ℕ) → m < j → takes k ts (get_or ns m 0) ≡ false))))
unfolding named_variant
named-is ts [] k i e = none-some none i refl e
named-is ts (n ∷ ns) k i e = go (takes k ts n) refl (λ f. named-is ts ns k i f)
  where
    before : takes k ts n ≡ false → (j : ℕ) → ((m : ℕ) → m < j → takes k ts (get_or ns m 0) ≡ false) → (m : ℕ) → m < suc j → takes k ts (get_or (n ∷ ns) m 0) ≡ false
    before p j h zero l = p
    before p j h (suc m) l = h m (omega arith)

    go : (b : Bool) → takes k ts n ≡ b
        → (named_variant ts ns (some k) ≡ some i → (j : ℕ) × ((j < length ns) × ((get_or ns j 0 ≡ i) × ((takes k ts i ≡ true) × ((m : ℕ) → m < j → takes k ts (get_or ns m 0) ≡ false)))))
        → (j : ℕ) × ((j < length (n ∷ ns)) × ((get_or (n ∷ ns) j 0 ≡ i) × ((takes k ts i ≡ true) × ((m : ℕ) → m < j → takes k ts (get_or (n ∷ ns) m 0) ≡ false))))
    go true p rest =
        let f : some n ≡ some i = sym (named-if ts n ns k ∙ ap (λ b. when b then some n else named_variant ts ns (some k)) p) ∙ e in
        let z : n ≡ i = cc in
        (0, (omega arith, (z, (ap (takes k ts) (sym z) ∙ p, λ m l. absurd (omega arith)))))
    go false p rest =
        let r = rest (sym (named-if ts n ns k ∙ ap (λ b. when b then some n else named_variant ts ns (some k)) p) ∙ e) in
        (suc r.0, (omega (arith, r.1.0), (r.1.1.0, (r.1.1.1.0, before p r.0 r.1.1.1.1))))

-- ---- the position that is chosen

pub chosen-trial : (ts : List Trial) → position_of (choose ts none none) ≡ first_that_resolves ts
unfolding choose position_of by_trials
chosen-trial ts = go (first_that_resolves ts)
  where
    go : (o : Option ℕ) → position_of (by_trials o) ≡ o
    go none = refl
    go (some i) = refl

pub chosen-both : (ts : List Trial) (u n : ℕ) → position_of (choose ts (some u) (some n)) ≡ (when ltb u n then some u else some n)
unfolding choose position_of
chosen-both ts u n = go (ltb u n)
  where
    go : (b : Bool) → position_of (when b then byTable u else byName n) ≡ (when b then some u else some n)
    go true = refl
    go false = refl

-- where table and names give one position, the names found it
pub named-when-equal : (ts : List Trial) (n : ℕ) → choose ts (some n) (some n) ≡ byName n
unfolding choose
named-when-equal ts n = ap (λ b. when b then byTable n else byName n) (le-ltb n n (omega arith))
