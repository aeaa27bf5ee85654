-- A record's field names, each held to the earlier ones: a name whose slot none of them took is new. Assumes nothing.
use Prim.Native.Nat.{ℕ, zero, suc, ◌+◌, ◌-◌, ◌≤◌, ◌<◌}
use mathlib.Core.Path.{◌≡◌, refl, sym, ap, ◌∙◌, subst}
use mathlib.Core.List.{List, [], ◌∷◌, ◌++◌, append_assoc, append-nil}
use mathlib.Core.Option.{some}
use mathlib.Core.Bool.{Bool, true, false, ◌&&◌, ◌||◌, not, or-true, or_assoc, and-false, and-eq-true_iff}
use mathlib.Mathlib.Data.Bool.Basic.{or-eq-false-eq-eq-false-and-eq-false}
use native.Mathlib.Omega.{arith}
use lib.Dec.{T, eqb}
use lib.ListN.{length, get_or, set, drop}
use lib.Seq.{drop-drop, get_or-set_same, get_or-set_other}
use borrow.Author.Tests.{eqb-true, eqb-false, eq-eqb, not-true}
use Rattle.base.specs.Base.{when◌then◌else◌}
use Rattle.text.specs.Text.{Text, same}
use Rattle.text.specs.Read.{Read, ◌>>=◌, read_counted}
use Rattle.text.specs.Measured.{Reads}
use Rattle.text.proofs.TextLaws.{same_refl, same→≡}
use Rattle.frame.specs.Tree.{Schema}
use Rattle.frame.specs.Readers.{read_many, read_list}
use Rattle.frame.specs.SchemaFrame.{Field, fields_of, read_field}
use Rattle.frame.specs.Sound.{has_field}
use Rattle.frame.specs.Checks.{Spans}
use Rattle.frame.proofs.Reading.{read-what, read-rest, bind-some, reads-some}
use Rattle.frame.proofs.Measuring.{spans-rest}
use Rattle.frame.proofs.Counting.{First, many-first, reads-list, Left, left-start, left-first, left_step, left_end}
use Rattle.schema.specs.Parts.{names_differ}
use Rattle.schema.specs.Slot.{mark_of, marked, may_be, name_mark}
use Rattle.schema.proofs.Checking.{seeks, name-is}

-- ---- the slots that names took

-- each name's slot may be its own
unfoldable pub Taken : (Text → ℕ) → List ℕ → List Field → Type 0
Taken key t [] = Unit {0}
Taken key t (f ∷ fs) = (may_be (get_or t (key f.0) 0) (name_mark f.0) ≡ true) × Taken key t fs

mark-there : (b v : ℕ) → may_be (marked b v) v ≡ true
unfolding may_be marked
mark-there b v = go (eqb b 0) (eqb b v)
  where
    own : eqb v v || eqb v 255 ≡ true
    own = rw (eq-eqb v v refl) refl

    go : (x y : Bool) → may_be (when x then v else when y then v else 255) v ≡ true
    go true y = own
    go false true = own
    go false false = or-true (eqb 255 v)

mark-stays : (b v w : ℕ) → (w ≡ 0 → ⊥) → may_be b w ≡ true → may_be (marked b v) w ≡ true
unfolding may_be marked
mark-stays b v w n e = go (eqb b 0) refl (eqb b v) refl
  where
    zero-not : (x y : Bool) → eqb b w ≡ x → eqb b 255 ≡ y → x || y ≡ true → b ≡ 0 → ⊥
    zero-not true y p q h z = n (sym (eqb-true b w p) ∙ z)
    zero-not false true p q h z = omega (arith, eqb-true b 255 q)
    zero-not false false p q h z = let c : ◌≡◌ {A = ℕ} 0 1 = cc in omega arith

    go : (x : Bool) → eqb b 0 ≡ x → (y : Bool) → eqb b v ≡ y → may_be (when x then v else when y then v else 255) w ≡ true
    go true p y q = absurd (zero-not (eqb b w) (eqb b 255) refl refl e (eqb-true b 0 p))
    go false p true q = ap (λ k. may_be k w) (sym (eqb-true b v q)) ∙ e
    go false p false q = or-true (eqb 255 w)

mark-some : (t : Text) → name_mark t ≡ 0 → ⊥
unfolding name_mark mark_of
mark-some t e = omega arith

same_true : (a b : Text) → same a b ≡ true → a ≡ b
same_true a b e = same→≡ a b (subst T (sym e) tt)

same-sym : (a b : Text) (x : Bool) → same a b ≡ x → same b a ≡ x
same-sym a b true e = ap (same b) (same_true a b e) ∙ same_refl b
same-sym a b false e = go (same b a) refl
  where
    go : (y : Bool) → same b a ≡ y → same b a ≡ false
    go true g = g ∙ sym (ap (same a) (same_true b a g) ∙ same_refl a) ∙ e
    go false g = g

module _ (key : Text → ℕ) (t : List ℕ) where
  -- a name whose mark is missing
  pub free_new : (n : Text) (fs : List Field) → Taken key t fs → may_be (get_or t (key n) 0) (name_mark n) ≡ false → seeks n fs ≡ false
  unfolding Taken has_field fields_of
  free_new n [] w e = refl
  free_new n (f ∷ fs) w e = go (same f.0 n) refl (free_new n fs w.1 e)
    where
      go : (x : Bool) → same f.0 n ≡ x → seeks n fs ≡ false → same f.0 n || seeks n fs ≡ false
      go true g h = let z : true ≡ false = sym w.0 ∙ ap (λ m. may_be (get_or t (key m) 0) (name_mark m)) (same_true f.0 n g) ∙ e in let y : ◌≡◌ {A = ℕ} 0 1 = cc in absurd (omega arith)
      go false g h = ap (λ x. x || seeks n fs) g ∙ h

  still : (k j v : ℕ) → k < length t → (w : ℕ) → (w ≡ 0 → ⊥) → may_be (get_or t j 0) w ≡ true → may_be (get_or (set t k (marked (get_or t k 0) v)) j 0) w ≡ true
  still k j v h w n e = go (eqb j k) refl
    where
      go : (y : Bool) → eqb j k ≡ y → may_be (get_or (set t k (marked (get_or t k 0) v)) j 0) w ≡ true
      go true g =
          let q : j ≡ k = eqb-true j k g in
          ap (λ i. may_be (get_or (set t k (marked (get_or t k 0) v)) i 0) w) q ∙ ap (λ b. may_be b w) (get_or-set_same t k (marked (get_or t k 0) v) 0 h) ∙ mark-stays (get_or t k 0) v w n (ap (λ i. may_be (get_or t i 0) w) (sym q) ∙ e)
      go false g = ap (λ b. may_be b w) (get_or-set_other t k j (marked (get_or t k 0) v) 0 (eqb-false j k g)) ∙ e

  -- one more takes its slot
  pub taken_more : (k v : ℕ) → k < length t → (fs : List Field) (f : Field) → k ≡ key f.0 → v ≡ name_mark f.0 → Taken key t fs → Taken key (set t k (marked (get_or t k 0) v)) (fs ++ (f ∷ []))
  unfolding Taken
  taken_more k v h [] f q m w =
      (ap (λ i. may_be (get_or (set t k (marked (get_or t k 0) v)) i 0) (name_mark f.0)) (sym q) ∙ ap (λ b. may_be b (name_mark f.0)) (get_or-set_same t k (marked (get_or t k 0) v) 0 h) ∙ ap (may_be (marked (get_or t k 0) v)) (sym m) ∙ mark-there (get_or t k 0) v, tt)
  taken_more k v h (g ∷ fs) f q m w = (still k (key g.0) v h (name_mark g.0) (mark-some g.0) w.0, taken_more k v h fs f q m w.1)

-- ---- names before and behind

has-append : (n : Text) (xs ys : List Field) → seeks n (xs ++ ys) ≡ seeks n xs || seeks n ys
unfolding has_field fields_of
has-append n [] ys = refl
has-append n (x ∷ xs) ys = ap (λ b. same x.0 n || b) (has-append n xs ys) ∙ sym (or_assoc (same x.0 n) (seeks n xs) (seeks n ys))

-- one more that none of them has
pub differ-more : (xs : List Field) (f : Field) → names_differ xs ≡ true → seeks f.0 xs ≡ false → names_differ (xs ++ (f ∷ [])) ≡ true
unfolding names_differ has_field fields_of
differ-more [] f d n = refl
differ-more (x ∷ xs) f d n =
    let p = (or-eq-false-eq-eq-false-and-eq-false (same x.0 f.0) (seeks f.0 xs)).0 n in
    let q = (and-eq-true_iff (not (seeks x.0 xs)) (names_differ xs)).0 d in
    let a : seeks x.0 xs ≡ false = not-true (seeks x.0 xs) q.0 in
    let b : same f.0 x.0 ≡ false = same-sym x.0 f.0 false p.0 in
    let h : seeks x.0 (xs ++ (f ∷ [])) ≡ false = has-append x.0 xs (f ∷ []) ∙ ap (λ y. y || (same f.0 x.0 || false)) a ∙ ap (λ y. y || false) b in
    ap (λ y. not y && names_differ (xs ++ (f ∷ []))) h ∙ differ-more xs f q.1 p.1

-- one that an earlier one has
pub differ-not : (xs : List Field) (f : Field) (ys : List Field) → seeks f.0 xs ≡ true → names_differ (xs ++ (f ∷ ys)) ≡ false
unfolding names_differ has_field fields_of
differ-not [] f ys n = let z : ◌≡◌ {A = ℕ} 0 1 = cc in absurd (omega arith)
differ-not (x ∷ xs) f ys n = go (same x.0 f.0) refl (λ h. differ-not xs f ys h)
  where
    go : (b : Bool) → same x.0 f.0 ≡ b → (seeks f.0 xs ≡ true → names_differ (xs ++ (f ∷ ys)) ≡ false) → names_differ ((x ∷ xs) ++ (f ∷ ys)) ≡ false
    go true e later =
        let h : seeks x.0 (xs ++ (f ∷ ys)) ≡ true = has-append x.0 xs (f ∷ ys) ∙ ap (λ y. seeks x.0 xs || (y || seeks x.0 ys)) (same-sym x.0 f.0 true e) ∙ or-true (seeks x.0 xs) in
        ap (λ y. not y && names_differ (xs ++ (f ∷ ys))) h
    go false e later =
        let h : seeks f.0 xs ≡ true = sym (ap (λ y. y || seeks f.0 xs) e) ∙ n in
        ap (λ y. not (seeks x.0 (xs ++ (f ∷ ys))) && y) (later h) ∙ and-false (not (seeks x.0 (xs ++ (f ∷ ys))))

-- ---- one thing more that was read

pub many_more : {A : Type 0} (p : List ℕ → Read A) (n : ℕ) (s : List ℕ) (xs : List A) (t : List ℕ) (a : A) (u : List ℕ) → read_many p n s ≡ some (xs, t) → p t ≡ some (a, u) → read_many p (suc n) s ≡ some (xs ++ (a ∷ []), u)
unfolding read_many ◌>>=◌
many_more p zero s xs t a u e g =
    let q : p s ≡ some (a, u) = ap p (read-rest e) ∙ g in
    bind-some _ _ a u q ∙ ap (λ l. some (l ++ (a ∷ []), u)) (read-what e)
many_more p (suc n) s xs t a u e g =
    let w = many-first p (suc n) s xs t (omega arith) e in
    let q : n ≡ suc n - 1 = omega arith in
    let v : read_many p n w.behind ≡ some (w.others, t) = ap (λ k. read_many p k w.behind) q ∙ w.reads in
    bind-some _ _ w.item w.behind w.first ∙ bind-some _ _ (w.others ++ (a ∷ [])) u (many_more p n w.behind w.others t a u v g) ∙ ap (λ l. some (l ++ (a ∷ []), u)) (sym w.cons)

-- ---- the loop over the fields: what was read, and what is left

pub record Looking (node : List ℕ → Read Schema) (low high : Text → ℕ) (s : List ℕ) (lows highs : List ℕ) (n at done : ℕ) : Type 0 where
  pub before : List Field
  pub rest : Left (read_list (read_field node) s) (read_field node) (λ l. l) (λ l. before ++ l) s at (n - done)
  pub front : read_many (read_field node) done (drop 2 s) ≡ some (before, drop at s)
  pub differ : names_differ before ≡ true
  pub taken-low : Taken low lows before
  pub taken-high : Taken high highs before

module _ (node : List ℕ → Read Schema) (low high : Text → ℕ) (s : List ℕ) where
  pub looking-start : (lows highs : List ℕ) (n : ℕ) → Reads (read_list (read_field node) s) → read_list (read_field node) s ≡ read_many (read_field node) n (drop 2 s) → Looking node low high s lows highs n 2 0
  unfolding read_many names_differ Taken
  looking-start lows highs n r e = record {
    before = [];
    rest = left-start _ (read_field node) (λ l. l) (λ l. [] ++ l) s 2 (n - 0) (reads-list _ s r) (let z : n - 0 ≡ n = omega arith in rw z e) r (λ l. refl);
    front = refl;
    differ = refl;
    taken-low = tt;
    taken-high = tt;
  }

  module _ (lows highs : List ℕ) (n at done : ℕ) (w : Looking node low high s lows highs n at done) where
    pub looking-reads : Reads (read_many (read_field node) done (drop 2 s))
    looking-reads = reads-some w.before (drop at s) w.front

    free : (key : Text → ℕ) (table : List ℕ) → Taken key table w.before → (name : Text) (k v : ℕ) → k ≡ key name → v ≡ name_mark name → may_be (get_or table k 0) v ≡ false → (fs : List Field) (u : List ℕ) → read_many (read_field node) done (drop 2 s) ≡ some (fs, u) → seeks name fs ≡ false
    free key table t name k v q m e fs u g =
        ap (seeks name) (sym (read-what (sym w.front ∙ g))) ∙ free_new key table name w.before t (ap (λ i. may_be (get_or table i 0) (name_mark name)) (sym q) ∙ ap (may_be (get_or table k 0)) (sym m) ∙ e)

    -- a mark is missing
    pub looking-low : (name : Text) (k v : ℕ) → k ≡ low name → v ≡ name_mark name → may_be (get_or lows k 0) v ≡ false → (fs : List Field) (u : List ℕ) → read_many (read_field node) done (drop 2 s) ≡ some (fs, u) → seeks name fs ≡ false
    looking-low = free low lows w.taken-low

    pub looking-high : (name : Text) (k v : ℕ) → k ≡ high name → v ≡ name_mark name → may_be (get_or highs k 0) v ≡ false → (fs : List Field) (u : List ℕ) → read_many (read_field node) done (drop 2 s) ≡ some (fs, u) → seeks name fs ≡ false
    looking-high = free high highs w.taken-high

    pub looking-end : n ≤ done → (fs : List Field) (u : List ℕ) → read_list (read_field node) s ≡ some (fs, u) → true ≡ names_differ fs
    looking-end h fs u e =
        sym (ap names_differ (left_end _ (read_field node) (λ l. l) (λ l. w.before ++ l) s at (n - done) w.rest (omega arith) fs u e ∙ append-nil w.before) ∙ w.differ)

    module _ (h : done < n) (name : Text) (v : List ℕ) (g : read_counted (drop at s) ≡ some (name, v)) (has : Bool)
        (tells : (fs : List Field) (u : List ℕ) → read_many (read_field node) done (drop 2 s) ≡ some (fs, u) → has ≡ seeks name fs) where
      abbrev more : 0 < n - done
      more = omega arith

      abbrev next : First (read_field node) (n - done) (drop at s) w.rest.rest w.rest.after
      next = left-first _ (read_field node) (λ l. l) (λ l. w.before ++ l) s at (n - done) w.rest more

      named : name ≡ next.item.0
      named = name-is node (drop at s) next.item next.behind next.first name v g

      seen : has ≡ seeks next.item.0 w.before
      seen = tells w.before (drop at s) w.front ∙ ap (λ n. seeks n w.before) named

      pub looking-hit : has ≡ true → (fs : List Field) (u : List ℕ) → read_list (read_field node) s ≡ some (fs, u) → false ≡ names_differ fs
      looking-hit t fs u e =
          sym (ap names_differ (w.rest.tells fs u e ∙ ap (λ l. w.before ++ l) next.cons) ∙ differ-not w.before next.item next.others (sym seen ∙ t))

      step : has ≡ false → (j k x : ℕ) → j ≡ low name → k ≡ high name → x ≡ name_mark name → j < length lows → k < length highs → (m : ℕ) → Spans (read_field node (drop at s)) (drop at s) m
          → Looking node low high s (set lows j (marked (get_or lows j 0) x)) (set highs k (marked (get_or highs k 0) x)) n (at + m) (done + 1)
      step t j k x p q y i l m z = record {
        before = w.before ++ (next.item ∷ []);
        rest = rest;
        front = ap (λ k. read_many (read_field node) k (drop 2 s)) one_more ∙ many_more (read_field node) done (drop 2 s) w.before (drop at s) next.item (drop (at + m) s) w.front (next.first ∙ ap (λ r. some (next.item, r)) behind);
        differ = differ-more w.before next.item w.differ (sym seen ∙ t);
        taken-low = taken_more low lows j x i w.before next.item (p ∙ ap low named) (y ∙ ap name_mark named) w.taken-low;
        taken-high = taken_more high highs k x l w.before next.item (q ∙ ap high named) (y ∙ ap name_mark named) w.taken-high;
      }
        where
          one_more : done + 1 ≡ suc done
          one_more = omega arith

          behind : next.behind ≡ drop (at + m) s
          behind = spans-rest _ (drop at s) m z next.item next.behind next.first ∙ drop-drop m at s

          rest : Left (read_list (read_field node) s) (read_field node) (λ l. l) (λ l. (w.before ++ (next.item ∷ [])) ++ l) s (at + m) (n - (done + 1))
          rest =
              let q : n - done - 1 ≡ n - (done + 1) = omega arith in
              subst (Left (read_list (read_field node) s) (read_field node) (λ l. l) (λ l. (w.before ++ (next.item ∷ [])) ++ l) s (at + m)) q
              (left_step _ (read_field node) (λ l. l) (λ l. w.before ++ l) s at (n - done) w.rest (λ l. (w.before ++ (next.item ∷ [])) ++ l) more m z (sym (append_assoc w.before (next.item ∷ []) next.others)))

      pub looking-step : has ≡ false → (j k x a b : ℕ) → j ≡ low name → k ≡ high name → x ≡ name_mark name → j < length lows → k < length highs → a ≡ marked (get_or lows j 0) x → b ≡ marked (get_or highs k 0) x
          → (m : ℕ) → Spans (read_field node (drop at s)) (drop at s) m → Looking node low high s (set lows j a) (set highs k b) n (at + m) (done + 1)
      looking-step t j k x a b p q y i l ea eb m z =
          subst (λ c. Looking node low high s (set lows j a) (set highs k c) n (at + m) (done + 1)) (sym eb)
          (subst (λ c. Looking node low high s (set lows j c) (set highs k (marked (get_or highs k 0) x)) n (at + m) (done + 1)) (sym ea) (step t j k x p q y i l m z))
