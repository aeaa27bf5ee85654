-- The answer is what the request's sentences say, and each of them is the answer.
use Prim.Native.Nat.{ℕ, zero, suc, ◌≤◌, ◌<◌}
use mathlib.Core.Path.{◌≡◌, refl, sym, ap, subst, ◌∙◌}
use mathlib.Core.Logic.{inl, inr}
use mathlib.Core.List.{List, [], ◌∷◌, map}
use mathlib.Core.Option.{Option, none, some}
use mathlib.Core.Bool.{Bool, true, false, ◌||◌}
use native.Mathlib.Omega.{arith}
use lib.Dec.{ltb}
use lib.ListN.{length, get_or, length-map}
use borrow.Author.Tests.{ltb-true, ltb-false}
use Rattle.base.specs.Base.{when◌then◌else◌, Result, ok, stop}
use Rattle.text.specs.Text.{Text, same}
use Rattle.text.specs.Read.{◌>>=◌}
use Rattle.buffer.specs.After.{checked_result}
use Rattle.buffer.proofs.AfterLaws.{checked_result-short, checked_result-fits}
use Rattle.lists.specs.Frames.{frames_from, frames}
use Rattle.finishes.specs.Finish.{finish_of}
use Rattle.finishes.specs.Words.{IsFinish, NoFinish}
use Rattle.finishes.proofs.Words.{finish-said, finish-is, none_said, none_is}
use Rattle.current.specs.Current.{Finish, beats, without, listed_by, listed}
use Rattle.current.specs.Claims.{In}
use Rattle.current.proofs.Rules.{by-seq}
use Rattle.corrections.specs.Named.{placed, finishes, places, names_of, names_for}
use Rattle.corrections.specs.Claims.{CurrentAt, Reordered, sail_or, sail_in, AllFinish, Lists, Named}
use Rattle.corrections.proofs.NameLaws.{names-many, names-few}
use Rattle.corrections.proofs.NamedFrames.{length-finishes, named-current, current-named, named-sails, one-current, reordered-current, current-reordered}

-- ---- the list of current frames is the only one that the words admit

module _ (wins : ℕ → ℕ → Bool) (vs : List (List ℕ)) where
  abbrev sail_at_place : ℕ → Text
  sail_at_place p = sail_in (get_or vs p [])

  own-sail : (p : ℕ) (a : CurrentAt wins vs p) → sail_at_place p ≡ a.sail
  unfolding sail_or
  own-sail p a = ap sail_or a.says.1

  head-is : (x y : Text) (xs ys : List Text) → x ∷ xs ≡ y ∷ ys → x ≡ y
  head-is x y xs ys e = cc

  tail-is : (x y : Text) (xs ys : List Text) → x ∷ xs ≡ y ∷ ys → xs ≡ ys
  tail-is x y xs ys e = cc

  same-places : (r t : List ℕ) → ((p : ℕ) → In p r → CurrentAt wins vs p) → ((p : ℕ) → In p t → CurrentAt wins vs p) → map sail_at_place r ≡ map sail_at_place t → r ≡ t
  unfolding In
  same-places [] [] a b e = refl
  same-places [] (q ∷ t) a b e = let z : ◌≡◌ {A = ℕ} 0 1 = cc in absurd (omega arith)
  same-places (p ∷ r) [] a b e = let z : ◌≡◌ {A = ℕ} 0 1 = cc in absurd (omega arith)
  same-places (p ∷ r) (q ∷ t) a b e =
      let f = a p (inl refl) in
      let g = b q (inl refl) in
      let s : sail_at_place p ≡ sail_at_place q = head-is (sail_at_place p) (sail_at_place q) (map sail_at_place r) (map sail_at_place t) e in
      let h : p ≡ q = one-current wins vs p q f g (sym (own-sail p f) ∙ s ∙ own-sail q g) in
      ap (λ (k : ℕ). k ∷ r) h ∙ ap (λ (l : List ℕ). q ∷ l) (same-places r t (λ k i. a k (inr i)) (λ k i. b k (inr i)) (tail-is (sail_at_place p) (sail_at_place q) (map sail_at_place r) (map sail_at_place t) e))

  pub lists-once : (r t : List ℕ) → Lists wins vs r → Lists wins vs t → r ≡ t
  lists-once r t a b = same-places r t a.current b.current (a.sails ∙ sym b.sails)

pub listed-lists : (vs : List (List ℕ)) (fs : List Finish) → finishes 0 vs ≡ some fs → Lists beats vs (places (listed fs))
listed-lists vs fs e = record { current = named-current beats by-seq vs fs e; sails = named-sails beats by-seq vs fs e }

-- ---- whether all frames are finishes

all_read : (i : ℕ) (vs : List (List ℕ)) → AllFinish vs → (fs : List Finish) × (finishes i vs ≡ some fs)
unfolding finishes ◌>>=◌
all_read i [] a = ([], refl)
all_read i (v ∷ vs) a =
    let f = a 0 (omega arith) in
    let r = all_read (suc i) vs (λ k h. a (suc k) (omega (arith, h))) in (
      placed i (f.0, f.1.0) ∷ r.0,
      ap (λ (o : Option (Text × ℕ)). o >>= (λ x. finishes (suc i) vs >>= (λ fs. some (placed i x ∷ fs)))) (finish-said v f.0 f.1.0 f.1.1)
          ∙ ap (λ (o : Option (List Finish)). o >>= (λ fs. some (placed i (f.0, f.1.0) ∷ fs))) r.1,
    )

none_read : (i : ℕ) (vs : List (List ℕ)) (k : ℕ) → k < length vs → NoFinish (get_or vs k []) → finishes i vs ≡ none
unfolding finishes ◌>>=◌
none_read i [] k h n = absurd (omega (arith, h))
none_read i (v ∷ vs) zero h n = ap (λ (o : Option (Text × ℕ)). o >>= (λ x. finishes (suc i) vs >>= (λ fs. some (placed i x ∷ fs)))) (none_said v n)
none_read i (v ∷ vs) (suc k) h n = go (finish_of v) (none_read (suc i) vs k (omega (arith, h)) n)
  where
    go : (o : Option (Text × ℕ)) → finishes (suc i) vs ≡ none → (o >>= (λ x. finishes (suc i) vs >>= (λ fs. some (placed i x ∷ fs)))) ≡ none
    go none e = refl
    go (some x) e = ap (λ (p : Option (List Finish)). p >>= (λ fs. some (placed i x ∷ fs))) e

first-none : (i : ℕ) (vs : List (List ℕ)) → finishes i vs ≡ none → (k : ℕ) × ((k < length vs) × NoFinish (get_or vs k []))
unfolding finishes ◌>>=◌
first-none i [] e = let z : ◌≡◌ {A = ℕ} 0 1 = cc in absurd (omega arith)
first-none i (v ∷ vs) e = go (finish_of v) refl (finishes (suc i) vs) refl (first-none (suc i) vs) e
  where
    go : (o : Option (Text × ℕ)) → finish_of v ≡ o → (q : Option (List Finish)) → finishes (suc i) vs ≡ q
        → (finishes (suc i) vs ≡ none → (k : ℕ) × ((k < length vs) × NoFinish (get_or vs k [])))
        → (o >>= (λ x. q >>= (λ fs. some (placed i x ∷ fs)))) ≡ none → (k : ℕ) × ((k < suc (length vs)) × NoFinish (get_or (v ∷ vs) k []))
    go none p q d ih e = (0, (omega arith, none_is v p))
    go (some x) p none d ih e = let r = ih d in (suc r.0, (omega (arith, r.1.0), r.1.1))
    go (some x) p (some fs) d ih e = let z : ◌≡◌ {A = ℕ} 0 1 = cc in absurd (omega arith)

read_all : (i : ℕ) (vs : List (List ℕ)) (fs : List Finish) → finishes i vs ≡ some fs → AllFinish vs
unfolding finishes ◌>>=◌
read_all i [] fs e k h = absurd (omega (arith, h))
read_all i (v ∷ vs) fs e k h = go (finish_of v) refl (finishes (suc i) vs) refl (read_all (suc i) vs) e k h
  where
    go : (o : Option (Text × ℕ)) → finish_of v ≡ o → (q : Option (List Finish)) → finishes (suc i) vs ≡ q → ((gs : List Finish) → finishes (suc i) vs ≡ some gs → AllFinish vs)
        → (o >>= (λ x. q >>= (λ fs. some (placed i x ∷ fs)))) ≡ some fs → (k : ℕ) → k < suc (length vs) → (x : Text) × ((n : ℕ) × IsFinish (get_or (v ∷ vs) k []) x n)
    go none p q d ih e k h = let z : ◌≡◌ {A = ℕ} 0 1 = cc in absurd (omega arith)
    go (some x) p none d ih e k h = let z : ◌≡◌ {A = ℕ} 0 1 = cc in absurd (omega arith)
    go (some x) p (some gs) d ih e zero h = (x.0, (x.1, finish-is v x.0 x.1 p))
    go (some x) p (some gs) d ih e (suc k) h = ih gs d k (omega (arith, h))

-- ---- no more places than frames

without-shorter : (x : Text) (l : List Finish) → length (without x l) ≤ length l
unfolding without
without-shorter x [] = omega arith
without-shorter x (f ∷ l) = go (same f.sail x) (without-shorter x l)
  where
    go : (b : Bool) → length (without x l) ≤ length l → length (when b then without x l else f ∷ without x l) ≤ suc (length l)
    go true h = omega (arith, h)
    go false h = omega (arith, h)

listed-shorter : (fs : List Finish) → length (listed fs) ≤ length fs
unfolding listed_by
listed-shorter [] = omega arith
listed-shorter (f ∷ fs) = omega (arith, without-shorter f.sail (listed fs), listed-shorter fs)

length-frames : (input : List ℕ) (from : ℕ) (ends : List ℕ) → length (frames_from input from ends) ≡ length ends
unfolding frames_from
length-frames input from [] = refl
length-frames input from (to ∷ ends) = ap suc (length-frames input to ends)

-- ---- the answer is one of the sentences

module _ (input ends : List ℕ) (buffer : ℕ) where
  abbrev vs : List (List ℕ)
  vs = frames input ends

  few-places : (fs : List Finish) → length ends ≤ 256 → finishes 0 vs ≡ some fs → length (places (listed fs)) ≤ 65535
  unfolding places
  few-places fs h e = omega (arith, length-map (listed fs) (λ (f : Finish). f.place), listed-shorter fs, length-finishes 0 vs fs e, length-frames input 0 ends, h)

  by_size : (fs : List Finish) → length ends ≤ 256 → finishes 0 vs ≡ some fs → Named input ends buffer (checked_result buffer (places (listed fs)))
  by_size fs h e = go (ltb buffer (length r)) refl
    where
      r : List ℕ
      r = places (listed fs)

      go : (b : Bool) → ltb buffer (length r) ≡ b → Named input ends buffer (checked_result buffer r)
      go true q =
          let l = ltb-true buffer (length r) q in
          subst (Named input ends buffer) (sym (checked_result-short buffer r (few-places fs h e) l)) (Named.no_room h (read_all 0 vs fs e) r (listed-lists vs fs e) l)
      go false q =
          let l = ltb-false buffer (length r) q in
          subst (Named input ends buffer) (sym (checked_result-fits buffer r (few-places fs h e) l)) (Named.named h (read_all 0 vs fs e) r (listed-lists vs fs e) l)

  pub named-so : Named input ends buffer (names_for input ends buffer)
  unfolding names_for names_of
  named-so = go (ltb 256 (length ends)) refl
    where
      next : length ends ≤ 256 → (o : Option (List Finish)) → finishes 0 vs ≡ o → Named input ends buffer (names_of buffer o)
      next h none e = let k = first-none 0 vs e in Named.no_finish h k.0 k.1.0 k.1.1
      next h (some fs) e = by_size fs h e

      go : (b : Bool) → ltb 256 (length ends) ≡ b → Named input ends buffer (when b then stop 23 else names_of buffer (finishes 0 vs))
      go true q = Named.too_many (ltb-true 256 (length ends) q)
      go false q = next (ltb-false 256 (length ends) q) (finishes 0 vs) refl

  -- ---- and each of them is the answer

  listed-is : length ends ≤ 256 → (a : AllFinish vs) (r : List ℕ) → Lists beats vs r → (names_for input ends buffer ≡ checked_result buffer r) × (length r ≤ 65535)
  unfolding names_of
  listed-is h a r l =
      let f = all_read 0 vs a in
      let q : places (listed f.0) ≡ r = lists-once beats vs (places (listed f.0)) r (listed-lists vs f.0 f.1) l in
      (names-few input ends buffer h ∙ ap (names_of buffer) f.1 ∙ ap (checked_result buffer) q, subst (λ (t : List ℕ). length t ≤ 65535) q (few-places f.0 h f.1))

  pub named-only : (x : Result (List ℕ)) → Named input ends buffer x → names_for input ends buffer ≡ x
  unfolding names_for names_of
  named-only _ (Named.too_many h) = names-many input ends buffer h
  named-only _ (Named.no_finish h k l n) = names-few input ends buffer h ∙ ap (names_of buffer) (none_read 0 vs k l n)
  named-only _ (Named.no_room h a r l s) = let q = listed-is h a r l in q.0 ∙ checked_result-short buffer r q.1 s
  named-only _ (Named.named h a r l s) = let q = listed-is h a r l in q.0 ∙ checked_result-fits buffer r q.1 s

-- ---- accepted answers

pub record Accepts (input ends r : List ℕ) : Type 0 where
  pub all : List Finish
  pub read : finishes 0 (frames input ends) ≡ some all
  pub lists : r ≡ places (listed all)

accepted : (input ends : List ℕ) (buffer : ℕ) (r : List ℕ) → names_for input ends buffer ≡ ok r → Accepts input ends r
unfolding names_for names_of checked_result
accepted input ends buffer r e = many (ltb 256 (length ends)) e
  where
    room : (fs : List Finish) (b : Bool) → finishes 0 (frames input ends) ≡ some fs → (when b then stop 18 else ok (places (listed fs))) ≡ ok r → Accepts input ends r
    room fs true q e = let z : ◌≡◌ {A = ℕ} 0 1 = cc in absurd (omega arith)
    room fs false q e = let s : places (listed fs) ≡ r = cc in record { all = fs; read = q; lists = sym s }

    next : (o : Option (List Finish)) → finishes 0 (frames input ends) ≡ o → names_of buffer o ≡ ok r → Accepts input ends r
    next none q e = let z : ◌≡◌ {A = ℕ} 0 1 = cc in absurd (omega arith)
    next (some fs) q e = room fs (ltb 65535 (length (places (listed fs))) || ltb buffer (length (places (listed fs)))) q e

    many : (b : Bool) → (when b then stop 23 else names_of buffer (finishes 0 (frames input ends))) ≡ ok r → Accepts input ends r
    many true e = let z : ◌≡◌ {A = ℕ} 0 1 = cc in absurd (omega arith)
    many false e = next (finishes 0 (frames input ends)) refl e

-- a place is named exactly where its frame is current
module _ (input ends : List ℕ) (buffer : ℕ) (r : List ℕ) (e : names_for input ends buffer ≡ ok r) where
  whole : Accepts input ends r
  whole = accepted input ends buffer r e

  pub place-current : (p : ℕ) → In p r → CurrentAt beats (frames input ends) p
  place-current p h = named-current beats by-seq (frames input ends) whole.all whole.read p (subst (In p) whole.lists h)

  pub current-place : (p : ℕ) → CurrentAt beats (frames input ends) p → In p r
  current-place p a = subst (In p) (sym whole.lists) (current-named beats by-seq (frames input ends) whole.all whole.read p a)

-- two lists of the same frames, of which those of one sail with equal seqs have the same order: the same frames are named
module _ (input ends input' ends' : List ℕ) (b b' : ℕ) (r r' : List ℕ) (e : names_for input ends b ≡ ok r) (e' : names_for input' ends' b' ≡ ok r') (g h : ℕ → ℕ) (o : Reordered (frames input ends) (frames input' ends') g h) where
  pub reordered-named : (p : ℕ) → In p r' → In (g p) r
  reordered-named p i = current-place input ends b r e (g p) (reordered-current beats by-seq (frames input ends) (frames input' ends') g h o p (place-current input' ends' b' r' e' p i))

  pub named-reordered : (p : ℕ) → p < length (frames input' ends') → In (g p) r → In p r'
  named-reordered p l i = current-place input' ends' b' r' e' p (current-reordered beats by-seq (frames input ends) (frames input' ends') g h o p l (place-current input ends b r e (g p) i))
