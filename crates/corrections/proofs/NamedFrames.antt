-- What is named: the current frame of each sail, and every current frame; in whatever order the frames stand.
use Prim.Native.Nat.{ℕ, zero, suc, ◌+◌, ◌-◌, ◌<◌}
use mathlib.Core.Path.{◌≡◌, refl, sym, ap, subst, ◌∙◌}
use mathlib.Core.Logic.{◌⊎◌, inl, inr, ⊎_elim}
use mathlib.Core.List.{List, [], ◌∷◌, ◌++◌, map}
use mathlib.Core.Option.{Option, some}
use mathlib.Core.Bool.{Bool, true, false, not}
use native.Mathlib.Omega.{arith}
use lib.Dec.{ltb}
use lib.ListN.{length, get_or, length-append, get_or-append}
use lib.Seq.{get_or_at, get_or-append-add}
use borrow.Author.Tests.{ltb-true, ltb-false}
use Rattle.text.specs.Text.{Text}
use Rattle.frame.proofs.Reading.{bind_inv}
use Rattle.finishes.specs.Finish.{finish_of}
use Rattle.current.specs.Current.{Finish, listed_by}
use Rattle.current.specs.Claims.{TakesOver, In, Earlier, Later, Unbeaten, sails_of, firsts}
use Rattle.current.proofs.Sails.{listed-sails, firsts-all}
use Rattle.current.proofs.Unbeaten.{listed-unbeaten}
use Rattle.corrections.specs.Named.{placed, finishes, places}
use Rattle.corrections.specs.Claims.{SaysAt, CurrentAt, Reordered, sail_or, sail_in}

-- ---- the finishes of a list, frame by frame

abbrev nobody : Finish
nobody = record { place = 0; sail = []; seq = 0 }

pub length-finishes : (i : ℕ) (vs : List (List ℕ)) (fs : List Finish) → finishes i vs ≡ some fs → length fs ≡ length vs
unfolding finishes
length-finishes i [] fs e = let q : [] ≡ fs = cc in ap length (sym q)
length-finishes i (v ∷ vs) fs e =
    let a = bind_inv (finish_of v) _ fs e in
    let b = bind_inv (finishes (suc i) vs) _ fs a.1.1 in
    let q : placed i a.0 ∷ b.0 ≡ fs = let z = b.1.1 in cc in
    ap length (sym q) ∙ ap suc (length-finishes (suc i) vs b.0 b.1.0)

-- finish k is what frame k says, with its place
finishes-at : (i : ℕ) (vs : List (List ℕ)) (fs : List Finish) → finishes i vs ≡ some fs → (k : ℕ) → k < length vs
    → (x : Text × ℕ) × ((finish_of (get_or vs k []) ≡ some x) × (get_or fs k nobody ≡ placed (i + k) x))
unfolding finishes
finishes-at i [] fs e k h = absurd (omega (arith, h))
finishes-at i (v ∷ vs) fs e zero h =
    let a = bind_inv (finish_of v) _ fs e in
    let b = bind_inv (finishes (suc i) vs) _ fs a.1.1 in
    let q : placed i a.0 ∷ b.0 ≡ fs = let z = b.1.1 in cc in
    let p : i ≡ i + 0 = omega arith in
    (a.0, (a.1.0, ap (λ (l : List Finish). get_or l 0 nobody) (sym q) ∙ ap (λ (j : ℕ). placed j a.0) p))
finishes-at i (v ∷ vs) fs e (suc k) h =
    let a = bind_inv (finish_of v) _ fs e in
    let b = bind_inv (finishes (suc i) vs) _ fs a.1.1 in
    let q : placed i a.0 ∷ b.0 ≡ fs = let z = b.1.1 in cc in
    let r = finishes-at (suc i) vs b.0 b.1.0 k (omega (arith, h)) in
    let p : suc i + k ≡ i + suc k = omega arith in
    (r.0, (r.1.0, ap (λ (l : List Finish). get_or l (suc k) nobody) (sym q) ∙ r.1.1 ∙ ap (λ (j : ℕ). placed j r.0) p))

said_at : (vs : List (List ℕ)) (fs : List Finish) → finishes 0 vs ≡ some fs → (k : ℕ) (x : Text) (n : ℕ) → SaysAt vs k x n
    → ((get_or fs k nobody).place ≡ k) × (((get_or fs k nobody).sail ≡ x) × ((get_or fs k nobody).seq ≡ n))
unfolding placed
said_at vs fs e k x n s =
    let r = finishes-at 0 vs fs e k s.0 in
    let o : ◌≡◌ {A = Option (Text × ℕ)} (some r.0) (some (x, n)) = sym r.1.0 ∙ s.1 in
    let q : r.0 ≡ (x, n) = cc in
    let p : 0 + k ≡ k = omega arith in (
      ap (λ (f : Finish). f.place) r.1.1 ∙ p,
      (ap (λ (f : Finish). f.sail) r.1.1 ∙ ap (λ (y : Text × ℕ). y.0) q, ap (λ (f : Finish). f.seq) r.1.1 ∙ ap (λ (y : Text × ℕ). y.1) q),
    )

-- ---- what holds of all in a list, of each

earlier-at : (wins : ℕ → ℕ → Bool) (c : Finish) (xs : List Finish) → Earlier wins c xs → (q : ℕ) → q < length xs → (get_or xs q nobody).sail ≡ c.sail → wins c.seq (get_or xs q nobody).seq ≡ true
unfolding Earlier
earlier-at wins c [] h q l = absurd (omega (arith, l))
earlier-at wins c (f ∷ xs) h zero l = h.0
earlier-at wins c (f ∷ xs) h (suc q) l = earlier-at wins c xs h.1 q (omega (arith, l))

later-at : (wins : ℕ → ℕ → Bool) (c : Finish) (xs : List Finish) → Later wins c xs → (q : ℕ) → q < length xs → (get_or xs q nobody).sail ≡ c.sail → wins (get_or xs q nobody).seq c.seq ≡ false
unfolding Later
later-at wins c [] h q l = absurd (omega (arith, l))
later-at wins c (f ∷ xs) h zero l = h.0
later-at wins c (f ∷ xs) h (suc q) l = later-at wins c xs h.1 q (omega (arith, l))

-- ---- one that is unbeaten is the current frame

module _ (wins : ℕ → ℕ → Bool) (vs : List (List ℕ)) (fs : List Finish) (e : finishes 0 vs ≡ some fs) where
  module _ (c : Finish) (u : Unbeaten wins fs c) where
    abbrev at : ℕ
    at = length u.before

    split : (k : ℕ) → get_or fs k nobody ≡ get_or (u.before ++ c ∷ u.behind) k nobody
    split k = ap (λ (l : List Finish). get_or l k nobody) u.stands

    long : length vs ≡ at + suc (length u.behind)
    long = sym (length-finishes 0 vs fs e) ∙ ap length u.stands ∙ length-append u.before (c ∷ u.behind)

    here : get_or fs at nobody ≡ c
    here = split at ∙ get_or_at u.before c u.behind nobody at refl

    said : (x : Text × ℕ) × ((finish_of (get_or vs at []) ≡ some x) × (get_or fs at nobody ≡ placed (0 + at) x))
    said = finishes-at 0 vs fs e at (omega (arith, long))

    is : c ≡ placed (0 + at) said.0
    is = sym here ∙ said.1.1

    pub place_is : c.place ≡ at
    unfolding placed
    place_is = let z : 0 + at ≡ at = omega arith in ap (λ (f : Finish). f.place) is ∙ z

    says : SaysAt vs at c.sail c.seq
    unfolding placed
    says = (omega (arith, long), said.1.0 ∙ ap (λ (y : Text). some (y, said.0.1)) (sym (ap (λ (f : Finish). f.sail) is)) ∙ ap (λ (n : ℕ). some (c.sail, n)) (sym (ap (λ (f : Finish). f.seq) is)))

    before_at : (q m : ℕ) → q < at → SaysAt vs q c.sail m → wins c.seq m ≡ true
    before_at q m h s =
        let r = said_at vs fs e q c.sail m s in
        let g : get_or fs q nobody ≡ get_or u.before q nobody = split q ∙ get_or-append u.before (c ∷ u.behind) nobody q h in
        ap (wins c.seq) (sym r.1.1 ∙ ap (λ (f : Finish). f.seq) g)
        ∙ earlier-at wins c u.before u.earlier q h (sym (ap (λ (f : Finish). f.sail) g) ∙ r.1.0)

    behind-at : (q m : ℕ) → at < q → SaysAt vs q c.sail m → wins m c.seq ≡ false
    behind-at q m h s = go (q - suc at) (omega arith)
      where
        go : (j : ℕ) → q ≡ at + suc j → wins m c.seq ≡ false
        go j z =
            let r = said_at vs fs e q c.sail m s in
            let g : get_or fs q nobody ≡ get_or u.behind j nobody = split q ∙ ap (λ (k : ℕ). get_or (u.before ++ c ∷ u.behind) k nobody) z ∙ get_or-append-add u.before (c ∷ u.behind) (suc j) nobody in
            ap (λ (k : ℕ). wins k c.seq) (sym r.1.1 ∙ ap (λ (f : Finish). f.seq) g)
            ∙ later-at wins c u.behind u.later j (omega (arith, s.0, long, z)) (sym (ap (λ (f : Finish). f.sail) g) ∙ r.1.0)

    current-here : CurrentAt wins vs at
    current-here = record { sail = c.sail; seq = c.seq; says = says; earlier = before_at; later = behind-at }

    pub current-place : CurrentAt wins vs c.place
    current-place = subst (CurrentAt wins vs) (sym place_is) current-here

-- ---- members

place_in : (l : List Finish) (c : Finish) → In c l → In c.place (places l)
unfolding places In
place_in [] c h = absurd h
place_in (f ∷ l) c h = ⊎_elim (λ q. inl (ap (λ (g : Finish). g.place) q)) (λ k. inr (place_in l c k)) h

in-places : (l : List Finish) (p : ℕ) → In p (places l) → (c : Finish) × (In c l × (c.place ≡ p))
unfolding places In
in-places [] p h = absurd h
in-places (f ∷ l) p h = ⊎_elim (λ q. (f, (inl refl, sym q))) (λ k. let c = in-places l p k in (c.0, (inr c.1.0, c.1.1))) h

in-sails : (l : List Finish) (x : Text) → In x (sails_of l) → (c : Finish) × (In c l × (c.sail ≡ x))
unfolding In
in-sails [] x h = absurd h
in-sails (f ∷ l) x h = ⊎_elim (λ q. (f, (inl refl, sym q))) (λ k. let c = in-sails l x k in (c.0, (inr c.1.0, c.1.1))) h

sail-in : (l : List Finish) (k : ℕ) → k < length l → In (get_or l k nobody).sail (sails_of l)
unfolding In
sail-in [] k h = absurd (omega (arith, h))
sail-in (f ∷ l) zero h = inl refl
sail-in (f ∷ l) (suc k) h = inr (sail-in l k (omega (arith, h)))

-- ---- what is named is current, and what is current is named

no_way : (b : Bool) → b ≡ true → b ≡ false → ⊥
no_way b p q = let z : ◌≡◌ {A = Bool} true false = sym p ∙ q in let u : ◌≡◌ {A = ℕ} 0 1 = cc in omega arith

-- two current frames of one sail are the same
module _ (wins : ℕ → ℕ → Bool) (vs : List (List ℕ)) (p q : ℕ) (a : CurrentAt wins vs p) (b : CurrentAt wins vs q) (s : a.sail ≡ b.sail) where
  not-before : p < q → ⊥
  not-before h =
      no_way (wins b.seq a.seq)
      (b.earlier p a.seq h (subst (λ (x : Text). SaysAt vs p x a.seq) s a.says))
      (a.later q b.seq h (subst (λ (x : Text). SaysAt vs q x b.seq) (sym s) b.says))

  not_behind : q < p → ⊥
  not_behind h =
      no_way (wins a.seq b.seq)
      (a.earlier q b.seq h (subst (λ (x : Text). SaysAt vs q x b.seq) (sym s) b.says))
      (b.later p a.seq h (subst (λ (x : Text). SaysAt vs p x a.seq) s a.says))

  pub one-current : p ≡ q
  one-current = omega (arith, not-before, not_behind)

module _ (wins : ℕ → ℕ → Bool) (j : TakesOver wins) (vs : List (List ℕ)) (fs : List Finish) (e : finishes 0 vs ≡ some fs) where
  pub named-current : (p : ℕ) → In p (places (listed_by wins fs)) → CurrentAt wins vs p
  named-current p h =
      let c = in-places (listed_by wins fs) p h in
      subst (CurrentAt wins vs) c.1.1 (current-place wins vs fs e c.0 (listed-unbeaten wins j fs c.0 c.1.0))

  -- the listed finish of a sail that some frame says
  listed-one : (p : ℕ) (x : Text) (n : ℕ) → SaysAt vs p x n → (c : Finish) × (In c (listed_by wins fs) × (c.sail ≡ x))
  listed-one p x n s =
      let r = said_at vs fs e p x n s in
      let i : In x (sails_of fs) = subst (λ (y : Text). In y (sails_of fs)) r.1.0 (sail-in fs p (omega (arith, s.0, length-finishes 0 vs fs e))) in
      in-sails (listed_by wins fs) x (subst (In x) (sym (listed-sails wins fs)) (firsts-all (sails_of fs) x i))

  pub current-named : (p : ℕ) → CurrentAt wins vs p → In p (places (listed_by wins fs))
  unfolding current-here
  current-named p a =
      let c = listed-one p a.sail a.seq a.says in
      let u = listed-unbeaten wins j fs c.0 c.1.0 in
      let q : p ≡ length u.before = one-current wins vs p (length u.before) a (current-here wins vs fs e c.0 u) (sym c.1.1) in
      subst (λ (k : ℕ). In k (places (listed_by wins fs))) (place_is wins vs fs e c.0 u ∙ sym q) (place_in (listed_by wins fs) c.0 c.1.0)

-- ---- the sails of what is named: each once, in the order in which sails first appear

all-sails : (i : ℕ) (vs : List (List ℕ)) (fs : List Finish) → finishes i vs ≡ some fs → sails_of fs ≡ map sail_in vs
unfolding finishes placed sail_or
all-sails i [] fs e = let q : [] ≡ fs = cc in ap sails_of (sym q)
all-sails i (v ∷ vs) fs e =
    let a = bind_inv (finish_of v) _ fs e in
    let b = bind_inv (finishes (suc i) vs) _ fs a.1.1 in
    let q : placed i a.0 ∷ b.0 ≡ fs = let z = b.1.1 in cc in
    ap sails_of (sym q) ∙ ap (λ (l : List Text). a.0.0 ∷ l) (all-sails (suc i) vs b.0 b.1.0) ∙ ap (λ (o : Option (Text × ℕ)). sail_or o ∷ map sail_in vs) (sym a.1.0)

module _ (wins : ℕ → ℕ → Bool) (j : TakesOver wins) (vs : List (List ℕ)) (fs : List Finish) (e : finishes 0 vs ≡ some fs) where
  abbrev sail_at_place : ℕ → Text
  sail_at_place p = sail_in (get_or vs p [])

  own-sail : (c : Finish) → In c (listed_by wins fs) → sail_at_place c.place ≡ c.sail
  unfolding sail_or
  own-sail c h =
      let u = listed-unbeaten wins j fs c h in
      ap sail_at_place (place_is wins vs fs e c u) ∙ ap sail_or (says wins vs fs e c u).1

  own-sails : (l : List Finish) → ((c : Finish) → In c l → sail_at_place c.place ≡ c.sail) → map sail_at_place (places l) ≡ sails_of l
  unfolding places In
  own-sails [] h = refl
  own-sails (c ∷ l) h = ap (λ (x : Text). x ∷ map sail_at_place (places l)) (h c (inl refl)) ∙ ap (λ (m : List Text). c.sail ∷ m) (own-sails l (λ d k. h d (inr k)))

  pub named-sails : map sail_at_place (places (listed_by wins fs)) ≡ firsts (map sail_in vs)
  named-sails = own-sails (listed_by wins fs) own-sail ∙ listed-sails wins fs ∙ ap firsts (all-sails 0 vs fs e)

-- ---- the order of frames

other : (a b : ℕ) → (a ≡ b → ⊥) → (a < b) ⊎ (b < a)
other a b n = go (ltb a b) refl
  where
    go : (t : Bool) → ltb a b ≡ t → (a < b) ⊎ (b < a)
    go true e = inl (ltb-true a b e)
    go false e = inr (omega (arith, ltb-false a b e, n))

module _ (wins : ℕ → ℕ → Bool) (j : TakesOver wins) (vs ws : List (List ℕ)) (g h : ℕ → ℕ) (r : Reordered vs ws g h) where
  -- the frames of ws in vs, and those of vs in ws
  moved : (p : ℕ) (x : Text) (n : ℕ) → SaysAt ws p x n → SaysAt vs (g p) x n
  moved p x n s = ((r.forth p s.0).0, ap finish_of (r.forth p s.0).1 ∙ s.1)

  found : (q : ℕ) (x : Text) (n : ℕ) → SaysAt vs q x n → SaysAt ws (h q) x n
  found q x n s =
      let b = r.back q s.0 in
      (b.0, sym (ap finish_of (r.forth (h q) b.0).1) ∙ ap (λ (k : ℕ). finish_of (get_or vs k [])) b.1 ∙ s.1)

  -- of two frames with different seqs one takes over, whichever stands first
  wins-still : (m n : ℕ) → (m ≡ n → ⊥) → wins m n ≡ false → wins n m ≡ true
  wins-still m n d e = j.decided n m (λ z. d (sym z)) ∙ ap not e

  loses-still : (m n : ℕ) → (m ≡ n → ⊥) → wins n m ≡ true → wins m n ≡ false
  loses-still m n d e = j.decided m n d ∙ ap not e

  -- two frames of one sail and one seq stand in the same order in both
  module _ (p q : ℕ) (x : Text) (n m : ℕ) (s : SaysAt ws p x n) (t : SaysAt ws q x m) where
    equal-order : p < q → g q < g p → m ≡ n → ⊥
    equal-order l k e = omega (arith, k, r.keeps p q x n l s (subst (SaysAt ws q x) e t))

    -- a frame that moves past another has another seq, and no two become one
    apart : p < q → g p ≡ g q → ⊥
    apart l k =
        let o : ◌≡◌ {A = Option (Text × ℕ)} (some (x, n)) (some (x, m)) = sym s.1 ∙ sym (ap finish_of (r.forth p s.0).1) ∙ ap (λ (i : ℕ). finish_of (get_or vs i [])) k ∙ ap finish_of (r.forth q t.0).1 ∙ t.1 in
        let y : ◌≡◌ {A = Text × ℕ} (x, n) (x, m) = cc in
        let e : m ≡ n = sym (ap (λ (z : Text × ℕ). z.1) y) in
        omega (arith, k, r.keeps p q x n l s (subst (SaysAt ws q x) e t))

  -- the current one in the new order is the current one in the old
  module _ (p : ℕ) (a : CurrentAt wins ws p) where
    from-before : (q m : ℕ) → g q < g p → SaysAt ws q a.sail m → wins a.seq m ≡ true
    from-before q m k t = ⊎_elim (λ l. a.earlier q m l t) (λ l. wins-still m a.seq (equal-order p q a.sail a.seq m a.says t l k) (a.later q m l t)) (other q p (λ z. omega (arith, k, ap g z)))

    from-behind : (q m : ℕ) → g p < g q → SaysAt ws q a.sail m → wins m a.seq ≡ false
    from-behind q m k t = ⊎_elim (λ l. loses-still m a.seq (λ z. equal-order q p a.sail m a.seq t a.says l k (sym z)) (a.earlier q m l t)) (λ l. a.later q m l t) (other q p (λ z. omega (arith, k, ap g z)))

    pub reordered-current : CurrentAt wins vs (g p)
    reordered-current = record {
      sail = a.sail;
      seq = a.seq;
      says = moved p a.sail a.seq a.says;
      earlier = λ q m k s. from-before (h q) m (omega (arith, k, (r.back q s.0).1)) (found q a.sail m s);
      later = λ q m k s. from-behind (h q) m (omega (arith, k, (r.back q s.0).1)) (found q a.sail m s);
    }

  -- and the other way
  module _ (p : ℕ) (l : p < length ws) (b : CurrentAt wins vs (g p)) where
    stands : SaysAt ws p b.sail b.seq
    stands = (l, sym (ap finish_of (r.forth p l).1) ∙ b.says.1)

    to-before : (q m : ℕ) → q < p → SaysAt ws q b.sail m → wins b.seq m ≡ true
    to-before q m k t =
        ⊎_elim (λ i. b.earlier (g q) m i (moved q b.sail m t))
        (λ i. wins-still m b.seq (λ z. equal-order q p b.sail m b.seq t stands k i (sym z)) (b.later (g q) m i (moved q b.sail m t)))
        (other (g q) (g p) (apart q p b.sail m b.seq t stands k))

    to-behind : (q m : ℕ) → p < q → SaysAt ws q b.sail m → wins m b.seq ≡ false
    to-behind q m k t =
        ⊎_elim (λ i. loses-still m b.seq (equal-order p q b.sail b.seq m stands t k i) (b.earlier (g q) m i (moved q b.sail m t)))
        (λ i. b.later (g q) m i (moved q b.sail m t))
        (other (g q) (g p) (λ z. apart p q b.sail b.seq m stands t k (sym z)))

    pub current-reordered : CurrentAt wins ws p
    current-reordered = record { sail = b.sail; seq = b.seq; says = stands; earlier = to-before; later = to-behind }
