-- What is listed once one more frame was entered, and the loop over all frames.
use Prim.Native.Nat.{ℕ, zero, suc, ◌+◌, ◌≤◌, ◌<◌}
use mathlib.Core.Path.{◌≡◌, refl, sym, ap, subst, ◌∙◌}
use mathlib.Core.List.{List, [], ◌∷◌, ◌++◌}
use mathlib.Core.Bool.{Bool, true, false}
use native.Mathlib.Omega.{arith}
use native.Mathlib.Numerals.{add-one}
use lib.ListN.{length, get_or, set, take, length-set, length-map, get_or-map}
use lib.Seq.{length-take-le, take-suc-set, take-set-lt, get_or-take}
use Rattle.base.specs.Base.{when◌then◌else◌}
use Rattle.text.specs.Text.{Text}
use Rattle.finishes.specs.declared.Entry.{Entry}
use Rattle.current.specs.Current.{Finish, beats, listed, listed_by}
use Rattle.current.specs.Entering.{entered_by, place_of}
use Rattle.current.specs.Claims.{sails_of}
use Rattle.current.proofs.Entering.{listed-append, place_inside, entered-new, entered-old}
use Rattle.corrections.specs.Named.{places}
use Rattle.corrections.specs.Tables.{row_at, sail_at, row, rows, chosen, sails_at, Below}
use Rattle.corrections.proofs.ReadingLaws.{rows_more}

-- ---- places below n

pub below_next : (n : ℕ) (ps : List ℕ) → Below n ps → Below (n + 1) ps
unfolding Below
below_next n [] h = tt
below_next n (p ∷ ps) h = (omega (arith, h.0), below_next n ps h.1)

below-append : (n : ℕ) (ps qs : List ℕ) → Below n ps → Below n qs → Below n (ps ++ qs)
unfolding Below
below-append n [] qs h k = k
below-append n (p ∷ ps) qs h k = (h.0, below-append n ps qs h.1 k)

below_set : (n : ℕ) (ps : List ℕ) (k p : ℕ) → Below n ps → p < n → Below n (set ps k p)
unfolding Below
below_set n [] k p h l = tt
below_set n (q ∷ ps) zero p h l = (l, h.1)
below_set n (q ∷ ps) (suc k) p h l = (h.0, below_set n ps k p h.1 l)

pub below_at : (n : ℕ) (ps : List ℕ) (k : ℕ) → Below n ps → k < length ps → get_or ps k 0 < n
unfolding Below
below_at n [] k h l = absurd (omega (arith, l))
below_at n (p ∷ ps) zero h l = h.0
below_at n (p ∷ ps) (suc k) h l = below_at n ps k h.1 (omega (arith, l))

module _ (input : List ℕ) (table : List Entry) where
  abbrev listing : List ℕ → List Finish
  listing ps = chosen input table ps

  abbrev one : ℕ → Finish
  one k = row input table k

  chosen-sails : (ps : List ℕ) → sails_of (listing ps) ≡ sails_at input table ps
  unfolding chosen sails_at row
  chosen-sails [] = refl
  chosen-sails (p ∷ ps) = ap (λ (l : List Text). sail_at input table p ∷ l) (chosen-sails ps)

  chosen-append : (ps qs : List ℕ) → listing (ps ++ qs) ≡ listing ps ++ listing qs
  unfolding chosen
  chosen-append [] qs = refl
  chosen-append (p ∷ ps) qs = ap (λ (l : List Finish). one p ∷ l) (chosen-append ps qs)

  chosen-set : (ps : List ℕ) (k p : ℕ) → listing (set ps k p) ≡ set (listing ps) k (one p)
  unfolding chosen
  chosen-set [] k p = refl
  chosen-set (q ∷ ps) zero p = refl
  chosen-set (q ∷ ps) (suc k) p = ap (λ (l : List Finish). one q ∷ l) (chosen-set ps k p)

  length-chosen : (ps : List ℕ) → length (listing ps) ≡ length ps
  unfolding chosen
  length-chosen ps = length-map ps (row input table)

  chosen_at : (ps : List ℕ) (k : ℕ) → get_or (listing ps) k (one 0) ≡ one (get_or ps k 0)
  unfolding chosen
  chosen_at ps k = get_or-map (row input table) ps k 0

  pub chosen-places : (ps : List ℕ) → places (listing ps) ≡ ps
  unfolding chosen places row
  chosen-places [] = refl
  chosen-places (p ∷ ps) = ap (λ (l : List ℕ). p ∷ l) (chosen-places ps)

  -- ---- frame i behind the `count` places of out

  module _ (out : List ℕ) (count i k : ℕ) (size : length out ≡ 256) (few : count ≤ i) (room : i < 256) (below : Below i (take count out))
      (at : k ≡ place_of (sails_at input table (take count out)) (sail_at input table i)) where
    taken : length (take count out) ≡ count
    taken = length-take-le count out (omega (arith, size))

    place_is : place_of (sails_of (listing (take count out))) (one i).sail ≡ k
    unfolding row
    place_is = ap (λ (l : List Text). place_of l (sail_at input table i)) (chosen-sails (take count out)) ∙ sym at

    pub place-within : k ≤ count
    place-within = omega (arith, place_inside (sails_of (listing (take count out))) (one i).sail, place_is, length-map (listing (take count out)) (λ (f : Finish). f.sail), length-chosen (take count out), taken)

    abbrev Entered : ℕ → List ℕ → Type 0
    Entered r out' = (r ≤ count + 1) × (length out' ≡ 256) × Below (i + 1) (take r out') × (listing (take r out') ≡ entered_by beats (listing (take count out)) (one i))

    pub entered-last : k ≡ count → Entered (count + 1) (set out count i)
    unfolding chosen Below
    entered-last e =
        let q : take (count + 1) (set out count i) ≡ take count out ++ i ∷ [] = ap (λ (m : ℕ). take m (set out count i)) (add-one count) ∙ take-suc-set out count i (omega (arith, size)) in (
          omega arith,
          length-set out count i ∙ size,
          subst (Below (i + 1)) (sym q) (below-append (i + 1) (take count out) (i ∷ []) (below_next i (take count out) below) (below_one i)),
          ap listing q ∙ chosen-append (take count out) (i ∷ []) ∙ sym (entered-new beats (listing (take count out)) (one i) (omega (arith, place_is, e, length-chosen (take count out), taken))),
        )
      where
        below_one : (i : ℕ) → Below (i + 1) (i ∷ [])
        below_one i = (omega arith, tt)

    module _ (n : k ≡ count → ⊥) where
      pub place-below : k < count
      place-below = omega (arith, n, place-within)

      named : get_or (listing (take count out)) k (one 0) ≡ one (get_or out k 0)
      named = chosen_at (take count out) k ∙ ap one (get_or-take count out k 0 place-below)

      pub named-below : get_or out k 0 < i
      named-below = omega (arith, below_at i (take count out) k below (omega (arith, place-below, taken)), get_or-take count out k 0 place-below)

      old : entered_by beats (listing (take count out)) (one i) ≡ (when beats (row_at table i).rank (row_at table (get_or out k 0)).rank then set (listing (take count out)) k (one i) else listing (take count out))
      unfolding row
      old =
          entered-old beats (listing (take count out)) (one i) (one 0) (omega (arith, place_is, place-below, length-chosen (take count out), taken))
          ∙ ap (λ (m : ℕ). when beats (row_at table i).rank (get_or (listing (take count out)) m (one 0)).seq then set (listing (take count out)) m (one i) else listing (take count out)) place_is
          ∙ ap (λ (f : Finish). when beats (row_at table i).rank f.seq then set (listing (take count out)) k (one i) else listing (take count out)) named

      pub entered-over : beats (row_at table i).rank (row_at table (get_or out k 0)).rank ≡ true → Entered count (set out k i)
      entered-over w =
          let q : take count (set out k i) ≡ set (take count out) k i = take-set-lt count out k i place-below in (
            omega arith,
            length-set out k i ∙ size,
            subst (Below (i + 1)) (sym q) (below_set (i + 1) (take count out) k i (below_next i (take count out) below) (omega arith)),
            ap listing q ∙ chosen-set (take count out) k i ∙ sym (old ∙ ap (λ (b : Bool). when b then set (listing (take count out)) k (one i) else listing (take count out)) w),
          )

      pub entered-kept : beats (row_at table i).rank (row_at table (get_or out k 0)).rank ≡ false → Entered count out
      entered-kept w = (
        omega arith,
        size,
        below_next i (take count out) below,
        sym (old ∙ ap (λ (b : Bool). when b then set (listing (take count out)) k (one i) else listing (take count out)) w),
      )

  -- ---- i frames entered

  pub record Listing (n : ℕ) (out : List ℕ) (count i : ℕ) : Type 0 where
    pub inside : i ≤ n
    pub few : count ≤ i
    pub size : length out ≡ 256
    pub below : Below i (take count out)
    pub so_far : listing (take count out) ≡ listed (rows input table i)

  pub listing_start : (n : ℕ) (out : List ℕ) → length out ≡ 256 → Listing n out 0 0
  unfolding Below chosen rows listed_by
  listing_start n out z = record { inside = omega arith; few = omega arith; size = z; below = tt; so_far = refl }

  pub listing_step : (n : ℕ) (out out' : List ℕ) (count i r : ℕ) → Listing n out count i → i < n
      → (r ≤ count + 1) × (length out' ≡ 256) × Below (i + 1) (take r out') × (listing (take r out') ≡ entered_by beats (listing (take count out)) (one i))
      → Listing n out' r (i + 1)
  listing_step n out out' count i r w h e = record {
    inside = omega arith;
    few = omega (arith, w.few, e.0);
    size = e.1;
    below = e.2;
    so_far = e.3
        ∙ ap (λ (l : List Finish). entered_by beats l (one i)) w.so_far
        ∙ sym (listed-append beats (rows input table i) (one i))
        ∙ ap listed (sym (rows_more input table i));
  }

  pub listing-end : (n : ℕ) (out : List ℕ) (count i : ℕ) → Listing n out count i → n ≤ i → (count ≤ n) × (length out ≡ 256) × (take count out ≡ places (listed (rows input table n)))
  listing-end n out count i w h =
      let e : i ≡ n = omega (arith, w.inside) in (
        omega (arith, w.few, e),
        w.size,
        sym (chosen-places (take count out)) ∙ ap places (w.so_far ∙ ap (λ (k : ℕ). listed (rows input table k)) e),
      )
