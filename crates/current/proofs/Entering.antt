-- The list of current finishes, once one more was entered.
use Prim.Native.Nat.{ℕ, suc, ◌≤◌, ◌<◌}
use mathlib.Core.Path.{◌≡◌, refl, sym, ap, ◌∙◌}
use mathlib.Core.List.{List, [], ◌∷◌, ◌++◌}
use mathlib.Core.Bool.{Bool, true, false}
use native.Mathlib.Omega.{arith}
use lib.ListN.{length, get_or, set}
use Rattle.base.specs.Base.{when◌then◌else◌}
use Rattle.text.specs.Text.{Text, same}
use Rattle.text.proofs.TextLaws.{same_refl}
use Rattle.current.specs.Current.{Finish, over_by, current_by, without, listed_by}
use Rattle.current.specs.Entering.{entered_by, place_of}
use Rattle.current.specs.Claims.{sails_of}
use Rattle.current.proofs.Sails.{same-is, current-sail}

module _ (wins : ℕ → ℕ → Bool) where
  current-append : (c f : Finish) (fs : List Finish) → current_by wins c (fs ++ f ∷ []) ≡ over_by wins (current_by wins c fs) f
  unfolding current_by
  current-append c f [] = refl
  current-append c f (g ∷ fs) = current-append (over_by wins c g) f fs

  -- ---- what is entered, without the finishes of one sail

  without-own : (x : Text) (f : Finish) → f.sail ≡ x → (l : List Finish) → without x (entered_by wins l f) ≡ without x l
  unfolding without entered_by
  without-own x f e [] = ap (λ (b : Bool). when b then [] else f ∷ []) (ap (λ (y : Text). same y x) e ∙ same_refl x)
  without-own x f e (c ∷ l) = go (same f.sail c.sail) refl (wins f.seq c.seq) (without-own x f e l)
    where
      out : (g : Finish) → g.sail ≡ x → without x (g ∷ l) ≡ without x l
      out g q = ap (λ (b : Bool). when b then without x l else g ∷ without x l) (ap (λ (y : Text). same y x) q ∙ same_refl x)

      go : (b : Bool) → same f.sail c.sail ≡ b → (w : Bool) → without x (entered_by wins l f) ≡ without x l
          → without x (when b then (when w then f else c) ∷ l else c ∷ entered_by wins l f) ≡ without x (c ∷ l)
      go true p true ih = out f e ∙ sym (out c (sym (same-is f.sail c.sail p) ∙ e))
      go true p false ih = refl
      go false p w ih = ap (λ (m : List Finish). when same c.sail x then m else c ∷ m) ih

  without_other : (x : Text) (f : Finish) → same f.sail x ≡ false → (l : List Finish) → without x (entered_by wins l f) ≡ entered_by wins (without x l) f
  unfolding without entered_by
  without_other x f e [] = ap (λ (b : Bool). when b then [] else f ∷ []) e
  without_other x f e (c ∷ l) = go (same f.sail c.sail) refl (wins f.seq c.seq) refl (without_other x f e l)
    where
      kept : (g : Finish) → same g.sail x ≡ false → without x (g ∷ l) ≡ g ∷ without x l
      kept g q = ap (λ (b : Bool). when b then without x l else g ∷ without x l) q

      own : same f.sail c.sail ≡ true → same c.sail x ≡ false
      own p = ap (λ (y : Text). same y x) (sym (same-is f.sail c.sail p)) ∙ e

      go : (b : Bool) → same f.sail c.sail ≡ b → (w : Bool) → wins f.seq c.seq ≡ w → without x (entered_by wins l f) ≡ entered_by wins (without x l) f
          → without x (when b then (when w then f else c) ∷ l else c ∷ entered_by wins l f) ≡ entered_by wins (without x (c ∷ l)) f
      go true p true q ih =
          kept f e
          ∙ sym (ap (λ (m : List Finish). entered_by wins m f) (kept c (own p))
          ∙ ap (λ (b : Bool). when b then (when wins f.seq c.seq then f else c) ∷ without x l else c ∷ entered_by wins (without x l) f) p
          ∙ ap (λ (w : Bool). (when w then f else c) ∷ without x l) q)
      go true p false q ih =
          kept c (own p)
          ∙ sym (ap (λ (m : List Finish). entered_by wins m f) (kept c (own p))
          ∙ ap (λ (b : Bool). when b then (when wins f.seq c.seq then f else c) ∷ without x l else c ∷ entered_by wins (without x l) f) p
          ∙ ap (λ (w : Bool). (when w then f else c) ∷ without x l) q)
      go false p w q ih = side (same c.sail x)
        where
          side : (b : Bool) → (when b then without x (entered_by wins l f) else c ∷ without x (entered_by wins l f)) ≡ entered_by wins (when b then without x l else c ∷ without x l) f
          side true = ih
          side false = ap (λ (m : List Finish). c ∷ m) ih ∙ sym (ap (λ (b : Bool). when b then (when wins f.seq c.seq then f else c) ∷ without x l else c ∷ entered_by wins (without x l) f) p)

  -- ---- one finish more

  entered-listed : (g f : Finish) (fs : List Finish) → listed_by wins (fs ++ f ∷ []) ≡ entered_by wins (listed_by wins fs) f → listed_by wins (g ∷ fs ++ f ∷ []) ≡ entered_by wins (listed_by wins (g ∷ fs)) f
  unfolding listed_by entered_by over_by
  entered-listed g f fs ih = start ∙ go (same f.sail c.sail) refl
    where
      c : Finish
      c = current_by wins g fs

      l : List Finish
      l = listed_by wins fs

      start : listed_by wins (g ∷ fs ++ f ∷ []) ≡ over_by wins c f ∷ without g.sail (entered_by wins l f)
      start =
          ap (λ (d : Finish). d ∷ without g.sail (listed_by wins (fs ++ f ∷ []))) (current-append g f fs)
          ∙ ap (λ (m : List Finish). over_by wins c f ∷ without g.sail m) ih

      go : (b : Bool) → same f.sail c.sail ≡ b
          → (when same f.sail c.sail then (when wins f.seq c.seq then f else c) else c) ∷ without g.sail (entered_by wins l f)
          ≡ (when same f.sail c.sail then (when wins f.seq c.seq then f else c) ∷ without g.sail l else c ∷ entered_by wins (without g.sail l) f)
      go true p =
          ap (λ (m : List Finish). over_by wins c f ∷ m) (without-own g.sail f (same-is f.sail c.sail p ∙ current-sail wins g fs) l)
          ∙ ap (λ (b : Bool). (when b then (when wins f.seq c.seq then f else c) else c) ∷ without g.sail l) p
          ∙ sym (ap (λ (b : Bool). when b then (when wins f.seq c.seq then f else c) ∷ without g.sail l else c ∷ entered_by wins (without g.sail l) f) p)
      go false p =
          ap (λ (m : List Finish). over_by wins c f ∷ m) (without_other g.sail f (ap (λ (x : Text). same f.sail x) (sym (current-sail wins g fs)) ∙ p) l)
          ∙ ap (λ (b : Bool). (when b then (when wins f.seq c.seq then f else c) else c) ∷ entered_by wins (without g.sail l) f) p
          ∙ sym (ap (λ (b : Bool). when b then (when wins f.seq c.seq then f else c) ∷ without g.sail l else c ∷ entered_by wins (without g.sail l) f) p)

  pub listed-append : (fs : List Finish) (f : Finish) → listed_by wins (fs ++ f ∷ []) ≡ entered_by wins (listed_by wins fs) f
  unfolding listed_by entered_by without current_by
  listed-append [] f = refl
  listed-append (g ∷ fs) f = entered-listed g f fs (listed-append fs f)

-- ---- by the place of its sail

pub place_inside : (l : List Text) (x : Text) → place_of l x ≤ length l
unfolding place_of
place_inside [] x = omega arith
place_inside (y ∷ l) x = go (same x y) (place_inside l x)
  where
    go : (b : Bool) → place_of l x ≤ length l → (when b then 0 else suc (place_of l x)) ≤ suc (length l)
    go true h = omega arith
    go false h = omega (arith, h)

module _ (wins : ℕ → ℕ → Bool) where
  -- where its sail is new, it is the last
  pub entered-new : (l : List Finish) (f : Finish) → length l ≤ place_of (sails_of l) f.sail → entered_by wins l f ≡ l ++ f ∷ []
  unfolding entered_by place_of
  entered-new [] f h = refl
  entered-new (c ∷ l) f h = go (same f.sail c.sail) h (entered-new l f)
    where
      go : (b : Bool) → suc (length l) ≤ (when b then 0 else suc (place_of (sails_of l) f.sail)) → (length l ≤ place_of (sails_of l) f.sail → entered_by wins l f ≡ l ++ f ∷ [])
          → (when b then (when wins f.seq c.seq then f else c) ∷ l else c ∷ entered_by wins l f) ≡ c ∷ l ++ f ∷ []
      go true h ih = absurd (omega (arith, h))
      go false h ih = ap (λ (m : List Finish). c ∷ m) (ih (omega (arith, h)))

  -- where it is not, it takes that place, or the list stays
  pub entered-old : (l : List Finish) (f d : Finish) → place_of (sails_of l) f.sail < length l
      → entered_by wins l f ≡ (when wins f.seq (get_or l (place_of (sails_of l) f.sail) d).seq then set l (place_of (sails_of l) f.sail) f else l)
  unfolding entered_by place_of
  entered-old [] f d h = absurd (omega (arith, h))
  entered-old (c ∷ l) f d h = go (same f.sail c.sail) h (entered-old l f d)
    where
      first : (w : Bool) → (when w then f else c) ∷ l ≡ (when w then f ∷ l else c ∷ l)
      first true = refl
      first false = refl

      next : (w : Bool) (k : ℕ) → c ∷ (when w then set l k f else l) ≡ (when w then c ∷ set l k f else c ∷ l)
      next true k = refl
      next false k = refl

      go : (b : Bool) → (when b then 0 else suc (place_of (sails_of l) f.sail)) < suc (length l)
          → (place_of (sails_of l) f.sail < length l → entered_by wins l f ≡ (when wins f.seq (get_or l (place_of (sails_of l) f.sail) d).seq then set l (place_of (sails_of l) f.sail) f else l))
          → (when b then (when wins f.seq c.seq then f else c) ∷ l else c ∷ entered_by wins l f)
          ≡ (when wins f.seq (get_or (c ∷ l) (when b then 0 else suc (place_of (sails_of l) f.sail)) d).seq then set (c ∷ l) (when b then 0 else suc (place_of (sails_of l) f.sail)) f else c ∷ l)
      go true h ih = first (wins f.seq c.seq)
      go false h ih = ap (λ (m : List Finish). c ∷ m) (ih (omega (arith, h))) ∙ next (wins f.seq (get_or l (place_of (sails_of l) f.sail) d).seq) (place_of (sails_of l) f.sail)
