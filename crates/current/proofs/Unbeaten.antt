-- Each finish that is listed is the current one of its sail: it won over each before it, and none behind it wins over it.
use Prim.Native.Nat.{ℕ}
use mathlib.Core.Path.{◌≡◌, refl, sym, ap, subst, ◌∙◌}
use mathlib.Core.Logic.{◌⊎◌, inl, inr, ⊎_elim}
use mathlib.Core.List.{List, [], ◌∷◌, ◌++◌, append_assoc}
use mathlib.Core.Bool.{Bool, true, false}
use Rattle.base.specs.Base.{when◌then◌else◌}
use Rattle.text.specs.Text.{Text, same}
use Rattle.current.specs.Current.{Finish, over_by, current_by, without, listed_by}
use Rattle.current.specs.Claims.{TakesOver, In, Earlier, Later, Unbeaten}
use Rattle.current.proofs.Sails.{same-is, same_not}

module _ (wins : ℕ → ℕ → Bool) where
  earlier-append : (c : Finish) (xs ys : List Finish) → Earlier wins c xs → Earlier wins c ys → Earlier wins c (xs ++ ys)
  unfolding Earlier
  earlier-append c [] ys h k = k
  earlier-append c (a ∷ xs) ys h k = (h.0, earlier-append c xs ys h.1 k)

  later-append : (c : Finish) (xs ys : List Finish) → Later wins c xs → Later wins c ys → Later wins c (xs ++ ys)
  unfolding Later
  later-append c [] ys h k = k
  later-append c (a ∷ xs) ys h k = (h.0, later-append c xs ys h.1 k)

  module _ (j : TakesOver wins) (c f : Finish) (s : f.sail ≡ c.sail) (w : wins f.seq c.seq ≡ true) where
    earlier-over : (xs : List Finish) → Earlier wins c xs → Earlier wins f xs
    unfolding Earlier
    earlier-over [] h = tt
    earlier-over (a ∷ xs) h = ((λ e. j.over a.seq c.seq f.seq w (h.0 (e ∙ s))), earlier-over xs h.1)

    later-over : (ys : List Finish) → Later wins c ys → Earlier wins f ys
    unfolding Earlier Later
    later-over [] h = tt
    later-over (b ∷ ys) h = ((λ e. j.between c.seq b.seq f.seq w (h.0 (e ∙ s))), later-over ys h.1)

  module _ (j : TakesOver wins) where
    step : (hist : List Finish) (c f : Finish) → Unbeaten wins hist c → Unbeaten wins (hist ++ f ∷ []) (over_by wins c f)
    unfolding over_by Earlier Later
    step hist c f u = go (same f.sail c.sail) refl (wins f.seq c.seq) refl
      where
        stays : (f.sail ≡ c.sail → wins f.seq c.seq ≡ false) → Unbeaten wins (hist ++ f ∷ []) c
        stays h = record {
          before = u.before;
          behind = u.behind ++ f ∷ [];
          stands = ap (λ (l : List Finish). l ++ f ∷ []) u.stands ∙ append_assoc u.before (c ∷ u.behind) (f ∷ []);
          earlier = u.earlier;
          later = later-append c u.behind (f ∷ []) u.later (h, tt);
        }

        go : (b : Bool) → same f.sail c.sail ≡ b → (w : Bool) → wins f.seq c.seq ≡ w → Unbeaten wins (hist ++ f ∷ []) (when b then (when w then f else c) else c)
        go true e true q =
            let s = same-is f.sail c.sail e in
            record {
              before = hist;
              behind = [];
              stands = refl;
              earlier = subst (Earlier wins f) (sym u.stands) (earlier-append f u.before (c ∷ u.behind) (earlier-over j c f s q u.before u.earlier) ((λ e. q), later-over j c f s q u.behind u.later));
              later = tt;
            }
        go true e false q = stays (λ s. q)
        go false e w q = stays (λ s. absurd (same_not f.sail c.sail e s))

    walk : (hist fs : List Finish) (c : Finish) → Unbeaten wins hist c → Unbeaten wins (hist ++ fs) (current_by wins c fs)
    unfolding current_by
    walk hist [] c u = subst (λ (l : List Finish). Unbeaten wins l c) (end hist) u
      where
        end : (l : List Finish) → l ≡ l ++ []
        end [] = refl
        end (x ∷ l) = ap (λ (m : List Finish). x ∷ m) (end l)
    walk hist (f ∷ fs) c u = subst (λ (l : List Finish). Unbeaten wins l (current_by wins (over_by wins c f) fs)) (append_assoc hist (f ∷ []) fs) (walk (hist ++ f ∷ []) fs (over_by wins c f) (step hist c f u))

    -- the current one of a first finish and those behind it
    pub current-unbeaten : (c : Finish) (fs : List Finish) → Unbeaten wins (c ∷ fs) (current_by wins c fs)
    unfolding Earlier Later
    current-unbeaten c fs = walk (c ∷ []) fs c (record { before = []; behind = []; stands = refl; earlier = tt; later = tt })

    without_in : (x : Text) (c : Finish) (fs : List Finish) → In c (without x fs) → In c fs × (c.sail ≡ x → ⊥)
    unfolding without In
    without_in x c [] h = absurd h
    without_in x c (f ∷ fs) h = go (without_in x c fs) (same f.sail x) refl h
      where
        go : (In c (without x fs) → In c fs × (c.sail ≡ x → ⊥)) → (b : Bool) → same f.sail x ≡ b → In c (when b then without x fs else f ∷ without x fs) → ((c ≡ f) ⊎ In c fs) × (c.sail ≡ x → ⊥)
        go ih true e h = let k = ih h in (inr k.0, k.1)
        go ih false e h = ⊎_elim (λ q. (inl q, (λ s. same_not f.sail x e (sym (ap (λ (g : Finish). g.sail) q) ∙ s)))) (λ i. let k = ih i in (inr k.0, k.1)) h

    -- each finish that is listed is one of the finishes, and the current one of its sail
    pub listed-unbeaten : (fs : List Finish) (c : Finish) → In c (listed_by wins fs) → Unbeaten wins fs c
    unfolding listed_by In Earlier
    listed-unbeaten [] c h = absurd h
    listed-unbeaten (f ∷ fs) c h = ⊎_elim first (others (listed-unbeaten fs c)) h
      where
        first : c ≡ current_by wins f fs → Unbeaten wins (f ∷ fs) c
        first e = subst (Unbeaten wins (f ∷ fs)) (sym e) (current-unbeaten f fs)

        others : (In c (listed_by wins fs) → Unbeaten wins fs c) → In c (without f.sail (listed_by wins fs)) → Unbeaten wins (f ∷ fs) c
        others ih i =
            let k = without_in f.sail c (listed_by wins fs) i in
            let u = ih k.0 in
            record { before = f ∷ u.before; behind = u.behind; stands = ap (λ (l : List Finish). f ∷ l) u.stands; earlier = ((λ e. absurd (k.1 (sym e))), u.earlier); later = u.later }
