-- Each sail is listed once, in the order in which sails first appear.
use Prim.Native.Nat.{ℕ}
use mathlib.Core.Path.{◌≡◌, refl, sym, ap, ◌∙◌}
use mathlib.Core.Logic.{◌⊎◌, inl, inr, ⊎_elim}
use mathlib.Core.List.{List, [], ◌∷◌}
use mathlib.Core.Bool.{Bool, true, false}
use native.Mathlib.Omega.{arith}
use Rattle.base.specs.Base.{when◌then◌else◌}
use Rattle.text.specs.Text.{Text, same}
use Rattle.text.proofs.TextLaws.{same_refl, same→≡}
use Rattle.current.specs.Current.{Finish, over_by, current_by, without, listed_by}
use Rattle.current.specs.Claims.{In, sails_of, leave, firsts, Distinct}

pub same-is : (x y : Text) → same x y ≡ true → x ≡ y
same-is x y e = same→≡ x y (rw e tt)

pub same_not : (x y : Text) → same x y ≡ false → x ≡ y → ⊥
same_not x y e q = let z : same x y ≡ true = ap (λ (t : Text). same x t) (sym q) ∙ same_refl x in let w : ◌≡◌ {A = Bool} true false = sym z ∙ e in let u : ◌≡◌ {A = ℕ} 0 1 = cc in omega arith

over-sail : (wins : ℕ → ℕ → Bool) (c f : Finish) → (over_by wins c f).sail ≡ c.sail
unfolding over_by
over-sail wins c f = go (same f.sail c.sail) refl (wins f.seq c.seq)
  where
    go : (b : Bool) → same f.sail c.sail ≡ b → (w : Bool) → (when b then (when w then f else c) else c).sail ≡ c.sail
    go true e true = same-is f.sail c.sail e
    go true e false = refl
    go false e w = refl

pub current-sail : (wins : ℕ → ℕ → Bool) (c : Finish) (fs : List Finish) → (current_by wins c fs).sail ≡ c.sail
unfolding current_by
current-sail wins c [] = refl
current-sail wins c (f ∷ fs) = current-sail wins (over_by wins c f) fs ∙ over-sail wins c f

map-without : (x : Text) (fs : List Finish) → sails_of (without x fs) ≡ leave x (sails_of fs)
unfolding without leave
map-without x [] = refl
map-without x (f ∷ fs) = go (map-without x fs) (same f.sail x)
  where
    go : sails_of (without x fs) ≡ leave x (sails_of fs) → (b : Bool) → sails_of (when b then without x fs else f ∷ without x fs) ≡ (when b then leave x (sails_of fs) else f.sail ∷ leave x (sails_of fs))
    go ih true = ih
    go ih false = ap (λ (l : List Text). f.sail ∷ l) ih

-- the sails of what is listed: each once, in the order in which sails first appear
pub listed-sails : (wins : ℕ → ℕ → Bool) (fs : List Finish) → sails_of (listed_by wins fs) ≡ firsts (sails_of fs)
unfolding listed_by firsts
listed-sails wins [] = refl
listed-sails wins (f ∷ fs) =
    ap (λ (x : Text). x ∷ sails_of (without f.sail (listed_by wins fs))) (current-sail wins f fs)
    ∙ ap (λ (l : List Text). f.sail ∷ l) (map-without f.sail (listed_by wins fs) ∙ ap (leave f.sail) (listed-sails wins fs))

leave-in : (x y : Text) (l : List Text) → In y (leave x l) → In y l
unfolding leave In
leave-in x y [] h = absurd h
leave-in x y (z ∷ l) h = go (leave-in x y l) (same z x) h
  where
    go : (In y (leave x l) → In y l) → (b : Bool) → In y (when b then leave x l else z ∷ leave x l) → (y ≡ z) ⊎ In y l
    go ih true h = inr (ih h)
    go ih false h = ⊎_elim (λ e. inl e) (λ k. inr (ih k)) h

leave_none : (x : Text) (l : List Text) → In x (leave x l) → ⊥
unfolding leave In
leave_none x [] h = h
leave_none x (z ∷ l) h = go (leave_none x l) (same z x) refl h
  where
    go : (In x (leave x l) → ⊥) → (b : Bool) → same z x ≡ b → In x (when b then leave x l else z ∷ leave x l) → ⊥
    go ih true e h = ih h
    go ih false e h = ⊎_elim (λ q. same_not z x e (sym q)) (λ k. ih k) h

leave-distinct : (x : Text) (l : List Text) → Distinct l → Distinct (leave x l)
unfolding leave Distinct
leave-distinct x [] h = tt
leave-distinct x (z ∷ l) h = go (leave-distinct x l h.1) (same z x)
  where
    go : Distinct (leave x l) → (b : Bool) → Distinct (when b then leave x l else z ∷ leave x l)
    go ih true = ih
    go ih false = ((λ i. h.0 (leave-in x z l i)), ih)

-- no text stands there twice
pub firsts-distinct : (l : List Text) → Distinct (firsts l)
unfolding firsts Distinct
firsts-distinct [] = tt
firsts-distinct (x ∷ l) = (leave_none x (firsts l), leave-distinct x (firsts l) (firsts-distinct l))

leave-other : (x y : Text) (l : List Text) → In y l → (y ≡ x → ⊥) → In y (leave x l)
unfolding leave In
leave-other x y [] h n = absurd h
leave-other x y (z ∷ l) h n = go (λ k. leave-other x y l k n) (same z x) refl h
  where
    go : (In y l → In y (leave x l)) → (b : Bool) → same z x ≡ b → (y ≡ z) ⊎ In y l → In y (when b then leave x l else z ∷ leave x l)
    go ih true e h = ⊎_elim (λ q. absurd (n (q ∙ same-is z x e))) ih h
    go ih false e h = ⊎_elim (λ q. inl q) (λ k. inr (ih k)) h

-- and none is left out
pub firsts-all : (l : List Text) (x : Text) → In x l → In x (firsts l)
unfolding firsts In
firsts-all [] x h = absurd h
firsts-all (y ∷ l) x h = go (firsts-all l x) (same x y) refl
  where
    go : (In x l → In x (firsts l)) → (b : Bool) → same x y ≡ b → (x ≡ y) ⊎ In x (leave y (firsts l))
    go ih true e = inl (same-is x y e)
    go ih false e = ⊎_elim (λ q. inl q) (λ k. inr (leave-other y x (firsts l) (ih k) (same_not x y e))) h
