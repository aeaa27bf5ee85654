-- Code points that all fit a byte, and those of which one does not: what `all_latin1` says of each.
use Prim.Native.Nat.{ℕ, ◌≤◌, ◌<◌}
use mathlib.Core.Path.{◌≡◌, refl}
use mathlib.Core.List.Memᴰ
use mathlib.Core.List.{List, [], ◌∷◌, Memᴰ}
use mathlib.Core.Logic.{◌⊎◌, inl, inr}
use mathlib.Core.Bool.{Bool, true, false, ◌&&◌}
use native.Mathlib.Omega.{arith}
use borrow.Author.Tests.{le-leb}
use lib.Dec.{T, leb, leb→le, nleb→lt, not_T}
use lib.Ieee.Bits.{is_false}
use lib.Ieee.Fits.{and_l, and_r}
use Rattle.utf8.specs.Utf8.{all_latin1}

pub all_latin1→each : (ps : List ℕ) → T (all_latin1 ps) → (q : ℕ) → Memᴰ q ps → q ≤ 255
unfolding all_latin1
all_latin1→each [] h q m = absurd (Memᴰ.not-nil m)
all_latin1→each (p ∷ ps) h q m = go (and_l (leb p 255) (all_latin1 ps) h) (Memᴰ.cases_cons m) (all_latin1→each ps (and_r (leb p 255) (all_latin1 ps) h) q)
  where
    go : T (leb p 255) → (q ≡ p) ⊎ Memᴰ q ps → (Memᴰ q ps → q ≤ 255) → q ≤ 255
    go l (inl e) f = rw e (leb→le p 255 l)
    go l (inr n) f = f n

pub each→all_latin1 : (ps : List ℕ) → ((q : ℕ) → Memᴰ q ps → q ≤ 255) → all_latin1 ps ≡ true
unfolding all_latin1
each→all_latin1 [] h = refl
each→all_latin1 (p ∷ ps) h = rw (le-leb p 255 (h p (Memᴰ.head refl)), each→all_latin1 ps (λ q m. h q (Memᴰ.tail m)))

pub above→not_latin1 : (ps : List ℕ) (q : ℕ) → Memᴰ q ps → 255 < q → all_latin1 ps ≡ false
above→not_latin1 ps q m h = is_false (all_latin1 ps) (not_T (all_latin1 ps) (λ t. omega (arith, all_latin1→each ps t q m)))

pub not_latin1→above : (ps : List ℕ) → all_latin1 ps ≡ false → (q : ℕ) × Memᴰ q ps × (255 < q)
unfolding all_latin1
not_latin1→above [] h = let z : ◌≡◌ {A = ℕ} 0 1 = cc in absurd (omega arith)
not_latin1→above (p ∷ ps) h = go (leb p 255) refl h (not_latin1→above ps)
  where
    go : (b : Bool) → leb p 255 ≡ b → (b && all_latin1 ps) ≡ false → (all_latin1 ps ≡ false → (q : ℕ) × Memᴰ q ps × (255 < q)) → (q : ℕ) × Memᴰ q (p ∷ ps) × (255 < q)
    go true e h f = let r = f h in (r.0, Memᴰ.tail r.1, r.2)
    go false e h f = (p, Memᴰ.head refl, nleb→lt p 255 (rw e tt))
