-- Each entry of the table of digit values is that of its character. Assumes nothing.
use mathlib.Core.Path.{◌≡◌, ◌∙◌, ap, sym}
use Prim.Native.Nat.{ℕ, zero, suc, ◌+◌, ◌<◌}
use native.Mathlib.Nat.{add-zero, zero-add, le_of_suc-le-suc, not-suc-le-zero}
use native.Mathlib.Omega.{arith}
use lib.ListN.{get_or}
use Rattle.uuid_text.specs.Uuid.{hex_digit}
use Rattle.uuid_text.specs.Forms.{or_sixteen}
use Rattle.hex_text.specs.Values.{values_from, values}

values_from-at : (n k i : ℕ) → i < n → get_or (values_from k n) i 0 ≡ or_sixteen (hex_digit (k + i))
unfolding values_from
values_from-at zero k i h = absurd (not-suc-le-zero h)
values_from-at (suc n) k zero h = ap (λ (c : ℕ). or_sixteen (hex_digit c)) (sym (add-zero k))
values_from-at (suc n) k (suc i) h = values_from-at n (suc k) i (le_of_suc-le-suc h) ∙ ap (λ (c : ℕ). or_sixteen (hex_digit c)) (omega arith)

pub values-at : (c : ℕ) → c < 256 → get_or values c 0 ≡ or_sixteen (hex_digit c)
unfolding values
values-at c h = values_from-at 256 0 c h ∙ ap (λ (k : ℕ). or_sixteen (hex_digit k)) (zero-add c)
