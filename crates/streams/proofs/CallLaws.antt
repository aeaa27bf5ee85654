-- What a call did, by its answer and the system's number as signed numbers and as their bits. Assumes nothing.
use Prim.Native.Nat.{ℕ, zero, suc, ◌≤◌, ◌<◌}
use mathlib.Core.Path.{◌≡◌, refl, sym, ap, ◌∙◌}
use mathlib.Core.Bool.{Bool, true, false}
use native.Mathlib.Omega.{arith}
use borrow.Author.Tests.{eq-eqb, ne_eqb}
use lib.IntN.{ℤ, pos, negsuc}
use mir.Syntax.{w32}
use mir.Val.{to_z, of_z, SFits}
use mir.ValLaws.{to_z-of_z}
use Rattle.std.specs.Prelude.{Result, Ok, Option, None, Some, IfOk, IfSome, if◌then◌else◌}
use Rattle.streams.specs.Calls.{interrupted, would_wait, is, unmoved, after, Within}
use Rattle.streams.specs.declared.calls.Step.{Step}
use Rattle.streams.specs.declared.calls.Step.TheVariants.{Took, Nothing, Again, Wait, Failed}

-- ---- the system's number

is_same : (n : ℕ) → is n (pos n) ≡ true
unfolding is
is_same n = eq-eqb n n refl

is-other : (n : ℕ) (z : ℤ) → (z ≡ pos n → ⊥) → is n z ≡ false
unfolding is
is-other n (pos k) f = ne_eqb k n (λ e. f (ap (λ (j : ℕ). pos j) e))
is-other n (negsuc k) f = refl

module _ (n : ℕ) (z : ℤ) (fits : SFits w32 z) where
  pub bits-same : to_z w32 n ≡ pos n → of_z w32 z ≡ n → is n z ≡ true
  bits-same back e = ap (is n) (sym (to_z-of_z w32 z fits) ∙ ap (to_z w32) e ∙ back) ∙ is_same n

  pub bits-other : of_z w32 (pos n) ≡ n → (of_z w32 z ≡ n → ⊥) → is n z ≡ false
  bits-other there f = is-other n z (λ e. f (ap (of_z w32) e ∙ there))

-- ---- the answer

pub took : (n : ℕ) (e : ℤ) → (n ≡ 0 → ⊥) → Took n ≡ after (pos n) e
unfolding after
took zero e f = absurd (f refl)
took (suc n) e f = refl

pub nothing : (e : ℤ) → Nothing ≡ after (pos 0) e
unfolding after
nothing e = refl

-- ---- the bytes that were moved

within-if : (room : ℕ) (a b : Bool) → Within room (if a then Again else if b then Wait else Failed)
unfolding Within
within-if room true b = tt
within-if room false true = tt
within-if room false false = tt

-- no more than were handed over
pub within-after : (room n : ℕ) (e : ℤ) → n ≤ room → Within room (after (pos n) e)
unfolding Within after
within-after room zero e h = tt
within-after room (suc k) e h = (omega arith, h)

pub within-unmoved : (room : ℕ) (e : ℤ) → Within room (unmoved e)
unfolding unmoved
within-unmoved room e = within-if room (is interrupted e) (is would_wait e)

pub within-failed : (room : ℕ) → Within room Failed
unfolding Within
within-failed room = tt

pub within-took : (room n : ℕ) (s : Step) → s ≡ Took n → Within room s → (0 < n) × (n ≤ room)
unfolding Within
within-took room n s e w = rw e at w

pub ok-most : {E : Type 0} (r : Result ℕ E) (room n : ℕ) → r ≡ Ok n → IfOk r (λ k. k ≤ room) → n ≤ room
ok-most r room n e h = rw e at h

-- ---- an error's number

pub some-unmoved : (o : Option ℤ) (z : ℤ) (s : Step) → s ≡ unmoved z → IfSome o (λ code. z ≡ code) → IfSome o (λ code. s ≡ unmoved code)
some-unmoved None z s e h = tt
some-unmoved (Some code) z s e h = e ∙ ap unmoved h
