-- `value::is_frame` meets its contract: the verdict that number 5 passes.
use mathlib.Core.Path.{◌≡◌, refl, sym, ap, ◌∙◌}
use mathlib.Core.Bool.{false}
use Rattle.frame.specs.declared.Verdict.{Verdict}
use Rattle.frame.specs.declared.Verdict.TheVariants.{NoFrame, Unsound, Sound}
use Rattle.frame.proofs.Passed.{is_sound, accepted-verdict}
use Rattle.value.proofs.is_frame.Goals as goal

other : (v : Verdict) → (v ≡ Sound → ⊥) → false ≡ is_sound v
other NoFrame h = refl
other Unsound h = refl
other Sound h = absurd (h refl)

pub returns-in-Sound : goal.returns-in-Sound
returns-in-Sound c = sym (accepted-verdict c.args.s.now ∙ ap is_sound (sym c.value_frame.ensures ∙ c.in-Sound.is))

pub returns-in_default : goal.returns-in_default
returns-in_default c = other _ c.in_default.not-Sound ∙ sym (accepted-verdict c.args.s.now ∙ ap is_sound (sym c.value_frame.ensures))
