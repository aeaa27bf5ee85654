-- One of the five texts is a Float, and any other is refused.
use mathlib.Core.Path.{refl, sym, ◌∙◌}
use Rattle.frame.proofs.Reading.{read-what}
use Rattle.casts.proofs.float_of_text.Goals as goal

pub returns : goal.returns
returns c = λ t u e. c.ok_or.ensures.value ∙ rw (c.parse_special_float.ensures, read-what (sym c.content.ensures.0 ∙ e)) refl
