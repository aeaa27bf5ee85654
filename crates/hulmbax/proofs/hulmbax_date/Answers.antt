-- `hulmbax::hulmbax_date` meets its contract: it is `instants::date`.
use mathlib.Core.Path.{◌≡◌, ap, ◌∙◌}
use mathlib.Core.List.{List}
use lib.IntN.{ℤ}
use lib.ListN.{length}
use mir.Syntax.{w32}
use mir.Val.{to_z, of_z}
use mir.ValLaws.{to_z-of_z}
use Rattle.base.specs.Base.{Result}
use Rattle.buffer.specs.After.{code_for, buffer_after}
use Rattle.instants.specs.Frames.{date_for}
use Rattle.hulmbax.proofs.hulmbax_date.Goals as goal

pub returns : goal.returns
returns c =
    let a = c.args in
    let b = a.date.now in
    let e : date_for (to_z w32 (of_z w32 a.year)) (to_z w32 (of_z w32 a.month)) (to_z w32 (of_z w32 a.day)) (length b) ≡ date_for a.year a.month a.day (length b) = cc (to_z-of_z w32 a.year c.ranges.year, to_z-of_z w32 a.month c.ranges.month, to_z-of_z w32 a.day c.ranges.day) in
    record { answer = to_z-of_z w32 c.date.result (record { sfits = c.date.type_inv }) ∙ c.date.ensures.answer ∙ ap code_for e; contents = c.date.ensures.contents ∙ ap (λ (x : Result (List ℤ)). buffer_after x b) e }
