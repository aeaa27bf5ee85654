-- `hulmbax::hulmbax_civil` meets its contract: it is `instants::civil`.
use mathlib.Core.Path.{ap, ◌∙◌}
use mathlib.Core.List.{List}
use lib.IntN.{ℤ}
use lib.ListN.{length}
use mir.Syntax.{w32}
use mir.ValLaws.{to_z-of_z}
use Rattle.base.specs.Base.{Result}
use Rattle.buffer.specs.After.{code_for, buffer_after}
use Rattle.instants.specs.Frames.{civil_for}
use Rattle.hulmbax.proofs.hulmbax_civil.Goals as goal

pub returns : goal.returns
returns c =
    let b = c.args.slots.now in
    let e = ap (λ (z : ℤ). civil_for z (length b)) (to_z-of_z w32 c.args.date c.ranges.date) in
    record { answer = to_z-of_z w32 c.civil.result (record { sfits = c.civil.type_inv }) ∙ c.civil.ensures.answer ∙ ap code_for e; contents = c.civil.ensures.contents ∙ ap (λ (x : Result (List ℤ)). buffer_after x b) e }
