-- `streams::output::Output::put` meets its contract: where a write has failed, none is tried.
use mathlib.Core.Path.{sym, ◌∙◌}
use Rattle.streams.proofs.output.Output.put.Goals as goal
use Rattle.streams.proofs.output.Output.put.Goals.{then-self, else-self}

pub returns : goal.returns
returns g c = λ f.
    elim c.if-self.branch [ then-self w ↦ (let e = sym w.if-self.true ∙ f in cc) | else-self w ↦ w.self-is ∙ f ]
