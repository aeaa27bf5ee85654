-- `buffer::clearing::wipe` meets its contract.
use mathlib.Core.Path.{sym, ◌∙◌}
use borrow.Author.Tests.{eq-eqb}
use Rattle.buffer.proofs.ClearLaws.{zeros-are}
use Rattle.buffer.proofs.clearing.wipe.Goals as goal

pub returns-else-bits-ne0 : goal.returns-else-bits-ne0
returns-else-bits-ne0 c = zeros-are _ (sym c.bits.ensures ∙ eq-eqb _ 0 c.if-bits-ne0.false)
