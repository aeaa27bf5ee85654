-- `schema::names::name_mark` meets its contract. Assumes nothing.
use mathlib.Core.Path.{refl}
use Rattle.schema.specs.Slot.{mark_of}
use Rattle.schema.proofs.names.name_mark.Goals as goal

pub returns : goal.returns
unfolding mark_of
returns c = refl
