-- `hex_text::table::values` meets its contract.
use mathlib.Core.Path.{refl}
use Rattle.uuid_text.specs.Uuid.{hex_digit}
use Rattle.uuid_text.specs.Forms.{or_sixteen}
use Rattle.hex_text.specs.Values.{values_from, values}
use Rattle.hex_text.proofs.table.values.Goals as goal

pub returns : goal.returns
unfolding values values_from hex_digit or_sixteen
returns c = refl
