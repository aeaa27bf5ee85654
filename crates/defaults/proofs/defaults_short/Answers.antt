-- `defaults::defaults_short` meets its contract. Assumes nothing.
use mathlib.Core.Path.{◌∙◌}
use Rattle.avro.specs.Defaults.{defaults_short}
use Rattle.defaults.proofs.SoundParts.{len-tells}
use Rattle.defaults.proofs.defaults_short.Goals as goal

pub returns : goal.returns
returns c = c.is_some.ensures ∙ len-tells defaults_short _ _ _ c.short_len.ensures
