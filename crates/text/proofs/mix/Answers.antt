-- `text::mix` meets its contract.
use mathlib.Core.Path.{refl}
use Rattle.text.specs.Hash.{mixed}
use Rattle.text.proofs.HashLaws.{mixed-fits}
use Rattle.text.proofs.mix.Goals as goal

pub overflow_add-result : goal.overflow_add-result
overflow_add-result c = record { fits = mixed-fits c.args.x c.requires }

pub returns : goal.returns
unfolding mixed
returns c = refl
