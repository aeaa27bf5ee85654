-- What the node is as an Int is written.
use Rattle.types.specs.Types.{resolve_int}
use Rattle.casts.proofs.CastLaws.{read_answer}
use Rattle.casts.proofs.resolve_int.Goals as goal

pub returns : goal.returns
returns c = read_answer _ _ resolve_int _ _ _ c.requires c.as_int.ensures c.put_cast.ensures
