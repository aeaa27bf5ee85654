-- `octets::put_plain` meets its contract.
use Rattle.buffer.proofs.BuiltLaws.{built-small}
use Rattle.octets.proofs.put_plain.Goals as goal

pub append-requires : goal.append-requires
append-requires c = built-small _ _ _ c.put-at.ensures

pub returns : goal.returns
returns c = c.append.ensures _ c.put-at.ensures
