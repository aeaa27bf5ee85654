-- `octets::put_counted` meets its contract.
use Rattle.buffer.proofs.BuiltLaws.{built-small}
use Rattle.types.proofs.PartLaws.{built-header}
use Rattle.octets.proofs.put_counted.Goals as goal

pub append-requires : goal.append-requires
append-requires c = built-small _ _ _ c.put-at.ensures

pub returns : goal.returns
returns c = built-header c.args.kind c.args.t.now _ _ c.requires (c.append.ensures _ c.put-at.ensures)
