-- `symbols::put_enum` meets its contract.
use native.Mathlib.Omega.{arith}
use Rattle.buffer.proofs.BuiltLaws.{built-small}
use Rattle.symbols.proofs.EnumLaws.{built-enum}
use Rattle.symbols.proofs.put_enum.Goals as goal

pub append-requires : goal.append-requires
append-requires c = built-small _ _ _ c.put-at.ensures

pub returns : goal.returns
returns c = built-enum c.args.i c.args.t.now _ _ (omega arith) c.requires (c.append.ensures _ c.put-at.ensures)
