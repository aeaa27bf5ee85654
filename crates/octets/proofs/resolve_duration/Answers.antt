-- `octets::resolve_duration` meets its contract.
use native.Mathlib.Omega.{arith}
use Rattle.number.proofs.Laws.{get_or-all_bytes}
use Rattle.frame.specs.Tree.{kind_of, octets}
use Rattle.frame.proofs.ValueNodes.{value_there}
use Rattle.types.specs.Types.{resolve_duration}
use Rattle.types.proofs.Contents.{fixed-content, duration-content}
use Rattle.types.proofs.NodeLaws.{kind-refused}
use Rattle.types.proofs.PartLaws.{counted-reads, plain-node, wrote-plain, on-counted, on-plain}
use Rattle.types.proofs.OctetLaws.{duration-other}
use Rattle.octets.proofs.resolve_duration.Goals as goal

pub bounds-v-0 : goal.bounds-v-0
bounds-v-0 c = (value_there _ _ c.requires).1

pub slice_bounds-put_duration-end : goal.slice_bounds-put_duration-end
slice_bounds-put_duration-end c = (plain-node _ _ c.requires 25 12 duration-content c.in-25.is).0

pub returns-in-25 : goal.returns-in-25
unfolding resolve_duration kind_of octets
returns-in-25 c = on-plain resolve_duration _ _ c.requires 25 12 _ _ duration-content c.in-25.is (wrote-plain 25 12 _ _ _ duration-content c.put_duration.ensures)

pub content-requires : goal.content-requires
content-requires c = counted-reads _ _ c.requires 13 fixed-content c.in-13.is

pub returns-in-13 : goal.returns-in-13
unfolding resolve_duration kind_of octets
returns-in-13 c = on-counted resolve_duration _ _ c.requires 13 _ _ _ fixed-content c.in-13.is c.content.ensures c.duration_of.ensures

pub returns-in_default : goal.returns-in_default
returns-in_default c = kind-refused resolve_duration _ _ c.requires (get_or-all_bytes c.args.v.now (λ i. omega (arith, c.type_inv.v i))) _ (λ w e. duration-other _ w e (λ k. omega arith) (λ k. omega arith)) _
