-- `octets::resolve_uuid_string` meets its contract.
use native.Mathlib.Omega.{arith}
use Rattle.number.proofs.Laws.{get_or-all_bytes}
use Rattle.frame.specs.Tree.{UuidForm, kind_of, octets}
use Rattle.frame.proofs.ValueNodes.{value_there}
use Rattle.types.specs.Types.{resolve_uuid}
use Rattle.types.proofs.Contents.{string-content, uuid-content}
use Rattle.types.proofs.NodeLaws.{text-reads-counted, kind-refused}
use Rattle.types.proofs.PartLaws.{plain-node, wrote-plain, on-text, on-plain}
use Rattle.types.proofs.OctetLaws.{uuid-string-other}
use Rattle.octets.proofs.resolve_uuid_string.Goals as goal

pub bounds-v-0 : goal.bounds-v-0
bounds-v-0 c = (value_there _ _ c.requires).1

pub slice_bounds-put_plain-end : goal.slice_bounds-put_plain-end
slice_bounds-put_plain-end c = (plain-node _ _ c.requires 15 16 uuid-content c.in-15.is).0

pub returns-in-15 : goal.returns-in-15
unfolding resolve_uuid kind_of octets
returns-in-15 c = on-plain (resolve_uuid UuidForm.string) _ _ c.requires 15 16 _ _ uuid-content c.in-15.is (wrote-plain 15 16 _ _ _ uuid-content c.put_plain.ensures)

pub content-requires : goal.content-requires
content-requires c = text-reads-counted _ _ c.requires 7 string-content c.in-7.is

pub returns-in-7 : goal.returns-in-7
unfolding resolve_uuid kind_of octets
returns-in-7 c = on-text (resolve_uuid UuidForm.string) _ _ c.requires _ _ _ c.in-7.is c.content.ensures c.uuid_text.ensures

pub returns-in_default : goal.returns-in_default
returns-in_default c = kind-refused (resolve_uuid UuidForm.string) _ _ c.requires (get_or-all_bytes c.args.v.now (λ i. omega (arith, c.type_inv.v i))) _ (λ w e. uuid-string-other _ w e (λ k. omega arith) (λ k. omega arith)) _
