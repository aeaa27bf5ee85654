-- `octets::resolve_uuid_fixed` meets its contract.
use native.Mathlib.Omega.{arith}
use mathlib.Core.Logic.{inl, inr}
use Rattle.number.proofs.Laws.{get_or-all_bytes}
use Rattle.frame.specs.Tree.{UuidForm, kind_of, octets}
use Rattle.frame.proofs.ValueNodes.{value_there}
use Rattle.types.specs.Types.{resolve_uuid}
use Rattle.types.proofs.Contents.{string-content, fixed-content, uuid-content}
use Rattle.types.proofs.NodeLaws.{text-reads-counted, kind-refused}
use Rattle.types.proofs.PartLaws.{counted-reads, plain-node, wrote-plain, on-counted, on-text, on-plain}
use Rattle.types.proofs.OctetLaws.{uuid-fixed-other}
use Rattle.octets.proofs.resolve_uuid_fixed.Goals as goal

pub bounds-v-0 : goal.bounds-v-0
bounds-v-0 c = (value_there _ _ c.requires).1

pub slice_bounds-put_plain-end : goal.slice_bounds-put_plain-end
slice_bounds-put_plain-end c = (plain-node _ _ c.requires 15 16 uuid-content c.in-15.is).0

pub returns-in-15 : goal.returns-in-15
unfolding resolve_uuid kind_of octets
returns-in-15 c = on-plain (resolve_uuid (UuidForm.fixed c.args.size)) _ _ c.requires 15 16 _ _ uuid-content c.in-15.is (wrote-plain 15 16 _ _ _ uuid-content c.put_plain.ensures)

pub content-requires : goal.content-requires
content-requires c =
    elim c.in-13.is [ inl e ↦ text-reads-counted _ _ c.requires 7 string-content e | inr e ↦ counted-reads _ _ c.requires 13 fixed-content e ]

pub returns-in-13 : goal.returns-in-13
unfolding resolve_uuid kind_of octets
returns-in-13 c =
    elim c.in-13.is [
      | inl e ↦ on-text (resolve_uuid (UuidForm.fixed c.args.size)) _ _ c.requires _ _ _ e c.content.ensures c.uuid_of.ensures
      | inr e ↦ on-counted (resolve_uuid (UuidForm.fixed c.args.size)) _ _ c.requires 13 _ _ _ fixed-content e c.content.ensures c.uuid_of.ensures
    ]

pub returns-in_default : goal.returns-in_default
returns-in_default c = kind-refused (resolve_uuid (UuidForm.fixed c.args.size)) _ _ c.requires (get_or-all_bytes c.args.v.now (λ i. omega (arith, c.type_inv.v i))) _ (λ w e. uuid-fixed-other _ w e _ (λ k. grind arith) (λ k. grind arith) (λ k. grind arith)) _
