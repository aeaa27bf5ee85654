-- `octets::resolve_string` meets its contract.
use native.Mathlib.Omega.{arith}
use mathlib.Core.Logic.{inl, inr}
use Rattle.number.proofs.Laws.{get_or-all_bytes}
use Rattle.frame.specs.Tree.{kind_of, octets}
use Rattle.frame.proofs.ValueNodes.{value_there}
use Rattle.types.specs.Types.{resolve_string}
use Rattle.types.proofs.Contents.{bytes-content, string-content, fixed-content}
use Rattle.types.proofs.NodeLaws.{text-reads-counted, kind-refused}
use Rattle.types.proofs.PartLaws.{counted-reads, wrote-text, on-counted, on-text}
use Rattle.types.proofs.OctetLaws.{string-other}
use Rattle.octets.proofs.resolve_string.Goals as goal

pub bounds-v-0 : goal.bounds-v-0
bounds-v-0 c = (value_there _ _ c.requires).1

pub content-requires : goal.content-requires
content-requires c = text-reads-counted _ _ c.requires 7 string-content c.in-7.is

pub returns-in-7 : goal.returns-in-7
unfolding resolve_string kind_of octets
returns-in-7 c = on-text resolve_string _ _ c.requires _ _ _ c.in-7.is c.content.ensures (wrote-text _ _ _ c.put_counted.ensures)

pub content-requires-in-6 : goal.content-requires-in-6
content-requires-in-6 c =
    elim c.in-6.is [ inl e ↦ counted-reads _ _ c.requires 6 bytes-content e | inr e ↦ counted-reads _ _ c.requires 13 fixed-content e ]

pub returns-in-6 : goal.returns-in-6
unfolding resolve_string kind_of octets
returns-in-6 c =
    elim c.in-6.is [
      | inl e ↦ on-counted resolve_string _ _ c.requires 6 _ _ _ bytes-content e c.content-in-6.ensures c.string_of.ensures
      | inr e ↦ on-counted resolve_string _ _ c.requires 13 _ _ _ fixed-content e c.content-in-6.ensures c.string_of.ensures
    ]

pub returns-in_default : goal.returns-in_default
returns-in_default c = kind-refused resolve_string _ _ c.requires (get_or-all_bytes c.args.v.now (λ i. omega (arith, c.type_inv.v i))) _ (λ w e. string-other _ w e (λ k. grind arith) (λ k. grind arith) (λ k. grind arith)) _
