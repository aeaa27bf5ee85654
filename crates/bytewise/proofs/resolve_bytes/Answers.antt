-- A Bytes and a String give their bytes, an Array the bytes of its items, and any other kind is refused.
use native.Mathlib.Omega.{arith}
use mathlib.Core.Logic.{inl, inr}
use lib.ListN.{get_or}
use Rattle.number.proofs.Laws.{get_or-all_bytes}
use Rattle.frame.specs.Tree.{kind_of, octets}
use Rattle.frame.proofs.ValueNodes.{value_there}
use Rattle.types.specs.Types.{resolve_bytes}
use Rattle.types.proofs.Contents.{bytes-content, string-content}
use Rattle.types.proofs.NodeLaws.{text-reads-counted, kind-refused}
use Rattle.types.proofs.PartLaws.{counted-reads, wrote-counted, on-counted, on-text}
use Rattle.types.proofs.OctetLaws.{bytes-other}
use Rattle.bytewise.proofs.ByteLaws.{six-or-seven, array-reads, array-answer}
use borrow.Author.Rules.{part_to_end}
use Rattle.bytewise.proofs.resolve_bytes.Goals as goal

pub bounds-v-0 : goal.bounds-v-0
bounds-v-0 c = (value_there _ _ c.requires).1

pub content-requires : goal.content-requires
content-requires c =
    elim (six-or-seven (get_or c.args.v.now 0 0) (omega arith) (omega arith))
    [ inl e ↦ counted-reads _ _ c.requires 6 bytes-content e | inr e ↦ text-reads-counted _ _ c.requires 7 string-content e ]

pub returns-in-6 : goal.returns-in-6
unfolding resolve_bytes kind_of octets
returns-in-6 c =
    elim (six-or-seven (get_or c.args.v.now 0 0) (omega arith) (omega arith)) [
      | inl e ↦ on-counted resolve_bytes _ _ c.requires 6 _ _ _ bytes-content e c.content.ensures (wrote-counted 6 _ _ _ bytes-content c.put_counted.ensures)
      | inr e ↦ on-text resolve_bytes _ _ c.requires _ _ _ e c.content.ensures (wrote-counted 6 _ _ _ bytes-content c.put_counted.ensures)
    ]

pub slice_bounds-byte_items-count : goal.slice_bounds-byte_items-count
slice_bounds-byte_items-count c = omega (arith, (value_there _ _ c.requires).1)

pub slice_bounds-byte_items-start : goal.slice_bounds-byte_items-start
slice_bounds-byte_items-start c = omega (arith, (value_there _ _ c.requires).1)

pub overflow_sub-depth : goal.overflow_sub-depth
overflow_sub-depth c = omega (arith, (value_there _ _ c.requires).0)

pub byte_items-requires : goal.byte_items-requires
byte_items-requires c = array-reads _ _ c.requires c.in-8.is _ (part_to_end c.args.v.now 1)

pub returns-in-8 : goal.returns-in-8
returns-in-8 c = array-answer _ _ c.requires c.in-8.is _ (part_to_end c.args.v.now 1) _ _ c.byte_items.ensures

pub returns-in_default : goal.returns-in_default
returns-in_default c = kind-refused resolve_bytes _ _ c.requires (get_or-all_bytes c.args.v.now (λ i. omega (arith, c.type_inv.v i))) _ (λ w e. bytes-other _ w e (λ k. omega arith) (λ k. omega arith) (λ k. omega arith)) _

pub returns-in_default-2 : goal.returns-in_default-2
returns-in_default-2 c = kind-refused resolve_bytes _ _ c.requires (get_or-all_bytes c.args.v.now (λ i. omega (arith, c.type_inv.v i))) _ (λ w e. bytes-other _ w e (λ k. omega arith) (λ k. omega arith) (λ k. omega arith)) _
