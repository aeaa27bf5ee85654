-- Of a Union what it holds is looked at, and of any other kind the node itself.
use native.Mathlib.Omega.{arith}
use mathlib.Core.Path.{sym, ◌∙◌}
use Rattle.number.proofs.Laws.{get_or-all_bytes}
use Rattle.frame.proofs.ValueNodes.{value_there, value-kind}
use Rattle.bytewise.proofs.ByteLaws.{union-node, union-reads, union-answer, plain-answer}
use borrow.Author.Rules.{part_to_end}
use Rattle.bytewise.proofs.try_u8.Goals as goal

pub bounds-v-0 : goal.bounds-v-0
bounds-v-0 c = (value_there _ _ c.requires).1

pub slice_bounds-int_byte-count : goal.slice_bounds-int_byte-count
slice_bounds-int_byte-count c = omega (arith, (union-node _ _ c.requires c.if-v-eq-UNION.true).inside)

pub slice_bounds-int_byte-start : goal.slice_bounds-int_byte-start
slice_bounds-int_byte-start c = omega (arith, (union-node _ _ c.requires c.if-v-eq-UNION.true).inside)

pub overflow_sub-depth : goal.overflow_sub-depth
overflow_sub-depth c = omega (arith, (value_there _ _ c.requires).0)

pub int_byte-requires : goal.int_byte-requires
int_byte-requires c = union-reads _ _ c.requires c.if-v-eq-UNION.true _ (part_to_end c.args.v.now 5)

pub returns-then-v-eq-UNION : goal.returns-then-v-eq-UNION
returns-then-v-eq-UNION c = union-answer _ _ c.requires c.if-v-eq-UNION.true _ (part_to_end c.args.v.now 5) _ c.int_byte.ensures

pub returns-else-v-eq-UNION : goal.returns-else-v-eq-UNION
returns-else-v-eq-UNION c = plain-answer _ _ _ (λ w r e k. c.if-v-eq-UNION.false (sym (value-kind _ _ (get_or-all_bytes _ (λ i. omega (arith, c.type_inv.v i))) w r e) ∙ k)) c.int_byte-else-v-eq-UNION.ensures
