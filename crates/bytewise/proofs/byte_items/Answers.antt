-- The loop: the bytes of the items passed stand behind the header (`Filling`).
use native.Mathlib.Omega.{arith}
use Prim.Native.Nat.{ℕ, ◌+◌}
use mathlib.Core.Path.{refl, subst}
use borrow.Author.Rules.{rules}
use borrow.Author.Rules.{part_to_end}
use lib.ListN.{length-drop}
use Rattle.std.proofs.lemmas.Result.{err_from_is_err_and}
use Rattle.frame.specs.ValueFrame.{read_value}
use Rattle.frame.proofs.Measuring.{spans-le}
use Rattle.frame.proofs.Counting.{reads-list}
use Rattle.buffer.proofs.BuiltLaws.{built-small}
use Rattle.bytewise.proofs.ByteLaws.{Filling, filling-start, filling-first, filling_step, items-accepted, items_refused}
use Rattle.bytewise.proofs.byte_items.Goals as goal

pub read2-count-requires : goal.read2-count-requires
read2-count-requires c = reads-list (read_value c.args.depth) c.args.v.now c.requires

pub overflow_cast-h : goal.overflow_cast-h
overflow_cast-h c = omega (arith, c.read2-count.type_inv)

pub loop-init : goal.loop-init
loop-init c = (
  subst (λ (k : ℕ). Filling (read_value c.args.depth) c.args.v.now k 2 c.put-n.new.out c.put-n.result) (omega arith)
      (filling-start (read_value c.args.depth) _ _ _ _ c.requires c.read2-count.ensures (omega (arith, c.read2-count.type_inv)) c.put-n.ensures),
  refl,
)

pub slice_bounds-try_u8-count : goal.slice_bounds-try_u8-count
slice_bounds-try_u8-count c = omega (arith, c.loop.invariant.0.inside)

pub slice_bounds-try_u8-start : goal.slice_bounds-try_u8-start
slice_bounds-try_u8-start c = omega (arith, c.loop.invariant.0.inside)

pub try_u8-requires : goal.try_u8-requires
try_u8-requires c = filling-first (read_value c.args.depth) c.args.v.now _ _ _ _ c.loop.invariant.0 (omega arith) _ (part_to_end c.args.v.now c.loop.at)

pub returns-in_err-b : goal.returns-in_err-b
returns-in_err-b c =
    let p = err_from_is_err_and c.from_residual.result c.from_residual.ensures.1 in
    rw (p.1, p.2) (items_refused (read_value c.args.depth) c.args.v.now _ _ _ _ c.loop.invariant.0 (omega arith) _ (part_to_end c.args.v.now c.loop.at) _ c.in_err-b.ensures _)

pub append-n-requires : goal.append-n-requires
append-n-requires c = built-small _ _ _ c.loop.invariant.0.built

pub slice_bounds-value_len-count : goal.slice_bounds-value_len-count
slice_bounds-value_len-count c = omega (arith, c.loop.invariant.0.inside)

pub slice_bounds-value_len-start : goal.slice_bounds-value_len-start
slice_bounds-value_len-start c = omega (arith, c.loop.invariant.0.inside)

pub value_len-at-requires : goal.value_len-at-requires
value_len-at-requires c = filling-first (read_value c.args.depth) c.args.v.now _ _ _ _ c.loop.invariant.0 (omega arith) _ (part_to_end c.args.v.now c.loop.at)

pub overflow_add-at : goal.overflow_add-at
overflow_add-at c = omega (arith, c.loop.invariant.0.inside, spans-le _ _ _ (rw part_to_end at c.value_len-at.ensures), length-drop c.loop.at c.args.v.now)

pub loop-preserved : goal.loop-preserved
loop-preserved c = (
  subst (λ (k : ℕ). Filling (read_value c.args.depth) c.args.v.now k (c.loop.at + c.value_len-at.result) c.append-n.new.out c.append-n.result) (omega arith)
      (filling_step (read_value c.args.depth) c.args.v.now _ _ _ _ c.loop.invariant.0 (omega arith) _ (part_to_end c.args.v.now c.loop.at) _ _ c.in_ok-b.ensures _ (part_to_end c.args.v.now c.loop.at) c.value_len-at.ensures _ _ c.append-n.ensures),
  search rules,
)

pub returns : goal.returns
returns c = items-accepted (read_value c.args.depth) c.args.v.now _ _ _ _ c.loop.invariant.0 (omega arith)
