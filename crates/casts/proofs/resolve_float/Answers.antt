-- The numbers are converted, a Float keeps all its bits, a text may be one of the five, and any other kind is refused.
use native.Mathlib.Omega.{arith}
use mathlib.Core.Path.{sym, subst, ◌∙◌}
use mathlib.Core.List.{List}
use Prim.Native.Nat.{ℕ}
use borrow.Author.Rules.{part_to_end}
use Rattle.std.proofs.lemmas.Result.{err_from_is_err_and}
use Rattle.number.proofs.Laws.{get_or-all_bytes}
use Rattle.text.specs.Read.{read_counted}
use Rattle.text.specs.Measured.{Reads}
use Rattle.frame.proofs.ValueNodes.{value_there}
use Rattle.types.proofs.Contents.{int-content, long-content, float-content, double-content, string-content}
use Rattle.types.proofs.NodeLaws.{wide-node, text-reads-counted}
use Rattle.casts.proofs.FloatLaws.{to-float, int-way, long-way, float-way, double-way, text-number, text-other, other_way}
use Rattle.casts.proofs.resolve_float.Goals.{in-2, in-3, in-4, in-5, in-7+in_ok-b-in-7}
use Rattle.casts.proofs.resolve_float.Goals as goal

pub bounds-v-0 : goal.bounds-v-0
bounds-v-0 c = (value_there _ _ c.requires).1

pub read4-requires : goal.read4-requires
read4-requires c = (wide-node _ _ c.requires 2 4 int-content c.in-2.is).0

pub read8-requires : goal.read8-requires
read8-requires c = (wide-node _ _ c.requires 3 8 long-content c.in-3.is).0

pub read4-requires-in-4 : goal.read4-requires-in-4
read4-requires-in-4 c = (wide-node _ _ c.requires 4 4 float-content c.in-4.is).0

pub read8-requires-in-5 : goal.read8-requires-in-5
read8-requires-in-5 c = (wide-node _ _ c.requires 5 8 double-content c.in-5.is).0

pub slice_bounds-float_of_text-count : goal.slice_bounds-float_of_text-count
slice_bounds-float_of_text-count c = let h = (value_there _ _ c.requires).1 in omega arith

pub slice_bounds-float_of_text-start : goal.slice_bounds-float_of_text-start
slice_bounds-float_of_text-start c = let h = (value_there _ _ c.requires).1 in omega arith

pub float_of_text-requires : goal.float_of_text-requires
float_of_text-requires c = subst (λ (x : List ℕ). Reads (read_counted x)) (sym (part_to_end c.args.v.now 1)) (text-reads-counted _ _ c.requires 7 string-content c.in-7.is)

pub returns-in_err-b-in-7 : goal.returns-in_err-b-in-7
returns-in_err-b-in-7 c =
    let p = err_from_is_err_and c.from_residual.result c.from_residual.ensures.1 in
    rw (p.1, p.2) (text-other to-float _ _ c.requires c.in-7.is _ (part_to_end c.args.v.now 1) _ c.float_of_text.ensures _ c.in_err-b-in-7.was _)

pub returns-in_default : goal.returns-in_default
returns-in_default c = other_way to-float _ _ c.requires (get_or-all_bytes _ (λ i. omega (arith, c.type_inv.v i))) (λ e. omega arith) (λ e. omega arith) (λ e. omega arith) (λ e. omega arith) (λ e. omega arith) _

pub returns : goal.returns
returns c =
    elim c.match-v.branch [
      | in-2 w ↦ int-way to-float _ _ c.requires w.in-2.is _ _ w.read4.ensures (w.b-is ∙ w.int_to_float-b.ensures) _ _ c.put_float.ensures
      | in-3 w ↦ long-way to-float _ _ c.requires w.in-3.is _ _ w.read8.ensures (w.b-is ∙ w.long_to_float-b.ensures) _ _ c.put_float.ensures
      | in-4 w ↦ float-way to-float _ _ c.requires w.in-4.is _ _ w.read4-in-4.ensures (w.b-is ∙ w.float_to_float-b.ensures) _ _ c.put_float.ensures
      | in-5 w ↦ double-way to-float _ _ c.requires w.in-5.is _ _ w.read8-in-5.ensures (w.b-is ∙ w.double_to_float-b.ensures) _ _ c.put_float.ensures
      | in-7+in_ok-b-in-7 w ↦ text-number to-float _ _ c.requires w.in-7.is _ (part_to_end c.args.v.now 1) _ w.float_of_text.ensures _ _ w.in_ok-b-in-7.was w.b-is _ _ c.put_float.ensures
    ]
