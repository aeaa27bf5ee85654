-- `instants::hand_out` meets its contract: the frame is made in an array, and copied if it fits.
use native.Mathlib.Omega.{arith}
use mathlib.Core.Path.{◌∙◌}
use mir.Syntax.{w32}
use mir.ValLaws.{to_z-of_z}
use Rattle.instants.proofs.AnswerLaws.{written-within, written-taken, written-fits, too_short, handed}
use Rattle.instants.proofs.hand_out.Goals as goal

pub returns-then-res-n : goal.returns-then-res-n
returns-then-res-n c =
    let a = c.args in
    let all = too_short a.s c.put_scalar-n.new.out c.put_scalar-n.result c.put_scalar-n.auto.out c.put_scalar-n.ensures a.res.now _ c.if-res-n.true (to_z-of_z w32 c.negated.result (record { sfits = c.negated.type_inv }) ∙ c.negated.ensures) in
    record { answer = all.0; contents = all.1 }

pub slice_bounds-b-end : goal.slice_bounds-b-end
slice_bounds-b-end c = written-within c.args.s c.put_scalar-n.new.out c.put_scalar-n.result c.put_scalar-n.auto.out c.put_scalar-n.ensures

pub slice_bounds-copy-end : goal.slice_bounds-copy-end
slice_bounds-copy-end c = written-taken c.args.s c.put_scalar-n.new.out c.put_scalar-n.result c.put_scalar-n.auto.out c.put_scalar-n.ensures

pub copy-requires : goal.copy-requires
copy-requires c = omega (arith, written-taken c.args.s c.put_scalar-n.new.out c.put_scalar-n.result c.put_scalar-n.auto.out c.put_scalar-n.ensures, c.if-res-n.false)

pub overflow_cast-result : goal.overflow_cast-result
overflow_cast-result c = written-fits c.args.s c.put_scalar-n.new.out c.put_scalar-n.result c.put_scalar-n.auto.out c.put_scalar-n.ensures

pub returns : goal.returns
returns c =
    let a = c.args in
    let all = handed a.s c.put_scalar-n.new.out c.put_scalar-n.result c.put_scalar-n.auto.out c.put_scalar-n.ensures a.res.now c.copy.new.out c.if-res-n.false c.copy.ensures in
    record { answer = all.0; contents = all.1 }
