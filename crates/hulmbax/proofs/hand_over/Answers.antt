-- `hulmbax::hand_over` meets its contract.
use native.Mathlib.Omega.{arith}
use mathlib.Core.Path.{◌≡◌, sym, ◌∙◌}
use lib.ListN.{length, take}
use lib.Seq.{length-take-le}
use Rattle.std.proofs.lemmas.Result.{err_from_is_err_and}
use Rattle.hulmbax.proofs.RecordLaws.{both, passed-ready, record-refused, record-over, record-short, refused-is, handed}
use Rattle.hulmbax.proofs.hand_over.Goals as goal

pub resolve_node-requires : goal.resolve_node-requires
resolve_node-requires c =
    passed-ready c.args.schema.now c.args.«record».now c.requires.0 c.requires.1

pub returns-in_err-n : goal.returns-in_err-n
returns-in_err-n c =
    let s = c.args.schema.now in
    let v = c.args.«record».now in
    let o = c.args.res.now in
    let all = both λ p. refused-is _ o _ (record-refused s v c.requires.1 (length o) p _ _ c.in_err-n.ensures) in
    let e = err_from_is_err_and c.from_residual.result c.from_residual.ensures.1 in
    record { answer = rw (e.1, e.2) all.0; contents = all.1 }

pub returns-then-n-gt65535 : goal.returns-then-n-gt65535
returns-then-n-gt65535 c =
    let s = c.args.schema.now in
    let v = c.args.«record».now in
    let o = c.args.res.now in
    let all = both λ p. refused-is _ o 18 (record-over s v c.requires.1 (length o) p _ _ c.in_ok-n.ensures c.if-n-gt65535.true) in
    record { answer = all.0; contents = all.1 }

pub returns-then-res-n : goal.returns-then-res-n
returns-then-res-n c =
    let s = c.args.schema.now in
    let v = c.args.«record».now in
    let o = c.args.res.now in
    let all = both λ p. refused-is _ o 18 (record-short s v c.requires.1 (length o) p _ _ c.in_ok-n.ensures c.if-n-gt65535.false c.if-res-n.true) in
    record { answer = all.0; contents = all.1 }

pub slice_bounds-copy-end : goal.slice_bounds-copy-end
slice_bounds-copy-end c =
    let w = c.resolve_node.new.out in
    let l : length w ≡ 65536 = c.resolve_node.auto.out ∙ c.requires.2 in
    omega (arith, c.if-n-gt65535.false)

pub slice_bounds-copy-end-2 : goal.slice_bounds-copy-end-2
slice_bounds-copy-end-2 c =
    let w = c.resolve_node.new.out in
    let l : length w ≡ 65536 = c.resolve_node.auto.out ∙ c.requires.2 in
    sym (length-take-le c.in_ok-n.n w (omega (arith, c.if-n-gt65535.false)))

pub copy-requires : goal.copy-requires
copy-requires c =
    let w = c.resolve_node.new.out in
    let n = c.in_ok-n.n in
    let l : length w ≡ 65536 = c.resolve_node.auto.out ∙ c.requires.2 in
    let t : length (take n w) ≡ n = length-take-le n w (omega (arith, c.if-n-gt65535.false)) in
    omega (arith, c.if-res-n.false)

pub returns : goal.returns
returns c =
    let s = c.args.schema.now in
    let v = c.args.«record».now in
    let o = c.args.res.now in
    let all = both (handed s v c.requires.1 o c.copy.new.out c.resolve_node.new.out c.in_ok-n.n c.in_ok-n.ensures c.if-n-gt65535.false c.if-res-n.false (c.resolve_node.auto.out ∙ c.requires.2) c.copy.ensures) in
    record { answer = all.0; contents = all.1 }
