-- `frame::texts_len` meets its contract. Assumes nothing.
use native.Mathlib.Omega.{arith}
use Prim.Native.Nat.{◌+◌, ◌-◌}
use mathlib.Core.Path.{◌≡◌, refl}
use Rattle.text.specs.Read.{read_text}
use Rattle.frame.proofs.Counting.{reads-list, walking_start, walking-end}
use Rattle.frame.proofs.Texts.{passed-inside, passed}
use Rattle.frame.proofs.texts_len.Goals as goal

pub read2-end-requires : goal.read2-end-requires
read2-end-requires c = reads-list read_text c.args.s.now c.requires

pub loop-init : goal.loop-init
loop-init c = let e : c.read2-end.result - 0 ≡ c.read2-end.result = omega arith in rw e (walking_start read_text c.args.s.now c.read2-end.result c.requires c.read2-end.ensures)

pub read2-requires : goal.read2-requires
read2-requires c = omega (arith, passed-inside c.args.s.now c.loop.at _ _ c.loop.invariant c.requires (omega arith) refl)

pub overflow_add-at-in-loop : goal.overflow_add-at-in-loop
overflow_add-at-in-loop c = omega (arith, passed-inside c.args.s.now c.loop.at _ c.read2.result c.loop.invariant c.requires (omega arith) c.read2.ensures)

pub loop-preserved : goal.loop-preserved
loop-preserved c =
    let n = c.read2-end.result in
    let left : n - (c.loop.counter + 1) ≡ n - c.loop.counter - 1 = omega arith in
    let at : c.loop.at + (2 + c.read2.result) ≡ c.loop.at + 2 + c.read2.result = omega arith in
    rw (left, at) (passed c.args.s.now c.loop.at _ c.read2.result c.loop.invariant c.requires (omega arith) c.read2.ensures)

pub returns : goal.returns
returns c = walking-end read_text c.args.s.now c.loop.at _ c.loop.invariant (omega arith)
