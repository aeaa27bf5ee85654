-- `text::content` meets its contract.
use Prim.Native.Nat.{◌+◌, ◌-◌}
use mathlib.Core.Path.{◌≡◌}
use native.Mathlib.Omega.{arith}
use Rattle.number.specs.Number.{number_at}
use Rattle.text.proofs.ReadLaws.{Counted, reads-counted, content-is}
use Rattle.text.proofs.content.Goals as goal

pub read2-n-requires : goal.read2-n-requires
read2-n-requires c = (reads-counted c.args.s.now c.requires).two

pub slice_bounds-result-end : goal.slice_bounds-result-end
slice_bounds-result-end c =
    let s = c.args.s.now in
    let k : Counted s = reads-counted s c.requires in
    let e : c.read2-n.result ≡ number_at s 0 2 = c.read2-n.ensures in
    omega (arith, k.two, k.room)

pub returns : goal.returns
returns c =
    let s = c.args.s.now in
    let n = c.read2-n.result in
    content-is s n (n + 2 - 2) (reads-counted s c.requires) c.read2-n.ensures (omega (arith, c.read2-n.type_inv)) (omega arith)
