-- `octets::append_points` meets its contract.
use mathlib.Core.Path.{◌≡◌, ap, ◌∙◌}
use Prim.Native.Nat.{◌-◌}
use lib.ListN.{length, length-drop}
use Rattle.buffer.proofs.BuiltLaws.{built-small, built-append, tail-back}
use Rattle.types.specs.Contract.{points}
use borrow.Author.Rules.{part_to_end}
use Rattle.octets.proofs.append_points.Goals as goal

pub joined-requires : goal.joined-requires
joined-requires c = (c.requires.3, built-small _ _ _ c.put_points-m.ensures)

pub returns : goal.returns
returns c b w =
    let k = c.room-o.result in
    let y = c.put_points-m.new.out in
    let l : length y ≡ length c.args.out.now - k = c.put_points-m.auto.out ∙ ap length (part_to_end c.args.out.now k) ∙ length-drop k c.args.out.now in
    rw tail-back (built-append b (points c.args.t.now) c.args.out.now y _ _ k _ w c.room-o.ensures l c.put_points-m.ensures c.joined.ensures)
