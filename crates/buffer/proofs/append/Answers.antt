-- `buffer::append` meets its contract.
use borrow.Author.Rules.{part_to_end}
use Prim.Native.Nat.{◌-◌}
use mathlib.Core.Path.{◌≡◌, ap, ◌∙◌}
use lib.ListN.{length, length-drop}
use Rattle.buffer.proofs.BuiltLaws.{built-append, built-small, tail-back}
use Rattle.buffer.proofs.append.Goals as goal

pub joined-requires : goal.joined-requires
joined-requires c = (c.requires, built-small _ _ _ c.put-n.ensures)

pub returns : goal.returns
returns c b w =
    let a = c.args in
    let k = c.room-o.result in
    let y = c.put-n.new.out in
    let l : length y ≡ length a.out.now - k = c.put-n.auto.out ∙ ap length (part_to_end a.out.now k) ∙ length-drop k a.out.now in
    rw tail-back (built-append b a.t.now a.out.now y _ _ k _ w c.room-o.ensures l c.put-n.ensures c.joined.ensures)
