-- std's sum over the bytes is what `big_endian` gives.
use mathlib.Core.Path.{◌≡◌, ap, ◌∙◌}
use native.Mathlib.Omega.{arith}
use lib.ListN.{length, take, drop, length-drop}
use lib.Seq.{length-take-le}
use Rattle.std.specs.Int.{w16, from_be_bytes}
use Rattle.number.proofs.Laws.{worth-big_endian}
use Rattle.number.proofs.read2.Goals as goal

pub returns : goal.returns
returns c =
    let part = take 2 (drop c.args.at c.args.s.now) in
    let l : length part ≡ 2 = length-take-le 2 (drop c.args.at c.args.s.now) (simp length-drop (omega arith)) in
    c.from_be_bytes.ensures ∙ ap (from_be_bytes w16) c.bytes_at.ensures ∙ worth-big_endian part 1 l
