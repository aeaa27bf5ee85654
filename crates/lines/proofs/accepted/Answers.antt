-- `lines::accepted` meets its contract.
use Rattle.lines.proofs.LineLaws.{ok-line}
use Rattle.lines.proofs.accepted.Goals as goal

pub returns : goal.returns
returns c = let all = ok-line c.args.bytes.now c.args.out.now c.to_hex.new.out c.around.new.out c.around.result c.requires c.to_hex.ensures (c.around.ensures.value, c.around.ensures.out_after) in
    record { value = all.0; out_after = all.1 }
