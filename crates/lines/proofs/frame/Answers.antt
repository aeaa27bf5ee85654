-- `lines::frame` meets its contract.
use Rattle.lines.proofs.LineLaws.{frame-of}
use Rattle.lines.proofs.frame.Goals as goal

pub returns : goal.returns
returns c = let all = frame-of c.from_hex.result c.args.line.now c.args.out.now c.from_hex.new.out c.from_hex.ensures.value c.from_hex.ensures.line_held c.unwrap_or.result c.unwrap_or.ensures in
    record { value = all.0; out_after = all.1 }
