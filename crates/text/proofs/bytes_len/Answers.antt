-- `text::bytes_len` meets its contract.
use lib.ListN.{take}
use Rattle.text.specs.Measured.{Measured}
use Rattle.text.proofs.ReadLaws.{read_bytes-some, read_bytes-none}
use Rattle.text.proofs.bytes_len.Goals as goal

pub returns-then-n-s : goal.returns-then-n-s
unfolding Measured
returns-then-n-s c = let s = c.args.s.now in (c.if-n-s.true, (take c.args.n s, read_bytes-some c.args.n s c.if-n-s.true))

pub returns-else-n-s : goal.returns-else-n-s
unfolding Measured
returns-else-n-s c = read_bytes-none c.args.n c.args.s.now c.if-n-s.false
