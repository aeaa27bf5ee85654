-- `text::text_len` meets its contract.
use Prim.Native.Nat.{◌+◌}
use mathlib.Core.Path.{sym, ◌∙◌}
use lib.ListN.{length, drop}
use Rattle.text.specs.Measured.{Measured, Reads}
use Rattle.text.proofs.ReadLaws.{text-measured, read_text-not, read_text-none}
use Rattle.text.proofs.text_len.Goals as goal

pub returns-in_err-n : goal.returns-in_err-n
unfolding Measured
returns-in_err-n c = rw c.from_residual.ensures (read_text-none c.args.s.now c.in_err-n.ensures)

pub content-requires : goal.content-requires
unfolding Measured Reads
content-requires c = (c.in_ok-n.ensures.1.0, (drop c.in_ok-n.n c.args.s.now, c.in_ok-n.ensures.1.1))

pub returns-then-is_utf8 : goal.returns-then-is_utf8
returns-then-is_utf8 c =
    let s = c.args.s.now in
    let t = c.content.result.now in
    text-measured s t (drop (2 + length t) s) c.in_ok-n.n c.in_ok-n.ensures c.content.ensures.0 (sym c.is_utf8.ensures ∙ c.if-is_utf8.true)

pub returns-else-is_utf8 : goal.returns-else-is_utf8
unfolding Measured
returns-else-is_utf8 c =
    let s = c.args.s.now in
    let t = c.content.result.now in
    read_text-not s t (drop (2 + length t) s) c.content.ensures.0 (sym c.is_utf8.ensures ∙ c.if-is_utf8.false)
