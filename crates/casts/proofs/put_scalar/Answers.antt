-- A scalar of a short kind is written in 4 bytes, any other in 8.
use mathlib.Core.Path.{sym, ◌∙◌}
use Rattle.number.proofs.Laws.{bytes_high_first-bytes_of}
use Rattle.casts.proofs.CastLaws.{short-node, wide-node-8}
use Rattle.casts.proofs.put_scalar.Goals as goal

pub returns-then-is_short : goal.returns-then-is_short
returns-then-is_short c = short-node c.args.s _ _ c.kind-k.ensures c.content-n.ensures (sym c.is_short.ensures ∙ c.if-is_short.true) _ _ (rw (c.to_be_bytes.ensures ∙ bytes_high_first-bytes_of 4 _) at c.put_node.ensures)

pub returns-else-is_short : goal.returns-else-is_short
returns-else-is_short c = wide-node-8 c.args.s _ _ c.kind-k.ensures c.content-n.ensures (sym c.is_short.ensures ∙ c.if-is_short.false) _ _ (rw (c.to_be_bytes-else-is_short.ensures ∙ bytes_high_first-bytes_of 8 _) at c.put_node-else-is_short.ensures)
