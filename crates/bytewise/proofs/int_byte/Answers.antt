-- What the node is as an Int is a byte by its content, and what is no Int is refused.
use mathlib.Core.Path.{refl, ap, ◌∙◌}
use Rattle.std.proofs.lemmas.Result.{err_from_is_err_and}
use Rattle.text.specs.Measured.{Reads}
use Rattle.types.specs.Types.{in_byte, int_byte}
use Rattle.bytewise.proofs.ByteLaws.{byte-answer, int_is, no-int}
use Rattle.bytewise.proofs.int_byte.Goals as goal

pub returns-in_err-s : goal.returns-in_err-s
unfolding Reads
returns-in_err-s c =
    let p = c.requires in
    let q = err_from_is_err_and c.from_residual.result c.from_residual.ensures.1 in
    rw (q.1, q.2) (byte-answer int_byte _ _ _ _ _ p.1.1 (no-int _ _ (c.in_err-s.ensures _ _ p.1.1)) refl)

pub returns : goal.returns
unfolding Reads
returns c =
    let p = c.requires in
    byte-answer int_byte _ _ _ _ _ p.1.1 (int_is _ _ (c.in_ok-s.ensures _ _ p.1.1)) (c.in_byte.ensures ∙ ap in_byte c.content.ensures)
