-- `points_of` meets its contract: a text that has a count of code points has them all within a byte. Assumes nothing.
use mathlib.Core.Path.{sym, ◌∙◌}
use native.Mathlib.Omega.{arith}
use Rattle.utf8.proofs.Walk.{count_of}
use Rattle.published.proofs.text_line.points_of.Goals as goal

pub latin1-requires : goal.latin1-requires
latin1-requires g c =
    let k = count_of _ _ (sym c.latin1_len.ensures ∙ c.in-Some.is) in
    (c.requires, k.0, omega (arith, k.1, c.if-n-gt64.false))
