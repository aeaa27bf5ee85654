-- A NaN's bits are above the infinity's, the sign clear; any other Float is written.
use borrow.Author.Tests.{lt-ltb, le-ltb}
use mathlib.Core.Path.{◌∙◌}
use Rattle.number.proofs.Laws.{bytes_high_first-bytes_of}
use Rattle.types.proofs.Contents.{float-content}
use Rattle.casts.proofs.FloatLaws.{nan-refused, number-built}
use Rattle.casts.proofs.put_float.Goals as goal

pub returns-then-b-gt2139095040 : goal.returns-then-b-gt2139095040
returns-then-b-gt2139095040 c = nan-refused 4 _ _ (lt-ltb _ _ c.if-b-gt2139095040.true) _

pub returns : goal.returns
returns c = number-built 4 4 _ _ float-content (le-ltb _ _ c.if-b-gt2139095040.false) _ _ (rw (c.to_be_bytes.ensures ∙ bytes_high_first-bytes_of 4 c.args.b) at c.put_node.ensures)
