-- A NaN's bits are above the infinity's, the sign clear; any other Double is written.
use borrow.Author.Tests.{lt-ltb, le-ltb}
use mathlib.Core.Path.{◌∙◌}
use Rattle.number.proofs.Laws.{bytes_high_first-bytes_of}
use Rattle.types.proofs.Contents.{double-content}
use Rattle.casts.proofs.FloatLaws.{nan-refused, number-built}
use Rattle.casts.proofs.put_double.Goals as goal

pub returns-then-b-gt9218868437227405312 : goal.returns-then-b-gt9218868437227405312
returns-then-b-gt9218868437227405312 c = nan-refused 5 _ _ (lt-ltb _ _ c.if-b-gt9218868437227405312.true) _

pub returns : goal.returns
returns c = number-built 5 8 _ _ double-content (le-ltb _ _ c.if-b-gt9218868437227405312.false) _ _ (rw (c.to_be_bytes.ensures ∙ bytes_high_first-bytes_of 8 c.args.b) at c.put_node.ensures)
