-- `variants::unnamed_kind` meets its contract.
use mathlib.Core.Path.{sym}
use native.Mathlib.Omega.{arith}
use Rattle.variants.specs.Ways.{wanted_of}
use Rattle.variants.proofs.UnionKinds.{unnamed-low, unnamed-named, unnamed-decimal, unnamed-uuid, unnamed-int, unnamed-long, unnamed-duration, unnamed-past}
use Rattle.variants.proofs.unnamed_kind.Goals as goal

pub returns-in-0-to-10 : goal.returns-in-0-to-10
unfolding wanted_of
returns-in-0-to-10 c = sym (unnamed-low c.args.k (omega arith))

pub returns-in-11-to-13 : goal.returns-in-11-to-13
unfolding wanted_of
returns-in-11-to-13 c = sym (unnamed-named c.args.k (omega arith) (omega arith))

pub returns-in-14 : goal.returns-in-14
unfolding wanted_of
returns-in-14 c = sym (unnamed-decimal c.args.k c.in-14.is)

pub returns-in-15 : goal.returns-in-15
unfolding wanted_of
returns-in-15 c = sym (unnamed-uuid c.args.k c.in-15.is)

pub returns-in-16-to-17 : goal.returns-in-16-to-17
unfolding wanted_of
returns-in-16-to-17 c = sym (unnamed-int c.args.k (omega arith) (omega arith))

pub returns-in-18-to-24 : goal.returns-in-18-to-24
unfolding wanted_of
returns-in-18-to-24 c = sym (unnamed-long c.args.k (omega arith) (omega arith))

pub returns-in-25 : goal.returns-in-25
unfolding wanted_of
returns-in-25 c = sym (unnamed-duration c.args.k c.in-25.is)

pub returns-in_default : goal.returns-in_default
unfolding wanted_of
returns-in_default c = sym (unnamed-past c.args.k (omega arith))
