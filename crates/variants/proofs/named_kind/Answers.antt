-- `variants::named_kind` meets its contract.
use mathlib.Core.Path.{sym}
use native.Mathlib.Omega.{arith}
use Rattle.variants.specs.Ways.{wanted_of}
use Rattle.variants.proofs.UnionKinds.{named-map, named-low, named-itself, named-fixed, named-duration, named_none}
use Rattle.variants.proofs.named_kind.Goals as goal

pub returns-in-9 : goal.returns-in-9
unfolding wanted_of
returns-in-9 c = sym (named-map c.args.k c.in-9.is)

pub returns-in-0-to-8 : goal.returns-in-0-to-8
unfolding wanted_of
returns-in-0-to-8 c = sym (named-low c.args.k (λ e. omega arith) (omega arith))

pub returns-in-11-to-13 : goal.returns-in-11-to-13
unfolding wanted_of
returns-in-11-to-13 c = sym (named-itself c.args.k (omega arith) (omega arith))

pub returns-in-14-to-15 : goal.returns-in-14-to-15
unfolding wanted_of
returns-in-14-to-15 c = sym (named-fixed c.args.k (omega arith) (omega arith))

pub returns-in-25 : goal.returns-in-25
unfolding wanted_of
returns-in-25 c = sym (named-duration c.args.k c.in-25.is)

pub returns-in_default : goal.returns-in_default
unfolding wanted_of
returns-in_default c = sym (named_none c.args.k (omega arith) (λ e. omega arith))

pub returns-in-10 : goal.returns-in-10
unfolding wanted_of
returns-in-10 c = sym (named-low c.args.k (λ e. omega arith) (omega arith))
