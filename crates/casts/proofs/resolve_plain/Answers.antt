-- Each kind is resolved by the function of its name, the dates and times by the one that they share.
use native.Mathlib.Omega.{arith}
use Rattle.types.specs.Types.{resolve_null, resolve_boolean, resolve_int, resolve_long, resolve_float, resolve_double}
use Rattle.types.proofs.PlainKinds.{plain-null, plain-boolean, plain_int, plain-long, plain_float, plain-double}
use Rattle.casts.proofs.CastLaws.{plain-answered}
use Rattle.casts.proofs.resolve_plain.Goals as goal

pub resolve_null-requires : goal.resolve_null-requires
resolve_null-requires c = c.requires.0

pub returns-in-0 : goal.returns-in-0
returns-in-0 c = plain-answered resolve_null 0 plain-null _ c.in-0.is _ _ _ c.resolve_null.ensures

pub resolve_boolean-requires : goal.resolve_boolean-requires
resolve_boolean-requires c = c.requires.0

pub returns-in-1 : goal.returns-in-1
returns-in-1 c = plain-answered resolve_boolean 1 plain-boolean _ c.in-1.is _ _ _ c.resolve_boolean.ensures

pub resolve_int-requires : goal.resolve_int-requires
resolve_int-requires c = c.requires.0

pub returns-in-2 : goal.returns-in-2
returns-in-2 c = plain-answered resolve_int 2 plain_int _ c.in-2.is _ _ _ c.resolve_int.ensures

pub resolve_long-requires : goal.resolve_long-requires
resolve_long-requires c = c.requires.0

pub returns-in-3 : goal.returns-in-3
returns-in-3 c = plain-answered resolve_long 3 plain-long _ c.in-3.is _ _ _ c.resolve_long.ensures

pub resolve_float-requires : goal.resolve_float-requires
resolve_float-requires c = c.requires.0

pub returns-in-4 : goal.returns-in-4
returns-in-4 c = plain-answered resolve_float 4 plain_float _ c.in-4.is _ _ _ c.resolve_float.ensures

pub resolve_double-requires : goal.resolve_double-requires
resolve_double-requires c = c.requires.0

pub returns-in-5 : goal.returns-in-5
returns-in-5 c = plain-answered resolve_double 5 plain-double _ c.in-5.is _ _ _ c.resolve_double.ensures

pub resolve_time-requires : goal.resolve_time-requires
resolve_time-requires c = (c.requires.0, omega (arith, c.requires.2), c.requires.1)

pub returns-in_default : goal.returns-in_default
returns-in_default c = c.resolve_time.ensures
