-- `octets::put_points` meets its contract.
use native.Mathlib.Omega.{arith}
use mathlib.Core.Path.{refl, ap, ◌∙◌}
use lib.ListN.{length}
use Rattle.buffer.proofs.BuiltLaws.{built-over}
use Rattle.types.specs.Contract.{points}
use Rattle.utf8.specs.Utf8.{code_points, all_latin1}
use Rattle.octets.proofs.DecimalLaws.{points-are}
use Rattle.octets.proofs.ContentLaws.{built-points}
use Rattle.octets.proofs.put_points.Goals as goal

pub latin1-requires : goal.latin1-requires
unfolding code_points
latin1-requires c = let e = points-are c.args.t.now _ c.requires.0 refl in (c.requires.0, ap all_latin1 e ∙ c.requires.1, omega (arith, ap length e, c.requires.2, c.if-n-out.true))

pub returns-then-n-out : goal.returns-then-n-out
unfolding code_points
returns-then-n-out c = built-points (points c.args.t.now) _ _ _ _ _ (points-are c.args.t.now _ c.requires.0 refl) c.requires.2 c.room-r.ensures c.latin1.ensures

pub returns : goal.returns
returns c = built-over (points c.args.t.now) _ _ (omega (arith, c.room-r.ensures, c.requires.2)) (omega (arith, c.if-n-out.false, c.requires.2))
