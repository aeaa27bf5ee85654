-- `calendar::join` meets its contract: the range of a timestamp. Assumes nothing.
use Rattle.std.proofs.Common.{◌≡◌, ◌+◌, ◌*◌, ◌^◌, ◌≤◌, ◌-ℤ◌, pos, ap, ◌∙◌, arith, w64, to_z, of_z}
use native.Mathlib.Nat.{mul-le-mul}
use mir.Syntax.{w128}
use Rattle.std.proofs.Math.IntN.{sub_ℕ}
use Rattle.std.proofs.lemmas.Int.{ints}
use Rattle.base.specs.Refusal.{outcome_of}
use Rattle.calendar.specs.Origin.{epoch}
use Rattle.calendar.proofs.Whole.{sub-differ, sub-mul}
use Rattle.calendar.proofs.Bits.{fitted}
use Rattle.calendar.proofs.join.Goals as goal

pub returns : goal.returns
returns c =
    let u = c.args.u in
    let d = c.args.s.day in
    let b : d * u ≤ 2 ^ 64 * 2 ^ 47 = mul-le-mul {n₁ = d} {m₁ = u} {n₂ = 2 ^ 64} {m₂ = 2 ^ 47} (omega arith) (omega arith) in
    let e : to_z w128 (of_z w128 (to_z w128 d -ℤ pos epoch)) ≡ sub_ℕ d epoch = omega (arith, ints, sub-differ d epoch) in
    let f : to_z w128 u ≡ pos u = omega (arith, ints) in
    ap outcome_of c.or.ensures ∙ fitted w64 c.try_from.result _ _ c.try_from.ensures (rw (e, f, sub-mul d epoch u (omega arith)) (omega (arith, ints, sub-differ (d * u) (epoch * u), sub-differ (d * u + c.args.s.rest) (epoch * u))))
