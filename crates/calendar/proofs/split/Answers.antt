-- `calendar::split` meets its contract: the quotient rounded down, and what is left. Assumes nothing.
use Rattle.std.proofs.Common.{◌≡◌, ◌+ℤ◌, ℤ, pos, nat_abs, ap, ◌∙◌, arith, w64, to_z, of_z}
use mir.ValLaws.{to_z-of_z, to_z_pos}
use Rattle.std.specs.Int.{int_div_euclid}
use Rattle.std.proofs.lemmas.Int.{ints}
use Rattle.calendar.specs.Origin.{epoch}
use Rattle.calendar.proofs.Bits.{Split, split-is}
use Rattle.calendar.proofs.split.Goals as goal

module _ (c : goal.After-div_euclid) where
  parts : Split c.args.u c.args.z
  parts = split-is c.args.u c.args.z c.requires.0 c.ranges.z.sfits

  quotient : c.div_euclid.result ≡ int_div_euclid c.args.z (pos c.args.u)
  quotient = let u = to_z_pos w64 c.args.u (omega arith) in let z = to_z-of_z w64 c.args.z c.ranges.z in simp (z, u) at c.div_euclid.ensures

  day-is : pos epoch +ℤ c.div_euclid.result ≡ pos parts.day
  day-is = ap (λ (q : ℤ). pos epoch +ℤ q) quotient ∙ parts.day-is

pub overflow_cast-result-2 : goal.overflow_cast-result-2
overflow_cast-result-2 c = let e = day-is c in let l = (parts c).day-< in omega (arith, ints)

pub returns : goal.returns
returns c =
    let p = split-is c.args.u c.args.z c.requires.0 c.ranges.z.sfits in
    let u = to_z_pos w64 c.args.u (omega arith) in
    let z = to_z-of_z w64 c.args.z c.ranges.z in
    let q : c.div_euclid.result ≡ int_div_euclid c.args.z (pos c.args.u) = simp (z, u) at c.div_euclid.ensures in
    let e : pos epoch +ℤ c.div_euclid.result ≡ pos p.day = ap (λ (x : ℤ). pos epoch +ℤ x) q ∙ p.day-is in
    let f : c.rem_euclid.result ≡ pos p.rest = simp (z, u) at c.rem_euclid.ensures.value ∙ p.rest-is in
    let l = p.day-< in
    let m = p.rest-< in
    let d : nat_abs (to_z w64 (of_z w64 (pos epoch +ℤ to_z w64 (of_z w64 c.div_euclid.result)))) ≡ p.day = omega (arith, ints) in
    let r : nat_abs (to_z w64 (of_z w64 c.rem_euclid.result)) ≡ p.rest = omega (arith, ints) in
    rw (d, r) (p.joined, l, m)
