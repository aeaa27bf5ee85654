-- `value::counted_skip` meets its contract. Assumes nothing.
use mathlib.Core.Path.{refl, sym, ◌∙◌}
use native.Mathlib.Omega.{arith}
use Rattle.number.proofs.Laws.{number_at-add, number_at-one}
use Rattle.text.proofs.ReadLaws.{reads-counted}
use Rattle.value.proofs.SkipLaws.{counted-spans}
use Rattle.value.proofs.counted_skip.Goals as goal

pub bounds-s-0 : goal.bounds-s-0
bounds-s-0 c = omega (arith, (reads-counted c.args.s.now c.requires).two)

pub bounds-s-1 : goal.bounds-s-1
bounds-s-1 c = omega (arith, (reads-counted c.args.s.now c.requires).two)

pub returns : goal.returns
returns c =
    let s = c.args.s.now in
    let l = (reads-counted s c.requires).two in
    counted-spans s _ c.requires (sym (number_at-add s 0 1 1 l ∙ rw (number_at-one s 0 (omega (arith, l)), number_at-one s 1 (omega (arith, l))) refl))
