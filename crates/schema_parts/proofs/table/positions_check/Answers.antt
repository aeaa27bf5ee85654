-- `schema_parts::table::positions_check` meets its contract. Assumes nothing.
use native.Mathlib.Omega.{arith}
use mathlib.Core.Path.{refl}
use lib.ListN.{length-drop}
use Rattle.text.specs.Read.{read_number}
use Rattle.text.proofs.ReadLaws.{read_number-none}
use Rattle.frame.specs.Sound.{positions_sound}
use Rattle.frame.proofs.Measuring.{checks-none}
use Rattle.frame.proofs.Counting.{list-short, going-list, going-none, going_end}
use Rattle.schema_parts.proofs.Tables.{positions-step}
use Rattle.schema_parts.proofs.table.positions_check.Goals as goal

pub returns-then-s-lt2 : goal.returns-then-s-lt2
returns-then-s-lt2 c = checks-none _ _ _ (list-short _ _ c.if-s-lt2.true)

pub loop-init : goal.loop-init
loop-init c = going-list (read_number 2) c.args.s.now (positions_sound c.args.count) _ c.if-s-lt2.false (omega (arith, c.read2-entries.ensures))

pub overflow_sub-s : goal.overflow_sub-s
overflow_sub-s c = omega (arith, c.loop.invariant.inside)

pub returns-then-s-at-lt2 : goal.returns-then-s-at-lt2
returns-then-s-at-lt2 c = checks-none _ _ _ (going-none _ _ _ _ _ _ _ _ c.loop.invariant (omega arith) (read_number-none 2 _ (omega (arith, length-drop c.loop.at c.args.s.now, c.if-s-at-lt2.true))))

pub read2-requires : goal.read2-requires
read2-requires c = omega (arith, c.loop.invariant.inside)

pub overflow_add-at : goal.overflow_add-at
overflow_add-at c = omega (arith, c.loop.invariant.inside)

pub loop-preserved : goal.loop-preserved
loop-preserved c = positions-step c.args.count c.args.s.now c.loop.at c.read2-entries.result c.loop.counter c.loop.sound c.loop.invariant c.loop-test.true c.if-s-at-lt2.false _ c.read2.ensures _ _ refl refl

pub returns : goal.returns
unfolding positions_sound
returns c = going_end _ _ _ _ _ _ _ _ c.loop.invariant (omega arith) refl
