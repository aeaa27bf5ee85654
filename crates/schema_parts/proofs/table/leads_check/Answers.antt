-- `schema_parts::table::leads_check` meets its contract. Assumes nothing.
use native.Mathlib.Omega.{arith}
use mathlib.Core.Path.{refl}
use lib.ListN.{length-drop}
use Rattle.frame.specs.SchemaFrame.{read_lead}
use Rattle.frame.specs.Sound.{kinds_sound}
use Rattle.frame.proofs.Measuring.{checks-none}
use Rattle.frame.proofs.Counting.{list-short, going-list, going-none, going_end}
use Rattle.schema_parts.proofs.Tables.{lead-short, leads-step}
use Rattle.schema_parts.proofs.table.leads_check.Goals as goal

pub returns-then-s-lt2 : goal.returns-then-s-lt2
returns-then-s-lt2 c = checks-none _ _ _ (list-short _ _ c.if-s-lt2.true)

pub loop-init : goal.loop-init
loop-init c = going-list read_lead c.args.s.now (kinds_sound c.args.count 0) _ c.if-s-lt2.false (omega (arith, c.read2-entries.ensures))

pub overflow_sub-s : goal.overflow_sub-s
overflow_sub-s c = omega (arith, c.loop.invariant.inside)

pub returns-then-s-at-lt3 : goal.returns-then-s-at-lt3
returns-then-s-at-lt3 c = checks-none _ _ _ (going-none _ _ _ _ _ _ _ _ c.loop.invariant (omega arith) (lead-short _ (omega (arith, length-drop c.loop.at c.args.s.now, c.if-s-at-lt3.true))))

pub bounds-s-at : goal.bounds-s-at
bounds-s-at c = omega (arith, c.loop.invariant.inside)

pub overflow_add-at : goal.overflow_add-at
overflow_add-at c = omega (arith, c.loop.invariant.inside)

pub read2-position-requires : goal.read2-position-requires
read2-position-requires c = omega (arith, c.loop.invariant.inside)

pub overflow_add-at-in-loop : goal.overflow_add-at-in-loop
overflow_add-at-in-loop c = omega (arith, c.loop.invariant.inside)

pub loop-preserved : goal.loop-preserved
loop-preserved c = leads-step c.args.count c.args.s.now c.loop.at c.read2-entries.result c.loop.counter c.loop.least c.loop.sound c.loop.invariant c.loop-test.true c.if-s-at-lt3.false _ _ refl c.read2-position.ensures _ _ c.lead_sound-sound.ensures refl

pub returns : goal.returns
unfolding kinds_sound
returns c = going_end _ _ _ _ _ _ _ _ c.loop.invariant (omega arith) refl
