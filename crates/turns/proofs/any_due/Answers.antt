-- `turns::any_due` meets its contract.
use native.Mathlib.Omega.{arith}
use mathlib.Core.Path.{sym, ◌∙◌}
use borrow.Author.Rules.{part_to_end}
use Rattle.turns.proofs.PartLaws.{part-long, part_count, part-deep, variant-reads}
use Rattle.turns.proofs.DueLaws.{any-over, any-due, any-table, any-named}
use Rattle.turns.proofs.any_due.Goals as goal

pub read2-requires : goal.read2-requires
read2-requires c = omega (arith, part-long _ _ c.requires.0.part)

pub returns-then-read2-i : goal.returns-then-read2-i
returns-then-read2-i c = λ g. any-over g _ _ c.read2.ensures c.if-read2-i.true

pub returns-then-is_at : goal.returns-then-is_at
returns-then-is_at c = λ g. any-table g _ _ _ c.reach-at.ensures c.read2.ensures (omega (arith, c.if-read2-i.false)) (sym c.is_at.ensures ∙ c.if-is_at.true)

pub overflow_sub-depth : goal.overflow_sub-depth
overflow_sub-depth c = part-deep _ _ c.requires.0.part

pub base_kind-requires : goal.base_kind-requires
base_kind-requires c = rw part_to_end (variant-reads _ _ c.requires.0.part _ _ c.reach-at.ensures (omega (arith, part_count _ _ c.requires.0.part, c.read2.ensures, c.if-read2-i.false)))

pub returns-then-base_kind-way : goal.returns-then-base_kind-way
returns-then-base_kind-way c = λ g. any-due g _ _ _ c.reach-at.ensures c.read2.ensures (omega (arith, c.if-read2-i.false))

pub returns-then-stands_in : goal.returns-then-stands_in
returns-then-stands_in c = λ g. any-named g _ _ _ c.reach-at.ensures c.read2.ensures (omega (arith, c.if-read2-i.false)) _ (rw part_to_end at c.base_kind.ensures) c.if-base_kind-way.false (rw c.if-stands_in.true at c.stands_in.ensures)

pub returns : goal.returns
returns c = λ g. any-due g _ _ _ c.reach-at.ensures c.read2.ensures (omega (arith, c.if-read2-i.false))
