-- `turns::named_due` meets its contract.
use mathlib.Core.Path.{sym, ◌∙◌}
use native.Mathlib.Omega.{arith}
use borrow.Author.Rules.{part_to_end}
use Rattle.turns.proofs.PartLaws.{part_count, part-deep, variant-reads}
use Rattle.turns.proofs.DueLaws.{named_in, position-is, named_end, named-skip, named-stood, named_other, named-due}
use Rattle.turns.proofs.named_due.Goals as goal

pub returns-then-end-j : goal.returns-then-end-j
returns-then-end-j c = λ g. named_end g _ _ _ c.requires.1 _ c.requires.2 c.if-end-j.true

pub returns-then-is_at : goal.returns-then-is_at
returns-then-is_at c = λ g. named-skip g _ _ _ c.requires.1 (omega (arith, c.if-end-j.false)) _ c.read2-i.ensures _ c.requires.2 (sym c.is_at.ensures ∙ c.if-is_at.true)

pub returns-then-stood_before : goal.returns-then-stood_before
returns-then-stood_before c = λ g. named-stood g _ _ _ c.requires.1 (omega (arith, c.if-end-j.false)) _ c.read2-i.ensures _ c.requires.2 (c.stood_before.ensures c.if-stood_before.true)

pub reach-at-requires : goal.reach-at-requires
reach-at-requires c = (c.requires.0.part, omega (arith, part_count _ _ c.requires.0.part, named_in c.requires.0 c.args.j (omega (arith, c.if-end-j.false, c.requires.1)), position-is c.requires.0 c.read2-i.result c.args.j (omega (arith, c.if-end-j.false, c.requires.1)) c.read2-i.ensures), c.requires.2)

pub overflow_sub-depth : goal.overflow_sub-depth
overflow_sub-depth c = part-deep _ _ c.requires.0.part

pub base_kind-requires : goal.base_kind-requires
base_kind-requires c = rw part_to_end (variant-reads _ _ c.requires.0.part _ _ c.reach-at.ensures (omega (arith, named_in c.requires.0 c.args.j (omega (arith, c.if-end-j.false, c.requires.1)), position-is c.requires.0 c.read2-i.result c.args.j (omega (arith, c.if-end-j.false, c.requires.1)) c.read2-i.ensures)))

pub returns-then-base_kind-way : goal.returns-then-base_kind-way
returns-then-base_kind-way c = λ g. named_other g _ _ _ c.requires.1 (omega (arith, c.if-end-j.false)) _ c.read2-i.ensures _ _ c.reach-at.ensures (rw part_to_end at c.base_kind.ensures) c.if-base_kind-way.true

pub returns : goal.returns
returns c = λ g. named-due g _ _ _ c.requires.1 (omega (arith, c.if-end-j.false)) _ c.read2-i.ensures _ _ c.reach-at.ensures (rw part_to_end at c.base_kind.ensures) c.if-base_kind-way.false
