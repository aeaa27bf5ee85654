-- `finishes::finish` meets its contract: what is no frame, no record, or a record with both fields.
use native.Mathlib.Omega.{arith}
use mathlib.Core.Path.{sym, ◌∙◌}
use Rattle.number.proofs.Laws.{get_or-all_bytes}
use Rattle.frame.proofs.Passed.{passes-reads}
use Rattle.finishes.proofs.FinishLaws.{no-frame, frame-long, no_record, is-keyed, a-record, broken-says, says_eq}
use Rattle.finishes.proofs.finish.Goals as goal

pub returns-then-not-is_frame : goal.returns-then-not-is_frame
returns-then-not-is_frame c = broken-says _ _ (no-frame _ (sym c.is_frame.ensures ∙ c.if-not-is_frame.true))

pub bounds-v-0 : goal.bounds-v-0
bounds-v-0 c = frame-long _ (sym c.is_frame.ensures ∙ c.if-not-is_frame.false)

pub returns-then-v-ne-RECORD : goal.returns-then-v-ne-RECORD
returns-then-v-ne-RECORD c = broken-says _ _ (no_record _ (sym c.is_frame.ensures ∙ c.if-not-is_frame.false) (get_or-all_bytes c.args.v.now (λ i. omega (arith, c.type_inv.v i))) c.if-v-ne-RECORD.true)

pub record_finish-requires : goal.record_finish-requires
record_finish-requires c = (passes-reads _ (sym c.is_frame.ensures ∙ c.if-not-is_frame.false), is-keyed _ c.if-v-ne-RECORD.false)

pub returns : goal.returns
returns c = says_eq _ _ _ _ (a-record _ (sym c.is_frame.ensures ∙ c.if-not-is_frame.false) (get_or-all_bytes c.args.v.now (λ i. omega (arith, c.type_inv.v i))) c.if-v-ne-RECORD.false) c.record_finish.ensures
