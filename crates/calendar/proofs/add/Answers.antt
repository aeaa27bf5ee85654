-- `calendar::add` meets its contract: each arm is a case of `sum`.
use Rattle.std.proofs.Common.{rules, ◌≡◌, Bool, ℤ, FitsSigned, w32, w64, sym, ap, ◌∙◌}
use mir.ValLaws.{to_z-of_z}
use borrow.Author.Tests.{eq-eqb, ne_eqb}
use Rattle.std.proofs.lemmas.Result.{err_from_is_err_and}
use Rattle.base.specs.Base.{when◌then◌else◌, ok, stop, after}
use Rattle.scalar.specs.declared.Scalar.{Scalar}
use Rattle.scalar.specs.declared.Scalar.TheVariants.{Date, TimestampMillis, TimestampMicros, TimestampNanos}
use Rattle.duration.specs.declared.Duration.{Duration}
use Rattle.calendar.specs.Instants.{date_sum, sum}
use Rattle.calendar.proofs.EntryLaws.{sum-on, no-sum-on}
use Rattle.calendar.proofs.add.Goals as goal

-- a Date, where no milliseconds are added
date : (z : ℤ) (s : Scalar) (d : Duration) → s ≡ Date z → d.millis.0 ≡ 0 → after (date_sum z d) (λ r. ok (Date r)) ≡ sum s d
date z s d e f = sym (ap (λ (x : Scalar). sum x d) e ∙ ap (λ (t : Bool). when t then after (date_sum z d) (λ r. ok (Date r)) else stop 26) (eq-eqb d.millis.0 0 f))

pub returns-then-duration-ne0 : goal.returns-then-duration-ne0
returns-then-duration-ne0 c =
    let d = c.args.duration in
    let z = c.in-Date.z in
    sym (ap (λ (x : Scalar). sum x d) c.in-Date.is ∙ ap (λ (t : Bool). when t then after (date_sum z d) (λ r. ok (Date r)) else stop 26) (ne_eqb d.millis.0 0 c.if-duration-ne0.true))

pub returns-in_err-add_date-in-Date : goal.returns-in_err-add_date-in-Date
returns-in_err-add_date-in-Date c =
    let r = c.from_residual in
    let p = err_from_is_err_and r.result r.ensures.1 in
    let f : FitsSigned w32 c.in-Date.z = search rules in
    let e = simp to_z-of_z at c.in_err-add_date-in-Date.ensures in
    rw (p.1, p.2) (no-sum-on Date _ _ e ∙ date c.in-Date.z _ _ c.in-Date.is c.if-duration-ne0.false)

pub returns-in_ok-add_date-in-Date : goal.returns-in_ok-add_date-in-Date
returns-in_ok-add_date-in-Date c =
    let k = c.in_ok-add_date-in-Date in
    let f : FitsSigned w32 c.in-Date.z = search rules in
    let g : FitsSigned w32 k.field-0 = search rules in
    let e = simp to_z-of_z at k.ensures in
    simp to_z-of_z (sum-on Date _ _ e ∙ date c.in-Date.z _ _ c.in-Date.is c.if-duration-ne0.false)

pub returns-in_err-add_stamp-in-TimestampMillis : goal.returns-in_err-add_stamp-in-TimestampMillis
returns-in_err-add_stamp-in-TimestampMillis c =
    let r = c.from_residual-in_err-add_stamp-in-TimestampMillis in
    let p = err_from_is_err_and r.result r.ensures.1 in
    let f : FitsSigned w64 c.in-TimestampMillis.z = search rules in
    let e = simp to_z-of_z at c.in_err-add_stamp-in-TimestampMillis.ensures in
    rw (p.1, p.2) (no-sum-on TimestampMillis _ _ e ∙ sym (ap (λ (s : Scalar). sum s c.args.duration) c.in-TimestampMillis.is))

pub returns-in_ok-add_stamp-in-TimestampMillis : goal.returns-in_ok-add_stamp-in-TimestampMillis
returns-in_ok-add_stamp-in-TimestampMillis c =
    let k = c.in_ok-add_stamp-in-TimestampMillis in
    let f : FitsSigned w64 c.in-TimestampMillis.z = search rules in
    let g : FitsSigned w64 k.field-0 = search rules in
    let e = simp to_z-of_z at k.ensures in
    simp to_z-of_z (sum-on TimestampMillis _ _ e ∙ sym (ap (λ (s : Scalar). sum s c.args.duration) c.in-TimestampMillis.is))

pub returns-in_err-add_stamp-in-TimestampMicros : goal.returns-in_err-add_stamp-in-TimestampMicros
returns-in_err-add_stamp-in-TimestampMicros c =
    let r = c.from_residual-in_err-add_stamp-in-TimestampMicros in
    let p = err_from_is_err_and r.result r.ensures.1 in
    let f : FitsSigned w64 c.in-TimestampMicros.z = search rules in
    let e = simp to_z-of_z at c.in_err-add_stamp-in-TimestampMicros.ensures in
    rw (p.1, p.2) (no-sum-on TimestampMicros _ _ e ∙ sym (ap (λ (s : Scalar). sum s c.args.duration) c.in-TimestampMicros.is))

pub returns-in_ok-add_stamp-in-TimestampMicros : goal.returns-in_ok-add_stamp-in-TimestampMicros
returns-in_ok-add_stamp-in-TimestampMicros c =
    let k = c.in_ok-add_stamp-in-TimestampMicros in
    let f : FitsSigned w64 c.in-TimestampMicros.z = search rules in
    let g : FitsSigned w64 k.field-0 = search rules in
    let e = simp to_z-of_z at k.ensures in
    simp to_z-of_z (sum-on TimestampMicros _ _ e ∙ sym (ap (λ (s : Scalar). sum s c.args.duration) c.in-TimestampMicros.is))

pub returns-in_err-add_stamp-in-TimestampNanos : goal.returns-in_err-add_stamp-in-TimestampNanos
returns-in_err-add_stamp-in-TimestampNanos c =
    let r = c.from_residual-in_err-add_stamp-in-TimestampNanos in
    let p = err_from_is_err_and r.result r.ensures.1 in
    let f : FitsSigned w64 c.in-TimestampNanos.z = search rules in
    let e = simp to_z-of_z at c.in_err-add_stamp-in-TimestampNanos.ensures in
    rw (p.1, p.2) (no-sum-on TimestampNanos _ _ e ∙ sym (ap (λ (s : Scalar). sum s c.args.duration) c.in-TimestampNanos.is))

pub returns-in_ok-add_stamp-in-TimestampNanos : goal.returns-in_ok-add_stamp-in-TimestampNanos
returns-in_ok-add_stamp-in-TimestampNanos c =
    let k = c.in_ok-add_stamp-in-TimestampNanos in
    let f : FitsSigned w64 c.in-TimestampNanos.z = search rules in
    let g : FitsSigned w64 k.field-0 = search rules in
    let e = simp to_z-of_z at k.ensures in
    simp to_z-of_z (sum-on TimestampNanos _ _ e ∙ sym (ap (λ (s : Scalar). sum s c.args.duration) c.in-TimestampNanos.is))
