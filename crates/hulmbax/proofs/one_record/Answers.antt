-- `hulmbax::one_record` meets its contract.
use mathlib.Core.Path.{refl}
use Rattle.std.proofs.lemmas.Result.{err_from_is_err_and}
use Rattle.hulmbax.specs.Entry.{stop_of}
use Rattle.hulmbax.proofs.CheckLaws.{passed-value}
use Rattle.hulmbax.proofs.RecordLaws.{both, record-stopped}
use Rattle.hulmbax.proofs.one_record.Goals as goal

pub returns-in_err-check_record : goal.returns-in_err-check_record
unfolding stop_of
returns-in_err-check_record c =
    let all = both λ p. record-stopped p.tree c.args.«record».now c.args.res.now _ c.in_err-check_record.ensures in
    let e = err_from_is_err_and c.from_residual.result c.from_residual.ensures.1 in
    record { answer = rw (e.1, e.2) all.0; contents = all.1 }

pub hand_over-requires : goal.hand_over-requires
unfolding stop_of
hand_over-requires c =
    (c.requires.0, passed-value c.args.«record».now 0 c.in_ok-check_record.ensures refl, c.requires.1)

pub returns : goal.returns
returns c = record { answer = c.hand_over.ensures.answer; contents = c.hand_over.ensures.contents }
