-- `hulmbax::resolve_in` meets its contract.
use mathlib.Core.Path.{refl, ◌∙◌}
use Rattle.std.proofs.lemmas.Result.{err_from_is_err_and}
use Rattle.hulmbax.specs.Entry.{stop_of}
use Rattle.hulmbax.proofs.CheckLaws.{passed-schema}
use Rattle.hulmbax.proofs.EntryLaws.{stopped-schema, answered-record}
use Rattle.hulmbax.proofs.resolve_in.Goals as goal

pub returns-in_err-check_schema : goal.returns-in_err-check_schema
unfolding stop_of
returns-in_err-check_schema c =
    let all = stopped-schema c.args.schema.now c.args.«record».now c.args.res.now _ c.in_err-check_schema.ensures in
    let e = err_from_is_err_and c.from_residual.result c.from_residual.ensures.1 in
    record { answer = rw (e.1, e.2) all.0; contents = all.1 }

pub one_record-requires : goal.one_record-requires
unfolding stop_of
one_record-requires c =
    (passed-schema c.args.schema.now 0 c.in_ok-check_schema.ensures refl, c.check_schema.auto.work ∙ c.requires)

pub returns : goal.returns
unfolding stop_of
returns c =
    let p = passed-schema c.args.schema.now 0 c.in_ok-check_schema.ensures refl in
    let all = answered-record c.args.schema.now c.args.«record».now c.args.res.now _ _ p (c.one_record.ensures.answer p) (c.one_record.ensures.contents p) in
    record { answer = all.0; contents = all.1 }
