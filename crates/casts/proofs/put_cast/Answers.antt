-- What was converted is written, and a conversion's error is the refusal.
use Rattle.std.proofs.lemmas.Result.{err_from_is_err_and}
use Rattle.casts.proofs.CastLaws.{cast-to, cast-refused}
use Rattle.casts.proofs.put_cast.Goals as goal

pub returns-in_err-cast : goal.returns-in_err-cast
returns-in_err-cast c =
    let p = err_from_is_err_and c.from_residual.result c.from_residual.ensures.1 in
    rw (p.1, p.2, c.in_err-cast.was) (cast-refused _ _)

pub returns : goal.returns
returns c = rw c.in_ok-cast.was (cast-to _ _ _ c.put_scalar.ensures)
