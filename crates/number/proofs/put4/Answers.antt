-- std's bytes of a number are those of `bytes_of`.
use mathlib.Core.Path.{◌≡◌, ◌∙◌}
use native.Mathlib.Omega.{arith}
use Rattle.number.specs.Number.{bytes_of}
use Rattle.number.proofs.Laws.{put_mid-written, bytes_high_first-bytes_of, length-bytes_of}
use Rattle.number.proofs.put4.Goals as goal

pub returns : goal.returns
returns c =
    let v = c.args.v in
    let e : c.copy_from_slice.new.self ≡ bytes_of 4 v = c.copy_from_slice.ensures.after ∙ c.to_be_bytes.ensures ∙ bytes_high_first-bytes_of 4 v in
    rw e (put_mid-written c.args.b.now (bytes_of 4 v) c.args.at _ (omega (arith, length-bytes_of 4 v)))
