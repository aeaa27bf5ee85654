-- The bytes of the three numbers, one after the other. Assumes nothing.
use mathlib.Core.Path.{◌≡◌, refl, ◌∙◌}
use Rattle.duration.specs.Duration.{little_bytes, duration_bytes}
use Rattle.duration.proofs.RoundTrip.{to_le_bytes-little_bytes}
use Rattle.duration.proofs.Duration.to_bytes.Goals as goal

pub returns : goal.returns
unfolding little_bytes duration_bytes
returns c =
    let d = c.args.self in
    let m : c.copy_from_slice.new.self ≡ little_bytes 4 d.months.0 = c.copy_from_slice.ensures.after ∙ c.to_le_bytes.ensures ∙ to_le_bytes-little_bytes d.months.0 in
    let n : c.copy_from_slice-2.new.self ≡ little_bytes 4 d.days.0 = c.copy_from_slice-2.ensures.after ∙ c.to_le_bytes-2.ensures ∙ to_le_bytes-little_bytes d.days.0 in
    let t : c.copy_from_slice-3.new.self ≡ little_bytes 4 d.millis.0 = c.copy_from_slice-3.ensures.after ∙ c.to_le_bytes-3.ensures ∙ to_le_bytes-little_bytes d.millis.0 in
    rw (m, n, t) refl
