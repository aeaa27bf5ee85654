-- The three numbers of the 12 bytes. Assumes nothing.
use mathlib.Core.Path.{◌≡◌, ap, ◌∙◌}
use lib.ListN.{take, drop}
use Rattle.number.specs.Number.{little_endian}
use Rattle.duration.specs.Duration.{duration_of}
use Rattle.duration.proofs.Duration.from_bytes.Goals as goal

pub returns : goal.returns
unfolding duration_of
returns c =
    let b = c.args.b in
    let r = c.new.result in
    let e = c.new.ensures in
    let m : r.months.0 ≡ little_endian (take 4 (drop 0 b)) = ap (λ x. x.0) e.0 ∙ c.new-months.ensures ∙ c.number_at.ensures in
    let d : r.days.0 ≡ little_endian (take 4 (drop 4 b)) = ap (λ x. x.0) e.1 ∙ c.new-days.ensures ∙ c.number_at-2.ensures in
    let t : r.millis.0 ≡ little_endian (take 4 (drop 8 b)) = ap (λ x. x.0) e.2 ∙ c.new-millis.ensures ∙ c.number_at-3.ensures in
    λ i. record { months = record { 0 = m i }; days = record { 0 = d i }; millis = record { 0 = t i } }
