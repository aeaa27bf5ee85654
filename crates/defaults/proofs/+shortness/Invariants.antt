-- What the loops of this cycle of calls keep, and why loops and calls end.
use Prim.Native.Nat.{◌+◌, ◌-◌, ◌*◌}
use Rattle.defaults.proofs.SoundParts.{FieldsLeft, VariantsLeft}
use Rattle.defaults.proofs.+shortness.Given as goal

abbrev pub decreases-field_short : goal.decreases-field_short
decreases-field_short l = 4 * l.ds + 2

abbrev pub decreases-fields_short : goal.decreases-fields_short
decreases-fields_short l = 4 * l.ds

abbrev pub invariant-fields_short-loop : goal.invariant-fields_short-loop
invariant-fields_short-loop l = FieldsLeft l.ds l.s (l.end - l.counter) l.at

abbrev pub decreases-short_len : goal.decreases-short_len
decreases-short_len l = 4 * l.ds + 1

abbrev pub decreases-variants_short : goal.decreases-variants_short
decreases-variants_short l = 4 * l.ds

abbrev pub invariant-variants_short-loop : goal.invariant-variants_short-loop
invariant-variants_short-loop l = VariantsLeft l.ds l.s (l.end - l.counter) l.at
