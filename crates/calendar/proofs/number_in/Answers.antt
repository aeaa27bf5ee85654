-- `calendar::number_in` meets its contract: each arm is a case of `number_in`.
use mathlib.Core.Path.{sym, ap, ◌∙◌}
use mir.Syntax.{w64}
use mir.ValLaws.{to_z-of_z}
use Rattle.scalar.proofs.Scalars.{wide_fits, wide_back}
use Rattle.calendar.specs.Instants.{number_in}
use borrow.Author.Rules.{rules}
use Rattle.calendar.proofs.number_in.Goals as goal

pub overflow_cast-result : goal.overflow_cast-result
overflow_cast-result c = wide_fits c.in-Date.z (search rules)

pub returns-in-Date : goal.returns-in-Date
returns-in-Date c = wide_back c.in-Date.z (search rules) ∙ sym (ap number_in c.in-Date.is)

pub returns-in-TimestampMillis : goal.returns-in-TimestampMillis
returns-in-TimestampMillis c = to_z-of_z w64 c.in-TimestampMillis.z (record { sfits = search rules }) ∙ sym (ap number_in c.in-TimestampMillis.is)

pub returns-in-TimestampMicros : goal.returns-in-TimestampMicros
returns-in-TimestampMicros c = to_z-of_z w64 c.in-TimestampMicros.z (record { sfits = search rules }) ∙ sym (ap number_in c.in-TimestampMicros.is)

pub returns-in-TimestampNanos : goal.returns-in-TimestampNanos
returns-in-TimestampNanos c = to_z-of_z w64 c.in-TimestampNanos.z (record { sfits = search rules }) ∙ sym (ap number_in c.in-TimestampNanos.is)
