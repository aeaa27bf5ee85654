-- `hulmbax::check_schema` meets its contract.
use mathlib.Core.Path.{sym, ◌∙◌}
use Rattle.hulmbax.specs.Entry.{stop_of}
use Rattle.hulmbax.proofs.CheckLaws.{stop-no-schema, stop-unsound, sound-frame, sound-reads, stop-by-defaults}
use Rattle.hulmbax.proofs.check_schema.Goals as goal

pub defaults_short-requires : goal.defaults_short-requires
defaults_short-requires c = sound-reads c.args.schema.now (sound-frame c.args.schema.now (sym c.in-Sound.is ∙ c.schema_frame.ensures))

pub returns-in-NoFrame : goal.returns-in-NoFrame
unfolding stop_of
returns-in-NoFrame c = stop-no-schema c.args.schema.now (sym c.in-NoFrame.is ∙ c.schema_frame.ensures)

pub returns-in-Unsound : goal.returns-in-Unsound
unfolding stop_of
returns-in-Unsound c = stop-unsound c.args.schema.now (sym c.in-Unsound.is ∙ c.schema_frame.ensures)

pub returns-then-defaults_short : goal.returns-then-defaults_short
unfolding stop_of
returns-then-defaults_short c = sym (stop-by-defaults c.args.schema.now _ (sound-frame c.args.schema.now (sym c.in-Sound.is ∙ c.schema_frame.ensures)) (sym c.if-defaults_short.true ∙ c.defaults_short.ensures))

pub returns-else-defaults_short : goal.returns-else-defaults_short
unfolding stop_of
returns-else-defaults_short c = sym (stop-by-defaults c.args.schema.now _ (sound-frame c.args.schema.now (sym c.in-Sound.is ∙ c.schema_frame.ensures)) (sym c.if-defaults_short.false ∙ c.defaults_short.ensures))
