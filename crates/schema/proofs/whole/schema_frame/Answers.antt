-- `schema::whole::schema_frame` meets its contract. Assumes nothing.
use mathlib.Core.Path.{sym, ap, ◌∙◌}
use mathlib.Core.Bool.{Bool}
use Rattle.base.specs.Base.{when◌then◌else◌}
use Rattle.frame.specs.SchemaFrame.{read_schema, decode_schema}
use Rattle.frame.specs.Sound.{schema_sound}
use Rattle.frame.specs.Checks.{schema_verdict}
use Rattle.frame.specs.declared.Verdict.TheVariants.{Unsound, Sound}
use Rattle.frame.proofs.Whole.{verdict-long, verdict-broken, verdict-over, verdict-whole}
use Rattle.schema.proofs.whole.schema_frame.Goals as goal

pub returns-then-s-gt65535 : goal.returns-then-s-gt65535
unfolding schema_verdict decode_schema
returns-then-s-gt65535 c = verdict-long (read_schema 16) schema_sound c.args.s.now c.if-s-gt65535.true

pub returns-in_default : goal.returns-in_default
unfolding schema_verdict decode_schema
returns-in_default c = verdict-broken (read_schema 16) schema_sound c.args.s.now c.if-s-gt65535.false c.in_default.ensures

pub returns-then-node-s : goal.returns-then-node-s
unfolding schema_verdict decode_schema
returns-then-node-s c = verdict-over (read_schema 16) schema_sound c.args.s.now _ _ c.if-s-gt65535.false c.in-Some.ensures c.if-node-s.true

pub returns-then-node : goal.returns-then-node
unfolding schema_verdict decode_schema
returns-then-node c =
    ap (λ (b : Bool). when b then Sound else Unsound) (sym c.if-node.true)
    ∙ verdict-whole (read_schema 16) schema_sound c.args.s.now _ _ c.if-s-gt65535.false c.in-Some.ensures c.if-node-s.false

pub returns-else-node : goal.returns-else-node
unfolding schema_verdict decode_schema
returns-else-node c =
    ap (λ (b : Bool). when b then Sound else Unsound) (sym c.if-node.false)
    ∙ verdict-whole (read_schema 16) schema_sound c.args.s.now _ _ c.if-s-gt65535.false c.in-Some.ensures c.if-node-s.false
