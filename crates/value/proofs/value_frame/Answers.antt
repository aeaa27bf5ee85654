-- `value::value_frame` meets its contract. Assumes nothing.
use mathlib.Core.Path.{sym, ap, ◌∙◌}
use mathlib.Core.Bool.{Bool}
use Rattle.base.specs.Base.{when◌then◌else◌}
use Rattle.frame.specs.ValueFrame.{read_value, decode_value}
use Rattle.frame.specs.Sound.{keys_rise}
use Rattle.frame.specs.Checks.{value_verdict}
use Rattle.frame.specs.declared.Verdict.TheVariants.{Unsound, Sound}
use Rattle.frame.proofs.Whole.{verdict-long, verdict-broken, verdict-over, verdict-whole}
use Rattle.value.proofs.value_frame.Goals as goal

pub returns-then-s-gt65535 : goal.returns-then-s-gt65535
unfolding value_verdict decode_value
returns-then-s-gt65535 c = verdict-long (read_value 16) keys_rise c.args.s.now c.if-s-gt65535.true

pub returns-in_default : goal.returns-in_default
unfolding value_verdict decode_value
returns-in_default c =
    verdict-broken (read_value 16) keys_rise c.args.s.now c.if-s-gt65535.false (rw c.in_default.is at c.value_check.ensures)

pub returns-then-node-s : goal.returns-then-node-s
unfolding value_verdict decode_value
returns-then-node-s c =
    verdict-over (read_value 16) keys_rise c.args.s.now _ _ c.if-s-gt65535.false c.in-Some.ensures c.if-node-s.true

pub returns-then-node : goal.returns-then-node
unfolding value_verdict decode_value
returns-then-node c =
    ap (λ (b : Bool). when b then Sound else Unsound) (sym c.if-node.true)
    ∙ verdict-whole (read_value 16) keys_rise c.args.s.now _ _ c.if-s-gt65535.false c.in-Some.ensures c.if-node-s.false

pub returns-else-node : goal.returns-else-node
unfolding value_verdict decode_value
returns-else-node c =
    ap (λ (b : Bool). when b then Sound else Unsound) (sym c.if-node.false)
    ∙ verdict-whole (read_value 16) keys_rise c.args.s.now _ _ c.if-s-gt65535.false c.in-Some.ensures c.if-node-s.false
