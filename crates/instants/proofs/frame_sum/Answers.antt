-- `instants::frame_sum` meets its contract: 5 for either frame, then the kinds.
use native.Mathlib.Omega.{arith}
use mathlib.Core.Path.{sym, ◌∙◌}
use Rattle.number.proofs.Laws.{get_or-all_bytes}
use Rattle.frame.proofs.ValueNodes.{value_there}
use Rattle.frame.proofs.Passed.{passes-reads}
use Rattle.instants.proofs.FrameLaws.{denied, granted, sum-no-instant, sum-no-duration, sum-other, sum-of-both}
use Rattle.instants.proofs.frame_sum.Goals as goal
use Rattle.instants.proofs.frame_sum.Goals.{then-not-is_frame-via-then-not-is_frame, then-not-is_frame-via-else-not-is_frame+then-not-is_frame-2}

pub returns-then-not-is_frame : goal.returns-then-not-is_frame
returns-then-not-is_frame c =
    let i = c.args.instant.now in
    let d = c.args.duration.now in
    elim c.then-not-is_frame.branch [
      | then-not-is_frame-via-then-not-is_frame w ↦ sym (sum-no-instant i d (denied c.is_frame.ensures w.if-not-is_frame.true))
      | then-not-is_frame-via-else-not-is_frame+then-not-is_frame-2 w ↦ sym (sum-no-duration i d (granted c.is_frame.ensures w.if-not-is_frame.false) (denied w.is_frame-else-not-is_frame.ensures w.if-not-is_frame-2.true))
    ]

pub bounds-duration-0 : goal.bounds-duration-0
bounds-duration-0 c = (value_there 16 c.args.duration.now (passes-reads c.args.duration.now (granted c.is_frame-else-not-is_frame.ensures c.if-not-is_frame-2.false))).1

pub returns-then-duration-ne-DURATION : goal.returns-then-duration-ne-DURATION
returns-then-duration-ne-DURATION c =
    let d = c.args.duration.now in
    sym (sum-other c.args.instant.now d (granted c.is_frame.ensures c.if-not-is_frame.false) (granted c.is_frame-else-not-is_frame.ensures c.if-not-is_frame-2.false) (get_or-all_bytes d (λ i. omega (arith, c.type_inv.duration i))) c.if-duration-ne-DURATION.true)

pub instant_in-requires : goal.instant_in-requires
instant_in-requires c = passes-reads c.args.instant.now (granted c.is_frame.ensures c.if-not-is_frame.false)

pub duration_in-requires : goal.duration_in-requires
duration_in-requires c = (passes-reads c.args.duration.now (granted c.is_frame-else-not-is_frame.ensures c.if-not-is_frame-2.false), c.if-duration-ne-DURATION.false)

pub returns : goal.returns
returns c =
    let d = c.args.duration.now in
    c.add.ensures ∙ sum-of-both c.args.instant.now d (granted c.is_frame.ensures c.if-not-is_frame.false) (granted c.is_frame-else-not-is_frame.ensures c.if-not-is_frame-2.false) (get_or-all_bytes d (λ i. omega (arith, c.type_inv.duration i))) c.if-duration-ne-DURATION.false _ _ c.instant_in.ensures c.duration_in.ensures
