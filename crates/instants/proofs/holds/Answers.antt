-- `instants::holds` meets its contract: 5 for any of the three frames, then the window.
use mathlib.Core.Path.{◌≡◌, sym, ◌∙◌}
use mir.Syntax.{w32}
use mir.ValLaws.{to_z-of_z}
use Rattle.frame.proofs.Passed.{passes-reads}
use Rattle.instants.specs.Frames.{held_for}
use Rattle.instants.proofs.FrameLaws.{denied, granted, held-no-opening, held-no-closing, held-no-instant, held-of-all}
use Rattle.instants.proofs.AnswerLaws.{held-ok, held-stop}
use Rattle.base.specs.Base.{stop}
use Rattle.instants.proofs.holds.Goals as goal
use Rattle.instants.proofs.holds.Goals.{then-not-is_frame-via-then-not-is_frame, then-not-is_frame-via-else-not-is_frame+then-not-is_frame-2, then-not-is_frame-via-else-not-is_frame+else-not-is_frame-2+then-not-is_frame-3}

pub returns-then-not-is_frame : goal.returns-then-not-is_frame
returns-then-not-is_frame c =
    let o = c.args.opening.now in
    let k = c.args.closing.now in
    let m = c.args.instant.now in
    let n = c.negated in
    let e : held_for o k m ≡ stop 5 =
    elim c.then-not-is_frame.branch [
      | then-not-is_frame-via-then-not-is_frame w ↦ held-no-opening o k m (denied c.is_frame.ensures w.if-not-is_frame.true)
      | then-not-is_frame-via-else-not-is_frame+then-not-is_frame-2 w ↦ held-no-closing o k m (granted c.is_frame.ensures w.if-not-is_frame.false) (denied w.is_frame-else-not-is_frame.ensures w.if-not-is_frame-2.true)
      | then-not-is_frame-via-else-not-is_frame+else-not-is_frame-2+then-not-is_frame-3 w ↦
          held-no-instant o k m (granted c.is_frame.ensures w.if-not-is_frame.false) (granted w.is_frame-else-not-is_frame.ensures w.if-not-is_frame-2.false) (denied w.is_frame-else-not-is_frame-2.ensures w.if-not-is_frame-3.true)
    ] in
    to_z-of_z w32 n.result (record { sfits = n.type_inv }) ∙ n.ensures ∙ held-stop _ 5 e

pub instant_in-requires : goal.instant_in-requires
instant_in-requires c = passes-reads c.args.opening.now (granted c.is_frame.ensures c.if-not-is_frame.false)

pub instant_in-requires-2 : goal.instant_in-requires-2
instant_in-requires-2 c = passes-reads c.args.closing.now (granted c.is_frame-else-not-is_frame.ensures c.if-not-is_frame-2.false)

pub instant_in-requires-3 : goal.instant_in-requires-3
instant_in-requires-3 c = passes-reads c.args.instant.now (granted c.is_frame-else-not-is_frame-2.ensures c.if-not-is_frame-3.false)

pub returns-in-Ok : goal.returns-in-Ok
returns-in-Ok c =
    let a = c.args in
    let n = c.from in
    let e = held-of-all a.opening.now a.closing.now a.instant.now (granted c.is_frame.ensures c.if-not-is_frame.false) (granted c.is_frame-else-not-is_frame.ensures c.if-not-is_frame-2.false) (granted c.is_frame-else-not-is_frame-2.ensures c.if-not-is_frame-3.false) _ _ _ c.instant_in.ensures c.instant_in-2.ensures c.instant_in-3.ensures in
    to_z-of_z w32 n.result (record { sfits = n.type_inv }) ∙ n.ensures ∙ held-ok _ _ (sym (c.in-Ok.ensures ∙ e))

pub returns-in-Err : goal.returns-in-Err
returns-in-Err c =
    let a = c.args in
    let n = c.negated-in-Err in
    let e = held-of-all a.opening.now a.closing.now a.instant.now (granted c.is_frame.ensures c.if-not-is_frame.false) (granted c.is_frame-else-not-is_frame.ensures c.if-not-is_frame-2.false) (granted c.is_frame-else-not-is_frame-2.ensures c.if-not-is_frame-3.false) _ _ _ c.instant_in.ensures c.instant_in-2.ensures c.instant_in-3.ensures in
    to_z-of_z w32 n.result (record { sfits = n.type_inv }) ∙ n.ensures ∙ held-stop _ _ (sym (c.in-Err.ensures ∙ e))
