-- `calendar::holds` meets its contract: the tests of `window_holds`.
use Rattle.std.proofs.Common.{sym, ap, ◌∙◌, w64}
use mir.ValLaws.{to_z-of_z}
use Rattle.base.specs.Base.{ok}
use Rattle.calendar.specs.Instants.{is_instant}
use Rattle.calendar.proofs.EntryLaws.{other-kind, mixed-close, mixed-instant, same-kinds, cmp-le, cmp-lt}
use Rattle.calendar.proofs.holds.Goals as goal
use Rattle.calendar.proofs.holds.Goals.{then-not-is_instant-via-then-not-is_instant, then-not-is_instant-via-else-not-is_instant+then-kind-k, then-not-is_instant-via-else-not-is_instant+else-kind-k+then-kind-k-2}

pub returns-then-not-is_instant : goal.returns-then-not-is_instant
returns-then-not-is_instant c =
    let o = c.args.opening in
    let e = c.args.closing in
    let m = c.args.instant in
    elim c.then-not-is_instant.branch [
      | then-not-is_instant-via-then-not-is_instant w ↦ sym (other-kind o e m (sym (c.is_instant.ensures ∙ ap is_instant c.kind-k.ensures) ∙ w.if-not-is_instant.true))
      | then-not-is_instant-via-else-not-is_instant+then-kind-k w ↦ sym (mixed-close o e m (λ h. w.if-kind-k.true (w.kind.ensures ∙ h ∙ sym c.kind-k.ensures)))
      | then-not-is_instant-via-else-not-is_instant+else-kind-k+then-kind-k-2 w ↦ sym (mixed-instant o e m (λ h. w.if-kind-k-2.true (w.kind-else-kind-k.ensures ∙ h ∙ sym c.kind-k.ensures)))
    ]

pub returns : goal.returns
returns c =
    let a = c.args in
    let k = c.kind-k.ensures in
    let n = c.number_in in
    let n2 = c.number_in-2 in
    let n3 = c.number_in-3 in
    let o = to_z-of_z w64 n.result (record { sfits = n.type_inv }) in
    let e = to_z-of_z w64 n2.result (record { sfits = n2.type_inv }) in
    let m = to_z-of_z w64 n3.result (record { sfits = n3.type_inv }) in
    let v = simp (o, e, m) at c.contains.ensures.value in
    let v2 = simp (cmp-le, cmp-lt, n.ensures, n2.ensures, n3.ensures) at v in
    let s = same-kinds a.opening a.closing a.instant (sym (c.is_instant.ensures ∙ ap is_instant k) ∙ c.if-not-is_instant.false) (sym c.kind.ensures ∙ c.if-kind-k.false ∙ k) (sym c.kind-else-kind-k.ensures ∙ c.if-kind-k-2.false ∙ k) in
    ap ok v2 ∙ sym s
