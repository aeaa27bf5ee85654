-- `lines::input::line_end` meets its contract: it is the place of the first newline, all characters where there is none.
use borrow.Author.Rules.{rules}
use borrow.Author.Tests.{tests}
use mathlib.Core.Path.{◌∙◌, ap, sym, subst}
use Prim.Native.Nat.{ℕ, ◌≤◌}
use lib.Dec.{eqb}
use lib.ListN.{length}
use Rattle.std.proofs.lemmas.Iterator.{YieldsList-from_slice}
use Rattle.std.proofs.lemmas.Iterator.Search.{position_from_yields_List}
use Rattle.std.specs.Option.{unwrap_or}
use Rattle.std.specs.Prelude.{Option}
use Rattle.lines.specs.Cut.{newline}
use Rattle.lines.proofs.CutLaws.{line_end-le, line_end-found}
use Rattle.lines.proofs.input.line_end.Goals as goal

pub returns : goal.returns
returns c =
    let s = c.args.s.now in
    let place = position_from_yields_List (λ (x : ℕ). eqb x newline) _ _ c.position.result c.position.ensures.ran (YieldsList-from_slice s (cc)) (λ x b q k. search (rules, tests)) in
    let e = c.unwrap_or.ensures ∙ ap (λ (o : Option ℕ). unwrap_or o (length s)) place ∙ line_end-found s in
    (e, subst (λ (k : ℕ). k ≤ length s) (sym e) (line_end-le s))
