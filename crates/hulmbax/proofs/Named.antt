-- The answer of the entry that names the current finishes, in the request's words: each sentence, both ways.
use Prim.Native.Nat.{ℕ, ◌≤◌, ◌<◌}
use mathlib.Core.Path.{◌≡◌, refl, sym, subst, ◌∙◌}
use mathlib.Core.List.{List}
use mathlib.Core.Bool.{Bool, true, false}
use lib.Dec.{ltb}
use borrow.Author.Tests.{ltb-true, ltb-false}
use Rattle.base.specs.Base.{Result, stop}
use Rattle.corrections.specs.Claims.{Named}
use Rattle.corrections.proofs.Words.{named-so, named-only}
use Rattle.hulmbax.specs.Answer.{workspace_size}
use Rattle.hulmbax.specs.Names.{names}
use Rattle.hulmbax.proofs.NameLaws.{names-1, names-is}

pub data Names (input ends : List ℕ) (buffer workspace : ℕ) : Result (List ℕ) → Type 0 where
  -- 1: the workspace is shorter than 65,536 bytes
  short-workspace : workspace < 65536 → Names input ends buffer workspace (stop 1)
  -- else what the sentences on a list of frames say
  frames : (x : Result (List ℕ)) → 65536 ≤ workspace → Named input ends buffer x → Names input ends buffer workspace x

pub names-so : (input ends : List ℕ) (buffer workspace : ℕ) → Names input ends buffer workspace (names input ends buffer workspace)
names-so input ends buffer workspace = go (ltb workspace workspace_size) refl
  where
    go : (b : Bool) → ltb workspace workspace_size ≡ b → Names input ends buffer workspace (names input ends buffer workspace)
    go true e = let h = ltb-true workspace workspace_size e in subst (Names input ends buffer workspace) (sym (names-1 input ends buffer workspace h)) (Names.short-workspace h)
    go false e =
        let h = ltb-false workspace workspace_size e in
        subst (Names input ends buffer workspace) (sym (names-is input ends buffer workspace h)) (Names.frames _ h (named-so input ends buffer))

pub names-only : (input ends : List ℕ) (buffer workspace : ℕ) (x : Result (List ℕ)) → Names input ends buffer workspace x → names input ends buffer workspace ≡ x
names-only input ends buffer workspace _ (Names.short-workspace h) = names-1 input ends buffer workspace h
names-only input ends buffer workspace _ (Names.frames x h n) = names-is input ends buffer workspace h ∙ named-only input ends buffer x n
