-- `variants::is_at` meets its contract.
use Prim.Native.Nat.{ℕ}
use mathlib.Core.Path.{◌≡◌, refl, ◌∙◌}
use lib.Dec.{eqb}
use Rattle.std.specs.Prelude.{Option, Some, None}
use Rattle.std.specs.Option.{option_eq}
use Rattle.variants.specs.Ways.{is_at}
use Rattle.variants.proofs.is_at.Goals as goal

pub returns : goal.returns
unfolding is_at
returns c = c.eq.ensures ∙ same c.args.found
  where
    same : (found : Option ℕ) → option_eq eqb found (Some c.args.i) ≡ is_at found c.args.i
    same (Some u) = refl
    same None = refl
