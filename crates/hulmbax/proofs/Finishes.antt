-- The starred finishes of docs/RULES.md hold, by computing each.
use mathlib.Core.Path.{◌≡◌, refl}
use mathlib.Core.List.{map}
use Rattle.hulmbax.specs.Answer.{answer, workspace_size}
use Rattle.hulmbax.specs.Finishes.{starred}
use Rattle.hulmbax.proofs.Computed.{computed}

pub starred-hold : map (λ f. answer f.schema f.value 65535 workspace_size) starred ≡ map (λ f. f.expected) starred
unfolding starred computed
starred-hold = refl
