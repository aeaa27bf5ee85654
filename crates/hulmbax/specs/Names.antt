-- The answer of the entry that names the current finishes: 1, or that of the frames.
use Rattle.std.specs.Prelude.{ℕ, List, ltb}
use Rattle.base.specs.Base.{when◌then◌else◌, Result, stop}
use Rattle.corrections.specs.Named.{names_for}
use Rattle.hulmbax.specs.Answer.{workspace_size}

-- with the lengths of the result buffer and the workspace
unfoldable pub names : List ℕ → List ℕ → ℕ → ℕ → Result (List ℕ)
names input ends buffer workspace = when ltb workspace workspace_size then stop 1 else names_for input ends buffer
