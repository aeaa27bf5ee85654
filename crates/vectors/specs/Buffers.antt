-- The lengths of the program's buffers, and what stands in them between two lines.
use Rattle.std.specs.Prelude.{◌≡◌, ℕ, ◌≤◌, List, length}
use Rattle.vectors.specs.declared.list.Replay.{Replay}

-- the schema's frame, the value's frame, the result, the workspace, the answer's line, and the counts
pub record Buffers (schema value result workspace out counts : List ℕ) : Type 0 where
  pub of_schema : length schema ≡ 65536
  pub of_value : length value ≡ 65536
  pub of_result : length result ≡ 65535
  pub of_workspace : length workspace ≡ 65536
  pub of_out : length out ≡ 131073
  pub of_counts : length counts ≡ 100

-- the schema's frame and the answer's line lie in their buffers
pub record Replayed (r : Replay) : Type 0 where
  pub frame : r.schema ≤ 65536
  pub line : r.got ≤ 131073
