-- The lengths of the program's buffers.
use Rattle.std.specs.Prelude.{ℕ, ◌≡◌, List, length}

-- the value's frame, the result, the workspace, and what waits to be written
pub record Buffers (value result workspace out : List ℕ) : Type 0 where
  pub of_value : length value ≡ 65536
  pub of_result : length result ≡ 65535
  pub of_workspace : length workspace ≡ 65536
  pub of_out : length out ≡ 262144
