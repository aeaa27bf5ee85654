-- Four elements from a place on are what `take` and `drop` give. Assumes nothing.
use mathlib.Core.Path.{◌≡◌, ap, sym, ◌∙◌}
use Prim.Native.Nat.{suc, ◌+◌, ◌≤◌}
use native.Mathlib.Omega.{arith}
use lib.ListN.{length}
use Rattle.number.specs.Number.{little_endian}
use Rattle.duration.proofs.RoundTrip.{four, from_le_bytes-little_endian}
use Rattle.std.proofs.Common.{rules}
use Rattle.duration.proofs.number_at.Goals as goal

pub returns : goal.returns
returns c =
    let b = c.args.b in
    let k = c.args.k in
    let l : k + 4 ≤ length b = search rules in
    let e1 : k + 1 ≡ suc k = omega arith in
    let e2 : k + 2 ≡ suc (suc k) = omega arith in
    let e3 : k + 3 ≡ suc (suc (suc k)) = omega arith in
    c.from_le_bytes.ensures ∙ from_le_bytes-little_endian _ _ _ _ ∙ ap little_endian (rw (e1, e2, e3) (sym (four b k l)))
