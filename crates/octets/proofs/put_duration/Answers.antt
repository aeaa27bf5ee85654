-- 12 bytes, taken as a Duration and written, are the same 12 bytes.
use native.Mathlib.Omega.{arith}
use mathlib.Core.Path.{refl}
use Rattle.octets.proofs.ContentLaws.{duration-written}
use Rattle.octets.proofs.put_duration.Goals as goal

pub returns : goal.returns
returns c = duration-written c.args.t.now _ _ _ _ _ _ c.requires (λ i. omega (arith, c.type_inv.t i)) refl c.copy.ensures c.from_bytes.ensures c.to_bytes-d.ensures c.put_plain.ensures
