-- `leaf::leaf_uuid` meets its contract.
use native.Mathlib.Omega.{arith}
use Rattle.leaf.proofs.LeafSchemas.{uuid-long, uuid-fixed-long, uuid-bytes-outcome, uuid-string-outcome, uuid-fixed-outcome, wrote-eq}
use Rattle.leaf.proofs.leaf_uuid.Goals as goal

pub bounds-s-1 : goal.bounds-s-1
bounds-s-1 c = uuid-long _ _ c.requires.0 c.requires.2

pub returns-in-0 : goal.returns-in-0
returns-in-0 c = wrote-eq _ _ _ _ (uuid-bytes-outcome _ _ c.requires.0 _ c.requires.2 c.in-0.is) c.resolve_uuid_bytes.ensures

pub returns-in-1 : goal.returns-in-1
returns-in-1 c = wrote-eq _ _ _ _ (uuid-string-outcome _ _ c.requires.0 _ c.requires.2 c.in-1.is) c.resolve_uuid_string.ensures

pub read2-requires : goal.read2-requires
read2-requires c = omega (arith, uuid-fixed-long _ _ c.requires.0 c.requires.2 (λ e. omega arith) (λ e. omega arith))

pub returns-in_default : goal.returns-in_default
returns-in_default c = wrote-eq _ _ _ _ (uuid-fixed-outcome _ _ c.requires.0 _ c.requires.2 (λ e. omega arith) (λ e. omega arith) _ c.read2.ensures) c.resolve_uuid_fixed.ensures
