-- `leaf::resolve_leaf` meets its contract.
use native.Mathlib.Omega.{arith}
use Rattle.leaf.proofs.LeafSchemas.{kind-below, plain-kind, bytes-outcome, string-outcome, enum-outcome, duration-outcome, plain-outcome, wrote-eq}
use Rattle.frame.proofs.SchemaNodes.{schema-there}
use Rattle.leaf.proofs.resolve_leaf.Goals as goal

pub bounds-s-0 : goal.bounds-s-0
bounds-s-0 c = (schema-there _ _ c.requires.0).1

pub returns-in-6 : goal.returns-in-6
returns-in-6 c = wrote-eq _ _ _ _ (bytes-outcome _ _ c.requires.0 _ c.in-6.is) c.resolve_bytes.ensures

pub returns-in-7 : goal.returns-in-7
returns-in-7 c = wrote-eq _ _ _ _ (string-outcome _ _ c.requires.0 _ c.in-7.is) c.resolve_string.ensures

pub resolve_enum-requires : goal.resolve_enum-requires
resolve_enum-requires c = (c.requires.0, c.in-12.is, c.requires.1)

pub returns-in-12 : goal.returns-in-12
returns-in-12 c = wrote-eq _ _ _ _ (enum-outcome _ _ c.requires.0 _ c.in-12.is) c.resolve_enum.ensures

pub leaf_fixed-requires : goal.leaf_fixed-requires
leaf_fixed-requires c = (c.requires.0, c.requires.1, c.in-13.is)

pub leaf_decimal-requires : goal.leaf_decimal-requires
leaf_decimal-requires c = (c.requires.0, c.requires.1, c.in-14.is)

pub leaf_uuid-requires : goal.leaf_uuid-requires
leaf_uuid-requires c = (c.requires.0, c.requires.1, c.in-15.is)

pub returns-in-25 : goal.returns-in-25
returns-in-25 c = wrote-eq _ _ _ _ (duration-outcome _ _ c.requires.0 _ c.in-25.is) c.resolve_duration.ensures

pub resolve_plain-requires : goal.resolve_plain-requires
resolve_plain-requires c = (c.requires.1, kind-below _ _ c.requires.0 (λ e. omega arith), (plain-kind c.args.s.now c.requires.2 (λ e. omega arith) (λ e. omega arith) (λ e. omega arith) (λ e. omega arith) (λ e. omega arith) (λ e. omega arith)))

pub returns-in_default : goal.returns-in_default
returns-in_default c = wrote-eq _ _ _ _ (plain-outcome _ _ c.requires.0 _ (kind-below _ _ c.requires.0 (λ e. omega arith)) (plain-kind c.args.s.now c.requires.2 (λ e. omega arith) (λ e. omega arith) (λ e. omega arith) (λ e. omega arith) (λ e. omega arith) (λ e. omega arith))) c.resolve_plain.ensures
