-- `variants::base_kind` meets its contract.
use native.Mathlib.Omega.{arith}
use Rattle.text.specs.Measured.{Reads}
use Rattle.frame.proofs.SchemaNodes.{schema-there}
use Rattle.variants.proofs.UnionKinds.{low-base, int-base, long-base, duration-base, decimal-long, decimal-bytes, decimal-fixed, uuid-long, uuid-bytes, uuid-string, uuid-fixed}
use Rattle.variants.proofs.base_kind.Goals as goal

pub bounds-s-0 : goal.bounds-s-0
unfolding Reads
bounds-s-0 c = (schema-there c.args.depth c.args.s.now c.requires).1

pub returns-in-0-to-13 : goal.returns-in-0-to-13
unfolding Reads
returns-in-0-to-13 c = low-base c.args.depth c.args.s.now c.requires.0 c.requires.1.0 c.requires.1.1 (omega arith)

pub bounds-s-9 : goal.bounds-s-9
unfolding Reads
bounds-s-9 c = decimal-long c.args.depth c.args.s.now c.requires.0 c.requires.1.0 c.requires.1.1 c.in-14.is

pub returns-then-s-eq0 : goal.returns-then-s-eq0
unfolding Reads
returns-then-s-eq0 c = decimal-bytes c.args.depth c.args.s.now c.requires.0 c.requires.1.0 c.requires.1.1 c.in-14.is c.if-s-eq0.true

pub returns-else-s-eq0 : goal.returns-else-s-eq0
unfolding Reads
returns-else-s-eq0 c = decimal-fixed c.args.depth c.args.s.now c.requires.0 c.requires.1.0 c.requires.1.1 c.in-14.is c.if-s-eq0.false

pub bounds-s-1 : goal.bounds-s-1
unfolding Reads
bounds-s-1 c = uuid-long c.args.depth c.args.s.now c.requires.0 c.requires.1.0 c.requires.1.1 c.in-15.is

pub returns-in-0 : goal.returns-in-0
unfolding Reads
returns-in-0 c = uuid-bytes c.args.depth c.args.s.now c.requires.0 c.requires.1.0 c.requires.1.1 c.in-15.is c.in-0.is

pub returns-in-1 : goal.returns-in-1
unfolding Reads
returns-in-1 c = uuid-string c.args.depth c.args.s.now c.requires.0 c.requires.1.0 c.requires.1.1 c.in-15.is c.in-1.is

pub returns-in-16-to-17 : goal.returns-in-16-to-17
unfolding Reads
returns-in-16-to-17 c = int-base c.args.depth c.args.s.now c.requires.0 c.requires.1.0 c.requires.1.1 (omega arith) (omega arith)

pub returns-in-18-to-24 : goal.returns-in-18-to-24
unfolding Reads
returns-in-18-to-24 c = long-base c.args.depth c.args.s.now c.requires.0 c.requires.1.0 c.requires.1.1 (omega arith) (omega arith)

pub returns-in_default : goal.returns-in_default
unfolding Reads
returns-in_default c = duration-base c.args.depth c.args.s.now c.requires.0 c.requires.1.0 c.requires.1.1 (omega arith)

pub returns-in_default-s : goal.returns-in_default-s
unfolding Reads
returns-in_default-s c = uuid-fixed c.args.depth c.args.s.now c.requires.0 c.requires.1.0 c.requires.1.1 c.in-15.is (λ e. omega arith) (λ e. omega arith)
