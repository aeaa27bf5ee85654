-- `schema::plain::leaf_skip` meets its contract. Assumes nothing.
use native.Mathlib.Omega.{arith}
use mathlib.Core.Path.{◌≡◌}
use lib.ListN.{length-drop}
use borrow.Author.Rules.{part_to_end}
use Rattle.frame.proofs.Measuring.{spans-le}
use Rattle.schema.proofs.Skipping.{enum_known, enum-spans, fixed-spans, duration-spans, decimal-size, decimal-spans, decimal-long, uuid_known, uuid-spans, plain-spans}
use Rattle.schema.proofs.plain.leaf_skip.Goals as goal

pub enum_skip-requires : goal.enum_skip-requires
enum_skip-requires c = let k : c.args.kind ≡ 12 = omega arith in enum_known _ _ _ (rw k at c.requires.1)

pub returns-in-12 : goal.returns-in-12
returns-in-12 c = let k : c.args.kind ≡ 12 = omega arith in rw k (enum-spans _ _ _ (rw k at c.requires.1) _ c.enum_skip.ensures)

pub uuid_skip-requires : goal.uuid_skip-requires
uuid_skip-requires c = let k : c.args.kind ≡ 15 = omega arith in uuid_known _ _ _ (rw k at c.requires.1)

pub returns-in-15 : goal.returns-in-15
returns-in-15 c = let k : c.args.kind ≡ 15 = omega arith in rw k (uuid-spans _ _ _ (rw k at c.requires.1) _ c.uuid_skip.ensures)

pub returns-in-13 : goal.returns-in-13
returns-in-13 c = let k : c.args.kind ≡ 13 = omega arith in rw k (fixed-spans _ _ _ (rw k at c.requires.1))

pub returns-in-25 : goal.returns-in-25
returns-in-25 c = let k : c.args.kind ≡ 25 = omega arith in rw k (duration-spans _ _ _ (rw k at c.requires.1))

pub slice_bounds-option_size_skip-count : goal.slice_bounds-option_size_skip-count
slice_bounds-option_size_skip-count c = let k : c.args.kind ≡ 14 = omega arith in decimal-long _ _ _ (rw k at c.requires.1)

pub slice_bounds-option_size_skip-start : goal.slice_bounds-option_size_skip-start
slice_bounds-option_size_skip-start c = let k : c.args.kind ≡ 14 = omega arith in decimal-long _ _ _ (rw k at c.requires.1)

pub option_size_skip-requires : goal.option_size_skip-requires
option_size_skip-requires c = let k : c.args.kind ≡ 14 = omega arith in rw part_to_end (decimal-size _ _ _ (rw k at c.requires.1))

pub overflow_add-result : goal.overflow_add-result
overflow_add-result c =
    let k : c.args.kind ≡ 14 = omega arith in
    omega (arith, decimal-long _ _ _ (rw k at c.requires.1), spans-le _ _ _ (rw part_to_end at c.option_size_skip.ensures), length-drop 8 c.args.s.now, c.well_formed)

pub returns-in-14 : goal.returns-in-14
returns-in-14 c = let k : c.args.kind ≡ 14 = omega arith in rw k (decimal-spans _ _ _ (rw k at c.requires.1) _ (rw part_to_end at c.option_size_skip.ensures))

pub returns-in_default : goal.returns-in_default
returns-in_default c = plain-spans _ _ _ _ c.requires.1 (λ h. omega (arith, c.requires.0)) (λ h. omega (arith, h))
