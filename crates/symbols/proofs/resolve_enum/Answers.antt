-- `symbols::resolve_enum` meets its contract.
use native.Mathlib.Omega.{arith}
use Rattle.number.proofs.Laws.{get_or-all_bytes}
use Rattle.frame.proofs.ValueNodes.{value_there}
use Rattle.frame.proofs.SchemaNodes.{schema-there}
use Rattle.types.proofs.Contents.{string-content}
use Rattle.types.proofs.NodeLaws.{text-reads-counted, text-node}
use Rattle.symbols.proofs.EnumLaws.{schema-symbols, enum-way, enum-other, string-symbol, enum-symbol, symbol-there, symbol-counted, symbol-node}
use borrow.Author.Rules.{part_to_end}
use Rattle.symbols.proofs.resolve_enum.Goals as goal

pub bounds-v-0 : goal.bounds-v-0
bounds-v-0 c = (value_there _ _ c.requires.2).1

pub slice_bounds-enum_of-count : goal.slice_bounds-enum_of-count
slice_bounds-enum_of-count c = omega (arith, (schema-there c.args.ds c.args.s.now c.requires.0).1)

pub slice_bounds-enum_of-start : goal.slice_bounds-enum_of-start
slice_bounds-enum_of-start c = omega (arith, (schema-there c.args.ds c.args.s.now c.requires.0).1)

pub slice_bounds-content-count : goal.slice_bounds-content-count
slice_bounds-content-count c = omega (arith, symbol-there c.args.depth c.args.v.now c.requires.2 c.in-12.is)

pub slice_bounds-content-start : goal.slice_bounds-content-start
slice_bounds-content-start c = omega (arith, symbol-there c.args.depth c.args.v.now c.requires.2 c.in-12.is)

pub content-requires : goal.content-requires
content-requires c = rw part_to_end (symbol-counted c.args.depth c.args.v.now c.requires.2 c.in-12.is)

pub enum_of-requires : goal.enum_of-requires
enum_of-requires c = (rw part_to_end (schema-symbols c.args.ds c.args.s.now c.requires.0 c.requires.1), c.content.ensures.1.1)

pub returns-in-12 : goal.returns-in-12
returns-in-12 c = enum-way c.args.ds c.args.s.now c.requires.0 c.requires.1 c.args.depth c.args.v.now _ _ (symbol-node c.args.depth c.args.v.now c.requires.2 c.in-12.is _ _ (rw part_to_end at c.content.ensures.0)) _ _ _ (enum-symbol _ _) (rw part_to_end at c.enum_of.ensures)

pub slice_bounds-enum_of-count-in-7 : goal.slice_bounds-enum_of-count-in-7
slice_bounds-enum_of-count-in-7 c = omega (arith, (schema-there c.args.ds c.args.s.now c.requires.0).1)

pub slice_bounds-enum_of-start-in-7 : goal.slice_bounds-enum_of-start-in-7
slice_bounds-enum_of-start-in-7 c = omega (arith, (schema-there c.args.ds c.args.s.now c.requires.0).1)

pub content-requires-in-7 : goal.content-requires-in-7
content-requires-in-7 c = text-reads-counted _ _ c.requires.2 7 string-content c.in-7.is

pub enum_of-requires-in-7 : goal.enum_of-requires-in-7
enum_of-requires-in-7 c = (rw part_to_end (schema-symbols c.args.ds c.args.s.now c.requires.0 c.requires.1), c.content-in-7.ensures.short)

pub returns-in-7 : goal.returns-in-7
returns-in-7 c = enum-way c.args.ds c.args.s.now c.requires.0 c.requires.1 c.args.depth c.args.v.now _ _ (text-node _ _ c.requires.2 7 string-content c.in-7.is _ _ c.content-in-7.ensures.counted).0 _ _ _ (string-symbol _) (rw part_to_end at c.enum_of-in-7.ensures)

pub returns-in_default : goal.returns-in_default
returns-in_default c = enum-other c.args.ds c.args.s.now c.requires.0 c.requires.1 c.args.depth c.args.v.now _ c.requires.2 (get_or-all_bytes c.args.v.now (λ i. omega (arith, c.type_inv.v i))) (λ k. omega arith) (λ k. omega arith)
