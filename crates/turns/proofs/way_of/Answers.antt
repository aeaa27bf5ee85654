-- `turns::way_of` meets its contract.
use mathlib.Core.Path.{refl}
use Rattle.variants.proofs.UnionReading.{ready-reads, on_read}
use Rattle.turns.proofs.DueLaws.{goes-unnamed, goes-named}
use Rattle.turns.proofs.way_of.Goals as goal

pub table_position-table-requires : goal.table_position-table-requires
table_position-table-requires c = (ready-reads _ _ c.requires.schema, c.requires.kind)

pub named_at-named-requires : goal.named_at-named-requires
named_at-named-requires c = (ready-reads _ _ c.requires.schema, c.requires.kind)

pub is_rising-rises-requires : goal.is_rising-rises-requires
is_rising-rises-requires c = (on_read _ _ _ _ c.requires.schema.reads c.named_at-named.ensures).inside

pub named_before-before-requires : goal.named_before-before-requires
named_before-before-requires c = ((on_read _ _ _ _ c.requires.schema.reads c.named_at-named.ensures).inside, c.is_rising-rises.ensures)

pub returns-in-None : goal.returns-in-None
returns-in-None c = goes-unnamed _ _ c.requires _ _ c.unnamed_kind.ensures _ c.table_position-table.ensures _ c.named_kind.ensures c.in-None.is _ refl

pub returns-in-Some : goal.returns-in-Some
returns-in-Some c = goes-named _ _ c.requires _ _ c.unnamed_kind.ensures _ c.table_position-table.ensures _ c.named_kind.ensures _ c.in-Some.is _ c.named_at-named.ensures _ _ c.named_before-before.ensures _ refl
