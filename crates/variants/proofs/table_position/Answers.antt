-- `variants::table_position` meets its contract.
use borrow.Author.Rules.{part_to_end}
use mathlib.Core.Path.{sym, ap, ◌∙◌}
use Rattle.text.specs.Measured.{Reads}
use Rattle.frame.proofs.Reading.{reads-some}
use Rattle.avro.specs.Union.{table_lookup}
use Rattle.variants.specs.Ways.{found_of, kind_table, wanted_of, lookup_read}
use Rattle.variants.proofs.UnionReading.{on-read-of, union-parts, table-reads}
use Rattle.variants.proofs.table_position.Goals as goal

pub returns-in_err-k : goal.returns-in_err-k
unfolding Reads found_of table_lookup wanted_of
returns-in_err-k c = on-read-of _ _ c.requires.0.0 c.requires.0.1.0 c.requires.0.1.1 (rw c.in_err-k.was c.from_residual.ensures)

pub read2-n-requires : goal.read2-n-requires
unfolding Reads
read2-n-requires c = (union-parts c.args.depth c.args.s.now c.requires.0.0 c.requires.0.1.0 c.requires.0.1.1 c.requires.1).long

pub look_up-requires : goal.look_up-requires
unfolding Reads
look_up-requires c = rw part_to_end (reads-some _ _ (table-reads c.args.depth c.args.s.now c.requires.0.0 (union-parts c.args.depth c.args.s.now c.requires.0.0 c.requires.0.1.0 c.requires.0.1.1 c.requires.1) _ _ c.variant_at-at.ensures c.read2-n.ensures))

pub returns : goal.returns
unfolding Reads lookup_read table_lookup wanted_of
returns c = on-read-of _ _ c.requires.0.0 c.requires.0.1.0 c.requires.0.1.1 (rw part_to_end at c.look_up.ensures ∙ ap (λ x. found_of (lookup_read c.in_ok-k.k x)) (table-reads c.args.depth c.args.s.now c.requires.0.0 (union-parts c.args.depth c.args.s.now c.requires.0.0 c.requires.0.1.0 c.requires.0.1.1 c.requires.1) _ _ c.variant_at-at.ensures c.read2-n.ensures) ∙ ap (λ x. found_of (table_lookup (kind_table c.requires.0.0) (wanted_of x))) (sym c.in_ok-k.was))
