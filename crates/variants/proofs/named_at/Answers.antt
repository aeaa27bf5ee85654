-- `variants::named_at` meets its contract.
use Rattle.text.specs.Measured.{Reads}
use Rattle.variants.proofs.UnionReading.{on-read-of, union-parts, table-inside, named-inside, named-numbers}
use Rattle.variants.proofs.named_at.Goals as goal

pub read2-n-requires : goal.read2-n-requires
unfolding Reads
read2-n-requires c = (union-parts c.args.depth c.args.s.now c.requires.0.0 c.requires.0.1.0 c.requires.0.1.1 c.requires.1).long

pub read2-k-requires : goal.read2-k-requires
unfolding Reads
read2-k-requires c = table-inside c.args.depth c.args.s.now c.requires.0.0 (union-parts c.args.depth c.args.s.now c.requires.0.0 c.requires.0.1.0 c.requires.0.1.1 c.requires.1) _ _ c.variant_at-kinds.ensures c.read2-n.ensures

pub read2-count-requires : goal.read2-count-requires
unfolding Reads
read2-count-requires c = named-inside c.args.depth c.args.s.now c.requires.0.0 (union-parts c.args.depth c.args.s.now c.requires.0.0 c.requires.0.1.0 c.requires.0.1.1 c.requires.1) _ _ c.variant_at-kinds.ensures c.read2-n.ensures _ c.read2-k.ensures

pub returns : goal.returns
unfolding Reads
returns c = on-read-of _ _ c.requires.0.0 c.requires.0.1.0 c.requires.0.1.1 (named-numbers c.args.depth c.args.s.now c.requires.0.0 (union-parts c.args.depth c.args.s.now c.requires.0.0 c.requires.0.1.0 c.requires.0.1.1 c.requires.1) _ _ c.variant_at-kinds.ensures c.read2-n.ensures _ c.read2-k.ensures _ c.read2-count.ensures)
