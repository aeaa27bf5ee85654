-- `variants::is_tried` meets its contract.
use mathlib.Core.Path.{sym, ap, ◌∙◌}
use borrow.Author.Tests.{eq-eqb}
use Rattle.text.specs.Measured.{Reads}
use Rattle.frame.proofs.SchemaNodes.{schema-there, schema-kind}
use Rattle.avro.specs.Union.{must_be_tried}
use Rattle.variants.proofs.UnionReading.{on-read-of}
use Rattle.variants.proofs.UnionKinds.{map-tried, array-tried}
use Rattle.variants.proofs.is_tried.Goals as goal

pub bounds-s-0 : goal.bounds-s-0
unfolding Reads
bounds-s-0 c = (schema-there c.args.depth c.args.s.now c.requires).1

pub bounds-s-0-else-s-eq-MAP : goal.bounds-s-0-else-s-eq-MAP
unfolding Reads
bounds-s-0-else-s-eq-MAP c = (schema-there c.args.depth c.args.s.now c.requires).1

pub returns-then-s-eq-MAP : goal.returns-then-s-eq-MAP
unfolding Reads
returns-then-s-eq-MAP c = on-read-of _ _ c.requires.0 c.requires.1.0 c.requires.1.1 (eq-eqb _ _ c.if-s-eq-MAP.true ∙ map-tried _ c.if-s-eq-MAP.true ∙ ap must_be_tried (sym (schema-kind c.args.depth c.args.s.now c.requires.0 c.requires.1.0 c.requires.1.1)))

pub returns-else-s-eq-MAP : goal.returns-else-s-eq-MAP
unfolding Reads
returns-else-s-eq-MAP c = on-read-of _ _ c.requires.0 c.requires.1.0 c.requires.1.1 (array-tried _ c.if-s-eq-MAP.false ∙ ap must_be_tried (sym (schema-kind c.args.depth c.args.s.now c.requires.0 c.requires.1.0 c.requires.1.1)))
