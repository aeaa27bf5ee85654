-- `defaults::start_short` meets its contract. Assumes nothing.
use borrow.Author.Rules.{part_to_end}
use Rattle.defaults.proofs.SoundParts.{sound-reads}
use Rattle.walk.proofs.DefaultBytes.{first-long, first-ready}
use Rattle.defaults.proofs.DefaultLaws.{ready-there, alone-short, null-short, accepted-short, refused-short}
use Rattle.defaults.proofs.start_short.Goals as goal
use Rattle.defaults.proofs.start_short.Goals.{then-s-ne-UNION-via-then-s-ne-UNION, then-s-ne-UNION-via-else-s-ne-UNION+then-s-eq-NULL}

pub bounds-s-0 : goal.bounds-s-0
bounds-s-0 c = (ready-there c.args.ds c.args.s.now c.requires.0).1

pub returns-then-s-ne-UNION : goal.returns-then-s-ne-UNION
returns-then-s-ne-UNION c =
    elim c.then-s-ne-UNION.branch [
      | then-s-ne-UNION-via-then-s-ne-UNION w ↦ alone-short c.args.ds c.args.s.now c.args.d.now c.requires.0 c.requires.1 w.if-s-ne-UNION.true
      | then-s-ne-UNION-via-else-s-ne-UNION+then-s-eq-NULL w ↦ null-short c.args.ds c.args.s.now c.args.d.now c.requires.0 c.requires.1 w.if-s-ne-UNION.false w.if-s-eq-NULL.true
    ]

pub bounds-s-3 : goal.bounds-s-3
bounds-s-3 c = first-long c.args.ds c.args.s.now c.requires.0 c.if-s-ne-UNION.false

pub overflow_sub-first : goal.overflow_sub-first
overflow_sub-first c = (ready-there c.args.ds c.args.s.now c.requires.0).0

pub resolve_node-requires : goal.resolve_node-requires
resolve_node-requires c = record { schema = rw part_to_end (first-ready c.args.ds c.args.s.now c.requires.0 c.if-s-ne-UNION.false); value = sound-reads c.requires.1 }

pub returns-in-Ok : goal.returns-in-Ok
returns-in-Ok c = accepted-short c.args.ds c.args.s.now c.args.d.now c.requires.0 c.requires.1 c.if-s-ne-UNION.false c.if-s-eq-NULL.false _ _ (rw (c.in-Ok.is, part_to_end) at c.resolve_node.ensures)

pub returns-in-Err : goal.returns-in-Err
returns-in-Err c = refused-short c.args.ds c.args.s.now c.args.d.now c.requires.0 c.requires.1 c.if-s-ne-UNION.false c.if-s-eq-NULL.false _ _ (rw (c.in-Err.is, part_to_end) at c.resolve_node.ensures)
