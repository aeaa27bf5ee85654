-- `streams::input::refilled` meets its contract: the reader as it was, or after a read.
use mathlib.Core.Path.{sym, subst}
use Prim.Native.Nat.{◌≤◌}
use lib.ListN.{length}
use Rattle.lines.specs.declared.input.Reader.{Reader}
use Rattle.streams.specs.Supplied.{Refilled, unread, read}
use Rattle.streams.proofs.SuppliedLaws.{supplied-in}
use Rattle.streams.proofs.input.refilled.Goals as goal

pub returns-then-r-clause-refilled : goal.returns-then-r-clause-refilled
returns-then-r-clause-refilled g c = unread

pub returns-clause-at_le_end : goal.returns-clause-at_le_end
returns-clause-at_le_end g c =
    subst
    (λ (t : Reader). (t.at ≤ t.end) × (t.end ≤ length c.read-call.new.block) × (t.filled ≤ c.args.r.filled))
    (sym c.supplied.ensures)
    (supplied-in c.args.r _ _ c.read-call.ensures.within)

pub returns-clause-refilled : goal.returns-clause-refilled
returns-clause-refilled g c = subst (Refilled c.args.r) (sym c.supplied.ensures) (read _)
