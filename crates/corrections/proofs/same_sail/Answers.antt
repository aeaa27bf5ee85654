-- `corrections::same_sail` meets its contract.
use Rattle.corrections.specs.Tables.{sail_of}
use Rattle.corrections.proofs.SailLaws.{hashes-differ}
use Rattle.corrections.proofs.same_sail.Goals as goal

pub returns-then-hashes-i : goal.returns-then-hashes-i
returns-then-hashes-i c = hashes-differ _ _ _ _ c.requires.0.stands.hashed c.requires.1.stands.hashed c.if-hashes-i.true

pub returns : goal.returns
unfolding sail_of
returns c = c.same.ensures
