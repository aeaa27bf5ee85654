-- What the loop of `frame::texts_len` keeps.
use Prim.Native.Nat.{◌-◌}
use Rattle.text.specs.Read.{read_text}
use Rattle.frame.proofs.Counting.{Walking}
use Rattle.frame.proofs.texts_len.Given as goal

abbrev pub invariant-loop : goal.invariant-loop
invariant-loop l = Walking read_text l.s l.at (l.end - l.counter)
