-- `calls::call` meets its contract: the entry's contract and the bytes of the slices are what a call shows.
use native.Mathlib.Omega.{arith}
use Rattle.number.proofs.Laws.{get_or-all_bytes}
use Rattle.calls.proofs.call.Goals as goal

pub returns : goal.returns
returns c = record {
  schema_bytes = get_or-all_bytes c.args.schema.now (λ i. omega (arith, c.type_inv.schema i));
  value_bytes = get_or-all_bytes c.args.«record».now (λ i. omega (arith, c.type_inv.record i));
  answered = c.resolve.ensures.answer;
  contents = c.resolve.ensures.contents;
  cleared = c.resolve.ensures.cleared;
}
