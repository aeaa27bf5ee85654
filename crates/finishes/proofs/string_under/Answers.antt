-- `finishes::string_under` meets its contract.
use native.Mathlib.Omega.{arith}
use Rattle.number.proofs.Laws.{get_or-all_bytes}
use Rattle.finishes.proofs.FinishLaws.{found_inside, string-not, string-inside, string-parted, parted-none, string-nothing}
use Rattle.finishes.proofs.string_under.Goals as goal

pub returns-in_err-p : goal.returns-in_err-p
returns-in_err-p c = rw c.from_residual.ensures (parted-none _ _ (string-nothing _ _ c.in_err-p.ensures))

pub bounds-v-p : goal.bounds-v-p
bounds-v-p c = found_inside _ _ _ c.in_ok-p.ensures

pub returns-then-v-p-ne-STRING : goal.returns-then-v-p-ne-STRING
returns-then-v-p-ne-STRING c = parted-none _ _ (string-not _ _ _ c.in_ok-p.ensures (get_or-all_bytes c.args.v.now (λ i. omega (arith, c.type_inv.v i))) c.if-v-p-ne-STRING.true)

pub read2-requires : goal.read2-requires
read2-requires c = omega (arith, string-inside _ _ _ c.in_ok-p.ensures c.if-v-p-ne-STRING.false)

pub returns : goal.returns
returns c = rw c.read2.ensures (string-parted _ _ _ c.in_ok-p.ensures c.if-v-p-ne-STRING.false)
