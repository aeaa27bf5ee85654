-- `text::counted_len` meets its contract.
use Prim.Native.Nat.{◌-◌, ◌≤◌}
use mathlib.Core.Path.{◌≡◌}
use native.Mathlib.Omega.{arith}
use lib.ListN.{length, take, drop}
use Rattle.number.specs.Number.{number_at}
use Rattle.text.specs.Measured.{Measured}
use Rattle.text.proofs.ReadLaws.{read_counted-short, read_counted-over, read_counted-some}
use Rattle.text.proofs.counted_len.Goals as goal

pub returns-then-s-lt2 : goal.returns-then-s-lt2
unfolding Measured
returns-then-s-lt2 c = read_counted-short c.args.s.now c.if-s-lt2.true

pub returns-then-s-n : goal.returns-then-s-n
unfolding Measured
returns-then-s-n c =
    let s = c.args.s.now in
    let e : c.read2-n.result ≡ number_at s 0 2 = c.read2-n.ensures in
    read_counted-over s c.if-s-lt2.false (omega arith)

pub returns : goal.returns
unfolding Measured
returns c =
    let s = c.args.s.now in
    let e : c.read2-n.result ≡ number_at s 0 2 = c.read2-n.ensures in
    let two : 2 ≤ length s = c.if-s-lt2.false in
    let room : number_at s 0 2 ≤ length s - 2 = omega arith in
    rw e (omega arith, (take (number_at s 0 2) (drop 2 s), read_counted-some s two room))
