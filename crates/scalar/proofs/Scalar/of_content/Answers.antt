-- `scalar::Scalar::of_content` meets its contract: a law for each kind of number, and one for each width of a time.
use mathlib.Core.Path.{sym, ap, ◌∙◌}
use Prim.Native.Nat.{◌%◌, ◌^◌}
use native.Mathlib.Omega.{arith}
use mir.Syntax.{w32, w64}
use mir.ValLaws.{to_z-of_z}
use Rattle.rounding.proofs.Negatives.{signed-32, signed-64}
use Rattle.scalar.specs.Scalars.{time_of}
use Rattle.scalar.proofs.Contents.{of-kind-2, of-kind-3, of-kind-4, of-kind-5, of-short-time, of-long-time}
use Rattle.scalar.proofs.Scalar.of_content.Goals as goal

pub returns-in-2 : goal.returns-in-2
returns-in-2 c = c.of_int.ensures ∙ sym (of-kind-2 c.args.k c.args.b c.in-2.is)

pub returns-in-3 : goal.returns-in-3
returns-in-3 c = c.of_long.ensures ∙ sym (of-kind-3 c.args.k c.args.b c.in-3.is)

pub returns-in-4 : goal.returns-in-4
returns-in-4 c = c.of_float.ensures ∙ sym (of-kind-4 c.args.k c.args.b c.in-4.is)

pub returns-in-5 : goal.returns-in-5
returns-in-5 c = c.of_double.ensures ∙ sym (of-kind-5 c.args.k c.args.b c.in-5.is)

pub returns-in-0-to-17 : goal.returns-in-0-to-17
returns-in-0-to-17 c =
    let z = c.cast_signed in
    c.short_time.ensures ∙ ap (time_of c.args.k) (to_z-of_z w32 z.result (record { sfits = z.type_inv }) ∙ z.ensures ∙ signed-32 (c.args.b % 2 ^ 32))
    ∙ sym (of-short-time c.args.k c.args.b (λ e. omega arith) (λ e. omega arith) (λ e. omega arith) (λ e. omega arith) (omega arith))

pub returns-in_default : goal.returns-in_default
returns-in_default c =
    let z = c.cast_signed-in_default in
    c.long_time.ensures ∙ ap (time_of c.args.k) (to_z-of_z w64 z.result (record { sfits = z.type_inv }) ∙ z.ensures ∙ signed-64 c.args.b) ∙ sym (of-long-time c.args.k c.args.b (omega arith))
