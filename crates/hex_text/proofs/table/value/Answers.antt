-- The entry of a character is its value, or 16. Assumes nothing.
use mathlib.Core.Path.{◌≡◌, refl}
use lib.ListN.{get_or}
use Rattle.std.proofs.Common.{rules}
use Rattle.uuid_text.specs.Uuid.{hex_digit}
use Rattle.uuid_text.specs.Forms.{or_sixteen}
use Rattle.uuid_text.proofs.Digits.{hex_digit-some, hex_digit-none}
use Rattle.hex_text.proofs.ValueLaws.{values-at}
use Rattle.hex_text.proofs.table.value.Goals as goal

pub returns-then-v-lt16 : goal.returns-then-v-lt16
returns-then-v-lt16 c =
    let e : get_or c.args.table.now c.from.result 0 ≡ or_sixteen (hex_digit c.args.c) = rw (c.requires, c.from.ensures) (values-at c.args.c (search rules)) in
    rw (hex_digit-some c.args.c _ e c.if-v-lt16.true) refl

pub returns-else-v-lt16 : goal.returns-else-v-lt16
returns-else-v-lt16 c =
    let e : get_or c.args.table.now c.from.result 0 ≡ or_sixteen (hex_digit c.args.c) = rw (c.requires, c.from.ensures) (values-at c.args.c (search rules)) in
    rw (hex_digit-none c.args.c _ e c.if-v-lt16.false) refl
