-- The starred lines of docs/RULES.md, "Finishes to check by", as one table.
use Rattle.std.specs.Prelude.{ℕ, List, [], ◌∷◌}
use Prim.Native.String.{String}
use Rattle.std.proofs.Math.Option.{get_or}
use Rattle.base.specs.Base.{Result, ok, stop}
use Rattle.text.specs.Text.{ascii}
use Rattle.uuid_text.specs.Uuid.{hex_bytes}

-- a schema, a value, and the result or the number of the refusal
pub record Finish : Type 0 where
  pub schema : List ℕ
  pub value : List ℕ
  pub expected : Result (List ℕ)

-- the bytes of a hexadecimal literal
abbrev pub hex : String → List ℕ
hex t = get_or (hex_bytes (ascii t)) []

abbrev pub ◌with◌is◌ : String → String → Result (List ℕ) → Finish
◌with◌is◌ s v e = record { schema = hex s; value = hex v; expected = e }

infix 30 ◌with◌is◌
unfoldable pub starred : List Finish
starred =
    ("02" with "03000000007fffffff" is ok (hex "027fffffff"))
    ∷ ("02" with "030000000080000000" is stop 7)
    ∷ ("04" with "0201000001" is ok (hex "044b800000"))
    ∷ ("04" with "0201000003" is ok (hex "044b800002"))
    ∷ ("05" with "030020000000000001" is ok (hex "054340000000000000"))
    ∷ ("05" with "0700034e614e" is stop 28)
    ∷ ("0d0004" with "0700026162" is stop 10)
    ∷ ("0d0004" with "0600026162" is stop 10)
    ∷ ("0a0002000500020000000500010000" with "00" is ok (hex "0a0000000000"))
    ∷ ("0a0002000500020000000500010000" with "0200000005" is ok (hex "0a00000001054014000000000000"))
    ∷ ("02" with "0a000000000a000000000200000005" is stop 6)
    ∷ ("0902" with "0900020001610300000000800000000001620700046c617465" is stop 7)
    ∷ ("0902" with "0900020001610700046c617465000162030000000080000000" is stop 6)
    ∷ ("0902" with "09000300016102000000010001620700046c617465000163030000000080000000" is stop 6)
    ∷ ("0b000100016d010900020001610300000000800000000001620700046c6174650902" with "0b0000" is stop 7)
    ∷ ("0b000100016d010900020001610700046c6174650001620300000000800000000902" with "0b0000" is stop 6)
    ∷ ("0b000100016d010900020001610300000000800000000001620700046c6174650a0001090200010900000000" with "0b0000" is stop 7)
    ∷ ("0d0004" with "070004c3a96162" is ok (hex "0d0004c3a96162"))
    ∷ ("0e000000040000000000" with "07000161" is stop 14)
    ∷ ("0e000000040000000000" with "0700026162" is ok (hex "0e00026162"))
    ∷ ("0e000000040000000000" with "070002c480" is stop 6)
    ∷ ("0b00010001610107000261620d0004" with "0b0000" is stop 10)
    ∷ ("0b000100016101070001610e000000040000000000" with "0b0000" is stop 14)
    ∷ ("0b00010001610107000261620a00020d000407000107000100010000" with "0b0000" is stop 10)
    ∷ ("0a0002000d0004000100000000010001" with "0700026162" is stop 16)
    ∷ ("0a00020d00040700000000" with "0700026162" is ok (hex "0a000000010700026162"))
    ∷ ("05" with "057ff0000000000001" is stop 28)
    ∷ ("05" with "047fc00001" is stop 28)
    ∷ ("04" with "05fff8000000000000" is stop 28)
    ∷ ("04" with "057ff0000000000000" is ok (hex "047f800000"))
    ∷ ("05" with "070003494e46" is ok (hex "057ff0000000000000"))
    ∷ ("0a0002000500020000000500010000" with "057ff8000000000000" is stop 28)
    ∷ ("0a0002000500020000000500010000" with "0700034e614e" is stop 16)
    ∷ ("0a0002000500020000000500010000" with "047fc00000" is stop 16)
    ∷ ("0a0002050700000000" with "0700034e614e" is ok (hex "0a000000010700034e614e"))
    ∷ ("0805" with "080002053ff0000000000000057ff8000000000000" is stop 28)
    ∷ ("0b00010001610002" with "0b00020001610200000001000162057ff8000000000000" is ok (hex "0b00010001610200000001"))
    ∷ ("0b0001000161010700034e614e05" with "0b0000" is stop 28)
    ∷ ("0b0001000161010700034e614e05" with "0b0001000161053ff0000000000000" is ok (hex "0b0001000161053ff0000000000000"))
    ∷ ("0b0001000161010700034e614e0a0002050700020500000700010000" with "0b0000" is stop 28)
    ∷ []
