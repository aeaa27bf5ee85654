-- The marks of the list: `+` for a sound frame, else the number that stops it.
use Rattle.std.specs.Prelude.{ℕ, List, eqb, if◌then◌else◌}
use Rattle.frame.specs.Checks.{schema_verdict, value_verdict}
use Rattle.frame.specs.declared.Verdict.{Verdict}
use Rattle.frame.specs.declared.Verdict.TheVariants.{NoFrame, Unsound, Sound}

unfoldable pub schema_mark : Verdict → ℕ
schema_mark NoFrame = 0x32
schema_mark Unsound = 0x33
schema_mark Sound = 0x2b

unfoldable pub value_mark : Verdict → ℕ
value_mark NoFrame = 0x35
value_mark Unsound = 0x35
value_mark Sound = 0x2b

-- `s` a schema frame, `v` a value frame; no line ends with what other letters get
unfoldable pub mark_of : ℕ → List ℕ → ℕ
mark_of letter s =
    if eqb letter 0x73 then schema_mark (schema_verdict s) else if eqb letter 0x76 then value_mark (value_verdict s) else 0
