-- The numbers of refusals (docs/RULES.md), and an answer that has a refusal as one that has its number.
use Rattle.std.specs.Prelude.{ℕ, Ok, Err}
use Rattle.std.specs.Prelude as std
use Rattle.base.specs.Base.{Result, ok, stop}
use Rattle.base.specs.declared.refusal.Refusal.{Refusal}
use Rattle.base.specs.declared.refusal.Refusal.TheVariants.{WorkspaceTooShort, SchemaNoFrame, SchemaUnsound, DefaultTooLong, RecordNoFrame, Unsuited, LongOutsideInt, ItemOutsideByte, NotUtf8, SizeDiffers, UuidWrong, ScaleExceedsPrecision, FixedTooSmall, BytesTooFew, SymbolUnknown, NoVariant, FieldMissing, ResultTooLong, TooManyFrames, NoFinish, MillisOnDate, OutsideCalendar, NotANumber}

abbrev pub number_of : Refusal → ℕ
number_of WorkspaceTooShort = 1
number_of SchemaNoFrame = 2
number_of SchemaUnsound = 3
number_of DefaultTooLong = 4
number_of RecordNoFrame = 5
number_of Unsuited = 6
number_of LongOutsideInt = 7
number_of ItemOutsideByte = 8
number_of NotUtf8 = 9
number_of SizeDiffers = 10
number_of UuidWrong = 11
number_of ScaleExceedsPrecision = 12
number_of FixedTooSmall = 13
number_of BytesTooFew = 14
number_of SymbolUnknown = 15
number_of NoVariant = 16
number_of FieldMissing = 17
number_of ResultTooLong = 18
number_of TooManyFrames = 23
number_of NoFinish = 24
number_of MillisOnDate = 26
number_of OutsideCalendar = 27
number_of NotANumber = 28

-- what a function answers, as the definitions say it
abbrev pub outcome_of : {A : Type 0} → std.Result A Refusal → Result A
outcome_of (Ok a) = ok a
outcome_of (Err e) = stop (number_of e)
