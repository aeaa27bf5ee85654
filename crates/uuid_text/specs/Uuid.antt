-- UUID text (docs/RULES.md, "Texts that become something else"; RFC 4122): its forms, and the 16 bytes that they stand for.
use Rattle.std.specs.Prelude.{ℕ, ◌+◌, ◌-◌, ◌*◌, List, [], ◌∷◌, ◌++◌, Bool, true, false, ◌&&◌, eqb, length, take, drop, get_or, Some, None}
use Rattle.std.specs.Prelude as std
use Rattle.std.proofs.Math.Option.{Option, none, some}
use Rattle.base.specs.Base.{when◌then◌else◌, within}
use Rattle.text.specs.Text.{Text, ascii, same}

-- a hexadecimal digit, in either case
unfoldable pub hex_digit : ℕ → Option ℕ
hex_digit c =
    when within 0x30 0x39 c then some (c - 0x30) else
    when within 0x61 0x66 c then some (c - 0x61 + 10) else
    when within 0x41 0x46 c then some (c - 0x41 + 10) else
    none

unfoldable pub hex_pair : Option ℕ → Option ℕ → Option (List ℕ) → Option (List ℕ)
hex_pair none l s = none
hex_pair (some h) none s = none
hex_pair (some h) (some l) none = none
hex_pair (some h) (some l) (some s) = some ((h * 16 + l) ∷ s)

-- the bytes of pairs of digits, the high digit first
unfoldable pub hex_bytes : Text → Option (List ℕ)
hex_bytes [] = some []
hex_bytes (h ∷ []) = none
hex_bytes (h ∷ l ∷ s) = hex_pair (hex_digit h) (hex_digit l) (hex_bytes s)

-- the 36-character form has its hyphens
unfoldable pub has_hyphens : Text → Bool
has_hyphens t = eqb (get_or t 8 0) 0x2d && eqb (get_or t 13 0) 0x2d && eqb (get_or t 18 0) 0x2d && eqb (get_or t 23 0) 0x2d

-- and what is left without them
unfoldable pub without_hyphens : Text → Text
without_hyphens t = take 8 t ++ take 4 (drop 9 t) ++ take 4 (drop 14 t) ++ take 4 (drop 19 t) ++ drop 24 t

-- the 36-character form of RFC 4122: 8, 4, 4, 4 and 12 digits with a hyphen between
unfoldable pub hyphenated : Text → Option (List ℕ)
hyphenated t = when has_hyphens t then hex_bytes (without_hyphens t) else none

-- 38 characters: the 36-character form in braces
unfoldable pub in_braces : Text → Option (List ℕ)
in_braces t = when eqb (get_or t 0 0) 0x7b && eqb (get_or t 37 0) 0x7d then hyphenated (take 36 (drop 1 t)) else none

-- 45 characters: the 36-character form after `urn:uuid:` in small letters
unfoldable pub after_urn : Text → Option (List ℕ)
after_urn t = when same (take 9 t) (ascii "urn:uuid:") then hyphenated (drop 9 t) else none

-- 32 digits, the 36-character form, that form in braces, or after `urn:uuid:`
unfoldable pub uuid_of_text : Text → Option (List ℕ)
uuid_of_text t =
    when eqb (length t) 32 then hex_bytes t else
    when eqb (length t) 36 then hyphenated t else
    when eqb (length t) 38 then in_braces t else
    when eqb (length t) 45 then after_urn t else
    none

-- what the parser answers, as the definitions say it
abbrev pub parsed : {A : Type 0} → Option A → std.Option A
parsed none = None
parsed (some a) = Some a
