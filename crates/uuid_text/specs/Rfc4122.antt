-- The grammar of UUID text, and the bytes that a text stands for: RFC 4122, section 3, and the four forms of docs/RULES.md. Last, what RFC 4122 writes.
use Rattle.std.specs.Prelude.{ℕ, suc, ◌+◌, ◌*◌, ◌/◌, ◌%◌, ◌<◌, List, [], ◌∷◌, ◌++◌, leb, get_or, take, drop}
use Rattle.base.specs.Base.{when◌then◌else◌}
use Rattle.text.specs.Text.{Text, ascii}

-- hex_digit, in either case, and its value
pub data HexDigit : ℕ → ℕ → Type 0 where
  small : {v : ℕ} → v < 16 → HexDigit (get_or (ascii "0123456789abcdef") v 0) v
  capital : {v : ℕ} → v < 16 → HexDigit (get_or (ascii "0123456789ABCDEF") v 0) v

-- so many hexOctet in a row, as 4hexOctet: hex_digit hex_digit each, the high digit first
pub data HexOctets : ℕ → Text → List ℕ → Type 0 where
  end : HexOctets 0 [] []
  octet : {n h l u v : ℕ} {t : Text} {b : List ℕ} → HexDigit h u → HexDigit l v → HexOctets n t b → HexOctets (suc n) (h ∷ l ∷ t) ((u * 16 + v) ∷ b)

-- UUID = time-low "-" time-mid "-" time-high-and-version "-" clock-seq-and-reserved clock-seq-low "-" node
pub data UUID : Text → List ℕ → Type 0 where
  fields : {low mid high clock node : Text} {a b c d e : List ℕ}
      → HexOctets 4 low a → HexOctets 2 mid b → HexOctets 2 high c → HexOctets 2 clock d → HexOctets 6 node e
      → UUID (low ++ 0x2d ∷ mid ++ 0x2d ∷ high ++ 0x2d ∷ clock ++ 0x2d ∷ node) (a ++ b ++ c ++ d ++ e)

-- docs/RULES.md: 32 digits, the 36-character form of RFC 4122, that form in braces, or after `urn:uuid:` in small letters
pub data UuidText : Text → List ℕ → Type 0 where
  plain : {t : Text} {b : List ℕ} → HexOctets 16 t b → UuidText t b
  hyphens : {t : Text} {b : List ℕ} → UUID t b → UuidText t b
  braces : {t : Text} {b : List ℕ} → UUID t b → UuidText (ascii "{" ++ t ++ ascii "}") b
  urn : {t : Text} {b : List ℕ} → UUID t b → UuidText (ascii "urn:uuid:" ++ t) b

-- ---- what RFC 4122 writes: small letters

-- the character of a digit
unfoldable pub small_digit : ℕ → ℕ
small_digit v = when leb v 9 then v + 0x30 else v + 0x57

-- two digits to a byte, the high digit first
unfoldable pub hex_text : (ℕ → ℕ) → List ℕ → Text
hex_text digit [] = []
hex_text digit (b ∷ s) = digit (b / 16) ∷ digit (b % 16) ∷ hex_text digit s

-- 16 bytes with hyphens behind the 4th, the 6th, the 8th and the 10th
unfoldable pub rfc4122 : List ℕ → Text
rfc4122 b =
    hex_text small_digit (take 4 b) ++ 0x2d ∷
    hex_text small_digit (take 2 (drop 4 b)) ++ 0x2d ∷
    hex_text small_digit (take 2 (drop 6 b)) ++ 0x2d ∷
    hex_text small_digit (take 2 (drop 8 b)) ++ 0x2d ∷
    hex_text small_digit (drop 10 b)
