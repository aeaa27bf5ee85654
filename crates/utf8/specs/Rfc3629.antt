-- RFC 3629: the grammar of well-formed UTF-8 (section 4), and the octets of characters by their numbers (section 3).
use Rattle.std.specs.Prelude.{ℕ, ◌+◌, ◌*◌, ◌≤◌, ◌<◌, ◌≡◌, List, [], ◌∷◌}

-- a byte of a range, as the grammar's %x80-BF
abbrev pub In : ℕ → ℕ → ℕ → Type 0
In lo hi b = (lo ≤ b) × (b ≤ hi)

-- UTF8-octets = *( UTF8-char ), a character for each constructor, in the order of the grammar
pub data Octets : List ℕ → Type 0 where
  end : Octets []
  utf8_1 : {b : ℕ} {s : List ℕ} → In 0x00 0x7f b → Octets s → Octets (b ∷ s)
  utf8_2 : {b c : ℕ} {s : List ℕ} → In 0xc2 0xdf b → In 0x80 0xbf c → Octets s → Octets (b ∷ c ∷ s)
  utf8_3_e0 : {b c d : ℕ} {s : List ℕ} → In 0xe0 0xe0 b → In 0xa0 0xbf c → In 0x80 0xbf d → Octets s → Octets (b ∷ c ∷ d ∷ s)
  utf8_3_e1 : {b c d : ℕ} {s : List ℕ} → In 0xe1 0xec b → In 0x80 0xbf c → In 0x80 0xbf d → Octets s → Octets (b ∷ c ∷ d ∷ s)
  utf8_3_ed : {b c d : ℕ} {s : List ℕ} → In 0xed 0xed b → In 0x80 0x9f c → In 0x80 0xbf d → Octets s → Octets (b ∷ c ∷ d ∷ s)
  utf8_3_ee : {b c d : ℕ} {s : List ℕ} → In 0xee 0xef b → In 0x80 0xbf c → In 0x80 0xbf d → Octets s → Octets (b ∷ c ∷ d ∷ s)
  utf8_4_f0 : {b c d e : ℕ} {s : List ℕ} → In 0xf0 0xf0 b → In 0x90 0xbf c → In 0x80 0xbf d → In 0x80 0xbf e → Octets s → Octets (b ∷ c ∷ d ∷ e ∷ s)
  utf8_4_f1 : {b c d e : ℕ} {s : List ℕ} → In 0xf1 0xf3 b → In 0x80 0xbf c → In 0x80 0xbf d → In 0x80 0xbf e → Octets s → Octets (b ∷ c ∷ d ∷ e ∷ s)
  utf8_4_f4 : {b c d e : ℕ} {s : List ℕ} → In 0xf4 0xf4 b → In 0x80 0x8f c → In 0x80 0xbf d → In 0x80 0xbf e → Octets s → Octets (b ∷ c ∷ d ∷ e ∷ s)

-- characters by their numbers, and their octets, a row of the table in section 3 for each constructor:
--   0000-007F        0xxxxxxx
--   0080-07FF        110xxxxx 10xxxxxx
--   0800-FFFF        1110xxxx 10xxxxxx 10xxxxxx, and none for D800-DFFF
--   10000-10FFFF     11110xxx 10xxxxxx 10xxxxxx 10xxxxxx
pub data Encoded : List ℕ → List ℕ → Type 0 where
  empty : Encoded [] []
  row_1 : {p : ℕ} {ps s : List ℕ} → In 0x0000 0x007f p → Encoded ps s → Encoded (p ∷ ps) (p ∷ s)
  row_2 : {p : ℕ} {ps s : List ℕ} (x y : ℕ) → In 0x0080 0x07ff p → p ≡ x * 64 + y → y < 64 → Encoded ps s → Encoded (p ∷ ps) ((0xc0 + x) ∷ (0x80 + y) ∷ s)
  row_3 : {p : ℕ} {ps s : List ℕ} (x y z : ℕ) → In 0x0800 0xffff p → (In 0xd800 0xdfff p → ⊥) → p ≡ (x * 64 + y) * 64 + z → y < 64 → z < 64
      → Encoded ps s → Encoded (p ∷ ps) ((0xe0 + x) ∷ (0x80 + y) ∷ (0x80 + z) ∷ s)
  row_4 : {p : ℕ} {ps s : List ℕ} (w x y z : ℕ) → In 0x10000 0x10ffff p → p ≡ ((w * 64 + x) * 64 + y) * 64 + z → x < 64 → y < 64 → z < 64
      → Encoded ps s → Encoded (p ∷ ps) ((0xf0 + w) ∷ (0x80 + x) ∷ (0x80 + y) ∷ (0x80 + z) ∷ s)
