-- A line that is too long for its buffer gets the answer of its frame: with room for 65,535 bytes it is no frame either way. Assumes nothing.
use Prim.Native.Nat.{ℕ, ◌+◌, ◌*◌, ◌/◌, ◌≤◌, ◌<◌}
use mathlib.Core.Path.{◌≡◌, refl, sym, ap, ◌∙◌}
use mathlib.Core.List.{List, [], ◌∷◌}
use mathlib.Core.Option.{Option, none, some, get_or}
use mathlib.Core.Bool.{Bool, true, false}
use native.Mathlib.Omega.{arith}
use borrow.Author.Tests.{ltb-true, lt-ltb}
use lib.Dec.{ltb}
use lib.ListN.{length}
use Rattle.base.specs.Base.{when◌then◌else◌}
use Rattle.text.specs.Text.{Text}
use Rattle.text.specs.Read.{Read}
use Rattle.uuid_text.specs.Uuid.{hex_digit, hex_pair, hex_bytes}
use Rattle.hex_text.specs.Hex.{frame_of}
use Rattle.frame.specs.Readers.{whole}
use Rattle.frame.specs.ValueFrame.{read_value, decode_value}
use Rattle.frame.specs.SchemaFrame.{read_schema, decode_schema}
use Rattle.hulmbax.specs.Answer.{answer, record_answer}
use Rattle.hulmbax.proofs.Computed.{computed}
use Rattle.lines.specs.Line.{held_frame}

-- ---- two characters make a byte

pair-length : (h l : Option ℕ) (o : Option (List ℕ)) (b : List ℕ) (n : ℕ) → ((a : List ℕ) → o ≡ some a → n ≡ 2 * length a) → hex_pair h l o ≡ some b → n + 2 ≡ 2 * length b
unfolding hex_pair
pair-length none l o b n f e = let z : ◌≡◌ {A = ℕ} 0 1 = cc in absurd (omega arith)
pair-length (some h) none o b n f e = let z : ◌≡◌ {A = ℕ} 0 1 = cc in absurd (omega arith)
pair-length (some h) (some l) none b n f e = let z : ◌≡◌ {A = ℕ} 0 1 = cc in absurd (omega arith)
pair-length (some h) (some l) (some a) b n f e =
    let i : (h * 16 + l) ∷ a ≡ b = cc in
    omega (arith, f a refl, ap length i)

hex-length : (l : Text) (b : List ℕ) → hex_bytes l ≡ some b → length l ≡ 2 * length b
unfolding hex_bytes
hex-length [] b e = let i : [] ≡ b = cc in omega (arith, ap length i)
hex-length (h ∷ []) b e = let z : ◌≡◌ {A = ℕ} 0 1 = cc in absurd (omega arith)
hex-length (h ∷ k ∷ s) b e = omega (arith, pair-length (hex_digit h) (hex_digit k) (hex_bytes s) b (length s) (λ a q. hex-length s a q) e)

-- ---- a frame that is too long

long-none : {A : Type 0} (p : List ℕ → Read A) (s : List ℕ) → 65535 < length s → whole p s ≡ none
unfolding whole
long-none p s h = rw (lt-ltb 65535 (length s) h)

module _ {A : Type 0} (p : List ℕ → Read A) (empty : whole p [] ≡ none) (room : ℕ) (wide : 65535 ≤ room) (l : Text) where
  long-frame : room < length l / 2 → whole p (frame_of l) ≡ none
  unfolding frame_of
  long-frame h = go (hex_bytes l) refl
    where
      go : (o : Option (List ℕ)) → hex_bytes l ≡ o → whole p (get_or o []) ≡ none
      go none e = empty
      go (some b) e = long-none p b (omega (arith, hex-length l b e))

  held-decodes : whole p (held_frame room l) ≡ whole p (frame_of l)
  unfolding held_frame
  held-decodes = go (ltb room (length l / 2)) refl
    where
      go : (b : Bool) → ltb room (length l / 2) ≡ b → whole p (when b then [] else frame_of l) ≡ whole p (frame_of l)
      go true e = empty ∙ sym (long-frame (ltb-true room (length l / 2) e))
      go false e = refl

value-held : (room : ℕ) → 65535 ≤ room → (l : Text) → decode_value (held_frame room l) ≡ decode_value (frame_of l)
unfolding decode_value computed
value-held room h l = held-decodes (read_value 16) refl room h l

schema-held : (room : ℕ) → 65535 ≤ room → (l : Text) → decode_schema (held_frame room l) ≡ decode_schema (frame_of l)
unfolding decode_schema computed
schema-held room h l = held-decodes (read_schema 16) refl room h l

pub held-answer : (room : ℕ) → 65535 ≤ room → (s v : Text) (len work : ℕ) → answer (held_frame room s) (held_frame room v) len work ≡ answer (frame_of s) (frame_of v) len work
unfolding answer record_answer
held-answer room h s v len work = rw (value-held room h v, schema-held room h s)
