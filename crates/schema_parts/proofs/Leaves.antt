-- The content of schema nodes without children, at each way that their readers go.
use Prim.Native.Nat.{ℕ, ◌+◌, ◌≤◌, ◌<◌}
use mathlib.Core.Path.{◌≡◌, refl, ap, ◌∙◌}
use mathlib.Core.List.{List}
use mathlib.Core.Option.{Option, none, some}
use mathlib.Core.Bool.{Bool, true, false}
use native.Mathlib.Omega.{arith}
use lib.Dec.{leb, eqb}
use lib.ListN.{length, drop, get_or, length-drop}
use lib.Seq.{drop-drop}
use borrow.Author.Tests.{leb-true, leb-false, le-leb, lt-leb, eqb-true, eqb-false, ne_eqb}
use Rattle.number.specs.Number.{number_at}
use Rattle.text.specs.Text.{Text}
use Rattle.text.specs.Read.{Read, ◌>>=◌, read_number, read_text}
use Rattle.text.proofs.ReadLaws.{read_number-some, read_number-none}
use Rattle.number.proofs.Laws.{number_at-one}
use Rattle.frame.specs.Tree.{Schema, UuidForm}
use Rattle.frame.specs.Readers.{read_list, read_option}
use Rattle.frame.specs.SchemaFrame.{Form, read_uuid_form, read_symbols, read_formed}
use Rattle.text.specs.Measured.{Measured}
use Rattle.std.specs.Prelude.{Some, None}
use Rattle.frame.specs.Sound.{schema_sound, uuid_size_sound}
use Rattle.frame.specs.Checks.{Checks}
use Rattle.frame.proofs.Reading.{bind-some, bind-none, map_read, option-one-none, option-other}
use Rattle.frame.proofs.Measuring.{told, Long, long, measured-broken, checks-some}

-- ---- 00, or 01 and a size

-- a flag other than 0, and no size behind it
pub size-short : (s : List ℕ) → 0 < length s → length s < 3 → (get_or s 0 0 ≡ 0 → ⊥) → read_option (read_number 2) s ≡ none
size-short s h g f = go (eqb (get_or s 0 0) 1) refl
  where
    go : (b : Bool) → eqb (get_or s 0 0) 1 ≡ b → read_option (read_number 2) s ≡ none
    go true e = option-one-none _ s h (eqb-true _ _ e) (read_number-none 2 _ (omega (arith, length-drop 1 s)))
    go false e = option-other _ s h f (eqb-false _ _ e)

-- ---- content

module _ (form : Form) (node : List ℕ → Read Schema) (s : List ℕ) where
  pub enum-got : (ss : List Text) (a : ℕ) (d : Option Text) (b : ℕ) → read_list read_text s ≡ some (ss, drop a s) → read_option read_text (drop a s) ≡ some (d, drop b (drop a s))
      → read_formed form node 12 s ≡ some (Schema.Enum ss d, drop (a + b) s)
  unfolding read_formed read_symbols ◌>>=◌
  enum-got ss a d b e g = rw (e, g, drop-drop b a s)

  pub enum-none : read_list read_text s ≡ none → read_formed form node 12 s ≡ none
  unfolding read_formed read_symbols ◌>>=◌
  enum-none e = rw e

  pub enum-later : (ss : List Text) (a : ℕ) → read_list read_text s ≡ some (ss, drop a s) → read_option read_text (drop a s) ≡ none → read_formed form node 12 s ≡ none
  unfolding read_formed read_symbols ◌>>=◌
  enum-later ss a e g = rw (e, g)

  pub enum-checks : (a b : ℕ) → Measured (read_list read_text s) s (Some a) → Measured (read_option read_text (drop a s)) (drop a s) (Some b) → Checks schema_sound (read_formed form node 12 s) s (told (a + b) true)
  unfolding schema_sound
  enum-checks a b v w =
      let q : Long (read_list read_text s) s a = long _ _ a v in
      let u : Long (read_option read_text (drop a s)) (drop a s) b = long _ _ b w in
      checks-some schema_sound _ s (a + b) true (omega (arith, q.inside, u.inside, length-drop a s)) (Schema.Enum q.what u.what) (enum-got q.what a u.what b q.read u.read) refl

  pub enum-broken : (a : ℕ) → Measured (read_list read_text s) s (Some a) → Measured (read_option read_text (drop a s)) (drop a s) None → read_formed form node 12 s ≡ none
  enum-broken a v w =
      let q : Long (read_list read_text s) s a = long _ _ a v in
      enum-later q.what a q.read (measured-broken _ _ w)

  pub fixed-got : 2 ≤ length s → read_formed form node 13 s ≡ some (Schema.Fixed (number_at s 0 2), drop 2 s)
  unfolding read_formed ◌>>=◌
  fixed-got h = rw (read_number-some 2 s h)

  pub fixed-none : length s < 2 → read_formed form node 13 s ≡ none
  unfolding read_formed ◌>>=◌
  fixed-none h = rw (read_number-none 2 s h)

  pub decimal-none : length s < 8 → read_formed form node 14 s ≡ none
  unfolding read_formed ◌>>=◌
  decimal-none h = go (leb 4 (length s)) refl
    where
      go : (b : Bool) → leb 4 (length s) ≡ b → read_formed form node 14 s ≡ none
      go true e = rw (read_number-some 4 s (leb-true 4 (length s) e), read_number-none 4 (drop 4 s) (omega (arith, length-drop 4 s, leb-true 4 (length s) e)))
      go false e = rw (read_number-none 4 s (leb-false 4 (length s) e))

  decimal-open : 8 ≤ length s → read_formed form node 14 s ≡ map_read (λ n. Schema.Decimal (number_at s 0 4) (number_at s 4 4) n) (read_option (read_number 2) (drop 8 s))
  unfolding read_formed ◌>>=◌
  decimal-open h = rw (read_number-some 4 s (omega arith), read_number-some 4 (drop 4 s) (omega (arith, length-drop 4 s)), drop-drop 4 4 s)

  pub decimal-got : 8 ≤ length s → (n : Option ℕ) (m : ℕ) → read_option (read_number 2) (drop 8 s) ≡ some (n, drop m (drop 8 s)) → read_formed form node 14 s ≡ some (Schema.Decimal (number_at s 0 4) (number_at s 4 4) n, drop (8 + m) s)
  decimal-got h n m e = decimal-open h ∙ bind-some _ _ n (drop m (drop 8 s)) e ∙ ap (λ t. some (Schema.Decimal (number_at s 0 4) (number_at s 4 4) n, t)) (drop-drop m 8 s)

  pub decimal-checks : 8 ≤ length s → (m : ℕ) → Measured (read_option (read_number 2) (drop 8 s)) (drop 8 s) (Some m) → Checks schema_sound (read_formed form node 14 s) s (told (8 + m) true)
  unfolding schema_sound
  decimal-checks h m w =
      let q : Long (read_option (read_number 2) (drop 8 s)) (drop 8 s) m = long _ _ m w in
      checks-some schema_sound _ s (8 + m) true (omega (arith, q.inside, length-drop 8 s)) _ (decimal-got h q.what m q.read) refl

  pub decimal-later : 8 ≤ length s → read_option (read_number 2) (drop 8 s) ≡ none → read_formed form node 14 s ≡ none
  decimal-later h e = decimal-open h ∙ bind-none _ _ e

  pub uuid-empty : length s ≡ 0 → read_formed form node 15 s ≡ none
  unfolding read_formed read_uuid_form ◌>>=◌
  uuid-empty h = rw (read_number-none 1 s (omega arith))

  pub uuid-bytes : 0 < length s → get_or s 0 0 ≡ 0 → read_formed form node 15 s ≡ some (Schema.Uuid UuidForm.bytes, drop 1 s)
  unfolding read_formed read_uuid_form ◌>>=◌
  uuid-bytes h e = rw (read_number-some 1 s h, number_at-one s 0 h, e)

  pub uuid-string : 0 < length s → get_or s 0 0 ≡ 1 → read_formed form node 15 s ≡ some (Schema.Uuid UuidForm.string, drop 1 s)
  unfolding read_formed read_uuid_form ◌>>=◌
  uuid-string h e = rw (read_number-some 1 s h, number_at-one s 0 h, e)

  -- the two forms with no size
  pub uuid-free : 0 < length s → get_or s 0 0 < 2 → Checks schema_sound (read_formed form node 15 s) s (told 1 true)
  unfolding schema_sound uuid_size_sound
  uuid-free h g = go (eqb (get_or s 0 0) 0) refl
    where
      go : (b : Bool) → eqb (get_or s 0 0) 0 ≡ b → Checks schema_sound (read_formed form node 15 s) s (told 1 true)
      go true e = checks-some schema_sound _ s 1 true h _ (uuid-bytes h (eqb-true _ _ e)) refl
      go false e = let f = eqb-false _ _ e in checks-some schema_sound _ s 1 true h _ (uuid-string h (omega arith)) refl

  pub uuid-fixed : 3 ≤ length s → get_or s 0 0 ≡ 2 → read_formed form node 15 s ≡ some (Schema.Uuid (UuidForm.fixed (number_at s 1 2)), drop 3 s)
  unfolding read_formed read_uuid_form ◌>>=◌
  uuid-fixed h e = rw (read_number-some 1 s (omega arith), number_at-one s 0 (omega arith), e, read_number-some 2 (drop 1 s) (omega (arith, length-drop 1 s)), drop-drop 2 1 s)

  pub uuid-other : 0 < length s → (get_or s 0 0 ≡ 0 → ⊥) → (get_or s 0 0 ≡ 1 → ⊥) → (get_or s 0 0 ≡ 2 → ⊥) → read_formed form node 15 s ≡ none
  unfolding read_formed read_uuid_form ◌>>=◌
  uuid-other h f g k = rw (read_number-some 1 s h, number_at-one s 0 h, ne_eqb _ _ f, ne_eqb _ _ g, ne_eqb _ _ k)

  -- another form, and no size behind it
  pub uuid-short : 0 < length s → length s < 3 → 1 < get_or s 0 0 → read_formed form node 15 s ≡ none
  unfolding read_formed read_uuid_form ◌>>=◌
  uuid-short h g f = go (eqb (get_or s 0 0) 2) refl
    where
      go : (b : Bool) → eqb (get_or s 0 0) 2 ≡ b → read_formed form node 15 s ≡ none
      go true e = rw (read_number-some 1 s h, number_at-one s 0 h, eqb-true _ _ e, read_number-none 2 (drop 1 s) (omega (arith, length-drop 1 s)))
      go false e = uuid-other h (omega arith) (omega arith) (eqb-false _ _ e)

  pub duration-got : 2 ≤ length s → read_formed form node 25 s ≡ some (Schema.Duration (number_at s 0 2), drop 2 s)
  unfolding read_formed ◌>>=◌
  duration-got h = rw (read_number-some 2 s h)

  pub duration-none : length s < 2 → read_formed form node 25 s ≡ none
  unfolding read_formed ◌>>=◌
  duration-none h = rw (read_number-none 2 s h)

  pub plain-low : (k : ℕ) → k < 8 → read_formed form node k s ≡ some (Schema.Plain k, s)
  unfolding read_formed
  plain-low k h = rw (le-leb k 7 (omega arith))

  pub plain-high : (k : ℕ) → 15 < k → k < 25 → read_formed form node k s ≡ some (Schema.Plain k, s)
  unfolding read_formed
  plain-high k h g = rw (lt-leb k 7 (omega arith), le-leb 16 k (omega arith), le-leb k 24 (omega arith))

  pub kind_past : (k : ℕ) → 25 < k → read_formed form node k s ≡ none
  unfolding read_formed
  kind_past k h = rw (lt-leb k 7 (omega arith), le-leb 16 k (omega arith), lt-leb k 24 (omega arith), ne_eqb k 8 (omega arith), ne_eqb k 9 (omega arith), ne_eqb k 10 (omega arith), ne_eqb k 11 (omega arith), ne_eqb k 12 (omega arith), ne_eqb k 13 (omega arith), ne_eqb k 14 (omega arith), ne_eqb k 15 (omega arith), ne_eqb k 25 (omega arith))
