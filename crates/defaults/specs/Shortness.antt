-- What the check of number 4 over parts of frames requires, and what it answers.
use Rattle.std.specs.Prelude.{ℕ, ◌≡◌, List, Bool, true, false, ◌&&◌, T, Option, Some, None}
use Rattle.std.proofs.Math.Option.{none, some}
use Rattle.text.specs.Read.{Read}
use Rattle.frame.specs.SchemaFrame.{Field}
use Rattle.frame.specs.Checks.{Spans}
use Rattle.avro.specs.Defaults.{defaults_short, short_default}

-- something was read, and it is sound
pub record SoundRead {A : Type 0} (test : A → Bool) (x : Read A) : Type 0 where
  pub tree : A
  pub rest : List ℕ
  pub reads : x ≡ some (tree, rest)
  pub sound : T (test tree)

-- a test of what was read
unfoldable pub test_read : {A : Type 0} → (A → Bool) → Read A → Bool
test_read test none = true
test_read test (some x) = test x.0

-- the length of what was read from the front of s, if it passes the test
unfoldable pub ShortLen : {A : Type 0} → (A → Bool) → Read A → List ℕ → Option ℕ → Type 0
ShortLen test x s (Some n) = (test_read test x ≡ true) × Spans x s n
ShortLen test x s None = test_read test x ≡ false

-- a field by itself: its default is short, and so are those inside its schema
unfoldable pub field_short : Field → Bool
field_short f = short_default f.2 f.1 && defaults_short f.2
