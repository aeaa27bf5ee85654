-- `value::key_rises` meets its contract. Assumes nothing.
use Prim.Native.Nat.{ℕ}
use mathlib.Core.Path.{◌≡◌, refl}
use mathlib.Core.List.{List}
use mathlib.Core.Bool.{Bool}
use borrow.Author.Rules.{part_to_end}
use Rattle.text.specs.Text.{less}
use Rattle.std.specs.Prelude as std
use Rattle.std.specs.Prelude.{Some}
use Rattle.std.specs.Option.{option_map}
use Rattle.value.specs.Keys.{follows, key_at}
use Rattle.value.proofs.MapLaws.{key_reads, key-is}
use Rattle.value.proofs.key_rises.Goals as goal

behind : (s : List ℕ) (before : std.Option ℕ) (b : ℕ) (x y key : List ℕ) (r : Bool) → before ≡ Some b → r ≡ less x y → x ≡ key_at s b → y ≡ key
    → r ≡ follows (option_map (key_at s) before) key
unfolding follows
behind s before b x y key r n e p q = rw (n, ← p, ← q) e

pub returns-in-None : goal.returns-in-None
unfolding follows
returns-in-None c = rw c.in-None.is refl

pub content-requires : goal.content-requires
content-requires c = rw part_to_end (key_reads _ _ (rw c.in-Some.is at c.requires.0))

pub content-requires-in-Some : goal.content-requires-in-Some
content-requires-in-Some c = rw part_to_end (key_reads _ _ c.requires.1)

pub returns-in-Some : goal.returns-in-Some
returns-in-Some c =
    behind _ _ _ _ _ _ _ c.in-Some.is c.less.ensures
    (key-is _ _ (rw c.in-Some.is at c.requires.0) _ _ (rw part_to_end at c.content.ensures.0))
    (key-is _ _ c.requires.1 _ _ (rw part_to_end at c.content-in-Some.ensures.0))
