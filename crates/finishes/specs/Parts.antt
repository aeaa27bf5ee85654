-- What the answers of the readers of a finish say of the definitions that they stand for.
use Rattle.std.specs.Prelude as std
use Rattle.std.specs.Prelude.{ℕ, ◌-◌, ◌≤◌, ◌≡◌, List, length, take, drop, Some, None}
use Rattle.std.proofs.Math.Option.{Option, none, some}
use Rattle.text.specs.Text.{Text}
use Rattle.text.specs.Read.{Read}
use Rattle.frame.specs.Tree.{Value, entries}
use Rattle.finishes.specs.Finish.{fields}
use Rattle.finishes.specs.declared.Part.{Part}
use Rattle.finishes.specs.declared.Entry.{Entry}

-- t stands in s from a to before e
pub record Within (s t : List ℕ) (a e : ℕ) : Type 0 where
  pub ordered : a ≤ e
  pub inside : e ≤ length s
  pub is : t ≡ take (e - a) (drop a s)

-- a String was found where it stands
unfoldable pub Parted : Option Text → List ℕ → std.Option Part → Type 0
Parted (some t) s (Some p) = Within s t p.from p.to
Parted (some t) s None = ⊥
Parted none s (Some p) = ⊥
Parted none s None = Unit {0}

unfoldable pub long_answer : Option ℕ → std.Option ℕ
long_answer none = None
long_answer (some n) = Some n

-- a finish was found: where its sail stands, and its seq
unfoldable pub Says : Option (Text × ℕ) → List ℕ → std.Option Entry → Type 0
Says (some x) s (Some f) = Within s x.0 f.from f.to × (x.1 ≡ f.rank)
Says (some x) s None = ⊥
Says none s (Some f) = ⊥
Says none s None = Unit {0}

-- sail and seq in what was read
unfoldable pub fields_read : Read Value → Option (Text × ℕ)
fields_read none = none
fields_read (some x) = fields (entries x.0)
