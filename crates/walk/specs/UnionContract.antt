-- What the functions of union resolution are called with, and what their answers say.
use Rattle.std.specs.Prelude.{ℕ, ◌≡◌, List}
use Rattle.std.proofs.Math.Option.{some}
use Rattle.frame.specs.Tree.{Value, kind_of}
use Rattle.frame.specs.ValueFrame.{read_value}
use Rattle.frame.specs.SchemaFrame.{read_schema}
use Rattle.types.specs.Contract.{on_both}
use Rattle.buffer.specs.Built.{Wrote}
use Rattle.leaf.specs.Leaf.{peeled_bytes}
use Rattle.variants.specs.Ways.{VariantAt}
use Rattle.turns.specs.Turns.{Beaten, Goes, ToldBefore, Passes}
use Rattle.turns.specs.declared.Turn.{Turn}
use Rattle.turns.specs.declared.Way.{Way}
use Rattle.walk.specs.declared.Step.{Step}
use Rattle.walk.specs.declared.Walk.{Walk}

-- a union and a value, and what its choice goes by
pub record Going (w : Walk) (s v : List ℕ) (way : Way) : Type 0 where
  pub goes : Goes w.schema s way
  pub tree : Value
  pub rest : List ℕ
  pub reads : read_value w.value v ≡ some (tree, rest)
  pub kind : kind_of tree ≡ goes.kind

-- before a turn: what the turns before it told, and the last variant that was gone to
pub record Turning (w : Walk) (s v : List ℕ) (way : Way) (turn : Turn) (position at : ℕ) : Type 0 where
  pub going : Going w s v way
  pub there : VariantAt w.schema s position at
  pub known : ToldBefore going.goes going.tree turn

-- behind a turn that passed
pub record TurnPassed (w : Walk) (s v : List ℕ) (way : Way) (turn : Turn) (position at : ℕ) : Type 0 where
  pub turning : Turning w s v way turn position at
  pub passes : Passes turning.going.goes turning.going.tree turn

-- the union's answer, or that the turn passed
unfoldable pub Steps : Walk → List ℕ → List ℕ → Way → Turn → List ℕ → Step → Type 0
Steps w s v way turn o (Step.Ended r) = Wrote (on_both peeled_bytes (read_schema w.schema s) (read_value w.value v)) o r
Steps w s v way turn o (Step.Passed p) = TurnPassed w s v way turn p.position p.at

-- the first named position that is taken is i, behind the table's u
pub record EitherNode (w : Walk) (s v : List ℕ) (u i : ℕ) : Type 0 where
  pub way : Way
  pub going : Going w s v way
  pub beaten : Beaten going.goes going.tree u i
