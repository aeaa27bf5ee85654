-- `value_parts::shape_of` gives the row of the kind in the rules' table. Assumes nothing.
use mathlib.Core.Path.{refl}
use native.Mathlib.Omega.{arith}
use Rattle.frame.specs.ValueFrame.{contents}
use Rattle.value_parts.specs.Shape.{shape}
use Rattle.value_parts.specs.declared.Shape.TheVariants as S
use Rattle.value_parts.proofs.ShapeLaws.{run_at, past-the-table}
use Rattle.value_parts.proofs.shape_of.Goals as goal

pub returns-then-k-le-NULL : goal.returns-then-k-le-NULL
unfolding contents shape
returns-then-k-le-NULL c = run_at 0 1 (S.Fixed 0) (refl, tt) c.args.k (omega arith) (omega arith)

pub returns-then-k-le-BOOLEAN : goal.returns-then-k-le-BOOLEAN
unfolding contents shape
returns-then-k-le-BOOLEAN c = run_at 1 1 S.Flag (refl, tt) c.args.k (omega arith) (omega arith)

pub returns-then-k-le-INT : goal.returns-then-k-le-INT
unfolding contents shape
returns-then-k-le-INT c = run_at 2 1 (S.Fixed 4) (refl, tt) c.args.k (omega arith) (omega arith)

pub returns-then-k-le-LONG : goal.returns-then-k-le-LONG
unfolding contents shape
returns-then-k-le-LONG c = run_at 3 1 (S.Fixed 8) (refl, tt) c.args.k (omega arith) (omega arith)

pub returns-then-k-le-FLOAT : goal.returns-then-k-le-FLOAT
unfolding contents shape
returns-then-k-le-FLOAT c = run_at 4 1 (S.Fixed 4) (refl, tt) c.args.k (omega arith) (omega arith)

pub returns-then-k-le-DOUBLE : goal.returns-then-k-le-DOUBLE
unfolding contents shape
returns-then-k-le-DOUBLE c = run_at 5 1 (S.Fixed 8) (refl, tt) c.args.k (omega arith) (omega arith)

pub returns-then-k-le-BYTES : goal.returns-then-k-le-BYTES
unfolding contents shape
returns-then-k-le-BYTES c = run_at 6 1 S.Counted (refl, tt) c.args.k (omega arith) (omega arith)

pub returns-then-k-le-STRING : goal.returns-then-k-le-STRING
unfolding contents shape
returns-then-k-le-STRING c = run_at 7 1 S.Text (refl, tt) c.args.k (omega arith) (omega arith)

pub returns-then-k-le-ARRAY : goal.returns-then-k-le-ARRAY
unfolding contents shape
returns-then-k-le-ARRAY c = run_at 8 1 S.Array (refl, tt) c.args.k (omega arith) (omega arith)

pub returns-then-k-le-MAP : goal.returns-then-k-le-MAP
unfolding contents shape
returns-then-k-le-MAP c = run_at 9 1 S.Map (refl, tt) c.args.k (omega arith) (omega arith)

pub returns-then-k-le-UNION : goal.returns-then-k-le-UNION
unfolding contents shape
returns-then-k-le-UNION c = run_at 10 1 S.Union (refl, tt) c.args.k (omega arith) (omega arith)

pub returns-then-k-le-RECORD : goal.returns-then-k-le-RECORD
unfolding contents shape
returns-then-k-le-RECORD c = run_at 11 1 S.Entries (refl, tt) c.args.k (omega arith) (omega arith)

pub returns-then-k-le-ENUM : goal.returns-then-k-le-ENUM
unfolding contents shape
returns-then-k-le-ENUM c = run_at 12 1 S.Symbol (refl, tt) c.args.k (omega arith) (omega arith)

pub returns-then-k-le-DECIMAL : goal.returns-then-k-le-DECIMAL
unfolding contents shape
returns-then-k-le-DECIMAL c = run_at 13 2 S.Counted (refl, (refl, tt)) c.args.k (omega arith) (omega arith)

pub returns-then-k-le-UUID : goal.returns-then-k-le-UUID
unfolding contents shape
returns-then-k-le-UUID c = run_at 15 1 (S.Fixed 16) (refl, tt) c.args.k (omega arith) (omega arith)

pub returns-then-k-le-TIME_MILLIS : goal.returns-then-k-le-TIME_MILLIS
unfolding contents shape
returns-then-k-le-TIME_MILLIS c = run_at 16 2 (S.Fixed 4) (refl, (refl, tt)) c.args.k (omega arith) (omega arith)

pub returns-then-k-le-LOCAL_TIMESTAMP_NANOS : goal.returns-then-k-le-LOCAL_TIMESTAMP_NANOS
unfolding contents shape
returns-then-k-le-LOCAL_TIMESTAMP_NANOS c = run_at 18 7 (S.Fixed 8) (refl, (refl, (refl, (refl, (refl, (refl, (refl, tt))))))) c.args.k (omega arith) (omega arith)

pub returns-then-k-le-DURATION : goal.returns-then-k-le-DURATION
unfolding contents shape
returns-then-k-le-DURATION c = run_at 25 1 (S.Fixed 12) (refl, tt) c.args.k (omega arith) (omega arith)

pub returns : goal.returns
returns c = past-the-table c.args.k (omega arith)
