-- What a call of the entry shows of its answer, in the result and in the buffers: the rules' sentences before the numbers.
use Prim.Native.Nat.{ℕ}
use mathlib.Core.Path.{◌≡◌, refl, sym, ap, ◌∙◌}
use mathlib.Core.List.{List}
use native.Mathlib.Omega.{arith}
use lib.ListN.{length, take, drop, replicate, length-replicate}
use lib.Seq.{take_at, drop_at}
use Rattle.base.specs.Base.{Result, ok, stop}
use Rattle.buffer.specs.After.{buffer_after}
use Rattle.hulmbax.specs.Answer.{workspace_after}
use Rattle.hulmbax.specs.Entry.{resolved_of}
use Rattle.hulmbax.proofs.EntryLaws.{zeroed}

-- ---- the answer

-- an accepted result stands at the front of its buffer, at the length that the call tells
pub ok-is : (x : Result (List ℕ)) (o o' : List ℕ) (n : ℕ) → ok n ≡ resolved_of x → o' ≡ buffer_after x o → (x ≡ ok (take n o')) × (length (take n o') ≡ n)
unfolding resolved_of buffer_after
ok-is (ok b) o o' n e f =
    let i : n ≡ length b = cc in
    let k : take n o' ≡ b = ap (take n) f ∙ take_at b (drop (length b) o) n (sym i) in
    rw k (refl, sym i)
ok-is (stop m) o o' n e f = let z : ◌≡◌ {A = ℕ} 0 1 = cc in absurd (omega arith)

pub stop_is : (x : Result (List ℕ)) (n : ℕ) → stop n ≡ resolved_of x → x ≡ stop n
unfolding resolved_of
stop_is (ok b) n e = let z : ◌≡◌ {A = ℕ} 0 1 = cc in absurd (omega arith)
stop_is (stop m) n e = let i : m ≡ n = cc in ap (λ (k : ℕ). stop k) i

-- ---- the result buffer

-- it is unchanged after a refusal
pub buffer-refused : (n : ℕ) (b : List ℕ) → buffer_after (stop n) b ≡ b
unfolding buffer_after
buffer-refused n b = refl

-- after an accepted call the result stands in front, and the bytes past it are unchanged
pub buffer-accepted : (r b : List ℕ) → (take (length r) (buffer_after (ok r) b) ≡ r) × (drop (length r) (buffer_after (ok r) b) ≡ drop (length r) b)
unfolding buffer_after
buffer-accepted r b = (take_at r (drop (length r) b) (length r) refl, drop_at r (drop (length r) b) (length r) refl)

-- ---- the workspace

-- after 1 it is unchanged
pub workspace-1 : (w : List ℕ) → workspace_after (stop 1) w ≡ w
unfolding workspace_after
workspace-1 w = refl

-- except after 1 the first 65,536 bytes are zero, and the others are unchanged
pub workspace-cleared : (x : Result (List ℕ)) (w : List ℕ) → (x ≡ stop 1 → ⊥)
    → (take 65536 (workspace_after x w) ≡ replicate 65536 0) × (drop 65536 (workspace_after x w) ≡ drop 65536 w)
workspace-cleared x w f =
    let n : ℕ = 0 in
    let l : length (replicate 65536 n) ≡ 65536 = length-replicate 65536 n in
    rw (zeroed x w f) (take_at (replicate 65536 n) (drop 65536 w) 65536 l, drop_at (replicate 65536 n) (drop 65536 w) 65536 l)
