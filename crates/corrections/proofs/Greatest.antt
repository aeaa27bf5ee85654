-- The greatest seq is current, and with equal ones the later frame: seqs as the whole numbers that the frames say.
use Prim.Native.Nat.{ℕ, zero, suc, ◌-◌, ◌<◌}
use mathlib.Core.Path.{◌≡◌, sym, ap, subst, ◌∙◌}
use mathlib.Core.List.{List, [], ◌∷◌}
use mathlib.Core.Option.{Option, some}
use mathlib.Core.Bool.{Bool, true, false}
use lib.Dec.{T, ltb, leb}
use lib.IntN.{ℤ}
use lib.ListN.{length, get_or, take, drop}
use borrow.Author.Tests.{leb-true, leb-false, lt-ltb, le-ltb}
use Rattle.base.specs.Base.{when◌then◌else◌}
use Rattle.number.specs.Number.{all_bytes}
use Rattle.number.proofs.Laws.{all_bytes-take, all_bytes-drop}
use Rattle.rounding.specs.Rounding.{of_twos}
use Rattle.text.specs.Text.{Text}
use Rattle.frame.specs.Tree.{number}
use Rattle.lists.specs.Frames.{frame_at, frames_from, frames}
use Rattle.finishes.specs.Finish.{rank}
use Rattle.finishes.specs.Words.{IsFinish}
use Rattle.finishes.proofs.Words.{finish-said}
use Rattle.finishes.proofs.RankOrder.{lessℤ, rank-order}
use Rattle.finishes.proofs.Longs.{seq-small}
use Rattle.current.specs.Current.{beats}
use Rattle.corrections.specs.Claims.{SaysAt, CurrentAt}

-- the frames of an input of bytes are bytes
frame-bytes : (input : List ℕ) (from to : ℕ) → T (all_bytes input) → T (all_bytes (frame_at input from to))
unfolding frame_at all_bytes
frame-bytes input from to h = go (ltb to from) (ltb (length input) to)
  where
    go : (a b : Bool) → T (all_bytes (when a then [] else (when b then [] else take (to - from) (drop from input))))
    go true b = tt
    go false true = tt
    go false false = all_bytes-take (to - from) (drop from input) (all_bytes-drop from input h)

frames-bytes : (input : List ℕ) (from : ℕ) (ends : List ℕ) → T (all_bytes input) → (k : ℕ) → T (all_bytes (get_or (frames_from input from ends) k []))
unfolding frames_from all_bytes
frames-bytes input from [] h k = tt
frames-bytes input from (to ∷ ends) h zero = frame-bytes input from to h
frames-bytes input from (to ∷ ends) h (suc k) = frames-bytes input to ends h k

-- the seq that a frame says, as a whole number
abbrev pub long : {v : List ℕ} {x : Text} {n : ℕ} → IsFinish v x n → ℤ
long f = of_twos 64 (number f.seq)

module _ (input ends : List ℕ) (bytes : T (all_bytes input)) where
  abbrev frame : ℕ → List ℕ
  frame k = get_or (frames input ends) k []

  by_rank : (p q : ℕ) (x y : Text) (n m : ℕ) (f : IsFinish (frame p) x n) (g : IsFinish (frame q) y m) → ltb m n ≡ lessℤ (long g) (long f)
  by_rank p q x y n m f g =
      ap (λ (k : ℕ). ltb k n) (sym g.seq_is) ∙ ap (λ (k : ℕ). ltb (rank (number g.seq)) k) (sym f.seq_is)
      ∙ rank-order (number g.seq) (number f.seq) (seq-small (frame q) y m (frames-bytes input 0 ends bytes q) g) (seq-small (frame p) x n (frames-bytes input 0 ends bytes p) f)

  -- each of the sail's frames before the current one has no greater seq, and each behind it a smaller one
  module _ (p q : ℕ) (x : Text) (n m : ℕ) (a : CurrentAt beats (frames input ends) p) (f : IsFinish (frame p) x n) (g : IsFinish (frame q) x m) (h : q < length (frames input ends)) where
    said : ◌≡◌ {A = Text × ℕ} (a.sail, a.seq) (x, n)
    said = let e : ◌≡◌ {A = Option (Text × ℕ)} (some (a.sail, a.seq)) (some (x, n)) = sym a.says.1 ∙ finish-said (frame p) x n f in cc

    other : SaysAt (frames input ends) q a.sail m
    other = subst (λ (y : Text). SaysAt (frames input ends) q y m) (sym (ap (λ (t : Text × ℕ). t.0) said)) (h, finish-said (frame q) x m g)

    own : a.seq ≡ n
    own = ap (λ (t : Text × ℕ). t.1) said

    pub no-greater-before : q < p → lessℤ (long f) (long g) ≡ false
    unfolding beats
    no-greater-before l = sym (by_rank q p x x m n g f) ∙ le-ltb n m (leb-true m n (ap (leb m) (sym own) ∙ a.earlier q m l other))

    pub smaller-behind : p < q → lessℤ (long g) (long f) ≡ true
    unfolding beats
    smaller-behind l = sym (by_rank p q x x n m f g) ∙ lt-ltb m n (leb-false n m (ap (λ (k : ℕ). leb k m) (sym own) ∙ a.later q m l other))
