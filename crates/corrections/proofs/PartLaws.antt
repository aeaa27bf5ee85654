-- What a frame of the list says of a finish, placed in the input.
use Rattle.std.specs.Prelude.{Some, None}
use Prim.Native.Nat.{ℕ, ◌+◌, ◌-◌, ◌≤◌, ◌<◌}
use mathlib.Core.Path.{◌≡◌, refl, sym, ap, ◌∙◌}
use mathlib.Core.List.{List, [], ◌∷◌}
use mathlib.Core.Option.{Option, none, some}
use native.Mathlib.Omega.{arith}
use lib.ListN.{length, take, drop}
use Rattle.text.specs.Text.{Text}
use Rattle.frame.proofs.Reading.{not-both}
use Rattle.lists.specs.Frames.{frame_at}
use Rattle.lists.proofs.FrameLaws.{frame-there, frame-length, part-of-frame, no_bytes}
use Rattle.finishes.specs.Finish.{finish_of, said_in}
use Rattle.finishes.specs.Parts.{Within, Says}
use Rattle.finishes.specs.declared.Entry.{Entry}
use Rattle.finishes.proofs.FinishLaws.{broken-says}

pub says-broken : (o : Option (Text × ℕ)) (s : List ℕ) → Says o s None → o ≡ none
unfolding Says
says-broken none s h = refl
says-broken (some x) s h = absurd h

pub says_of : (o : Option (Text × ℕ)) (s : List ℕ) (f : Entry) → Says o s (Some f) → (x : Text × ℕ) × ((o ≡ some x) × (Within s x.0 f.from f.to × (x.1 ≡ f.rank)))
unfolding Says
says_of none s f h = absurd h
says_of (some x) s f h = (x, (refl, h))

of-says : (o : Option (Text × ℕ)) (s : List ℕ) (f : Entry) (x : Text × ℕ) → o ≡ some x → Within s x.0 f.from f.to → x.1 ≡ f.rank → Says o s (Some f)
unfolding Says
of-says o s f x q w h = rw q (w, h)

-- no bytes say no finish
empty-none : finish_of [] ≡ none
unfolding finish_of said_in
empty-none = ap said_in no_bytes

said-there : (v : List ℕ) (x : Text × ℕ) → finish_of v ≡ some x → 0 < length v
said-there [] x e = absurd (not-both empty-none e)
said-there (b ∷ v) x e = omega arith

module _ (input : List ℕ) (from to : ℕ) (v : List ℕ) (q : v ≡ frame_at input from to) where
  pub part-broken : Says (finish_of v) v None → Says (finish_of (frame_at input from to)) input None
  part-broken s = broken-says _ input (sym (ap finish_of q) ∙ says-broken (finish_of v) v s)

  module _ (f : Entry) (s : Says (finish_of v) v (Some f)) where
    finish : (x : Text × ℕ) × ((finish_of v ≡ some x) × (Within v x.0 f.from f.to × (x.1 ≡ f.rank)))
    finish = says_of (finish_of v) v f s

    stands : (from ≤ to) × (to ≤ length input)
    stands = frame-there input from to (omega (arith, said-there v finish.0 finish.1.0, ap length q))

    ends : (f.from ≤ f.to) × (f.to ≤ to - from)
    ends = let w = finish.1.1.0 in (w.ordered, omega (arith, w.inside, ap length q, frame-length input from to stands.0 stands.1))

    pub part-inside : (from + f.from ≤ length input) × (from + f.to ≤ length input)
    part-inside = (omega (arith, stands.0, stands.1, ends.0, ends.1), omega (arith, stands.0, stands.1, ends.1))

    pub part_says : Says (finish_of (frame_at input from to)) input (Some (record { from = from + f.from; to = from + f.to; rank = f.rank }))
    part_says =
        let w = finish.1.1.0 in
        let d : f.to - f.from ≡ from + f.to - (from + f.from) = omega arith in
        of-says (finish_of (frame_at input from to)) input (record { from = from + f.from; to = from + f.to; rank = f.rank }) finish.0
        (sym (ap finish_of q) ∙ finish.1.0)
        (record {
          ordered = omega (arith, ends.0);
          inside = part-inside.1;
          is = w.is
              ∙ ap (λ (l : List ℕ). take (f.to - f.from) (drop f.from l)) q
              ∙ part-of-frame input from to stands.0 stands.1 f.from (f.to - f.from) (omega (arith, ends.0, ends.1))
              ∙ ap (λ (k : ℕ). take k (drop (from + f.from) input)) d;
        })
        finish.1.1.1
