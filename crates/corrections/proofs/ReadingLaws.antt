-- The loop that reads the frames into the table: what is read so far, and the frames to come.
use Prim.Native.Nat.{ℕ, zero, suc, ◌+◌, ◌-◌, ◌≤◌, ◌<◌}
use mathlib.Core.Path.{◌≡◌, refl, sym, ap, subst, ◌∙◌}
use mathlib.Core.List.{List, [], ◌∷◌, ◌++◌, append_assoc, append-nil}
use mathlib.Core.Option.{Option, none, some}
use mathlib.Core.Bool.{true}
use native.Mathlib.Omega.{arith}
use native.Mathlib.Numerals.{add-one}
use Rattle.std.specs.Prelude.{Some, None}
use Rattle.std.proofs.Common.{below_more}
use lib.ListN.{length, get_or, set, take, drop, length-set, drop_of_length-le}
use lib.Seq.{drop-cons, get_or-set_same, get_or-set_other}
use Rattle.text.specs.Text.{Text}
use Rattle.text.specs.Hash.{hash}
use Rattle.text.specs.Read.{◌>>=◌}
use Rattle.lists.specs.Frames.{frame_at, frames_from, frames}
use Rattle.finishes.specs.Finish.{finish_of}
use Rattle.finishes.specs.Parts.{Within, Says}
use Rattle.finishes.specs.declared.Entry.{Entry}
use Rattle.current.specs.Current.{Finish}
use Rattle.corrections.specs.Named.{placed, finishes}
use Rattle.corrections.specs.Tables.{row_at, sail_of, row, rows, Stands, HasRow, Filled, Told}
use Rattle.corrections.proofs.PartLaws.{says-broken, says_of}

pub rows_more : (input : List ℕ) (table : List Entry) (n : ℕ) → rows input table (n + 1) ≡ rows input table n ++ row input table n ∷ []
unfolding rows
rows_more input table n = ap (rows input table) (add-one n)

-- finishes in front of those to come
unfoldable pub front : List Finish → Option (List Finish) → Option (List Finish)
front fs none = none
front fs (some gs) = some (fs ++ gs)

-- the finishes of the frames to come
abbrev pub coming : List ℕ → List ℕ → ℕ → ℕ → Option (List Finish)
coming input ends i from = finishes i (frames_from input from (drop i ends))

pub record Reading (input ends : List ℕ) (table : List Entry) (hashes : List ℕ) (i from : ℕ) : Type 0 where
  pub inside : i ≤ length ends
  pub size : length table ≡ 256
  pub size_hashes : length hashes ≡ 256
  pub reads : finishes 0 (frames input ends) ≡ front (rows input table i) (coming input ends i from)
  pub filled : Filled input table hashes i

pub reading-start : (input ends : List ℕ) (table : List Entry) (hashes : List ℕ) → length table ≡ 256 → length hashes ≡ 256 → Reading input ends table hashes 0 0
unfolding front rows
reading-start input ends table hashes z y = record {
  inside = omega arith;
  size = z;
  size_hashes = y;
  reads = go (finishes 0 (frames input ends));
  filled = λ k h. absurd (omega (arith, h));
}
  where
    go : (o : Option (List Finish)) → o ≡ front [] o
    go none = refl
    go (some fs) = refl

-- a store at n leaves the rows below it
module _ (input : List ℕ) (table : List Entry) (n : ℕ) (r : Entry) where
  row-old : (m : ℕ) → m < n → row_at (set table n r) m ≡ row_at table m
  row-old m h = get_or-set_other table n m r _ (λ z. omega (arith, z, h))

  row-new : n < length table → row_at (set table n r) n ≡ r
  row-new h = get_or-set_same table n r _ h

  rows-set : (m : ℕ) → m ≤ n → rows input (set table n r) m ≡ rows input table m
  unfolding rows row
  rows-set zero h = refl
  rows-set (suc m) h =
      ap (λ (l : List Finish). l ++ row input (set table n r) m ∷ []) (rows-set m (omega arith))
      ∙ ap (λ (x : Entry). rows input table m ++ record { place = m; sail = sail_of input x; seq = x.rank } ∷ []) (row-old m (omega arith))

front-front : (fs : List Finish) (f : Finish) (o : Option (List Finish)) → front fs (o >>= (λ gs. some (f ∷ gs))) ≡ front (fs ++ f ∷ []) o
unfolding front ◌>>=◌
front-front fs f none = refl
front-front fs f (some gs) = ap some (sym (append_assoc fs (f ∷ []) gs))

module _ (input ends : List ℕ) (table : List Entry) (hashes : List ℕ) (i from : ℕ) (w : Reading input ends table hashes i from) (h : i < length ends) where
  abbrev to : ℕ
  to = get_or ends i 0

  abbrev after : Text × ℕ → Option (List Finish)
  after x = finishes (suc i) (frames_from input to (drop (suc i) ends)) >>= (λ fs. some (placed i x ∷ fs))

  opened : coming input ends i from ≡ (finish_of (frame_at input from to) >>= after)
  unfolding finishes frames_from
  opened = ap (λ (l : List ℕ). finishes i (frames_from input from l)) (drop-cons ends i 0 h)

  pub reading-broken : Says (finish_of (frame_at input from to)) input None → finishes 0 (frames input ends) ≡ none
  unfolding front ◌>>=◌
  reading-broken s =
      w.reads
      ∙ ap (front (rows input table i)) (opened ∙ ap (λ (o : Option (Text × ℕ)). o >>= after) (says-broken (finish_of (frame_at input from to)) input s))

  module _ (l : length ends ≤ 256) (f : Entry) (s : Says (finish_of (frame_at input from to)) input (Some f)) where
    said : (x : Text × ℕ) × ((finish_of (frame_at input from to) ≡ some x) × (Within input x.0 f.from f.to × (x.1 ≡ f.rank)))
    said = says_of (finish_of (frame_at input from to)) input f s

    pub entry-inside : (f.from ≤ f.to) × (f.to ≤ length input)
    entry-inside = (said.1.1.0.ordered, said.1.1.0.inside)

    abbrev table' : List Entry
    table' = set table i f

    abbrev noted : ℕ
    noted = hash (take (f.to - f.from) (drop f.from input))

    abbrev hashes' : List ℕ
    hashes' = set hashes i noted

    room : i < length table
    room = omega (arith, w.size)

    room_hashes : i < length hashes
    room_hashes = omega (arith, w.size_hashes)

    finish : Finish
    finish = placed i said.0

    row_is : row input table' i ≡ finish
    unfolding finish placed row sail_of
    row_is =
        ap (λ (x : Entry). record { place = i; sail = sail_of input x; seq = x.rank }) (row-new input table i f room)
        ∙ ap (λ (t : Text). record { place = i; sail = t; seq = f.rank }) (sym said.1.1.0.is)
        ∙ ap (λ (q : ℕ). record { place = i; sail = said.0.0; seq = q }) (sym said.1.1.1)

    rows_are : rows input table' (i + 1) ≡ rows input table i ++ finish ∷ []
    rows_are =
        rows_more input table' i
        ∙ ap (λ (t : List Finish). t ++ row input table' i ∷ []) (rows-set input table i f i (omega arith))
        ∙ ap (λ (t : Finish). rows input table i ++ t ∷ []) row_is

    rest : coming input ends i from ≡ (finishes (suc i) (frames_from input to (drop (suc i) ends)) >>= (λ fs. some (finish ∷ fs)))
    unfolding ◌>>=◌ finish
    rest = opened ∙ ap (λ (o : Option (Text × ℕ)). o >>= after) said.1.0

    reads_on : finishes 0 (frames input ends) ≡ front (rows input table' (i + 1)) (coming input ends (i + 1) to)
    reads_on =
        w.reads
        ∙ ap (front (rows input table i)) rest
        ∙ front-front (rows input table i) finish (finishes (suc i) (frames_from input to (drop (suc i) ends)))
        ∙ ap (λ (t : List Finish). front t (finishes (suc i) (frames_from input to (drop (suc i) ends)))) (sym rows_are)
        ∙ ap (λ (k : ℕ). front (rows input table' (i + 1)) (coming input ends k to)) (sym (add-one i))

    -- a row below i stays
    stays : (k : ℕ) → k < i → HasRow input table' hashes' k
    stays k g =
        let r = w.filled k g in
        record {
          there = omega (arith, length-set table i f, r.there);
          noted = omega (arith, length-set hashes i noted, r.noted);
          stands = subst (Stands input (row_at table' k)) (sym (get_or-set_other hashes i k noted 0 (λ z. omega (arith, z, g)))) (subst (λ (x : Entry). Stands input x (get_or hashes k 0)) (sym (row-old input table i f k g)) r.stands);
        }

    -- and row i is there
    here : HasRow input table' hashes' i
    unfolding sail_of
    here = record {
      there = omega (arith, length-set table i f, room);
      noted = omega (arith, length-set hashes i noted, room_hashes);
      stands = subst (Stands input (row_at table' i)) (sym (get_or-set_same hashes i noted 0 room_hashes)) (subst (λ (x : Entry). Stands input x noted) (sym (row-new input table i f room)) (record { ordered = entry-inside.0; inside = entry-inside.1; hashed = refl }));
    }

    pub reading_step : Reading input ends table' hashes' (i + 1) to
    reading_step = record {
      inside = omega arith;
      size = length-set table i f ∙ w.size;
      size_hashes = length-set hashes i noted ∙ w.size_hashes;
      reads = reads_on;
      filled = below_more (HasRow input table' hashes') i stays here;
    }

pub reading-end : (input ends : List ℕ) (table : List Entry) (hashes : List ℕ) (i from : ℕ) → Reading input ends table hashes i from → length ends ≤ i → Told true (finishes 0 (frames input ends)) input table hashes (length ends)
unfolding Told front finishes frames_from
reading-end input ends table hashes i from w h =
    let e : i ≡ length ends = omega (arith, w.inside) in
    let p : finishes 0 (frames input ends) ≡ some (rows input table i ++ []) = w.reads ∙ ap (λ (l : List ℕ). front (rows input table i) (finishes i (frames_from input from l))) (drop_of_length-le ends h) in
    (p ∙ ap some (append-nil (rows input table i)) ∙ ap (λ (k : ℕ). some (rows input table k)) e, subst (Filled input table hashes) e w.filled)
