-- The rounds of the search, for the symbol and then for the default, and what the place that they come to says of `validate_symbol`.
use Prim.Native.Nat.{ℕ, zero, suc, ◌+◌, ◌≤◌, ◌<◌}
use mathlib.Core.Path.{◌≡◌, refl, sym, ap, ◌∙◌, subst}
use mathlib.Core.List.{List, ◌∷◌, ◌++◌}
use mathlib.Core.Option.{Option, none, some}
use native.Mathlib.Nat.{add-zero}
use native.Mathlib.Omega.{arith}
use borrow.Author.Tests.{ne_eqb}
use lib.ListN.{length, get_or, drop, length-drop}
use lib.Seq.{drop-drop, get_or-drop}
use Rattle.std.specs.Prelude.{Ok, Err}
use Rattle.base.specs.Base.{ok, stop}
use Rattle.base.specs.declared.refusal.Refusal.TheVariants.{SymbolUnknown}
use Rattle.number.specs.Number.{bytes_of}
use Rattle.text.specs.Text.{Text}
use Rattle.text.specs.Read.{Read, ◌>>=◌, read_counted, read_text}
use Rattle.text.specs.Measured.{Reads}
use Rattle.text.proofs.ReadLaws.{read_text-counted, reads-text, text_at-counted}
use Rattle.frame.specs.Kind
use Rattle.frame.specs.Tree.{Value}
use Rattle.frame.specs.Readers.{read_list, read_option}
use Rattle.frame.specs.ValueFrame.{write_text, encode_value}
use Rattle.frame.specs.SchemaFrame.{read_symbols}
use Rattle.frame.specs.Checks.{Spans}
use Rattle.frame.proofs.Reading.{read-rest, bind_inv, map_read, reads_first, not-both, option-zero, option-one, option-long, option-is-one}
use Rattle.buffer.specs.Built.{Built, Wrote}
use Rattle.types.specs.Types.{Outcome, position, enum_at, or_default, validate_symbol}
use Rattle.types.specs.Contract.{encoded, on_read}
use Rattle.types.proofs.NodeLaws.{wrote-ok, wrote-stop}
use Rattle.symbols.specs.declared.Place.{Place}
use Rattle.symbols.specs.declared.Place.TheVariants.{Symbol, Default, Nowhere}
use Rattle.symbols.specs.Search.{default_at, default_place, symbol_or, place_of, place_in, sought_in, placed, default_in, Defaulted}
use Rattle.symbols.proofs.SymbolLaws.{Stands}

-- ---- symbols and default

-- what was read of them
pub record Symbols (s : List ℕ) : Type 0 where
  pub ss : List Text
  pub u : List ℕ
  pub d : Option Text
  pub r : List ℕ
  pub list : read_list read_text s ≡ some (ss, u)
  pub option : read_option read_text u ≡ some (d, r)
  pub all : read_symbols s ≡ some ((ss, d), r)

symbols-are : (s : List ℕ) → Reads (read_symbols s) → Symbols s
unfolding read_symbols Reads
symbols-are s p =
    let w = bind_inv (read_list read_text s) _ (p.0, p.1.0) p.1.1 in
    let v = bind_inv (read_option read_text w.0.1) _ (p.0, p.1.0) w.1.1 in
    record { ss = w.0.0; u = w.0.1; d = v.0.0; r = v.0.1; list = w.1.0; option = v.1.0; all = p.1.1 ∙ sym v.1.1 }

pub symbols-list : (s : List ℕ) → Reads (read_symbols s) → Reads (read_list read_text s)
unfolding read_symbols
symbols-list s p = reads_first (read_list read_text s) _ p

-- ---- the flag and the default

module _ (s : List ℕ) (at : ℕ) (p : Reads (read_symbols s)) (v : Spans (read_list read_text s) s at) where
  option-reads : Reads (read_option read_text (drop at s))
  unfolding Spans Reads
  option-reads =
      let y = symbols-are s p in
      (y.d, (y.r, ap (read_option read_text) (read-rest (sym v.1.1 ∙ y.list)) ∙ y.option))

  default-is : (d : Option Text) (r : List ℕ) → read_option read_text (drop at s) ≡ some (d, r) → default_in (read_symbols s) ≡ d
  unfolding Spans read_symbols ◌>>=◌ default_in
  default-is d r e = rw v.1.1 (rw e)

  flag_at : get_or (drop at s) 0 0 ≡ get_or s at 0
  flag_at = get_or-drop at s 0 0 ∙ ap (λ (n : ℕ). get_or s n 0) (add-zero at)

  pub flag-there : at < length s
  flag-there = omega (arith, option-long read_text (drop at s) option-reads, length-drop at s)

  default_none : get_or s at 0 ≡ 0 → default_in (read_symbols s) ≡ none
  default_none e = default-is none _ (option-zero read_text (drop at s) (option-long read_text (drop at s) option-reads) (flag_at ∙ e))

  module _ (f : get_or s at 0 ≡ 0 → ⊥) where
    some-opened : read_option read_text (drop at s) ≡ map_read some (read_text (drop (at + 1) s))
    some-opened =
        option-one read_text (drop at s) (option-long read_text (drop at s) option-reads) (option-is-one read_text (drop at s) option-reads (λ e. f (sym flag_at ∙ e)))
        ∙ ap (λ (l : List ℕ). map_read some (read_text l)) (drop-drop 1 at s)

    default-text : Reads (read_text (drop (at + 1) s))
    default-text = reads_first (read_text (drop (at + 1) s)) _ (subst Reads some-opened option-reads)

    pub default-counted : Reads (read_counted (drop (at + 1) s))
    default-counted = reads-text (drop (at + 1) s) default-text

    module _ {t r : List ℕ} (e : read_counted (drop (at + 1) s) ≡ some (t, r)) where
      pub default-some : default_in (read_symbols s) ≡ some t
      unfolding Reads ◌>>=◌
      default-some =
          let q = default-text in
          let z : read_text (drop (at + 1) s) ≡ some (t, r) = q.1.1 ∙ sym (read_text-counted (drop (at + 1) s) q.0 q.1.0 q.1.1).0 ∙ e in
          default-is (some t) r (some-opened ∙ rw z)

-- ---- the rounds

-- what the round at `from` comes to by what it finds; the first, where it finds nothing, leaves it to the default
pub turn : ℕ → Place → Option ℕ → Place
turn zero p o = symbol_or p o
turn (suc n) p o = default_at o

turn-later : (from : ℕ) (p : Place) (o : Option ℕ) → 0 < from → turn from p o ≡ default_at o
unfolding turn
turn-later zero p o h = absurd (omega arith)
turn-later (suc n) p o h = refl

turn-some : (from : ℕ) (p : Place) (i : ℕ) → turn from p (some i) ≡ placed from i
unfolding turn placed symbol_or default_at
turn-some zero p i = refl
turn-some (suc n) p i = refl

-- what holds whenever a round starts: what it looks for can be read, and the place is what the round comes to
pub record Round (s t : List ℕ) (from : ℕ) : Type 0 where
  pub there : (from ≡ 0 → ⊥) → Reads (read_counted (drop from s))
  pub have : Symbols s
  pub tells : place_in t (read_symbols s) ≡ turn from (default_place have.ss have.d) (position (sought_in s t from) have.ss)

pub sought-first : (s t : List ℕ) (from : ℕ) → from ≡ 0 → t ≡ sought_in s t from
unfolding sought_in
sought-first s t from e = rw e

pub sought-later : (s t : List ℕ) (from : ℕ) (x r : List ℕ) → (from ≡ 0 → ⊥) → read_counted (drop from s) ≡ some (x, r) → x ≡ sought_in s t from
unfolding sought_in
sought-later s t from x r f e = rw (ne_eqb from 0 f) (sym (text_at-counted s from x r e))

pub hit-symbol : (from i : ℕ) → from ≡ 0 → Symbol i ≡ placed from i
unfolding placed
hit-symbol from i e = rw e

pub hit-default : (from i : ℕ) → (from ≡ 0 → ⊥) → Default i ≡ placed from i
unfolding placed
hit-default zero i f = absurd (f refl)
hit-default (suc n) i f = refl

pub round-first : (s t : List ℕ) → Reads (read_symbols s) → Round s t 0
unfolding place_in place_of turn sought_in
round-first s t p = let y = symbols-are s p in record { there = λ f. absurd (f refl); have = y; tells = ap (place_in t) y.all }

module _ {s t : List ℕ} {from : ℕ} (w : Round s t from) where
  round_is : (o : Option ℕ) → Stands s (sought_in s t from) o → place_in t (read_symbols s) ≡ turn from (default_place w.have.ss w.have.d) o
  round_is o k =
      w.tells ∙ ap (turn from (default_place w.have.ss w.have.d)) (k w.have.ss w.have.u w.have.list)

  pub round-found : {i : ℕ} → Stands s (sought_in s t from) (some i) → placed from i ≡ place_in t (read_symbols s)
  round-found {i} k = sym (round_is (some i) k ∙ turn-some from _ i)

  module _ (k : Stands s (sought_in s t from) none) where
    pub round-last : 0 < from → Nowhere ≡ place_in t (read_symbols s)
    unfolding default_at
    round-last h = sym (round_is none k ∙ turn-later from _ none h)

    module _ (h : from ≤ 0) (at : ℕ) (p : Reads (read_symbols s)) (v : Spans (read_list read_text s) s at) where
      zero-from : from ≡ 0
      zero-from = omega arith

      -- the first found nothing, so that the default decides
      round-default : (d : Option Text) → default_in (read_symbols s) ≡ d → place_in t (read_symbols s) ≡ default_place w.have.ss d
      unfolding turn symbol_or default_in
      round-default d e =
          round_is none k ∙ ap (λ n. turn n (default_place w.have.ss w.have.d) none) zero-from ∙ ap (default_place w.have.ss) (sym (ap default_in w.have.all) ∙ e)

      pub round-only : get_or s at 0 ≡ 0 → Nowhere ≡ place_in t (read_symbols s)
      unfolding default_place
      round-only e = sym (round-default none (default_none s at p v e))

      pub round-goes : (get_or s at 0 ≡ 0 → ⊥) → Round s t (at + 1)
      unfolding Reads default_place
      round-goes f =
          let c = default-counted s at p v f in
          record {
            there = λ z. c;
            have = w.have;
            tells =
                round-default (some c.0) (default-some s at p v f c.1.1)
                ∙ ap (λ y. default_at (position y w.have.ss)) (sought-later s t (at + 1) c.0 c.1.0 (λ z. omega arith) c.1.1)
                ∙ sym (turn-later (at + 1) _ _ (omega arith));
          }

-- ---- the place that the search comes to

-- the Enum of a default
default_enum : ℕ → Option Text → Outcome
default_enum i none = stop 15
default_enum i (some d) = ok (Value.Enum i d)

-- the Enum at a place
enum_there : Text → Option Text → Place → Outcome
enum_there t d (Symbol i) = ok (Value.Enum i t)
enum_there t d (Default i) = default_enum i d
enum_there t d Nowhere = stop 15

-- validate_symbol gives the Enum at the place, or 15
symbol-placed : (ss : List Text) (d : Option Text) (t : Text) → validate_symbol ss d t ≡ enum_there t d (place_of ss d t)
unfolding or_default enum_at place_of symbol_or default_place default_at enum_there default_enum
symbol-placed ss d t = go d (position t ss)
  where
    at_default : (x : Text) (o : Option ℕ) → enum_at x o ≡ enum_there t (some x) (default_at o)
    at_default x none = refl
    at_default x (some i) = refl

    go : (d : Option Text) (o : Option ℕ) → or_default ss d (enum_at t o) ≡ enum_there t d (symbol_or (default_place ss d) o)
    go none none = refl
    go (some x) none = at_default x (position x ss)
    go none (some i) = refl
    go (some x) (some i) = refl

module _ (s t : List ℕ) (p : Reads (read_symbols s)) where
  placed-is : (a : Place) → a ≡ place_in t (read_symbols s) → on_read (λ e. encoded (validate_symbol e.0 e.1 t)) (read_symbols s) ≡ encoded (enum_there t (default_in (read_symbols s)) a)
  unfolding on_read place_in default_in
  placed-is a e =
      let y = symbols-are s p in
      rw y.all (ap encoded (symbol-placed y.ss y.d t ∙ ap (enum_there t y.d) (sym (e ∙ ap (place_in t) y.all))))

  -- where the default was found there is one
  pub default-there : (i : ℕ) → Default i ≡ place_in t (read_symbols s) → Defaulted (read_symbols s)
  unfolding Defaulted place_in place_of default_in symbol_or default_place
  default-there i e = let y = symbols-are s p in go y.ss y.d (position t y.ss) (ap default_in y.all) (e ∙ ap (place_in t) y.all)
    where
      go : (ss : List Text) (d : Option Text) (q : Option ℕ) → default_in (read_symbols s) ≡ d → Default i ≡ symbol_or (default_place ss d) q → (x : Text) × (default_in (read_symbols s) ≡ some x)
      go ss (some x) q g k = (x, g)
      go ss none none g k = let z : ◌≡◌ {A = ℕ} 0 1 = cc in absurd (omega arith)
      go ss none (some j) g k = let z : ◌≡◌ {A = ℕ} 0 1 = cc in absurd (omega arith)

  -- the answers: a symbol that is there, a default that is, and neither
  module _ (o : List ℕ) where
    pub symbol-found : (i n : ℕ) → Symbol i ≡ place_in t (read_symbols s) → Built (Kind.Enum ∷ (bytes_of 4 i ++ write_text t)) o n
        → Wrote (on_read (λ e. encoded (validate_symbol e.0 e.1 t)) (read_symbols s)) o (Ok n)
    unfolding encoded encode_value enum_there
    symbol-found i n e w = wrote-ok _ _ o n (placed-is (Symbol i) e) w

    pub default-found : (i n : ℕ) (x : Text) → Default i ≡ place_in t (read_symbols s) → default_in (read_symbols s) ≡ some x → Built (Kind.Enum ∷ (bytes_of 4 i ++ write_text x)) o n
        → Wrote (on_read (λ e. encoded (validate_symbol e.0 e.1 t)) (read_symbols s)) o (Ok n)
    unfolding encoded encode_value enum_there default_enum
    default-found i n x e g w = wrote-ok _ _ o n (placed-is (Default i) e ∙ ap (λ d. encoded (enum_there t d (Default i))) g) w

    pub none_found : Nowhere ≡ place_in t (read_symbols s) → Wrote (on_read (λ e. encoded (validate_symbol e.0 e.1 t)) (read_symbols s)) o (Err SymbolUnknown)
    unfolding encoded enum_there
    none_found e = wrote-stop _ o SymbolUnknown (placed-is Nowhere e)

-- ---- the default's text

module _ (s : List ℕ) (q : Defaulted (read_symbols s)) where
  pub defaulted-reads : Reads (read_symbols s)
  unfolding Defaulted default_in Reads
  defaulted-reads = go (read_symbols s) q.1
    where
      go : (x : Read (List Text × Option Text)) → default_in x ≡ some q.0 → Reads x
      go none e = absurd (not-both {x = none} refl e)
      go (some x) e = (x.0, (x.1, refl))

  pub defaulted-flag : (at : ℕ) → Spans (read_list read_text s) s at → get_or s at 0 ≡ 0 → ⊥
  unfolding Defaulted
  defaulted-flag at v e = not-both (default_none s at defaulted-reads v e) q.1
