-- A default is allowed exactly where it is what the rules' number 3 names.
use Prim.Native.Nat.{ℕ, zero, suc, ◌≤◌, ◌<◌, ◌-◌, ◌*◌, ◌/◌, ◌%◌, ◌^◌}
use mathlib.Core.Path.{◌≡◌, refl, sym, subst}
use mathlib.Core.Logic.{◌↔◌}
use mathlib.Core.Option.{some}
use mathlib.Core.Bool.{Bool, true, false, ◌&&◌, ◌||◌, not}
use native.Mathlib.Omega.{arith}
use borrow.Author.Tests.{leb-true, leb-false, ltb-false, eqb-true, le-ltb}
use lib.Dec.{T, leb, ltb, eqb, ltb→lt, lt→ltb, eqb→eq}
use lib.Ieee.Bits.{is_true, is_false}
use lib.Ieee.Fits.{and_l, and_r, and_i}
use Rattle.scalar.specs.Conversion.{in_int, finite_double}
use Rattle.frame.specs.Kind
use Rattle.frame.specs.Tree.{Value, Values, Entries, no_items, item, no_entries, entry}
use Rattle.frame.specs.Sound.{keys_rise, item_keys_rise, entry_keys_rise, rising, default_scalar, default_kinds, default_items, default_entries, default_allowed}
use Rattle.frame.specs.Faults.{Allowed, AllowedItems, AllowedEntries, null, boolean, int, long, double, string, array, map, no_item, an_item, no_entry, an_entry}
use Rattle.frame.proofs.KeyLaws.{rising→Rises, Rises→rising}

outside : (n : ℕ) → T (not (in_int n)) → (2 ^ 31 ≤ n) × (n < 2 ^ 64 - 2 ^ 31)
unfolding in_int
outside n h = go (ltb n (2 ^ 31)) (leb (2 ^ 64 - 2 ^ 31) n) refl refl h
  where
    go : (a b : Bool) → ltb n (2 ^ 31) ≡ a → leb (2 ^ 64 - 2 ^ 31) n ≡ b → T (not (a || b)) → (2 ^ 31 ≤ n) × (n < 2 ^ 64 - 2 ^ 31)
    go true b e f t = absurd t
    go false true e f t = absurd t
    go false false e f t = (ltb-false n (2 ^ 31) e, leb-false (2 ^ 64 - 2 ^ 31) n f)

outside-back : (n : ℕ) → 2 ^ 31 ≤ n → n < 2 ^ 64 - 2 ^ 31 → T (not (in_int n))
unfolding in_int
outside-back n a b = rw (le-ltb n (2 ^ 31) a, is_false (leb (2 ^ 64 - 2 ^ 31) n) (not-le (leb (2 ^ 64 - 2 ^ 31) n) refl)) tt
  where
    not-le : (t : Bool) → leb (2 ^ 64 - 2 ^ 31) n ≡ t → T (not t)
    not-le true e = let l = leb-true (2 ^ 64 - 2 ^ 31) n e in absurd (omega arith)
    not-le false e = tt

finite : (n : ℕ) → T (finite_double n) → n / 2 ^ 52 % 2 ^ 11 ≡ 2047 → ⊥
unfolding finite_double
finite n h e = let l : n % 2 ^ 63 < 2047 * 2 ^ 52 = ltb→lt (n % 2 ^ 63) (2047 * 2 ^ 52) h in omega arith

finite-back : (n : ℕ) → (n / 2 ^ 52 % 2 ^ 11 ≡ 2047 → ⊥) → T (finite_double n)
unfolding finite_double
finite-back n h = lt→ltb (n % 2 ^ 63) (2047 * 2 ^ 52) (omega arith)

scalar-there : (k n : ℕ) → T (default_scalar k n) → Allowed (Value.Scalar k n)
unfolding default_scalar
scalar-there k n h = go (leb k Kind.Int) (eqb k Kind.Long) (eqb k Kind.Double) (not (in_int n)) (finite_double n) refl refl refl refl refl h
  where
    small : (k : ℕ) → k ≤ 2 → Allowed (Value.Scalar k n)
    small zero l = null
    small (suc zero) l = boolean
    small (suc (suc zero)) l = int
    small (suc (suc (suc k))) l = absurd (omega arith)

    go : (a b c d e : Bool) → leb k Kind.Int ≡ a → eqb k Kind.Long ≡ b → eqb k Kind.Double ≡ c → not (in_int n) ≡ d → finite_double n ≡ e
        → T (a || (b && d) || (c && e)) → Allowed (Value.Scalar k n)
    go true b c d e p q r s t h = small k (leb-true k 2 p)
    go false true c true e p q r s t h =
        let o = outside n (rw s tt) in subst (λ (j : ℕ). Allowed (Value.Scalar j n)) (sym (eqb-true k Kind.Long q)) (long o.0 o.1)
    go false true true false true p q r s t h = let a = eqb-true k Kind.Long q in let b = eqb-true k Kind.Double r in absurd (omega arith)
    go false true true false false p q r s t h = absurd h
    go false true false false e p q r s t h = absurd h
    go false false true d true p q r s t h = subst (λ (j : ℕ). Allowed (Value.Scalar j n)) (sym (eqb-true k Kind.Double r)) (double (finite n (rw t tt)))
    go false false true d false p q r s t h = absurd h
    go false false false d e p q r s t h = absurd h

mutual
  unfolding default_kinds keys_rise

  allowed-there : (v : Value) → T (default_kinds v) → T (keys_rise v) → Allowed v
  allowed-there (Value.Scalar k n) h r = scalar-there k n h
  allowed-there (Value.Octets k s) h r = subst (λ (j : ℕ). Allowed (Value.Octets j s)) (sym (eqb→eq k Kind.String h)) string
  allowed-there (Value.Enum i s) h r = absurd h
  allowed-there (Value.Array vs) h r = array (items-there vs h r)
  allowed-there (Value.Map es) h r =
      map (rising→Rises es (and_l (rising es) (entry_keys_rise es) r)) (entries-there es h (and_r (rising es) (entry_keys_rise es) r))
  allowed-there (Value.Record es) h r = absurd h
  allowed-there (Value.Union i v) h r = absurd h

  items-there : (vs : Values) → T (default_items vs) → T (item_keys_rise vs) → AllowedItems vs
  items-there no_items h r = no_item
  items-there (item v vs) h r =
      an_item (allowed-there v (and_l (default_kinds v) (default_items vs) h) (and_l (keys_rise v) (item_keys_rise vs) r))
      (items-there vs (and_r (default_kinds v) (default_items vs) h) (and_r (keys_rise v) (item_keys_rise vs) r))

  entries-there : (es : Entries) → T (default_entries es) → T (entry_keys_rise es) → AllowedEntries es
  entries-there no_entries h r = no_entry
  entries-there (entry n v es) h r =
      an_entry (allowed-there v (and_l (default_kinds v) (default_entries es) h) (and_l (keys_rise v) (entry_keys_rise es) r))
      (entries-there es (and_r (default_kinds v) (default_entries es) h) (and_r (keys_rise v) (entry_keys_rise es) r))

mutual
  unfolding default_kinds default_scalar keys_rise

  allowed-back : {v : Value} → Allowed v → T (default_kinds v) × T (keys_rise v)
  allowed-back null = (tt, tt)
  allowed-back boolean = (tt, tt)
  allowed-back int = (tt, tt)
  allowed-back (long {n} a b) = (rw (is_true (not (in_int n)) (outside-back n a b)) tt, tt)
  allowed-back (double {n} a) = (rw (is_true (finite_double n) (finite-back n a)) tt, tt)
  allowed-back string = (tt, tt)
  allowed-back (array a) = allowed-items a
  allowed-back (map {es} r a) = let w = allowed-entries a in (w.0, and_i (rising es) (entry_keys_rise es) (Rises→rising r) w.1)

  allowed-items : {vs : Values} → AllowedItems vs → T (default_items vs) × T (item_keys_rise vs)
  allowed-items no_item = (tt, tt)
  allowed-items (an_item {v} {vs} a b) =
      let x = allowed-back a in let y = allowed-items b in
      (and_i (default_kinds v) (default_items vs) x.0 y.0, and_i (keys_rise v) (item_keys_rise vs) x.1 y.1)

  allowed-entries : {es : Entries} → AllowedEntries es → T (default_entries es) × T (entry_keys_rise es)
  allowed-entries no_entry = (tt, tt)
  allowed-entries (an_entry {n} {v} {es} a b) =
      let x = allowed-back a in let y = allowed-entries b in
      (and_i (default_kinds v) (default_entries es) x.0 y.0, and_i (keys_rise v) (entry_keys_rise es) x.1 y.1)

pub default-allowed : (v : Value) → T (default_allowed (some v)) ↔ Allowed v
unfolding default_allowed
default-allowed v = (
  λ h. allowed-there v (and_l (default_kinds v) (keys_rise v) h) (and_r (default_kinds v) (keys_rise v) h),
  λ a. let x = allowed-back a in and_i (default_kinds v) (keys_rise v) x.0 x.1,
)
