-- What the choice goes by is made for every value's kind; and what a turn does, in the cases that the code tells apart.
use Prim.Native.Nat.{ℕ, ◌-◌, ◌≤◌, ◌<◌}
use mathlib.Core.Path.{◌≡◌, refl, sym, ap, ◌∙◌, subst}
use mathlib.Core.Logic.{inl, inr, ⊎_elim}
use mathlib.Core.List.{List, []}
use mathlib.Core.Option.{Option, none, some}
use mathlib.Core.Bool.{Bool, true}
use native.Mathlib.Omega.{arith}
use lib.ListN.{length, drop, get_or}
use borrow.Author.Tests.{eqb-true}
use Rattle.number.specs.Number.{number_at}
use Rattle.frame.specs.SchemaFrame.{read_schema}
use Rattle.avro.specs.Union.{unnamed_kind, named_kind, table_lookup}
use Rattle.std.specs.Prelude as std
use Rattle.std.specs.Prelude.{Some, None}
use Rattle.variants.specs.Ways.{Among, Numbers, OnRead, VariantAt, base_at, base_read, count_of, found_of, is_at, kind_table, named_table, wanted_of}
use Rattle.variants.specs.declared.Positions.{Positions}
use Rattle.variants.proofs.UnionReading.{on_read}
use Rattle.turns.specs.declared.Due.{Due}
use Rattle.turns.specs.declared.Spot.{Spot}
use Rattle.turns.specs.declared.Turn.{Turn}
use Rattle.turns.specs.declared.Way.{Way}
use Rattle.turns.specs.Turns.{UnionPart, Goes, NamedIs, NamedTells, Skipped, Skips, Splits, Tells, Tries, NoneLeft, Wants, position_at, tree_of}
use Rattle.turns.proofs.PartLaws.{part_count, named-below, table_below, base_there}
use Rattle.turns.proofs.Positions.{splits-all}

pub found_at : (x : Option ℕ) (u : ℕ) → Some u ≡ found_of x → x ≡ some u
unfolding found_of
found_at none u e = let z : ◌≡◌ {A = ℕ} 0 1 = cc in absurd (omega arith)
found_at (some i) u e = let f : u ≡ i = cc in ap some (sym f)

pub found_none : (x : Option ℕ) → None ≡ found_of x → x ≡ none
unfolding found_of
found_none none e = refl
found_none (some i) e = let z : ◌≡◌ {A = ℕ} 0 1 = cc in absurd (omega arith)

is-at-found : (f : std.Option ℕ) (i : ℕ) → is_at f i ≡ true → f ≡ Some i
unfolding is_at
is-at-found (Some u) i e = ap Some (eqb-true u i e)
is-at-found None i e = let z : ◌≡◌ {A = ℕ} 0 1 = cc in absurd (omega arith)

-- ---- what the choice goes by

module _ (d : ℕ) (s : List ℕ) (q : UnionPart d s) (kind : ℕ) (x : std.Option ℕ) (e : wanted_of x ≡ unnamed_kind kind) (table : std.Option ℕ) (h : OnRead (λ t. table ≡ found_of (table_lookup (kind_table t) (wanted_of x))) (read_schema d s)) where
  table_is : table ≡ found_of (table_lookup (kind_table q.schema.tree) (unnamed_kind kind))
  table_is = on_read (λ t. table ≡ found_of (table_lookup (kind_table t) (wanted_of x))) _ q.schema.tree q.schema.rest q.schema.reads h ∙ ap (λ k. found_of (table_lookup (kind_table q.schema.tree) k)) e

  pub goes-unnamed : (y : std.Option ℕ) → wanted_of y ≡ named_kind kind → y ≡ None → (way : Way) → way ≡ record { table = table; kind = 0; at = 0; count = 0; before = 0; rises = true } → (g : Goes d s way) × (g.kind ≡ kind)
  unfolding Wants wanted_of
  goes-unnamed y f z way w = subst (λ m. (g : Goes d s m) × (g.kind ≡ kind)) (sym w) (
    record {
      part = q;
      kind = kind;
      named = [];
      table = table_is;
      wants = inr (sym f ∙ ap wanted_of z, refl);
      numbers = record { inside = omega arith; counted = refl; each = λ j l. absurd (omega arith) };
      splits = splits-all s 0 0 table;
    },
    refl,
  )

  pub goes-named : (y : std.Option ℕ) → wanted_of y ≡ named_kind kind → (k : ℕ) → y ≡ Some k → (p : Positions) → OnRead (λ t. Numbers s (named_table t) p) (read_schema d s) → (b : ℕ) (r : Bool) → Splits s p.at p.count table b
      → (way : Way) → way ≡ record { table = table; kind = k; at = p.at; count = p.count; before = b; rises = r } → (g : Goes d s way) × (g.kind ≡ kind)
  unfolding Wants wanted_of
  goes-named y f k z p n b r c way w = subst (λ m. (g : Goes d s m) × (g.kind ≡ kind)) (sym w) (
    record {
      part = q;
      kind = kind;
      named = named_table q.schema.tree;
      table = table_is;
      wants = inl (sym f ∙ ap wanted_of z, refl);
      numbers = on_read (λ t. Numbers s (named_table t) p) _ q.schema.tree q.schema.rest q.schema.reads n;
      splits = c;
    },
    refl,
  )

-- ---- positions that are gone through

module _ {d : ℕ} {s : List ℕ} {way : Way} (g : Goes d s way) where
  pub before-count : way.before ≤ way.count
  unfolding Splits
  before-count = g.splits.0

  pub named_in : (j : ℕ) → j < way.count → get_or g.named j 0 < count_of (tree_of g)
  unfolding Wants
  named_in j h = ⊎_elim all none_of g.wants
    where
      all : (named_kind g.kind ≡ some way.kind) × (g.named ≡ named_table (tree_of g)) → get_or g.named j 0 < count_of (tree_of g)
      all e = subst (λ l. get_or l j 0 < count_of (tree_of g)) (sym e.1) (named-below d s g.part j (omega (arith, h, g.numbers.counted, ap length e.1)))

      none_of : (named_kind g.kind ≡ none) × (g.named ≡ []) → get_or g.named j 0 < count_of (tree_of g)
      none_of e = absurd (omega (arith, h, g.numbers.counted, ap length e.1))

  pub table-in : (u : ℕ) → way.table ≡ Some u → u < count_of (tree_of g)
  table-in u e = table_below d s g.part (unnamed_kind g.kind) u (found_at _ u (sym e ∙ g.table))

  pub position-is : (i j : ℕ) → j < way.count → i ≡ position_at s way.at j → get_or g.named j 0 ≡ i
  position-is i j h e = sym (g.numbers.each j h) ∙ sym e

  base-is : (i at b : ℕ) → VariantAt d s i at → i < count_of (tree_of g) → b ≡ base_read (read_schema (d - 1) (drop at s)) → base_at (tree_of g) i ≡ b
  base-is i at b p h e = sym (e ∙ base_there d s g.part i at p h)

  -- ---- a named position

  module _ (j end : ℕ) (skip : std.Option ℕ) (c : end ≤ way.count) where
    pub named_end : (o : Spot) → VariantAt d s o.position o.at → end ≤ j → NamedTells g j end skip (Due.Not o)
    unfolding NamedTells
    named_end o p h = (p, λ l. absurd (omega arith))

    module _ (h : j < end) (n : ℕ) (e : n ≡ position_at s way.at j) where
      pub named-skip : (o : Spot) → VariantAt d s o.position o.at → is_at skip n ≡ true → NamedTells g j end skip (Due.Not o)
      unfolding NamedTells
      named-skip o p f = (p, λ l. inr (is-at-found skip n f ∙ ap Some (sym (position-is n j (omega arith) e))))

      pub named-stood : (o : Spot) → VariantAt d s o.position o.at → Among s way.at j n true → NamedTells g j end skip (Due.Not o)
      unfolding NamedTells Skipped Among
      named-stood o p f =
          (p, λ l. inl (inr (f.0, (f.1.0, position-is n f.0 (omega (arith, f.1.0)) (sym f.1.1) ∙ sym (position-is n j (omega arith) e)))))

      place : n < count_of (tree_of g)
      place = rw (sym (position-is n j (omega arith) e)) (named_in j (omega arith))

      module _ (at b : ℕ) (p : VariantAt d s n at) (f : b ≡ base_read (read_schema (d - 1) (drop at s))) where
        pub named_other : (b ≡ way.kind → ⊥) → NamedTells g j end skip (Due.Not (record { position = n; at = at }))
        unfolding NamedTells Skipped
        named_other z = (p, λ l. inl (inl (λ y. z (sym (base-is n at b p place f) ∙ ap (base_at (tree_of g)) (sym (position-is n j (omega arith) e)) ∙ y))))

        pub named-due : b ≡ way.kind → NamedTells g j end skip (Due.At (record { position = n; at = at }))
        unfolding NamedTells NamedIs
        named-due z = (place, (p, (h, (position-is n j (omega arith) e, base-is n at b p place f ∙ z))))

  -- ---- the table's position, and any other

  pub table_none : (o : Spot) → VariantAt d s o.position o.at → way.table ≡ None → Tells g Turn.Table (Due.Not o)
  unfolding Tells Skips
  table_none o p e = (p, e)

  pub table-due : (u at : ℕ) → VariantAt d s u at → way.table ≡ Some u → Tells g Turn.Table (Due.At (record { position = u; at = at }))
  unfolding Tells Tries
  table-due u at p e = (table-in u e, (p, e))

  pub any-over : (i n : ℕ) → n ≡ number_at s 1 2 → n ≤ i → Tells g (Turn.Any i) Due.Over
  unfolding Tells NoneLeft
  any-over i n e h = omega (arith, part_count d s g.part)

  module _ (i at n : ℕ) (p : VariantAt d s i at) (e : n ≡ number_at s 1 2) (h : i < n) where
    in_union : i < count_of (tree_of g)
    in_union = omega (arith, part_count d s g.part)

    pub any-due : Tells g (Turn.Any i) (Due.At (record { position = i; at = at }))
    unfolding Tells Tries
    any-due = (in_union, (p, refl))

    pub any-table : is_at way.table i ≡ true → Tells g (Turn.Any i) (Due.Not (record { position = i; at = at }))
    unfolding Tells Skips
    any-table f = (p, (in_union, inl (is-at-found way.table i f)))

    pub any-named : (b : ℕ) → b ≡ base_read (read_schema (d - 1) (drop at s)) → b ≡ way.kind → Among s way.at way.count i true → Tells g (Turn.Any i) (Due.Not (record { position = i; at = at }))
    unfolding Tells Skips Among NamedIs
    any-named b f z m = (p, (in_union, inr (m.0, (m.1.0, (position-is i m.0 m.1.0 (sym m.1.1), base-is i at b p in_union f ∙ z)))))

  -- ---- the turns of named positions

  pub tells-before : (j : ℕ) (r : Due) → NamedTells g j way.before None r → Tells g (Turn.Before j) r
  unfolding NamedTells Tells Tries Skips
  tells-before j (Due.At o) h = h
  tells-before j (Due.Not o) h = (h.0, λ l. ⊎_elim (λ x. x) (λ e. let z : ◌≡◌ {A = ℕ} 0 1 = cc in absurd (omega arith)) (h.1 l))
  tells-before j Due.Over h = absurd h

  pub tells-behind : (j : ℕ) (r : Due) → NamedTells g j way.count way.table r → Tells g (Turn.Behind j) r
  unfolding NamedTells Tells Tries Skips
  tells-behind j (Due.At o) h = h
  tells-behind j (Due.Not o) h = h
  tells-behind j Due.Over h = absurd h
