-- The first variant that stands in its turn is the crate's choice: what is known grows from turn to turn, and decides at the end.
use Prim.Native.Nat.{ℕ, ◌+◌, ◌-◌, ◌≤◌, ◌<◌}
use mathlib.Core.Path.{◌≡◌, refl, sym, ap, ◌∙◌, subst}
use mathlib.Core.Logic.{⊎_elim}
use mathlib.Core.List.{List, []}
use mathlib.Core.Option.{Option, none, some}
use mathlib.Core.Bool.{Bool, true, false, ◌&&◌}
use native.Mathlib.Omega.{arith}
use borrow.Author.Count.{below_more}
use lib.Dec.{ltb, eqb}
use lib.ListN.{length, get_or}
use borrow.Author.Tests.{lt-ltb, ltb-true, ltb-false, not-true, not-false}
use Rattle.base.specs.Base.{when◌then◌else◌, accepted}
use Rattle.frame.specs.Tree.{Value}
use Rattle.avro.specs.Union.{Trial, no_trial, choose, find_schema_with_known_schemata, must_be_tried, named_kind, named_variant, position_of, table_lookup, take_variant, takes, unnamed_kind, unnamed_variant}
use Rattle.avro.proofs.UnionLaws.{none-some, take-accepted, take-untried, take-refused, first-none, first-at, named_none, named-at, named-any, named-is, takes-by, takes-other, chosen-both, chosen-trial}
use Rattle.std.specs.Prelude as std
use Rattle.std.specs.Prelude.{Some, None}
use Rattle.variants.specs.Ways.{base_at, count_of, kind_table, named_table, union_variants, variant_nth}
use Rattle.turns.specs.declared.Turn.{Turn}
use Rattle.turns.specs.declared.Way.{Way}
use Rattle.turns.specs.Turns.{Goes, ToldBefore, NamedIs, NoneTaken, NotBelow, Passes, Skipped, Skips, Splits, NoneLeft, Tries, Untaken, Wants, Beaten, chosen_for, is_last, next_turn, sooner_than, table_before, resolves, tree_of, trials_for, turns_left}
use Rattle.turns.proofs.PartLaws.{trial_of, trial-nth, trials-length}
use Rattle.turns.proofs.DueLaws.{before-count, found_at, found_none, named_in}

module _ {d : ℕ} {s : List ℕ} {way : Way} (g : Goes d s way) (w : Value) where
  -- ---- the trials

  pub trial-is : (i : ℕ) → i < count_of (tree_of g) → get_or (trials_for g w) i no_trial ≡ trial_of (variant_nth (tree_of g) i) w
  trial-is i h = trial-nth (union_variants (tree_of g)) w i _ h

  base-is : (i : ℕ) → i < count_of (tree_of g) → (get_or (trials_for g w) i no_trial).base ≡ base_at (tree_of g) i
  unfolding base_at
  base-is i h = ap (λ (t : Trial). t.base) (trial-is i h)

  count-is : length (trials_for g w) ≡ count_of (tree_of g)
  count-is = trials-length (union_variants (tree_of g)) w

  -- ---- the named positions and the table's

  table : Option ℕ
  table = table_lookup (kind_table (tree_of g)) (unnamed_kind g.kind)

  wanted : named_variant (trials_for g w) (named_table (tree_of g)) (named_kind g.kind) ≡ named_variant (trials_for g w) g.named (some way.kind)
  unfolding Wants named_variant
  wanted = ⊎_elim all none_of g.wants
    where
      all : (named_kind g.kind ≡ some way.kind) × (g.named ≡ named_table (tree_of g)) → named_variant (trials_for g w) (named_table (tree_of g)) (named_kind g.kind) ≡ named_variant (trials_for g w) g.named (some way.kind)
      all e = ap (named_variant (trials_for g w) (named_table (tree_of g))) e.0 ∙ ap (λ l. named_variant (trials_for g w) l (some way.kind)) (sym e.1)

      none_of : (named_kind g.kind ≡ none) × (g.named ≡ []) → named_variant (trials_for g w) (named_table (tree_of g)) (named_kind g.kind) ≡ named_variant (trials_for g w) g.named (some way.kind)
      none_of e = ap (named_variant (trials_for g w) (named_table (tree_of g))) e.0 ∙ named-any (trials_for g w) (named_table (tree_of g)) ∙ sym (ap (λ l. named_variant (trials_for g w) l (some way.kind)) e.1)

  chosen_by : (x y : Option ℕ) → take_variant (trials_for g w) table ≡ x → named_variant (trials_for g w) g.named (some way.kind) ≡ y → chosen_for g w ≡ position_of (choose (trials_for g w) x y)
  unfolding chosen_for find_schema_with_known_schemata unnamed_variant table
  chosen_by x y e f = ap (λ z. position_of (choose (trials_for g w) z (named_variant (trials_for g w) (named_table (tree_of g)) (named_kind g.kind)))) e ∙ ap (λ z. position_of (choose (trials_for g w) x z)) (wanted ∙ f)

  found_first : (j i : ℕ) → j < way.count → NoneTaken g w j → NamedIs g j i → resolves g w i ≡ true → named_variant (trials_for g w) g.named (some way.kind) ≡ some i
  unfolding NoneTaken NamedIs
  found_first j i h n e a =
      let b : i < count_of (tree_of g) = subst (λ m. m < count_of (tree_of g)) e.0 (named_in g j h) in
      let t : takes way.kind (trials_for g w) i ≡ true = takes-by way.kind (trials_for g w) i (base-is i b ∙ e.1) ∙ a in
      named-at (trials_for g w) g.named way.kind j (omega (arith, g.numbers.counted)) n (ap (takes way.kind (trials_for g w)) e.0 ∙ t) ∙ ap some e.0

  none_found : NoneTaken g w way.count → named_variant (trials_for g w) g.named (some way.kind) ≡ none
  unfolding NoneTaken
  none_found n = named_none (trials_for g w) g.named way.kind (λ j l. n j (omega (arith, g.numbers.counted)))

  untaken-fails : (u : ℕ) → Untaken g w → way.table ≡ Some u → resolves g w u ≡ false
  unfolding Untaken
  untaken-fails u h e = go (accepted (get_or (trials_for g w) u no_trial).outcome) refl
    where
      go : (b : Bool) → accepted (get_or (trials_for g w) u no_trial).outcome ≡ b → b ≡ false
      go false p = refl
      go true p = none-some _ u h (ap (take_variant (trials_for g w)) (found_at _ u (sym e ∙ g.table)) ∙ take-accepted (trials_for g w) u p)

  table_taken : (u : ℕ) → way.table ≡ Some u → (x : Option ℕ) → take_variant (trials_for g w) (some u) ≡ x → take_variant (trials_for g w) table ≡ x
  unfolding table
  table_taken u e x f = ap (take_variant (trials_for g w)) (found_at _ u (sym e ∙ g.table)) ∙ f

  table-untaken : way.table ≡ None → Untaken g w
  unfolding Untaken take_variant
  table-untaken e = ap (take_variant (trials_for g w)) (found_none _ (sym e ∙ g.table))

  -- ---- what is known

  pub known_start : ToldBefore g w (Turn.Before 0)
  unfolding ToldBefore NoneTaken
  known_start = (omega arith, λ m l. absurd (omega arith))

  taken_more : (j : ℕ) → NoneTaken g w j → takes way.kind (trials_for g w) (get_or g.named j 0) ≡ false → NoneTaken g w (j + 1)
  unfolding NoneTaken
  taken_more j n e = below_more (λ m. takes way.kind (trials_for g w) (get_or g.named m 0) ≡ false) j n e

  taken_as : (i j : ℕ) → i ≡ j → NoneTaken g w i → NoneTaken g w j
  taken_as i j e n = subst (NoneTaken g w) e n

  pub known_next : (turn : Turn) → ToldBefore g w turn → Passes g w turn → ToldBefore g w (next_turn way turn)
  unfolding ToldBefore Passes next_turn
  known_next (Turn.Before j) k p = go (ltb j way.before) refl
    where
      go : (b : Bool) → ltb j way.before ≡ b → ToldBefore g w (when b then Turn.Before (j + 1) else Turn.Table)
      go true e = let l = ltb-true j way.before e in (omega arith, taken_more j k.1 (p l))
      go false e = taken_as j way.before (omega (arith, k.0, ltb-false j way.before e)) k.1
  known_next Turn.Table k p = (omega arith, (before-count g, (k, p)))
  known_next (Turn.Behind j) k p = go (ltb j way.count) refl
    where
      go : (b : Bool) → ltb j way.count ≡ b → ToldBefore g w (when b then Turn.Behind (j + 1) else Turn.Any 0)
      go true e = let l = ltb-true j way.count e in (omega (arith, k.0), (omega arith, (taken_more j k.1.1.0 (p l), k.1.1.1)))
      go false e = (omega arith, (taken_as j way.count (omega (arith, k.1.0, ltb-false j way.count e)) k.1.1.0, (k.1.1.1, λ m l. absurd (omega arith))))
  known_next (Turn.Any i) k p = (omega (arith, p.0), (k.1.0, (k.1.1.0, below_more (λ m. resolves g w m ≡ false) i k.1.1.1 p.1)))

  pub turns-fewer : (turn : Turn) → ToldBefore g w turn → Passes g w turn → turns_left (count_of (tree_of g)) way (next_turn way turn) < turns_left (count_of (tree_of g)) way turn
  unfolding ToldBefore Passes next_turn turns_left
  turns-fewer (Turn.Before j) k p = go (ltb j way.before) refl
    where
      go : (b : Bool) → ltb j way.before ≡ b → turns_left (count_of (tree_of g)) way (when b then Turn.Before (j + 1) else Turn.Table) < way.before - j + (way.count + count_of (tree_of g) + 4)
      go true e = omega (arith, ltb-true j way.before e)
      go false e = omega arith
  turns-fewer Turn.Table k p = omega (arith, before-count g)
  turns-fewer (Turn.Behind j) k p = go (ltb j way.count) refl
    where
      go : (b : Bool) → ltb j way.count ≡ b → turns_left (count_of (tree_of g)) way (when b then Turn.Behind (j + 1) else Turn.Any 0) < way.count - j + (count_of (tree_of g) + 2)
      go true e = omega (arith, ltb-true j way.count e)
      go false e = omega arith
  turns-fewer (Turn.Any i) k p = omega (arith, p.0)

  -- ---- a turn that tries nothing

  skipped-fails : (j : ℕ) → j < way.count → NoneTaken g w j → Skipped g j → takes way.kind (trials_for g w) (get_or g.named j 0) ≡ false
  unfolding Skipped NoneTaken
  skipped-fails j h n z = ⊎_elim other again z
    where
      other : (base_at (tree_of g) (get_or g.named j 0) ≡ way.kind → ⊥) → takes way.kind (trials_for g w) (get_or g.named j 0) ≡ false
      other f = takes-other way.kind (trials_for g w) _ (λ e. f (sym (base-is _ (named_in g j h)) ∙ e))

      again : ((m : ℕ) × ((m < j) × (get_or g.named m 0 ≡ get_or g.named j 0))) → takes way.kind (trials_for g w) (get_or g.named j 0) ≡ false
      again f = ap (takes way.kind (trials_for g w)) (sym f.1.1) ∙ n f.0 f.1.0

  -- a named position whose variant does not resolve is not taken
  refused-fails : (i : ℕ) → resolves g w i ≡ false → takes way.kind (trials_for g w) i ≡ false
  unfolding takes
  refused-fails i e = ap (λ b. eqb (get_or (trials_for g w) i no_trial).base way.kind && b) e ∙ go (eqb (get_or (trials_for g w) i no_trial).base way.kind)
    where
      go : (b : Bool) → (b && false) ≡ false
      go true = refl
      go false = refl

  pub skips-pass : (turn : Turn) → ToldBefore g w turn → Skips g turn → Passes g w turn
  unfolding ToldBefore Skips Passes NamedIs NoneTaken
  skips-pass (Turn.Before j) k z = λ l. skipped-fails j (omega (arith, l, before-count g)) k.1 (z l)
  skips-pass Turn.Table k z = table-untaken z
  skips-pass (Turn.Behind j) k z = λ l. ⊎_elim (skipped-fails j l k.1.1.0) (λ e. refused-fails _ (untaken-fails _ k.1.1.1 e)) (z l)
  skips-pass (Turn.Any i) k z = (z.0, ⊎_elim (λ e. untaken-fails i k.1.1.0 e) named z.1)
    where
      named : ((j : ℕ) × ((j < way.count) × NamedIs g j i)) → resolves g w i ≡ false
      named f =
          let t : takes way.kind (trials_for g w) i ≡ false = ap (takes way.kind (trials_for g w)) (sym f.1.1.0) ∙ k.1.0 f.0 f.1.0 in
          sym (takes-by way.kind (trials_for g w) i (base-is i z.0 ∙ f.1.1.1)) ∙ t

  -- ---- a turn whose variant does not resolve

  pub refused-pass : (turn : Turn) (i : ℕ) → i < count_of (tree_of g) → Tries g turn i → resolves g w i ≡ false → is_last turn (must_be_tried (get_or (trials_for g w) i no_trial).kind) ≡ false → Passes g w turn
  unfolding Tries NamedIs Passes is_last Untaken table
  refused-pass (Turn.Before j) i h z e f = λ l. refused-fails _ (ap (resolves g w) z.1.0 ∙ e)
  refused-pass Turn.Table i h z e f = table_taken i z none (take-refused (trials_for g w) i (not-false _ f) e)
  refused-pass (Turn.Behind j) i h z e f = λ l. refused-fails _ (ap (resolves g w) z.1.0 ∙ e)
  refused-pass (Turn.Any n) i h z e f = subst (λ m. (m < count_of (tree_of g)) × (resolves g w m ≡ false)) (sym z) (h, e)

  -- ---- the choice

  -- behind the table's position no named one comes before it
  table-first : (u : ℕ) → NoneTaken g w way.before → way.table ≡ Some u → take_variant (trials_for g w) (some u) ≡ some u → chosen_for g w ≡ some u
  unfolding choose position_of NoneTaken Splits NotBelow
  table-first u n e f = go (named_variant (trials_for g w) g.named (some way.kind)) refl
    where
      later : (i : ℕ) → named_variant (trials_for g w) g.named (some way.kind) ≡ some i → u ≤ i
      later i p =
          let q = named-is (trials_for g w) g.named way.kind i p in
          let l : q.0 < way.count = omega (arith, q.1.0, g.numbers.counted) in
          split i q.0 l q.1.1.0 q.1.1.1.0 (ltb q.0 way.before) refl
        where
          split : (i j : ℕ) → j < way.count → get_or g.named j 0 ≡ i → takes way.kind (trials_for g w) i ≡ true → (b : Bool) → ltb j way.before ≡ b → u ≤ i
          split i j l a t true r = let z : true ≡ false = sym t ∙ ap (takes way.kind (trials_for g w)) (sym a) ∙ n j (ltb-true j way.before r) in let y : ◌≡◌ {A = ℕ} 0 1 = cc in absurd (omega arith)
          split i j l a t false r = omega (arith, (g.splits.1 u e).1 j (ltb-false j way.before r) l, g.numbers.each j l, a)

      go : (y : Option ℕ) → named_variant (trials_for g w) g.named (some way.kind) ≡ y → chosen_for g w ≡ some u
      go none p = chosen_by (some u) none (table_taken u e (some u) f) p
      go (some i) p = chosen_by (some u) (some i) (table_taken u e (some u) f) p ∙ chosen-both (trials_for g w) u i ∙ pick (ltb u i) refl
        where
          pick : (b : Bool) → ltb u i ≡ b → (when b then some u else some i) ≡ some u
          pick true r = refl
          pick false r = ap some (omega (arith, later i p, ltb-false u i r))

  -- a named position that is not behind the table's
  named-first : (i : ℕ) → named_variant (trials_for g w) g.named (some way.kind) ≡ some i → sooner_than way.table i ≡ None → chosen_for g w ≡ some i
  unfolding choose position_of sooner_than Untaken table
  named-first i p h = go way.table refl h
    where
      go : (x : std.Option ℕ) → way.table ≡ x → sooner_than x i ≡ None → chosen_for g w ≡ some i
      go None e f = chosen_by none (some i) (table-untaken e) p
      go (Some u) e f = split (must_be_tried (get_or (trials_for g w) u no_trial).kind) (resolves g w u) refl refl
        where
          not-sooner : (b : Bool) → (when b then Some u else None) ≡ None → b ≡ false
          not-sooner false y = refl
          not-sooner true y = let z : ◌≡◌ {A = ℕ} 0 1 = cc in absurd (omega arith)

          here : take_variant (trials_for g w) (some u) ≡ some u → chosen_for g w ≡ some i
          here z = chosen_by (some u) (some i) (table_taken u e (some u) z) p ∙ chosen-both (trials_for g w) u i ∙ ap (λ b. when b then some u else some i) (not-sooner (ltb u i) f)

          split : (a b : Bool) → must_be_tried (get_or (trials_for g w) u no_trial).kind ≡ a → resolves g w u ≡ b → chosen_for g w ≡ some i
          split false b y z = here (take-untried (trials_for g w) u y)
          split true true y z = here (take-accepted (trials_for g w) u z)
          split true false y z = chosen_by none (some i) (table_taken u e none (take-refused (trials_for g w) u y z)) p

  pub accepted-chosen : (turn : Turn) (i : ℕ) → i < count_of (tree_of g) → ToldBefore g w turn → Tries g turn i → resolves g w i ≡ true → table_before way.table i turn ≡ None → chosen_for g w ≡ some i
  unfolding ToldBefore Tries table_before choose position_of Untaken table
  accepted-chosen (Turn.Before j) i h k z e f = named-first i (found_first j i (omega (arith, z.0, before-count g)) k.1 z.1 e) f
  accepted-chosen Turn.Table i h k z e f = table-first i k z (take-accepted (trials_for g w) i e)
  accepted-chosen (Turn.Behind j) i h k z e f = chosen_by none (some i) k.1.1.1 (found_first j i z.0 k.1.1.0 z.1 e)
  accepted-chosen (Turn.Any n) i h k z e f =
      chosen_by none none k.1.1.0 (none_found k.1.0)
      ∙ chosen-trial (trials_for g w)
      ∙ first-at (trials_for g w) i (omega (arith, count-is)) (λ m l. k.1.1.1 m (omega (arith, z))) e

  pub last-chosen : (turn : Turn) (i : ℕ) → ToldBefore g w turn → Tries g turn i → is_last turn (must_be_tried (get_or (trials_for g w) i no_trial).kind) ≡ true → chosen_for g w ≡ some i
  unfolding ToldBefore Tries is_last
  last-chosen (Turn.Before j) i k z f = let y : ◌≡◌ {A = ℕ} 0 1 = cc in absurd (omega arith)
  last-chosen Turn.Table i k z f = table-first i k z (take-untried (trials_for g w) i (not-true _ f))
  last-chosen (Turn.Behind j) i k z f = let y : ◌≡◌ {A = ℕ} 0 1 = cc in absurd (omega arith)
  last-chosen (Turn.Any n) i k z f = let y : ◌≡◌ {A = ℕ} 0 1 = cc in absurd (omega arith)

  pub none-chosen : (turn : Turn) → ToldBefore g w turn → NoneLeft g turn → chosen_for g w ≡ none
  unfolding ToldBefore NoneLeft choose position_of Untaken table
  none-chosen (Turn.Before j) k z = absurd z
  none-chosen Turn.Table k z = absurd z
  none-chosen (Turn.Behind j) k z = absurd z
  none-chosen (Turn.Any i) k z =
      chosen_by none none k.1.1.0 (none_found k.1.0) ∙ chosen-trial (trials_for g w) ∙ first-none (trials_for g w) (λ m l. k.1.1.1 m (omega (arith, count-is)))

  -- ---- a named position behind the table's, whose variant resolves

  pub beaten : (turn : Turn) (i u : ℕ) → ToldBefore g w turn → Tries g turn i → resolves g w i ≡ true → table_before way.table i turn ≡ Some u → Beaten g w u i
  unfolding ToldBefore Tries table_before sooner_than
  beaten (Turn.Before j) i u k z e f =
      let b = go way.table refl f in
      record { named = found_first j i (omega (arith, z.0, before-count g)) k.1 z.1 e; table = b.0; behind = b.1 }
    where
      go : (x : std.Option ℕ) → way.table ≡ x → sooner_than x i ≡ Some u → (way.table ≡ Some u) × (u < i)
      go (Some m) e h = pick (ltb m i) refl h
        where
          pick : (b : Bool) → ltb m i ≡ b → (when b then Some m else None) ≡ Some u → (way.table ≡ Some u) × (u < i)
          pick true p q = let y : m ≡ u = cc in (e ∙ q, omega (arith, ltb-true m i p))
          pick false p q = let y : ◌≡◌ {A = ℕ} 0 1 = cc in absurd (omega arith)
      go None e h = let y : ◌≡◌ {A = ℕ} 0 1 = cc in absurd (omega arith)
  beaten Turn.Table i u k z e f = let y : ◌≡◌ {A = ℕ} 0 1 = cc in absurd (omega arith)
  beaten (Turn.Behind j) i u k z e f = let y : ◌≡◌ {A = ℕ} 0 1 = cc in absurd (omega arith)
  beaten (Turn.Any n) i u k z e f = let y : ◌≡◌ {A = ℕ} 0 1 = cc in absurd (omega arith)

  module _ (u i : ℕ) (b : Beaten g w u i) where
    over-named : take_variant (trials_for g w) (some u) ≡ some u → chosen_for g w ≡ some u
    unfolding choose position_of
    over-named e = chosen_by (some u) (some i) (table_taken u b.table (some u) e) b.named ∙ chosen-both (trials_for g w) u i ∙ ap (λ x. when x then some u else some i) (lt-ltb u i b.behind)

    pub beaten-accepted : resolves g w u ≡ true → chosen_for g w ≡ some u
    beaten-accepted e = over-named (take-accepted (trials_for g w) u e)

    pub beaten-untried : must_be_tried (get_or (trials_for g w) u no_trial).kind ≡ false → chosen_for g w ≡ some u
    beaten-untried e = over-named (take-untried (trials_for g w) u e)

    pub beaten-refused : must_be_tried (get_or (trials_for g w) u no_trial).kind ≡ true → resolves g w u ≡ false → chosen_for g w ≡ some i
    unfolding choose position_of
    beaten-refused e f = chosen_by none (some i) (table_taken u b.table none (take-refused (trials_for g w) u e f)) b.named

    pub beaten-in : i < count_of (tree_of g)
    beaten-in =
        let q = named-is (trials_for g w) g.named way.kind i b.named in
        subst (λ m. m < count_of (tree_of g)) q.1.1.0 (named_in g q.0 (omega (arith, q.1.0, g.numbers.counted)))
