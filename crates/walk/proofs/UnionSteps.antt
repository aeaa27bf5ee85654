-- Union resolution over parts, at each place of its functions: what a variant's trial and a turn say of the union's bytes.
use Prim.Native.Nat.{ℕ, ◌-◌, ◌<◌, min}
use mathlib.Core.Path.{◌≡◌, refl, sym, ap, ◌∙◌, subst}
use mathlib.Core.List.{List, [], ◌∷◌, ◌++◌}
use mathlib.Core.Option.{Option, none, some}
use mathlib.Core.Bool.{Bool, true, false}
use native.Mathlib.Omega.{arith}
use lib.ListN.{length, take, drop, get_or, length-append, drop_of_length-le}
use lib.Seq.{drop_at, length-take-le}
use Rattle.base.specs.Base.{Result, ok, stop, after, ◌>>=◌, accepted}
use Rattle.number.specs.Number.{bytes_of, number_at}
use Rattle.number.proofs.Laws.{get_or-all_bytes, number_at-<}
use Rattle.text.specs.Measured.{Reads}
use Rattle.frame.specs.Tree.{Value, Schema, Variants, kind_of, schema_kind, peel}
use Rattle.frame.specs.ValueFrame.{read_value, encode_value}
use Rattle.frame.specs.SchemaFrame as frame
use Rattle.frame.specs.SchemaFrame.{read_schema}
use Rattle.frame.proofs.Reading.{reads-some}
use Rattle.frame.proofs.ValueNodes.{value-kind}
use Rattle.types.specs.Types.{Outcome}
use Rattle.types.specs.Contract.{encoded, on_both}
use Rattle.buffer.specs.Built.{Built, Wrote}
use Rattle.std.specs.Prelude as std
use Rattle.std.specs.Prelude.{Ok, Err, Some, None}
use Rattle.base.specs.declared.refusal.Refusal.{Refusal}
use Rattle.base.specs.declared.refusal.Refusal.TheVariants.{NoVariant}
use Rattle.buffer.proofs.BuiltLaws.{tail-back, wrote-refused}
use Rattle.avro.specs.Union.{Trial, no_trial, find_schema_with_known_schemata, in_union, must_be_tried, resolve_union}
use Rattle.avro.specs.Resolve.{resolve, trials}
use Rattle.leaf.specs.Leaf.{resolve_peeled, peeled_bytes}
use Rattle.leaf.proofs.LeafSchemas.{wrote-eq}
use Rattle.variants.specs.Ways.{OnRead, Ready, VariantAt, count_of, kind_table, named_table, union_variants, variant_nth, union_parts}
use Rattle.variants.proofs.UnionReading.{on_read, union-parts}
use Rattle.turns.specs.Turns.{Goes, ToldBefore, Tells, UnionPart, Within, chosen_for, is_last, next_turn, resolves, table_before, tree_of, trials_for, turns_left}
use Rattle.turns.specs.declared.Due.{Due}
use Rattle.turns.specs.declared.Spot.{Spot}
use Rattle.turns.specs.declared.Turn.{Turn}
use Rattle.turns.specs.declared.Way.{Way}
use Rattle.turns.proofs.PartLaws.{part-start, part-long, part_count, variant-read}
use Rattle.turns.proofs.TurnLaws.{known_start, known_next, turns-fewer, skips-pass, refused-pass, accepted-chosen, last-chosen, none-chosen, beaten, beaten-accepted, beaten-untried, beaten-refused, beaten-in, trial-is}
use Rattle.turns.proofs.DueLaws.{table-in}
use Rattle.walk.specs.Contract.{NodeOf, node_bytes, indexed_bytes}
use Rattle.walk.specs.UnionContract.{EitherNode, Going, TurnPassed, Steps, Turning}
use Rattle.walk.specs.declared.Step.{Step}
use Rattle.walk.specs.declared.Walk.{Walk}

-- ---- a result behind its index

-- what was written from the sixth byte on
sixth-on : (k : ℕ) (o y : List ℕ) → k ≡ min 5 (length o) → length y ≡ length o - k → drop 5 (take k o ++ y) ≡ y
sixth-on k o y h l = go y l
  where
    tk : length (take k o) ≡ k
    tk = length-take-le k o (omega arith)

    go : (y : List ℕ) → length y ≡ length o - k → drop 5 (take k o ++ y) ≡ y
    go [] l = drop_of_length-le (take k o ++ []) {i = 5} (omega (arith, tk, length-append (take k o) []))
    go (b ∷ ys) l = let z : k ≡ 5 = omega arith in drop_at (take k o) (b ∷ ys) 5 (tk ∙ z)

-- a variant's bytes behind its index
union-bytes : (x : Outcome) (i : ℕ) (o o' : List ℕ) (m n : ℕ) → Wrote (encoded x) o (Ok m) → ((c : List ℕ) → Built c o m → Built (10 ∷ bytes_of 4 i ++ c) o' n) → Wrote (encoded (x >>= (λ r. ok (Value.Union i r)))) o' (Ok n)
unfolding Wrote encoded after encode_value
union-bytes (ok v) i o o' m n w f = f (encode_value v) w
union-bytes (stop e) i o o' m n w f = absurd w

union-refused : (x : Outcome) (i : ℕ) (o o' : List ℕ) (e : Refusal) → Wrote (encoded x) o (Err e) → Wrote (encoded (x >>= (λ r. ok (Value.Union i r)))) o' (Err e)
unfolding Wrote encoded after
union-refused (ok v) i o o' e w = absurd w
union-refused (stop n) i o o' e w = w

union-accepted : (x : Outcome) (i : ℕ) (o : List ℕ) (n : ℕ) → Wrote (encoded (x >>= (λ r. ok (Value.Union i r)))) o (Ok n) → accepted x ≡ true
unfolding Wrote encoded after accepted
union-accepted (ok v) i o n w = refl
union-accepted (stop e) i o n w = absurd w

union-not : (x : Outcome) (i : ℕ) (o : List ℕ) (e : Refusal) → Wrote (encoded (x >>= (λ r. ok (Value.Union i r)))) o (Err e) → accepted x ≡ false
unfolding Wrote encoded after accepted
union-not (ok v) i o e w = absurd w
union-not (stop n) i o e w = refl

module _ (d dv : ℕ) (s v : List ℕ) (q : Ready d s) (x : Value) (u : List ℕ) (ev : read_value dv v ≡ some (x, u)) (i : ℕ) where
  indexed-is : (f : Schema → Value → Result (List ℕ)) → on_both f (read_schema d s) (read_value dv v) ≡ f q.tree x
  unfolding on_both
  indexed-is f = rw (q.reads, ev)

  pub indexed-accepted : (k : ℕ) (o y : List ℕ) (o' : List ℕ) (m n : ℕ) → k ≡ min 5 (length o) → length y ≡ length o - k → Wrote (on_both node_bytes (read_schema d s) (read_value dv v)) y (Ok m)
      → ((c : List ℕ) → Built c (drop 5 (take k o ++ (y ++ drop (length o - k) (drop k o)))) m → Built (10 ∷ bytes_of 4 i ++ c) o' n)
      → Wrote (on_both (indexed_bytes i) (read_schema d s) (read_value dv v)) o' (Ok n)
  unfolding indexed_bytes node_bytes
  indexed-accepted k o y o' m n h l w f =
      let e : drop 5 (take k o ++ (y ++ drop (length o - k) (drop k o))) ≡ y = ap (drop 5) (tail-back k o y) ∙ sixth-on k o y h l in
      wrote-eq _ _ o' (Ok n) (indexed-is (indexed_bytes i))
      (union-bytes (resolve q.tree x) i y o' m n (wrote-eq _ _ y (Ok m) (sym (indexed-is node_bytes)) w) (subst (λ z. (c : List ℕ) → Built c z m → Built (10 ∷ bytes_of 4 i ++ c) o' n) e f))

  pub indexed-refused : (o o' : List ℕ) (e : Refusal) → Wrote (on_both node_bytes (read_schema d s) (read_value dv v)) o (Err e) → Wrote (on_both (indexed_bytes i) (read_schema d s) (read_value dv v)) o' (Err e)
  unfolding indexed_bytes node_bytes
  indexed-refused o o' e w = wrote-eq _ _ o' (Err e) (indexed-is (indexed_bytes i)) (union-refused (resolve q.tree x) i o o' e (wrote-eq _ _ o (Err e) (sym (indexed-is node_bytes)) w))

-- ---- the union's bytes

peeled-chosen : (t : Schema) (vs : Variants) (ks : List (ℕ × ℕ)) (ns : List ℕ) (x : Value) (k : ℕ) → t ≡ Schema.Union vs ks ns → kind_of x ≡ k
    → peeled_bytes t x ≡ encoded (in_union (trials (union_variants t) x) (find_schema_with_known_schemata (trials (union_variants t) x) (kind_table t) (named_table t) k))
unfolding peeled_bytes resolve_peeled resolve resolve_union peel union_parts
peeled-chosen t vs ks ns x k e f = rw (e, sym f)

module _ (w : Walk) (s v : List ℕ) (way : Way) (g : Going w s v way) where
  abbrev Union : List ℕ → std.Result ℕ Refusal → Type 0
  Union o a = Wrote (on_both peeled_bytes (read_schema w.schema s) (read_value w.value v)) o a

  abbrev part : UnionPart w.schema s
  part = g.goes.part

  on-bytes : (f : Schema → Value → Result (List ℕ)) → on_both f (read_schema w.schema s) (read_value w.value v) ≡ f (tree_of g.goes) g.tree
  unfolding on_both
  on-bytes f = rw (g.goes.part.schema.reads, g.reads)

  union-is : (y : Option ℕ) → chosen_for g.goes g.tree ≡ y → on_both peeled_bytes (read_schema w.schema s) (read_value w.value v) ≡ encoded (in_union (trials_for g.goes g.tree) y)
  unfolding chosen_for
  union-is y e =
      let p = union-parts w.schema s part.schema.tree part.schema.rest part.schema.reads part.kind in
      on-bytes peeled_bytes ∙ peeled-chosen (tree_of g.goes) (frame.variants_of p.variants) p.kinds p.named g.tree g.goes.kind p.is g.kind ∙ ap (λ z. encoded (in_union (trials_for g.goes g.tree) z)) e

  pub union-none : (o : List ℕ) → chosen_for g.goes g.tree ≡ none → Union o (Err NoVariant)
  unfolding in_union encoded
  union-none o e = wrote-eq _ _ o (Err NoVariant) (union-is none e) (wrote-refused NoVariant o)

  -- ---- a variant

  module _ (i at : ℕ) (p : VariantAt w.schema s i at) (h : i < count_of (tree_of g.goes)) where
    abbrev Variant : List ℕ → std.Result ℕ Refusal → Type 0
    Variant o a = Wrote (on_both (indexed_bytes i) (read_schema (w.schema - 1) (drop at s)) (read_value w.value v)) o a

    variant_is : on_both (indexed_bytes i) (read_schema (w.schema - 1) (drop at s)) (read_value w.value v) ≡ encoded (in_union (trials_for g.goes g.tree) (some i))
    unfolding on_both indexed_bytes in_union
    variant_is = rw ((variant-read w.schema s part i at p h).1, g.reads) (ap (λ (t : Trial). encoded (t.outcome >>= (λ r. ok (Value.Union i r)))) (sym (trial-is g.goes g.tree i h)))

    pub variant-chosen : (o : List ℕ) (a : std.Result ℕ Refusal) → chosen_for g.goes g.tree ≡ some i → Variant o a → Union o a
    variant-chosen o a e x = wrote-eq _ _ o a (union-is (some i) e ∙ sym variant_is) x

    pub variant-accepted : (o : List ℕ) (n : ℕ) → Variant o (Ok n) → resolves g.goes g.tree i ≡ true
    unfolding in_union
    variant-accepted o n x = union-accepted (get_or (trials_for g.goes g.tree) i no_trial).outcome i o n (wrote-eq _ _ o (Ok n) (sym variant_is) x)

    pub variant-refused : (o : List ℕ) (e : Refusal) → Variant o (Err e) → resolves g.goes g.tree i ≡ false
    unfolding in_union
    variant-refused o e x = union-not (get_or (trials_for g.goes g.tree) i no_trial).outcome i o e (wrote-eq _ _ o (Err e) (sym variant_is) x)

    -- what a test of the variant's kind says of its trial
    pub kind-told : (f : Bool → Bool) (b : Bool) → OnRead (λ t. b ≡ f (must_be_tried (schema_kind t))) (read_schema (w.schema - 1) (drop at s)) → f (must_be_tried (get_or (trials_for g.goes g.tree) i no_trial).kind) ≡ b
    kind-told f b x =
        let e = variant-read w.schema s part i at p h in
        ap (λ (t : Trial). f (must_be_tried t.kind)) (trial-is g.goes g.tree i h) ∙ sym (on_read (λ t. b ≡ f (must_be_tried (schema_kind t))) _ (variant_nth (tree_of g.goes) i) e.0 e.1 x)

-- ---- one turn

module _ (w : Walk) (s v : List ℕ) (way : Way) (turn : Turn) (position place : ℕ) (t : Turning w s v way turn position place) where
  pub turn-over : (o : List ℕ) → Tells t.going.goes turn Due.Over → Steps w s v way turn o (Step.Ended (Err NoVariant))
  unfolding Tells Steps
  turn-over o e = union-none w s v way t.going o (none-chosen t.going.goes t.going.tree turn t.known e)

  pub turn-skipped : (o : List ℕ) (p : Spot) → Tells t.going.goes turn (Due.Not p) → Steps w s v way turn o (Step.Passed p)
  unfolding Tells Steps
  turn-skipped o p e = record {
    turning = record { going = t.going; there = e.0; known = t.known };
    passes = skips-pass t.going.goes t.going.tree turn t.known e.1;
  }

  module _ (p : Spot) (e : Tells t.going.goes turn (Due.At p)) where
    abbrev i : ℕ
    i = p.position

    abbrev at : ℕ
    at = p.at

    pub due_below : i < count_of (tree_of t.going.goes)
    unfolding Tells
    due_below = e.0

    pub due-there : VariantAt w.schema s i at
    unfolding Tells
    due-there = e.1.0

    pub turn-accepted : (o : List ℕ) (n : ℕ) → Wrote (on_both (indexed_bytes i) (read_schema (w.schema - 1) (drop at s)) (read_value w.value v)) o (Ok n) → (f : std.Option ℕ) → f ≡ table_before way.table i turn → f ≡ None → Steps w s v way turn o (Step.Ended (Ok n))
    unfolding Tells Steps
    turn-accepted o n x f a b = variant-chosen w s v way t.going i at e.1.0 e.0 o (Ok n)
        (accepted-chosen t.going.goes t.going.tree turn i e.0 t.known e.1.1 (variant-accepted w s v way t.going i at e.1.0 e.0 o n x) (sym a ∙ b)) x

    pub turn-beaten : (o : List ℕ) (n u : ℕ) → Wrote (on_both (indexed_bytes i) (read_schema (w.schema - 1) (drop at s)) (read_value w.value v)) o (Ok n) → (f : std.Option ℕ) → f ≡ table_before way.table i turn → f ≡ Some u → EitherNode w s v u i
    unfolding Tells
    turn-beaten o n u x f a b = record {
      way = way;
      going = t.going;
      beaten = beaten t.going.goes t.going.tree turn i u t.known e.1.1 (variant-accepted w s v way t.going i at e.1.0 e.0 o n x) (sym a ∙ b);
    }

    module _ (o : List ℕ) (m : Refusal) (x : Wrote (on_both (indexed_bytes i) (read_schema (w.schema - 1) (drop at s)) (read_value w.value v)) o (Err m)) (b : Bool) (l : OnRead (λ t. b ≡ is_last turn (must_be_tried (schema_kind t))) (read_schema (w.schema - 1) (drop at s))) where
      pub turn_last : b ≡ true → Steps w s v way turn o (Step.Ended (Err m))
      unfolding Tells Steps
      turn_last f = variant-chosen w s v way t.going i at e.1.0 e.0 o (Err m)
          (last-chosen t.going.goes t.going.tree turn i t.known e.1.1 (kind-told w s v way t.going i at e.1.0 e.0 (is_last turn) b l ∙ f)) x

      pub turn-refused : b ≡ false → Steps w s v way turn o (Step.Passed p)
      unfolding Tells Steps
      turn-refused f = record {
        turning = record { going = t.going; there = e.1.0; known = t.known };
        passes = refused-pass t.going.goes t.going.tree turn i e.0 e.1.1 (variant-refused w s v way t.going i at e.1.0 e.0 o m x) (kind-told w s v way t.going i at e.1.0 e.0 (is_last turn) b l ∙ f);
      }

-- ---- one turn after another

pub turning-start : (w : Walk) (s v : List ℕ) (way : Way) → NodeOf 10 w s v → ((j : ℕ) → get_or v j 0 < 256) → (g : Goes w.schema s way) × (g.kind ≡ get_or v 0 0) → Turning w s v way (Turn.Before 0) 0 3
unfolding Reads
turning-start w s v way q bytes g = record {
  going = record {
    goes = g.0;
    tree = q.value.0;
    rest = q.value.1.0;
    reads = q.value.1.1;
    kind = value-kind w.value v (get_or-all_bytes v bytes) q.value.0 q.value.1.0 q.value.1.1 ∙ sym g.1;
  };
  there = part-start w.schema s g.0.part;
  known = known_start g.0 q.value.0;
}

module _ (w : Walk) (s v : List ℕ) (way : Way) (turn : Turn) (position at : ℕ) (p : TurnPassed w s v way turn position at) (next : Turn) (e : next ≡ next_turn way turn) where
  pub turning-next : Turning w s v way next position at
  turning-next = subst (λ x. Turning w s v way x position at) (sym e) (record {
    going = p.turning.going;
    there = p.turning.there;
    known = known_next p.turning.going.goes p.turning.going.tree turn p.turning.known p.passes;
  })

  pub turning-fewer : turns_left (number_at s 1 2) way next < turns_left (number_at s 1 2) way turn
  turning-fewer = rw (e, sym (part_count w.schema s p.turning.going.goes.part)) (turns-fewer p.turning.going.goes p.turning.going.tree turn p.turning.known p.passes)

-- ---- the table's variant before a named one

module _ (w : Walk) (s v : List ℕ) (u i : ℕ) (b : EitherNode w s v u i) where
  pub behind-table : u < count_of (tree_of b.going.goes)
  behind-table = table-in b.going.goes u b.beaten.table

  pub behind-named : i < count_of (tree_of b.going.goes)
  behind-named = beaten-in b.going.goes b.going.tree u i b.beaten

  module _ (p : ℕ) (a : VariantAt w.schema s u p) where
    pub either-accepted : (o : List ℕ) (n : ℕ) → Wrote (on_both (indexed_bytes u) (read_schema (w.schema - 1) (drop p s)) (read_value w.value v)) o (Ok n) → Wrote (on_both peeled_bytes (read_schema w.schema s) (read_value w.value v)) o (Ok n)
    either-accepted o n x = variant-chosen w s v b.way b.going u p a behind-table o (Ok n)
        (beaten-accepted b.going.goes b.going.tree u i b.beaten (variant-accepted w s v b.way b.going u p a behind-table o n x)) x

    module _ (o : List ℕ) (n : Refusal) (x : Wrote (on_both (indexed_bytes u) (read_schema (w.schema - 1) (drop p s)) (read_value w.value v)) o (Err n)) (c : Bool) (l : OnRead (λ t. c ≡ must_be_tried (schema_kind t)) (read_schema (w.schema - 1) (drop p s))) where
      pub either-untried : c ≡ false → Wrote (on_both peeled_bytes (read_schema w.schema s) (read_value w.value v)) o (Err n)
      either-untried f = variant-chosen w s v b.way b.going u p a behind-table o (Err n)
          (beaten-untried b.going.goes b.going.tree u i b.beaten (kind-told w s v b.way b.going u p a behind-table (λ y. y) c l ∙ f)) x

      pub either-named : c ≡ true → (q : ℕ) → VariantAt w.schema s i q → (o' : List ℕ) (r : std.Result ℕ Refusal) → Wrote (on_both (indexed_bytes i) (read_schema (w.schema - 1) (drop q s)) (read_value w.value v)) o' r
          → Wrote (on_both peeled_bytes (read_schema w.schema s) (read_value w.value v)) o' r
      either-named f q z o' r y = variant-chosen w s v b.way b.going i q z behind-named o' r
          (beaten-refused b.going.goes b.going.tree u i b.beaten (kind-told w s v b.way b.going u p a behind-table (λ y. y) c l ∙ f) (variant-refused w s v b.way b.going u p a behind-table o n x)) y

-- ---- what the functions are called with

pub going-value : (w : Walk) (s v : List ℕ) (way : Way) (g : Going w s v way) → Reads (read_value w.value v)
going-value w s v way g = reads-some g.tree g.rest g.reads

pub position-small : (d : ℕ) (s : List ℕ) (q : UnionPart d s) → ((i : ℕ) → get_or s i 0 < 256) → (i : ℕ) → i < count_of q.schema.tree → i < 65536
position-small d s q b i h = omega (arith, part_count d s q, number_at-< s 1 2 (part-long d s q) (get_or-all_bytes s b))

-- the position of a turn is small
pub turning-within : (w : Walk) (s v : List ℕ) (way : Way) (turn : Turn) (position at : ℕ) → TurnPassed w s v way turn position at → ((i : ℕ) → get_or s i 0 < 256) → Within turn
unfolding Within ToldBefore
turning-within w s v way (Turn.Before j) position at p b = tt
turning-within w s v way Turn.Table position at p b = tt
turning-within w s v way (Turn.Behind j) position at p b = tt
turning-within w s v way (Turn.Any i) position at p b =
    let q = p.turning.going.goes.part in omega (arith, p.turning.known.0, part_count w.schema s q, number_at-< s 1 2 (part-long w.schema s q) (get_or-all_bytes s b))

-- a turn that passed
pub passed-of : (w : Walk) (s v : List ℕ) (way : Way) (turn : Turn) (o : List ℕ) (p : Spot) → Steps w s v way turn o (Step.Passed p) → TurnPassed w s v way turn p.position p.at
unfolding Steps
passed-of w s v way turn o p h = h
