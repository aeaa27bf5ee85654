-- The bytes of a default in its field: in a union's field it goes to the first variant, and what comes of it is resolved anew.
use Prim.Native.Nat.{ℕ, suc, ◌-◌, ◌≤◌, ◌<◌}
use mathlib.Core.Path.{◌≡◌, refl, sym, ap, ◌∙◌, subst}
use mathlib.Core.List.{List, [], ◌∷◌, ◌++◌}
use mathlib.Core.Option.{some}
use native.Mathlib.Omega.{arith}
use lib.Dec.{T, leb, eqb, leb→le}
use lib.ListN.{length, get_or, take, drop, length-drop, take-append-drop}
use lib.Seq.{get_or-drop}
use lib.Ieee.Fits.{and_l}
use borrow.Author.Tests.{eq-eqb, ne_eqb}
use Rattle.base.specs.Base.{when◌then◌else◌, ok, stop, after}
use Rattle.number.specs.Number.{all_bytes, big_endian, number_at}
use Rattle.number.proofs.Laws.{all_bytes-drop}
use Rattle.text.specs.Read.{read_bytes, read_number, ◌>>=◌}
use Rattle.text.specs.Measured.{Reads}
use Rattle.frame.specs.Kind
use Rattle.frame.specs.Tree.{Value, Schema, Variants, variant, kind_of, peel, schema_kind}
use Rattle.frame.specs.Readers.{read_many}
use Rattle.frame.specs.ValueFrame.{contents, read_content, read_value, encode_value}
use Rattle.frame.specs.SchemaFrame.{variants_of, read_schema}
use Rattle.frame.specs.Sound.{schema_sound, count_variants}
use Rattle.frame.proofs.RoundTrip.{held, value-back}
use Rattle.frame.proofs.ReadHeld.{value-part-held, schema-part-held}
use Rattle.frame.proofs.Reading.{reads-some}
use Rattle.frame.proofs.Counting.{many-first, many-length}
use Rattle.frame.proofs.SchemaNodes.{schema-there, schema-kind}
use Rattle.types.specs.Types.{Outcome}
use Rattle.types.specs.Contract.{encoded, on_both}
use Rattle.buffer.specs.Built.{Built, Wrote}
use Rattle.std.specs.Prelude.{Ok, Err}
use Rattle.base.specs.declared.refusal.Refusal.{Refusal}
use Rattle.avro.specs.Resolve.{first, resolve, start_default}
use Rattle.avro.specs.Defaults.{defaults_short, variant_defaults_short, short_default, short_start}
use Rattle.frame.proofs.SoundLaws.{sound-union, sound-variant}
use Rattle.walk.specs.Contract.{ReadyDefault, node_bytes, default_bytes}
use Rattle.variants.specs.Ways.{Ready}
use Rattle.leaf.specs.Leaf.{peeled_bytes}
use Rattle.avro.proofs.Held.{held-resolve}
use Rattle.avro.proofs.WalkSentences.{start_plain}
use Rattle.walk.proofs.Pieces.{both_some}
use Rattle.walk.proofs.NodeBytes.{node-peel}
use Rattle.variants.proofs.UnionReading.{union-parts}

-- ---- fields that are no union

pub default-value : (ds : ℕ) (s d : List ℕ) → ReadyDefault ds s d → Reads (read_value 16 d)
default-value ds s d r = reads-some r.value r.rest r.reads

pub default-plain : (ds : ℕ) (s d : List ℕ) → ReadyDefault ds s d → (get_or s 0 0 ≡ 10 → ⊥) → on_both default_bytes (read_schema ds s) (read_value 16 d) ≡ on_both node_bytes (read_schema ds s) (read_value 16 d)
unfolding default_bytes after
default-plain ds s d r f =
    let t = r.schema.tree in
    let k = schema-kind ds s t r.schema.rest r.schema.reads in
    both_some default_bytes _ _ t r.value r.schema.rest r.rest r.schema.reads r.reads
    ∙ ap (λ x. after x (λ w. node_bytes t w)) (start_plain t r.value (λ q. f (sym k ∙ q)))
    ∙ sym (both_some node_bytes _ _ t r.value r.schema.rest r.rest r.schema.reads r.reads)

-- ---- the first variant of a union

pub record FirstVariant (ds : ℕ) (s : List ℕ) (t : Schema) : Type 0 where
  pub lead : Schema
  pub others : Variants
  pub kinds : List (ℕ × ℕ)
  pub named : List ℕ
  pub rest : List ℕ
  pub tree_is : t ≡ Schema.Union (variant lead others) kinds named
  pub reads : read_schema (ds - 1) (drop 3 s) ≡ some (lead, rest)
  pub sound : T (schema_sound lead)
  pub short : T (defaults_short lead)

no-variants : (0 < count_variants (variants_of [])) → ⊥
unfolding count_variants variants_of
no-variants h = omega arith

lead-short : (x : Schema) (xs : Variants) (ks : List (ℕ × ℕ)) (ns : List ℕ) → T (defaults_short (Schema.Union (variant x xs) ks ns)) → T (defaults_short x)
unfolding defaults_short
lead-short x xs ks ns h = and_l (defaults_short x) (variant_defaults_short xs) h

pub first_variant : (ds : ℕ) (s : List ℕ) (r : Ready ds s) → get_or s 0 0 ≡ 10 → FirstVariant ds s r.tree
unfolding variants_of
first_variant ds s r e =
    let p = union-parts ds s r.tree r.rest r.reads e in
    go p.variants p.behind p.kinds p.named p.reads-variants p.is
  where
    go : (vs : List Schema) (u : List ℕ) (ks : List (ℕ × ℕ)) (ns : List ℕ) → read_many (read_schema (ds - 1)) (number_at s 1 2) (drop 3 s) ≡ some (vs, u) → r.tree ≡ Schema.Union (variants_of vs) ks ns → FirstVariant ds s r.tree
    go [] u ks ns m q = absurd (no-variants (sound-union (variants_of []) ks ns (subst (λ t. T (schema_sound t)) q r.sound)).any)
    go (x ∷ xs) u ks ns m q =
        let n : suc (length xs) ≡ number_at s 1 2 = many-length (read_schema (ds - 1)) (number_at s 1 2) (drop 3 s) (x ∷ xs) u m in
        let z = many-first (read_schema (ds - 1)) (number_at s 1 2) (drop 3 s) (x ∷ xs) u (omega arith) m in
        let k : x ∷ xs ≡ z.item ∷ z.others = z.cons in
        let o : z.item ≡ x = cc in
        record {
          lead = x;
          others = variants_of xs;
          kinds = ks;
          named = ns;
          rest = z.behind;
          tree_is = q;
          reads = z.first ∙ ap (λ y. some (y, z.behind)) o;
          sound = (sound-variant x (variants_of xs) (sound-union (variant x (variants_of xs)) ks ns (subst (λ t. T (schema_sound t)) q r.sound)).variants).schema;
          short = lead-short x (variants_of xs) ks ns (subst (λ t. T (defaults_short t)) q r.short);
        }

pub first-ready : (ds : ℕ) (s : List ℕ) (r : Ready ds s) → get_or s 0 0 ≡ 10 → Ready (ds - 1) (drop 3 s)
first-ready ds s r e =
    let f = first_variant ds s r e in
    record { tree = f.lead; rest = f.rest; reads = f.reads; sound = f.sound; short = f.short }

pub first-long : (ds : ℕ) (s : List ℕ) (r : Ready ds s) → get_or s 0 0 ≡ 10 → 3 < length s
first-long ds s r e =
    let f = first_variant ds s r e in
    let h = (schema-there (ds - 1) (drop 3 s) (reads-some f.lead f.rest f.reads)).1 in
    omega (arith, length-drop 3 s)

pub first_kind : (ds : ℕ) (s : List ℕ) (r : Ready ds s) (e : get_or s 0 0 ≡ 10) → schema_kind (first_variant ds s r e).lead ≡ get_or s 3 0
first_kind ds s r e = let f = first_variant ds s r e in schema-kind (ds - 1) (drop 3 s) f.lead f.rest f.reads ∙ get_or-drop 3 s 0 0

-- ---- defaults in unions

null-reads : read_value 1 (0 ∷ []) ≡ some (Value.Scalar Kind.Null 0, [])
null-reads = unfold read_value read_content contents read_number read_bytes big_endian ◌>>=◌ in refl

pub null-value : (n : List ℕ) → n ≡ 0 ∷ [] → Reads (read_value 1 n)
null-value n q = reads-some (Value.Scalar Kind.Null 0) [] (ap (read_value 1) q ∙ null-reads)

abbrev starts : Schema → Value → Outcome
starts x d = when eqb (schema_kind x) Kind.Null then ok (Value.Scalar Kind.Null 0) else resolve x d

start-union : (x : Schema) (xs : Variants) (ks : List (ℕ × ℕ)) (ns : List ℕ) (d : Value) → start_default (Schema.Union (variant x xs) ks ns) d ≡ after (starts x d) (λ r. ok (Value.Union 0 r))
unfolding resolve first
start-union x xs ks ns d = refl

union-peel : (t : Schema) (r : Value) → node_bytes t (Value.Union 0 r) ≡ peeled_bytes t r
unfolding peel
union-peel t r = node-peel t (Value.Union 0 r)

module _ (ds : ℕ) (s d : List ℕ) (rd : ReadyDefault ds s d) (e : get_or s 0 0 ≡ 10) where
  abbrev tree : Schema
  tree = rd.schema.tree

  abbrev fv : FirstVariant ds s rd.schema.tree
  fv = first_variant ds s rd.schema e

  lead-kind : schema_kind fv.lead ≡ get_or s 3 0
  lead-kind = first_kind ds s rd.schema e

  start_is : start_default tree rd.value ≡ after (starts fv.lead rd.value) (λ r. ok (Value.Union 0 r))
  start_is = ap (λ t. start_default t rd.value) fv.tree_is ∙ start-union fv.lead fv.others fv.kinds fv.named rd.value

  default-open : on_both default_bytes (read_schema ds s) (read_value 16 d) ≡ after (starts fv.lead rd.value) (λ r. peeled_bytes tree r)
  unfolding default_bytes
  default-open =
      both_some default_bytes _ _ tree rd.value rd.schema.rest rd.rest rd.schema.reads rd.reads
      ∙ ap (λ x. after x (λ w. node_bytes tree w)) start_is
      ∙ go (starts fv.lead rd.value)
    where
      go : (o : Outcome) → after (after o (λ r. ok (Value.Union 0 r))) (λ w. node_bytes tree w) ≡ after o (λ r. peeled_bytes tree r)
      go (stop k) = unfold after in refl
      go (ok r) = unfold after in union-peel tree r

  pub default-null : (n : List ℕ) → n ≡ 0 ∷ [] → get_or s 3 0 ≡ 0 → on_both default_bytes (read_schema ds s) (read_value 16 d) ≡ on_both peeled_bytes (read_schema ds s) (read_value 1 n)
  unfolding after
  default-null n q h =
      default-open
      ∙ ap (λ b. after (when b then ok (Value.Scalar Kind.Null 0) else resolve fv.lead rd.value) (λ r. peeled_bytes tree r)) (eq-eqb (schema_kind fv.lead) 0 (lead-kind ∙ h))
      ∙ sym (both_some peeled_bytes _ _ tree (Value.Scalar Kind.Null 0) rd.schema.rest [] rd.schema.reads (ap (read_value 1) q ∙ null-reads))

  module _ (f : get_or s 3 0 ≡ 0 → ⊥) where
    starts_is : starts fv.lead rd.value ≡ resolve fv.lead rd.value
    starts_is = ap (λ b. when b then ok (Value.Scalar Kind.Null 0) else resolve fv.lead rd.value) (ne_eqb (schema_kind fv.lead) 0 (λ q. f (sym lead-kind ∙ q)))

    trial-is : on_both node_bytes (read_schema (ds - 1) (drop 3 s)) (read_value 16 d) ≡ encoded (resolve fv.lead rd.value)
    unfolding node_bytes
    trial-is = both_some node_bytes _ _ fv.lead rd.value fv.rest rd.rest fv.reads rd.reads

    pub default-refused : (z o : List ℕ) (k : Refusal) → Wrote (on_both node_bytes (read_schema (ds - 1) (drop 3 s)) (read_value 16 d)) z (Err k) → Wrote (on_both default_bytes (read_schema ds s) (read_value 16 d)) o (Err k)
    default-refused z o k w =
        subst (λ x. Wrote x o (Err k)) (sym (default-open ∙ ap (λ x. after x (λ r. peeled_bytes tree r)) starts_is))
        (go (resolve fv.lead rd.value) (subst (λ x. Wrote x z (Err k)) trial-is w))
      where
        go : (x : Outcome) → Wrote (encoded x) z (Err k) → Wrote (after x (λ r. peeled_bytes tree r)) o (Err k)
        go (ok r) w = absurd (unfold encoded Wrote in w)
        go (stop m) w = unfold encoded Wrote after in w

    module _ (bs : T (all_bytes s)) (bd : T (all_bytes d)) (z : List ℕ) (m : ℕ) (w : Wrote (on_both node_bytes (read_schema (ds - 1) (drop 3 s)) (read_value 16 d)) z (Ok m)) (l : length z ≡ 4096) where
      made : (r : Value) × ((resolve fv.lead rd.value ≡ ok r) × Built (encode_value r) z m)
      made = go (resolve fv.lead rd.value) (subst (λ x. Wrote x z (Ok m)) trial-is w)
        where
          go : (x : Outcome) → Wrote (encoded x) z (Ok m) → (r : Value) × ((x ≡ ok r) × Built (encode_value r) z m)
          go (ok r) w = (r, (refl, unfold encoded Wrote in w))
          go (stop k) w = absurd (unfold encoded Wrote in w)

      made_held : T (held made.0 (ds - 1))
      made_held =
          let h = held-resolve fv.lead (ds - 1) (schema-part-held (ds - 1) (drop 3 s) fv.lead fv.rest (all_bytes-drop 3 s bs) fv.reads) rd.value 16 (value-part-held 16 d rd.value rd.rest bd rd.reads) in
          rw made.1.0 at h

      made-start : start_default tree rd.value ≡ ok (Value.Union 0 made.0)
      unfolding after
      made-start = start_is ∙ ap (λ x. after x (λ r. ok (Value.Union 0 r))) (starts_is ∙ made.1.0)

      made-short : length (encode_value made.0) ≤ 4096
      made-short = leb→le (length (encode_value made.0)) 4096 (short made.0 (start_default tree rd.value) made-start (unfold short_default in rd.start))
        where
          short : (r : Value) (x : Outcome) → x ≡ ok (Value.Union 0 r) → T (short_start x) → T (leb (length (encode_value r)) 4096)
          short r x q h = unfold short_start kind_of peel in (subst (λ y. T (short_start y)) q h)

      made_reads : read_value (ds - 1) z ≡ some (made.0, drop (length (encode_value made.0)) z)
      unfolding Built
      made_reads =
          let b = encode_value made.0 in
          let h : length b ≤ 4096 = made-short in
          let t : take (length b) z ≡ b = made.1.1.1 (omega arith) (omega arith) in
          let q : z ≡ b ++ drop (length b) z = sym (take-append-drop (length b) z) ∙ ap (λ y. y ++ drop (length b) z) t in
          ap (read_value (ds - 1)) q ∙ value-back made.0 (ds - 1) made_held (drop (length b) z)

      pub made-value : Reads (read_value (ds - 1) z)
      made-value = reads-some made.0 (drop (length (encode_value made.0)) z) made_reads

      pub default-made : on_both default_bytes (read_schema ds s) (read_value 16 d) ≡ on_both peeled_bytes (read_schema ds s) (read_value (ds - 1) z)
      unfolding after
      default-made =
          default-open
          ∙ ap (λ x. after x (λ r. peeled_bytes tree r)) (starts_is ∙ made.1.0)
          ∙ sym (both_some peeled_bytes _ _ tree made.0 rd.schema.rest (drop (length (encode_value made.0)) z) rd.schema.reads made_reads)
