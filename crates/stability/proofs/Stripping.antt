-- What stripping takes away is exactly what stands under names that the schema lacks: more or less of that makes records alike, and alike records agree in all else.
use Prim.Native.Nat.{ℕ}
use mathlib.Core.Path.{◌≡◌, refl, sym, ap, ◌∙◌}
use mathlib.Core.List.{List, [], ◌∷◌}
use mathlib.Core.Option.{Option, none, some, map}
use mathlib.Core.Bool.{Bool, true, false, ◌||◌, not}
use native.Mathlib.Omega.{arith}
use lib.Dec.{T, T_not}
use lib.Ieee.Bits.{is_true, is_false}
use Rattle.base.specs.Base.{when◌then◌else◌}
use Rattle.text.specs.Text.{Text, same}
use Rattle.text.proofs.TextLaws.{same→≡}
use Rattle.frame.specs.Tree.{Value, Values, Entries, Schema, Fields, item, no_entries, entry, no_fields, field, no_variants, variant, entries}
use Rattle.frame.specs.Sound.{fields_sound, has_field}
use Rattle.frame.specs.Faults.{FieldOf, first_field, later_field}
use Rattle.frame.proofs.SoundLaws.{sound-field}
use Rattle.frame.proofs.FaultLaws.{has-field}
use Rattle.avro.specs.Resolve.{last_under}
use Rattle.avro.specs.Pairs.{is_null}
use Rattle.stability.specs.Stability.{under_union, change, map_items, map_entries, has_name, keep_entry, keep_entries, strip, strip_field}
use Rattle.stability.proofs.Alike.{same_refl, last_under-keep, null-strip}

-- what a Record or a Map keeps that meets a Record schema
abbrev pub kept : Fields → Entries → Entries
kept fs es = keep_entries (λ n w. strip_field fs n w) es

pub strip-record : (fs : Fields) (es : Entries) → strip (Schema.Record fs) (Value.Record es) ≡ Value.Record (kept fs es)
unfolding strip under_union change
strip-record fs es = refl

pub strip-map : (fs : Fields) (es : Entries) → strip (Schema.Record fs) (Value.Map es) ≡ Value.Map (kept fs es)
unfolding strip under_union change
strip-map fs es = refl

-- ---- the names that are kept are those that the schema has, in their order and as often

unfoldable pub names : Entries → List Text
names no_entries = []
names (entry n v es) = n ∷ names es

unfoldable pub known : Fields → List Text → List Text
known fs [] = []
known fs (n ∷ ns) = when has_field n fs then n ∷ known fs ns else known fs ns

unfoldable pub present : {A : Type 0} → Option A → Bool
present none = false
present (some a) = true

strip-has : (fs : Fields) (n : Text) (v : Value) → present (strip_field fs n v) ≡ has_field n fs
unfolding strip_field has_field present
strip-has no_fields n v = refl
strip-has (field m d s fs) n v = go (same m n) (strip-has fs n v)
  where
    go : (b : Bool) → present (strip_field fs n v) ≡ has_field n fs → present (when b then some (strip s v) else strip_field fs n v) ≡ (b || has_field n fs)
    go true e = refl
    go false e = e

pub kept-names : (fs : Fields) (es : Entries) → names (kept fs es) ≡ known fs (names es)
unfolding names known keep_entries keep_entry present
kept-names fs no_entries = refl
kept-names fs (entry n v es) = go (strip_field fs n v) (has_name n es) (strip-has fs n v) (kept-names fs es)
  where
    go : (o : Option Value) (later : Bool) → present o ≡ has_field n fs → names (kept fs es) ≡ known fs (names es)
        → names (keep_entry n v o later (kept fs es)) ≡ (when has_field n fs then n ∷ known fs (names es) else known fs (names es))
    go none later p e = rw (sym p) e
    go (some w) true p e = rw (sym p, e)
    go (some w) false p e = rw (sym p, e)

-- ---- an entry under a name that the schema lacks makes no difference, wherever it stands

unfoldable pub behind : Entries → Entries → Entries
behind no_entries fs = fs
behind (entry n v es) fs = entry n v (behind es fs)

lacks : (fs : Fields) (n : Text) (v : Value) → has_field n fs ≡ false → strip_field fs n v ≡ none
unfolding present
lacks fs n v h = go (strip_field fs n v) (strip-has fs n v ∙ h)
  where
    go : (o : Option Value) → present o ≡ false → o ≡ none
    go none e = refl
    go (some w) e = let z : ◌≡◌ {A = ℕ} 0 1 = cc in absurd (omega arith)

other_name : (m n : Text) (v : Value) (es fs : Entries) → same m n ≡ false → has_name n (behind es (entry m v fs)) ≡ has_name n (behind es fs)
unfolding has_name behind
other_name m n v no_entries fs h = rw h
other_name m n v (entry k w es) fs h = rw (other_name m n v es fs h)

-- a name that the schema has is no name that it lacks
differ : (fs : Fields) (m n : Text) (v w : Value) → has_field m fs ≡ false → strip_field fs n v ≡ some w → same m n ≡ false
unfolding present
differ fs m n v w h e = go (same m n) refl
  where
    go : (b : Bool) → same m n ≡ b → b ≡ false
    go true p =
        let q : m ≡ n = same→≡ m n (rw p tt) in
        let r : true ≡ false = sym (ap present e) ∙ strip-has fs n v ∙ ap (λ (k : Text). has_field k fs) (sym q) ∙ h in
        let z : ◌≡◌ {A = ℕ} 0 1 = cc in
        absurd (omega arith)
    go false p = refl

kept-added : (fs : Fields) (m : Text) (x : Value) → has_field m fs ≡ false → (es gs : Entries) → kept fs (behind es (entry m x gs)) ≡ kept fs (behind es gs)
unfolding keep_entries behind keep_entry
kept-added fs m x h no_entries gs = rw (lacks fs m x h)
kept-added fs m x h (entry n v es) gs = go (strip_field fs n v) refl (kept-added fs m x h es gs)
  where
    go : (o : Option Value) → strip_field fs n v ≡ o → kept fs (behind es (entry m x gs)) ≡ kept fs (behind es gs)
        → keep_entry n v o (has_name n (behind es (entry m x gs))) (kept fs (behind es (entry m x gs))) ≡ keep_entry n v o (has_name n (behind es gs)) (kept fs (behind es gs))
    go none p e = e
    go (some w) p e = rw (other_name m n x es gs (differ fs m n v w h p), e)

pub added-alike : (fs : Fields) (m : Text) (x : Value) → has_field m fs ≡ false → (es gs : Entries)
    → strip (Schema.Record fs) (Value.Record (behind es (entry m x gs))) ≡ strip (Schema.Record fs) (Value.Record (behind es gs))
added-alike fs m x h es gs = strip-record fs (behind es (entry m x gs)) ∙ ap Value.Record (kept-added fs m x h es gs) ∙ sym (strip-record fs (behind es gs))

pub added-alike-map : (fs : Fields) (m : Text) (x : Value) → has_field m fs ≡ false → (es gs : Entries)
    → strip (Schema.Record fs) (Value.Map (behind es (entry m x gs))) ≡ strip (Schema.Record fs) (Value.Map (behind es gs))
added-alike-map fs m x h es gs = strip-map fs (behind es (entry m x gs)) ∙ ap Value.Map (kept-added fs m x h es gs) ∙ sym (strip-map fs (behind es gs))

-- ---- alike records have alike values under each name that the schema has, where it is the last of its name

strip-at : {n : Text} {d : Option Value} {s : Schema} {fs : Fields} → FieldOf n d s fs → T (fields_sound fs) → (v : Value) → strip_field fs n v ≡ some (strip s v)
unfolding strip_field
strip-at {n} first_field h v = rw (is_true (same n n) (same_refl n))
strip-at {n} (later_field {m = m} {e = e} {t = t} {fs = fs} i) h v =
    let f = sound-field m e t fs h in
    rw (go (same m n) refl f.new) (strip-at i f.rest v)
  where
    go : (b : Bool) → same m n ≡ b → T (not (has_field m fs)) → b ≡ false
    go true p new =
        let q : m ≡ n = same→≡ m n (rw p tt) in
        absurd (T_not (has_field m fs) new (rw (ap (λ (k : Text). has_field k fs) q) (has-field i)))
    go false p new = refl

pub kept-value : {n : Text} {d : Option Value} {s : Schema} {fs : Fields} → FieldOf n d s fs → T (fields_sound fs) → (es : Entries)
    → last_under n (kept fs es) ≡ map (λ w. strip s w) (last_under n es)
kept-value {n} {d} {s} {fs} i h es = last_under-keep (λ m w. strip_field fs m w) n (λ w. strip s w) (λ v. strip-at i h v) es

pub alike-values : {n : Text} {d : Option Value} {s : Schema} {fs : Fields} → FieldOf n d s fs → T (fields_sound fs) → (es gs : Entries)
    → strip (Schema.Record fs) (Value.Record es) ≡ strip (Schema.Record fs) (Value.Record gs)
    → map (λ w. strip s w) (last_under n es) ≡ map (λ w. strip s w) (last_under n gs)
unfolding entries
alike-values {n} {d} {s} {fs} i h es gs e =
    let k : kept fs es ≡ kept fs gs = ap entries (sym (strip-record fs es) ∙ e ∙ strip-record fs gs) in
    sym (kept-value i h es) ∙ ap (last_under n) k ∙ kept-value i h gs

-- an entry that is not the last of its name meets nothing, and stays as it is
pub earlier-stays : {n : Text} {d : Option Value} {s : Schema} {fs : Fields} → FieldOf n d s fs → T (fields_sound fs) → (v : Value) (es : Entries) → T (has_name n es)
    → kept fs (entry n v es) ≡ entry n v (kept fs es)
unfolding keep_entries keep_entry
earlier-stays {n} i h v es k = rw (strip-at i h v, is_true (has_name n es) k)

-- ---- what meets below: values that are alike there make alike wholes

pub strip-item : (s : Schema) (v w : Value) (vs : Values) → strip s v ≡ strip s w
    → strip (Schema.Array s) (Value.Array (item v vs)) ≡ strip (Schema.Array s) (Value.Array (item w vs))
unfolding strip under_union change map_items
strip-item s v w vs e = rw e

pub strip-entry : (s : Schema) (n : Text) (v w : Value) (es : Entries) → strip s v ≡ strip s w
    → strip (Schema.Map s) (Value.Map (entry n v es)) ≡ strip (Schema.Map s) (Value.Map (entry n w es))
unfolding strip under_union change map_entries
strip-entry s n v w es e = rw e

pub strip-field : {n : Text} {d : Option Value} {s : Schema} {fs : Fields} → FieldOf n d s fs → T (fields_sound fs) → (v w : Value) (es : Entries) → T (not (has_name n es))
    → strip s v ≡ strip s w → strip (Schema.Record fs) (Value.Record (entry n v es)) ≡ strip (Schema.Record fs) (Value.Record (entry n w es))
unfolding strip under_union change keep_entries keep_entry
strip-field {n} i h v w es k e = rw (strip-at i h v, strip-at i h w, is_false (has_name n es) k, e)

-- one Union is peeled, and against a nullable pair the variant that isn't Null is met
pub strip-peeled : (fs : Fields) (i : ℕ) (es : Entries) → strip (Schema.Record fs) (Value.Union i (Value.Record es)) ≡ Value.Union i (Value.Record (kept fs es))
unfolding strip under_union change
strip-peeled fs i es = refl

pub strip-pair : (a b : Schema) (ks : List (ℕ × ℕ)) (ns : List ℕ) (i : ℕ) (v : Value) → T (is_null a)
    → strip (Schema.Union (variant a (variant b no_variants)) ks ns) (Value.Union i v) ≡ Value.Union i (strip b v)
unfolding strip under_union
strip-pair a b ks ns i v h = rw (null-strip a h v)
