-- No accepted call of the entry gives a NaN; demand 3's claims of fitting and repeating hold of it; and nothing is left undecided.
use Prim.Native.Nat.{ℕ, ◌≤◌}
use mathlib.Core.Path.{◌≡◌, sym, ap, ◌∙◌, subst}
use mathlib.Core.List.{List, [], ◌∷◌}
use mathlib.Core.Option.{some}
use native.Mathlib.Omega.{arith}
use lib.Dec.{T, le→leb}
use lib.ListN.{length, take}
use Rattle.std.specs.Prelude as std
use Rattle.base.specs.Base.{Result, ok}
use Rattle.base.specs.Refusal.{outcome_of}
use Rattle.base.specs.declared.refusal.Refusal.{Refusal}
use Rattle.base.proofs.Okay.{okay-is}
use Rattle.base.proofs.Refusals.{outcome-injective}
use Rattle.number.specs.Number.{all_bytes}
use Rattle.frame.specs.Tree.{Value, Schema}
use Rattle.frame.specs.ValueFrame.{decode_value, encode_value}
use Rattle.frame.specs.Sound.{keys_rise}
use Rattle.avro.specs.Resolve.{resolve}
use Rattle.avro.specs.Matches.{fits}
use Rattle.avro.specs.Pairs.{nullable_pairs}
use Rattle.avro.specs.Nans.{no_nan}
use Rattle.buffer.specs.After.{buffer_after}
use Rattle.hulmbax.specs.Answer.{answer, workspace_size}
use Rattle.hulmbax.specs.Entry.{resolved_of}
use Rattle.hulmbax.proofs.Told.{ok-is, buffer-accepted}
use Rattle.hulmbax.proofs.Answered.{SchemaPasses, ValuePasses, Answered, short-workspace, no-schema, unsound-schema, long-default, no_value, fallen-keys, refused, too_long, accepted, answered, answer-only}
use Rattle.stability.specs.Claims.{Called, WithoutNan, Suits, Fits, Repeat, standing, Repeated, AllGive, Repeats, Decided}
use Rattle.frame.proofs.RoundTrip.{held, decode-encode}
use Rattle.frame.proofs.ReadHeld.{decode-held, schema-held}
use Rattle.avro.proofs.Made.{Stable}
use Rattle.avro.proofs.Held.{held-resolve}
use Rattle.avro.proofs.Keys.{keys-resolve}
use Rattle.avro.proofs.Nans.{no_nan-resolve}
use Rattle.stability.proofs.Settle.{settled}

-- ---- an accepted call

-- what it shows: the trees of its frames, which nothing stops, what resolution makes of them, and that the result is its frame
record Shown (schema value result : List ℕ) : Type 0 where
  workspace : ℕ
  tree : Schema
  input : Value
  outcome : Value
  schema-passes : SchemaPasses schema workspace tree
  value_passes : ValuePasses value input
  resolved : resolve tree input ≡ ok outcome
  bytes : encode_value outcome ≡ result
  size : length (encode_value outcome) ≤ 65535

shown : {schema value result : List ℕ} {buffer workspace : ℕ} {x : Result (List ℕ)} → Answered schema value buffer workspace x → x ≡ ok result → Shown schema value result
shown (short-workspace h) q = let z : ◌≡◌ {A = ℕ} 0 1 = cc in absurd (omega arith)
shown (no-schema h e) q = let z : ◌≡◌ {A = ℕ} 0 1 = cc in absurd (omega arith)
shown (unsound-schema s h e u) q = let z : ◌≡◌ {A = ℕ} 0 1 = cc in absurd (omega arith)
shown (long-default s h e u l) q = let z : ◌≡◌ {A = ℕ} 0 1 = cc in absurd (omega arith)
shown (no_value s p e) q = let z : ◌≡◌ {A = ℕ} 0 1 = cc in absurd (omega arith)
shown (fallen-keys s p v e h) q = let z : ◌≡◌ {A = ℕ} 0 1 = cc in absurd (omega arith)
shown (refused s p v w n e h) q = let z : ◌≡◌ {A = ℕ} 0 1 = cc in absurd (omega arith)
shown (too_long s p v w r e h) q = let z : ◌≡◌ {A = ℕ} 0 1 = cc in absurd (omega arith)
shown {workspace = workspace} (accepted s p v w r e h k) q =
    record { workspace = workspace; tree = s; input = v; outcome = r; schema-passes = p; value_passes = w; resolved = e; bytes = cc; size = h }

-- the result as a tree, which a frame can hold
frame_back : {schema value result : List ℕ} (m : Shown schema value result) → T (all_bytes schema) → T (all_bytes value) → decode_value result ≡ some m.outcome
frame_back {schema} {value} m g h =
    let k : T (held m.outcome 16) = okay-is (λ r. T (held r 16)) (resolve m.tree m.input) m.outcome
    (held-resolve m.tree 16 (schema-held schema m.tree g m.schema-passes.frame) m.input 16 (decode-held value m.input h m.value_passes.frame)) m.resolved in
    ap decode_value (sym m.bytes) ∙ decode-encode m.outcome k (le→leb (length (encode_value m.outcome)) 65535 m.size)

module _ {schema value buffer buffer' workspace workspace' : List ℕ} {n : ℕ} (c : Called schema value buffer buffer' workspace workspace' (ok n)) where
  call-shown : Shown schema value (take n buffer')
  call-shown =
      shown (answered schema value (length buffer) (length workspace)) (ok-is (answer schema value (length buffer) (length workspace)) buffer buffer' n c.answered c.contents).0

  result-frame : decode_value (take n buffer') ≡ some call-shown.outcome
  result-frame = frame_back call-shown c.schema_bytes c.value_bytes

-- ---- no NaN

pub without-nan : WithoutNan
unfolding WithoutNan
without-nan schema value buffer buffer' workspace workspace' n c =
    let m = call-shown c in
    (m.outcome, result-frame c, okay-is (λ r. T (no_nan r)) (resolve m.tree m.input) m.outcome (no_nan-resolve m.tree m.input) m.resolved)

-- ---- fitting and repeating

-- under a schema of nullable pairs what comes out fits, and resolves to itself
module _ {schema value result : List ℕ} (m : Shown schema value result) (h : Suits schema value) where
  tree_is : m.tree ≡ h.tree
  tree_is =
      let e : some m.tree ≡ some h.tree = sym m.schema-passes.frame ∙ h.schema_is in
      cc

  stable : Stable m.tree m.outcome
  stable = settled m.tree m.schema-passes.sound (subst (λ (s : Schema). T (nullable_pairs s)) (sym tree_is) h.pairs) m.input m.outcome m.resolved

-- an accepted result is a frame that fits the schema
pub fitting : Fits
unfolding Fits
fitting schema value buffer buffer' workspace workspace' n c h =
    let m = call-shown c in
    (m.outcome, result-frame c, subst (λ (s : Schema). T (fits s m.outcome)) (tree_is m h) (stable m h).fitting)

-- a result that resolves to itself under its schema
record Settled (schema result : List ℕ) : Type 0 where
  workspace : ℕ
  tree : Schema
  outcome : Value
  passes : SchemaPasses schema workspace tree
  frame : ValuePasses result outcome
  again : resolve tree outcome ≡ ok outcome
  bytes : encode_value outcome ≡ result
  size : length (encode_value outcome) ≤ 65535

settles : {schema value result : List ℕ} (m : Shown schema value result) → decode_value result ≡ some m.outcome → Suits schema value → Settled schema result
settles m f h = record {
  workspace = m.workspace;
  tree = m.tree;
  outcome = m.outcome;
  passes = m.schema-passes;
  frame = record {
    frame = f;
    keys = okay-is (λ r. T (keys_rise r)) (resolve m.tree m.input) m.outcome (keys-resolve m.tree m.schema-passes.sound m.input m.value_passes.keys) m.resolved;
  };
  again = (stable m h).again;
  bytes = m.bytes;
  size = m.size;
}

-- one repeat
again : {schema result : List ℕ} (a : Settled schema result) (buffer workspace : ℕ) → length result ≤ buffer → workspace_size ≤ workspace → answer schema result buffer workspace ≡ ok result
again a buffer workspace b w =
    answer-only (accepted a.tree (record { room = w; frame = a.passes.frame; sound = a.passes.sound; short = a.passes.short }) a.outcome a.frame a.outcome a.again a.size
    (subst (λ (x : List ℕ). length x ≤ buffer) (sym a.bytes) b))
    ∙ ap ok a.bytes

-- gives the result again, where it stands in its buffer
repeat-gives : {schema result : List ℕ} (a : Settled schema result) (c : Repeat)
    → Called schema result c.buffer c.buffer' c.workspace c.workspace' c.told → length result ≤ length c.buffer → workspace_size ≤ length c.workspace
    → (c.told ≡ ok (length result)) × (take (length result) c.buffer' ≡ result)
unfolding resolved_of
repeat-gives {schema} {result} a c call b w =
    let e : answer schema result (length c.buffer) (length c.workspace) ≡ ok result = again a (length c.buffer) (length c.workspace) b w in (
      call.answered ∙ ap resolved_of e,
      ap (take (length result)) (call.contents ∙ ap (λ (x : Result (List ℕ)). buffer_after x c.buffer) e) ∙ (buffer-accepted result c.buffer).0,
    )

-- however often
all_give : {schema result : List ℕ} → Settled schema result → (calls : List Repeat) → Repeated schema result calls → AllGive result calls
unfolding Repeated AllGive standing
all_give a [] h = tt
all_give {schema} {result} a (c ∷ cs) h =
    let g : (c.told ≡ ok (length result)) × (take (length result) c.buffer' ≡ result) = repeat-gives a c h.0 h.1 h.2 in
    let s : standing c.told c.buffer' ≡ result = ap (λ r. standing r c.buffer') g.0 ∙ g.1 in
    (g.0, g.1, all_give a cs (subst (λ (last : List ℕ). Repeated schema last cs) s h.3))

pub repeating : Repeats
unfolding Repeats
repeating schema value buffer buffer' workspace workspace' n c h calls r = all_give (settles (call-shown c) (result-frame c) h) calls r

-- ---- nothing is left undecided

pub decided : Decided
unfolding Decided
decided schema value buffer workspace buffer₁ workspace₁ buffer₂ workspace₂ r₁ r₂ c d = (c.answered ∙ sym d.answered, c.contents ∙ sym d.contents, c.cleared ∙ sym d.cleared)

-- so the entry's own answers to two such calls are the same, refusals by name included
pub same-answers : (schema value buffer workspace buffer₁ workspace₁ buffer₂ workspace₂ : List ℕ) (r₁ r₂ : std.Result ℕ Refusal)
    → Called schema value buffer buffer₁ workspace workspace₁ (outcome_of r₁) → Called schema value buffer buffer₂ workspace workspace₂ (outcome_of r₂)
    → r₁ ≡ r₂
same-answers schema value buffer workspace buffer₁ workspace₁ buffer₂ workspace₂ r₁ r₂ c d = outcome-injective r₁ r₂ (c.answered ∙ sym d.answered)
