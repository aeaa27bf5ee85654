-- What the functions for bytes and texts find and put together: a node's content, code points, a parsed UUID, a Duration.
use Prim.Native.Nat.{ℕ, ◌+◌, ◌≤◌, ◌<◌, min}
use mathlib.Core.Path.{◌≡◌, refl, sym, ap, ◌∙◌, subst}
use mathlib.Core.List.{List, [], ◌∷◌, ◌++◌, append-nil}
use mathlib.Core.Option.{Option, none, some}
use native.Mathlib.Omega.{arith}
use lib.ListN.{length, get_or, drop, length-drop}
use lib.Seq.{drop-length, drop-drop}
use Rattle.std.specs.Prelude as std
use Rattle.std.specs.Prelude.{Some, None}
use Rattle.text.specs.Read.{read_counted}
use Rattle.text.specs.Measured.{Reads}
use Rattle.text.proofs.ReadLaws.{reads-counted}
use Rattle.uuid_text.specs.Uuid.{parsed}
use Rattle.duration.specs.declared.Duration.{Duration}
use Rattle.duration.specs.Duration.{duration_of, duration_bytes}
use Rattle.duration.proofs.RoundTrip.{duration_bytes-duration_of}
use Rattle.buffer.specs.Built.{Built}
use Rattle.types.specs.Contract.{HoldsBytes}
use Rattle.buffer.proofs.BuiltLaws.{built-front}

-- ---- a node's content

pub counted-there : (v : List ℕ) → Reads (read_counted (drop 1 v)) → 3 ≤ length v
counted-there v p = omega (arith, (reads-counted (drop 1 v) p).two, length-drop 1 v)

-- the content of a node, found behind its kind
pub holds-content : (v t : List ℕ) → 0 < length v
    → (read_counted (drop 1 v) ≡ some (t, drop (2 + length t) (drop 1 v))) × ((2 + length t ≤ length (drop 1 v)) × (length t < 65536)) → HoldsBytes v t
holds-content v t g h =
    let i : 1 + (2 + length t) ≡ 3 + length t = omega arith in
    let e : drop (2 + length t) (drop 1 v) ≡ drop (3 + length t) v = drop-drop (2 + length t) 1 v ∙ ap (λ (n : ℕ). drop n v) i in
    record { counted = h.0 ∙ ap (λ (r : List ℕ). some (t, r)) e; within = omega (arith, length-drop 1 v, h.1.0); short = h.1.1 }

-- ---- code points

-- bytes that were put in front of a rest
pub built-points : (b x rest o : List ℕ) (n r : ℕ) → x ≡ b → n ≡ length b → r ≡ min n 65536 → o ≡ x ++ rest → Built b o r
built-points b x rest o n r e f g h = built-front b rest o r (g ∙ ap (λ (m : ℕ). min m 65536) f) (h ∙ ap (λ (y : List ℕ). y ++ rest) e)

-- ---- what the UUID parser answers

pub parsed-ok : (x : Option (List ℕ)) (p : std.Option (List ℕ)) (b : List ℕ) → p ≡ parsed x → p ≡ Some b → x ≡ some b
parsed-ok none p b e h = let z : ◌≡◌ {A = ℕ} 0 1 = cc in absurd (omega arith)
parsed-ok (some d) p b e h = let i : d ≡ b = cc in ap some i

pub parsed-not : (x : Option (List ℕ)) (p : std.Option (List ℕ)) → p ≡ parsed x → p ≡ None → x ≡ none
parsed-not none p e h = refl
parsed-not (some d) p e h = let z : ◌≡◌ {A = ℕ} 0 1 = cc in absurd (omega arith)

-- ---- a Duration

-- 12 bytes t that were copied into z, taken as a Duration and written
pub duration-written : (t z b d : List ℕ) (x : Duration) (o : List ℕ) (r : ℕ) → length t ≡ 12 → ((i : ℕ) → get_or t i 0 < 256) → length z ≡ 12 → b ≡ t ++ drop (length t) z
    → x ≡ duration_of b → d ≡ duration_bytes x → Built (25 ∷ d) o r → Built (25 ∷ t) o r
duration-written t z b d x o r l h m e f g w =
    let n : drop (length t) z ≡ [] = ap (λ (k : ℕ). drop k z) (l ∙ sym m) ∙ drop-length z in
    let same : b ≡ t = e ∙ ap (λ (y : List ℕ). t ++ y) n ∙ append-nil t in
    subst (λ (y : List ℕ). Built (25 ∷ y) o r) (g ∙ ap duration_bytes (f ∙ ap duration_of same) ∙ duration_bytes-duration_of t l h) w
