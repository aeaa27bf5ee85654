-- RFC 3629, section 3: a text has the code points ps if and only if it is the octets of the characters ps, by their numbers. Assumes nothing.
use Prim.Native.Nat.{ℕ, ◌+◌, ◌-◌, ◌*◌, ◌≤◌, ◌<◌}
use mathlib.Core.Path.{◌≡◌, refl, ◌∙◌, subst, subst₂, subst₃}
use mathlib.Core.List.{List, ◌∷◌}
use mathlib.Core.Option.{none, some}
use mathlib.Core.Bool.{Bool, true, false}
use native.Mathlib.Decide.{dec_le}
use native.Mathlib.Omega.{arith}
use borrow.Author.Tests.{le-leb, lt-leb}
use Rattle.base.specs.Base.{when◌then◌else◌}
use Rattle.utf8.specs.Utf8.{Start, Tail, lead_of, run, is_utf8, lead_digits, points_from, code_points}
use Rattle.utf8.specs.Rfc3629.{In, Octets, end, utf8_1, utf8_2, utf8_3_e0, utf8_3_e1, utf8_3_ed, utf8_3_ee, utf8_4_f0, utf8_4_f1, utf8_4_f4, Encoded, empty, row_1, row_2, row_3, row_4}
use Rattle.utf8.proofs.Rows.{lead-e0, lead-e1, lead-ed, lead-ee, lead-f0, lead-f1, lead-f4}
use Rattle.utf8.proofs.CodePoints.{lead_of-one, lead_of-two, points-lead, points-tail, points-last, points_from-one, points_from-two}
use Rattle.utf8.proofs.Grammar.{lead, tails-1, tails-2, tails-3, is_utf8→Octets}

-- ---- three and four bytes, whatever the second may be
lead_digits-three : (b : ℕ) → In 0xe0 0xef b → lead_digits b ≡ b - 0xe0
unfolding lead_digits
lead_digits-three b h = simp (lt-leb b 0x7f (omega arith), lt-leb b 0xdf (omega arith), le-leb b 0xef h.1)

lead_digits-four : (b : ℕ) → 0xf0 ≤ b → lead_digits b ≡ b - 0xf0
unfolding lead_digits
lead_digits-four b h = simp (lt-leb b 0x7f (omega arith), lt-leb b 0xdf (omega arith), lt-leb b 0xef (omega arith))

points_from-three : (b c d lo hi : ℕ) (s : List ℕ) → In 0xe0 0xef b → lead_of b ≡ Tail lo hi 1 → In lo hi c → In 0x80 0xbf d
    → points_from Start 0 (b ∷ c ∷ d ∷ s) ≡ (((b - 0xe0) * 64 + (c - 0x80)) * 64 + (d - 0x80)) ∷ points_from Start 0 s
points_from-three b c d lo hi s h e k l =
    points-lead b (c ∷ d ∷ s) (Tail lo hi 1) (b - 0xe0) e (lead_digits-three b h)
    ∙ points-tail lo hi 1 c (b - 0xe0) (d ∷ s) k ∙ points-last 0x80 0xbf d ((b - 0xe0) * 64 + (c - 0x80)) s l

points_from-four : (b c d e lo hi : ℕ) (s : List ℕ) → 0xf0 ≤ b → lead_of b ≡ Tail lo hi 2 → In lo hi c → In 0x80 0xbf d → In 0x80 0xbf e
    → points_from Start 0 (b ∷ c ∷ d ∷ e ∷ s) ≡ ((((b - 0xf0) * 64 + (c - 0x80)) * 64 + (d - 0x80)) * 64 + (e - 0x80)) ∷ points_from Start 0 s
points_from-four b c d e lo hi s h q k l m =
    points-lead b (c ∷ d ∷ e ∷ s) (Tail lo hi 2) (b - 0xf0) q (lead_digits-four b h)
    ∙ points-tail lo hi 2 c (b - 0xf0) (d ∷ e ∷ s) k ∙ points-tail 0x80 0xbf 1 d ((b - 0xf0) * 64 + (c - 0x80)) (e ∷ s) l
    ∙ points-last 0x80 0xbf e (((b - 0xf0) * 64 + (c - 0x80)) * 64 + (d - 0x80)) s m

-- ---- what is written by the table is read
below-surrogates : (x y z : ℕ) → 13 ≤ x → x ≤ 13 → (In 0xd800 0xdfff ((x * 64 + y) * 64 + z) → ⊥) → y < 64 → z < 64 → y ≤ 31
below-surrogates x y z g a n k l =
    elim (dec_le y 31) [
      | yes h ↦ h
      | no f ↦ absurd (n (omega (arith, f), omega arith))
    ]

-- the rows of the grammar that a row of the table falls into
rows-three : (x y z : ℕ) → In 0x0800 0xffff ((x * 64 + y) * 64 + z) → (In 0xd800 0xdfff ((x * 64 + y) * 64 + z) → ⊥) → y < 64 → z < 64
    → (lo : ℕ) × (hi : ℕ) × (lead_of (0xe0 + x) ≡ Tail lo hi 1) × In lo hi (0x80 + y)
rows-three x y z r n k l =
    elim (dec_le x 0) [
      | yes a ↦ (0xa0, 0xbf, lead-e0 (0xe0 + x) (omega arith, omega arith), (omega arith, omega arith))
      | no f ↦ elim (dec_le x 12) [
        | yes a ↦ (0x80, 0xbf, lead-e1 (0xe0 + x) (omega arith, omega arith), (omega arith, omega arith))
        | no g ↦ elim (dec_le x 13) [
          | yes a ↦ (0x80, 0x9f, lead-ed (0xe0 + x) (omega arith, omega arith), (omega arith, omega (arith, below-surrogates x y z (omega (arith, g)) a n k l)))
          | no h ↦ (0x80, 0xbf, lead-ee (0xe0 + x) (omega arith, omega arith), (omega arith, omega arith))
        ]
      ]
    ]

rows_four : (w x y z : ℕ) → In 0x10000 0x10ffff (((w * 64 + x) * 64 + y) * 64 + z) → x < 64 → y < 64 → z < 64
    → (lo : ℕ) × (hi : ℕ) × (lead_of (0xf0 + w) ≡ Tail lo hi 2) × In lo hi (0x80 + x)
rows_four w x y z r k l m =
    elim (dec_le w 0) [
      | yes a ↦ (0x90, 0xbf, lead-f0 (0xf0 + w) (omega arith, omega arith), (omega arith, omega arith))
      | no f ↦ elim (dec_le w 3) [
        | yes a ↦ (0x80, 0xbf, lead-f1 (0xf0 + w) (omega arith, omega arith), (omega arith, omega arith))
        | no g ↦ (0x80, 0x8f, lead-f4 (0xf0 + w) (omega arith, omega arith), (omega arith, omega arith))
      ]
    ]

-- a character that is read whole, and the ones behind it
behind : (p q : ℕ) (ps s t : List ℕ) → run Start t ≡ run Start s → points_from Start 0 t ≡ q ∷ points_from Start 0 s → q ≡ p
    → (run Start s ≡ Start) × (points_from Start 0 s ≡ ps) → (run Start t ≡ Start) × (points_from Start 0 t ≡ p ∷ ps)
behind p q ps s t e f g h = (e ∙ h.0, f ∙ cc)

written : {ps s : List ℕ} → Encoded ps s → (run Start s ≡ Start) × (points_from Start 0 s ≡ ps)
unfolding run points_from
written empty = (refl, refl)
written (row_1 {p} {ps} {s} r o) = behind p p ps s (p ∷ s) (lead p s Start (lead_of-one p r.1)) (points_from-one p s r.1) refl (written o)
written (row_2 {p} {ps} {s} x y r e k o) =
    let b = 0xc0 + x in
    let c = 0x80 + y in
    behind p _ ps s (b ∷ c ∷ s)
    (lead b (c ∷ s) (Tail 0x80 0xbf 0) (lead_of-two b (omega arith) (omega arith)) ∙ tails-1 0x80 0xbf c s (omega arith, omega arith))
    (points_from-two b c s (omega arith) (omega arith) (omega arith) (omega arith)) (omega arith) (written o)
written (row_3 {p} {ps} {s} x y z r n e k l o) =
    let b = 0xe0 + x in
    let c = 0x80 + y in
    let d = 0x80 + z in
    let row = rows-three x y z (rw e at r) (rw e at n) k l in
    let t : In 0x80 0xbf d = (omega arith, omega arith) in
    behind p _ ps s (b ∷ c ∷ d ∷ s)
    (lead b (c ∷ d ∷ s) (Tail row.0 row.1 1) row.2 ∙ tails-2 row.0 row.1 c d s row.3 t)
    (points_from-three b c d row.0 row.1 s (omega arith, omega arith) row.2 row.3 t) (omega arith) (written o)
written (row_4 {p} {ps} {s} w x y z r e k l m o) =
    let b = 0xf0 + w in
    let c = 0x80 + x in
    let d = 0x80 + y in
    let f = 0x80 + z in
    let row = rows_four w x y z (rw e at r) k l m in
    let t : In 0x80 0xbf d = (omega arith, omega arith) in
    let u : In 0x80 0xbf f = (omega arith, omega arith) in
    behind p _ ps s (b ∷ c ∷ d ∷ f ∷ s)
    (lead b (c ∷ d ∷ f ∷ s) (Tail row.0 row.1 2) row.2 ∙ tails-3 row.0 row.1 c d f s row.3 t u)
    (points_from-four b c d f row.0 row.1 s (omega arith) row.2 row.3 t u) (omega arith) (written o)

pub Encoded→code_points : {ps s : List ℕ} → Encoded ps s → code_points s ≡ some ps
unfolding is_utf8 code_points
Encoded→code_points o = let h = written o in rw (h.0, h.1) refl

-- ---- and nothing else is
-- what the bytes of a text give
abbrev Read : List ℕ → Type 0
Read s = Encoded (points_from Start 0 s) s

read-two : (b c : ℕ) (s : List ℕ) → In 0xc2 0xdf b → In 0x80 0xbf c → Read s → Read (b ∷ c ∷ s)
read-two b c s h k o =
    let p = (b - 0xc0) * 64 + (c - 0x80) in
    let eb : 0xc0 + (b - 0xc0) ≡ b = omega arith in
    let ec : 0x80 + (c - 0x80) ≡ c = omega arith in
    rw (points_from-two b c s h.0 h.1 k.0 k.1)
    (subst₂ (λ (b c : ℕ). Encoded (p ∷ points_from Start 0 s) (b ∷ c ∷ s)) eb ec
    (row_2 (b - 0xc0) (c - 0x80) (omega arith, omega arith) refl (omega arith) o))

-- the first two bytes decide that the number is in the table's row, and no surrogate
read-three : (b c d lo hi : ℕ) (s : List ℕ) → In 0xe0 0xef b → lead_of b ≡ Tail lo hi 1 → In lo hi c → In 0x80 0xbf c → In 0x80 0xbf d
    → 0x20 ≤ (b - 0xe0) * 64 + (c - 0x80) → (In 0x360 0x37f ((b - 0xe0) * 64 + (c - 0x80)) → ⊥) → Read s → Read (b ∷ c ∷ d ∷ s)
read-three b c d lo hi s h e k l m r n o =
    let p = ((b - 0xe0) * 64 + (c - 0x80)) * 64 + (d - 0x80) in
    let eb : 0xe0 + (b - 0xe0) ≡ b = omega arith in
    let ec : 0x80 + (c - 0x80) ≡ c = omega arith in
    let ed : 0x80 + (d - 0x80) ≡ d = omega arith in
    rw (points_from-three b c d lo hi s h e k m)
    (subst₃ (λ (b c d : ℕ). Encoded (p ∷ points_from Start 0 s) (b ∷ c ∷ d ∷ s)) eb ec ed
    (row_3 (b - 0xe0) (c - 0x80) (d - 0x80) (omega arith, omega arith) (λ x. n (omega arith, omega arith)) refl (omega arith) (omega arith) o))

read-four : (b c d e lo hi : ℕ) (s : List ℕ) → In 0xf0 0xf4 b → lead_of b ≡ Tail lo hi 2 → In lo hi c → In 0x80 0xbf c → In 0x80 0xbf d → In 0x80 0xbf e
    → In 0x10 0x10f ((b - 0xf0) * 64 + (c - 0x80)) → Read s → Read (b ∷ c ∷ d ∷ e ∷ s)
read-four b c d e lo hi s h q k l m t r o =
    let p = (((b - 0xf0) * 64 + (c - 0x80)) * 64 + (d - 0x80)) * 64 + (e - 0x80) in
    let eb : 0xf0 + (b - 0xf0) ≡ b = omega arith in
    let ec : 0x80 + (c - 0x80) ≡ c = omega arith in
    let ed : 0x80 + (d - 0x80) ≡ d = omega arith in
    let ee : 0x80 + (e - 0x80) ≡ e = omega arith in
    rw (points_from-four b c d e lo hi s h.0 q k m t)
    (subst (λ (e : ℕ). Encoded (p ∷ points_from Start 0 s) (b ∷ c ∷ d ∷ e ∷ s)) ee
    (subst₃ (λ (b c d : ℕ). Encoded (p ∷ points_from Start 0 s) (b ∷ c ∷ d ∷ (0x80 + (e - 0x80)) ∷ s)) eb ec ed
    (row_4 (b - 0xf0) (c - 0x80) (d - 0x80) (e - 0x80) (omega arith, omega arith) refl (omega arith) (omega arith) (omega arith) o)))

read : {s : List ℕ} → Octets s → Read s
unfolding points_from
read end = empty
read (utf8_1 {b} {s} h o) = rw (points_from-one b s h.1) (row_1 h (read o))
read (utf8_2 {b} {c} {s} h k o) = read-two b c s h k (read o)
read (utf8_3_e0 {b} {c} {d} {s} h k l o) = read-three b c d 0xa0 0xbf s (omega arith, omega arith) (lead-e0 b h) k (omega arith, omega arith) l (omega arith) (λ x. omega arith) (read o)
read (utf8_3_e1 {b} {c} {d} {s} h k l o) = read-three b c d 0x80 0xbf s (omega arith, omega arith) (lead-e1 b h) k k l (omega arith) (λ x. omega arith) (read o)
read (utf8_3_ed {b} {c} {d} {s} h k l o) = read-three b c d 0x80 0x9f s (omega arith, omega arith) (lead-ed b h) k (omega arith, omega arith) l (omega arith) (λ x. omega arith) (read o)
read (utf8_3_ee {b} {c} {d} {s} h k l o) = read-three b c d 0x80 0xbf s (omega arith, omega arith) (lead-ee b h) k k l (omega arith) (λ x. omega arith) (read o)
read (utf8_4_f0 {b} {c} {d} {e} {s} h k l m o) = read-four b c d e 0x90 0xbf s (omega arith, omega arith) (lead-f0 b h) k (omega arith, omega arith) l m (omega arith, omega arith) (read o)
read (utf8_4_f1 {b} {c} {d} {e} {s} h k l m o) = read-four b c d e 0x80 0xbf s (omega arith, omega arith) (lead-f1 b h) k k l m (omega arith, omega arith) (read o)
read (utf8_4_f4 {b} {c} {d} {e} {s} h k l m o) = read-four b c d e 0x80 0x8f s (omega arith, omega arith) (lead-f4 b h) k (omega arith, omega arith) l m (omega arith, omega arith) (read o)

pub code_points→Encoded : (s ps : List ℕ) → code_points s ≡ some ps → Encoded ps s
unfolding code_points
code_points→Encoded s ps e = go (is_utf8 s) refl e
  where
    go : (b : Bool) → is_utf8 s ≡ b → (when b then some (points_from Start 0 s) else none) ≡ some ps → Encoded ps s
    go true q e = let f : points_from Start 0 s ≡ ps = cc in subst (λ (qs : List ℕ). Encoded qs s) f (read (is_utf8→Octets s q))
    go false q e = let z : ◌≡◌ {A = ℕ} 0 1 = cc in absurd (omega arith)
