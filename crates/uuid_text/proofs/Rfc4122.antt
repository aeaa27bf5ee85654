-- RFC 4122 and docs/RULES.md: a text is read as b if and only if the grammar has it with the bytes b; and the form that RFC 4122 writes is one
-- of the grammar's. Assumes nothing.
use Prim.Native.Nat.{ℕ, zero, suc, ◌+◌, ◌*◌, ◌/◌, ◌%◌, ◌<◌, ◌≤◌}
use mathlib.Core.Path.{◌≡◌, refl, ap, sym, ◌∙◌, subst, subst₂}
use mathlib.Core.List.{List, [], ◌∷◌, ◌++◌, append-nil, append_assoc}
use mathlib.Core.Option.{Option, none, some}
use mathlib.Core.Bool.{Bool, true, false, ◌&&◌, ◌||◌, and-eq-true_iff}
use borrow.Author.Tests.{ltb-true, ltb-false, eqb-true, lt-ltb, le-leb, lt-leb}
use native.Mathlib.Omega.{arith}
use lib.Dec.{T, ltb, eqb, eqb→eq}
use lib.ListN.{length, get_or, take, drop, length-drop, length-append, take-append-drop}
use lib.Seq.{length-take-le}
use Rattle.base.specs.Base.{when◌then◌else◌}
use Rattle.number.specs.Number.{all_bytes}
use Rattle.number.proofs.Laws.{all_bytes-head, all_bytes-tail, all_bytes-take, all_bytes-drop}
use Rattle.text.specs.Text.{Text, ascii, same}
use Rattle.text.proofs.TextLaws.{same→≡}
use Rattle.utf8.proofs.Bytes.{below, at}
use Rattle.uuid_text.specs.Uuid.{hex_digit, hex_pair, hex_bytes, has_hyphens, without_hyphens, hyphenated, in_braces, after_urn, uuid_of_text}
use Rattle.uuid_text.specs.Forms.{or_sixteen}
use Rattle.uuid_text.specs.Rfc4122.{HexDigit, small, capital, HexOctets, end, octet, UUID, fields, UuidText, plain, hyphens, braces, urn, small_digit, hex_text, rfc4122}
use Rattle.uuid_text.proofs.Digits.{Small, small-hex_digit, hex_digit-some}
use Rattle.uuid_text.proofs.Groups36.{gets, gets-part, gets-rest}

-- ---- digits
-- each character of the two rows is read as its place
abbrev read_as : Text → ℕ → Bool
read_as row v = eqb v (or_sixteen (hex_digit (get_or row v 0)))

rows-read : (T (below 16 (read_as (ascii "0123456789abcdef")))) × (T (below 16 (read_as (ascii "0123456789ABCDEF"))))
unfolding hex_digit or_sixteen ascii
rows-read = (tt, tt)

digit-read : {c v : ℕ} → HexDigit c v → hex_digit c ≡ some v
digit-read (small {v} h) = hex_digit-some _ v (eqb→eq v _ (at 16 (read_as (ascii "0123456789abcdef")) rows-read.0 v h)) h
digit-read (capital {v} h) = hex_digit-some _ v (eqb→eq v _ (at 16 (read_as (ascii "0123456789ABCDEF")) rows-read.1 v h)) h

-- and a character that is read stands in a row at its value
abbrev in_a_row : ℕ → ℕ → Bool
in_a_row c v = when ltb v 16 then eqb (get_or (ascii "0123456789abcdef") v 0) c || eqb (get_or (ascii "0123456789ABCDEF") v 0) c else true

all-in-a-row : T (below 0x67 (λ c. in_a_row c (or_sixteen (hex_digit c))))
unfolding hex_digit or_sixteen ascii
all-in-a-row = tt

from_row : (c v : ℕ) → v < 16 → (x y : Bool) → eqb (get_or (ascii "0123456789abcdef") v 0) c ≡ x → eqb (get_or (ascii "0123456789ABCDEF") v 0) c ≡ y → T (x || y) → HexDigit c v
from_row c v h true y p q t = subst (λ (d : ℕ). HexDigit d v) (eqb-true _ c p) (small h)
from_row c v h false true p q t = subst (λ (d : ℕ). HexDigit d v) (eqb-true _ c q) (capital h)
from_row c v h false false p q t = absurd t

past-f : (c : ℕ) → 0x67 ≤ c → hex_digit c ≡ none
unfolding hex_digit
past-f c h = simp (le-leb 0x30 c (omega arith), lt-leb c 0x39 (omega arith), le-leb 0x61 c (omega arith), lt-leb c 0x66 (omega arith), le-leb 0x41 c (omega arith), lt-leb c 0x46 (omega arith))

digit-of : (c v : ℕ) → hex_digit c ≡ some v → HexDigit c v
unfolding or_sixteen Small
digit-of c v e = go (ltb c 0x67) refl
  where
    go : (b : Bool) → ltb c 0x67 ≡ b → HexDigit c v
    go true q =
        let h : v < 16 = rw e at (small-hex_digit c) in
        let t : T (in_a_row c v) = rw e at (at 0x67 (λ d. in_a_row d (or_sixteen (hex_digit d))) all-in-a-row c (ltb-true c 0x67 q)) in
        from_row c v h _ _ refl refl (rw (lt-ltb v 16 h) at t)
    go false q = let z : ◌≡◌ {A = ℕ} 0 1 = cc (past-f c (ltb-false c 0x67 q)) in absurd (omega arith)

-- ---- octets
length-octets : {n : ℕ} {t : Text} {b : List ℕ} → HexOctets n t b → (length t ≡ n + n) × (length b ≡ n)
length-octets end = (refl, refl)
length-octets (octet h l o) = let p = length-octets o in (omega (arith, p.0), omega (arith, p.1))

-- octets, and digits behind them that are read
octets-read : {n : ℕ} {t : Text} {b c : List ℕ} (s : Text) → HexOctets n t b → hex_bytes s ≡ some c → hex_bytes (t ++ s) ≡ some (b ++ c)
unfolding hex_bytes hex_pair
octets-read s end e = e
octets-read s (octet h l o) e = rw (digit-read h, digit-read l, octets-read s o e) refl

pub HexOctets→some : {n : ℕ} {t : Text} {b : List ℕ} → HexOctets n t b → hex_bytes t ≡ some b
unfolding hex_bytes
HexOctets→some {t = t} {b = b} o = rw (append-nil t, append-nil b) at (octets-read [] o refl)

-- what is read, if anything is, has the property
abbrev Reads : (List ℕ → Type 0) → Option (List ℕ) → Type 0
Reads P none = Unit {0}
Reads P (some b) = P b

reads-if : (P : List ℕ → Type 0) (t : Bool) (x y : Option (List ℕ)) → (t ≡ true → Reads P x) → Reads P y → Reads P (when t then x else y)
reads-if P true x y p q = p refl
reads-if P false x y p q = q

reads-map : (P Q : List ℕ → Type 0) (x : Option (List ℕ)) → ((b : List ℕ) → P b → Q b) → Reads P x → Reads Q x
reads-map P Q none f r = tt
reads-map P Q (some b) f r = f b r

reads-pair : (P : List ℕ → Type 0) (h l : ℕ) (x y : Option ℕ) (z : Option (List ℕ)) → hex_digit h ≡ x → hex_digit l ≡ y
    → Reads (λ b. (u v : ℕ) → HexDigit h u → HexDigit l v → P ((u * 16 + v) ∷ b)) z → Reads P (hex_pair x y z)
unfolding hex_pair
reads-pair P h l none y z p q r = tt
reads-pair P h l (some u) none z p q r = tt
reads-pair P h l (some u) (some v) none p q r = tt
reads-pair P h l (some u) (some v) (some b) p q r = r u v (digit-of h u p) (digit-of l v q)

-- n octets, and digits behind them
octets-of : (n : ℕ) (t s : Text) (P : List ℕ → Type 0) → length t ≡ n + n
    → Reads (λ c. (b : List ℕ) → HexOctets n t b → P (b ++ c)) (hex_bytes s) → Reads P (hex_bytes (t ++ s))
unfolding hex_bytes
octets-of zero [] s P e r = reads-map _ P (hex_bytes s) (λ c f. f [] end) r
octets-of zero (h ∷ t) s P e r = absurd (omega arith)
octets-of (suc n) [] s P e r = absurd (omega arith)
octets-of (suc n) (h ∷ []) s P e r = absurd (omega arith)
octets-of (suc n) (h ∷ l ∷ t) s P e r =
    reads-pair P h l (hex_digit h) (hex_digit l) (hex_bytes (t ++ s)) refl refl
    (octets-of n t s _ (omega arith) (reads-map _ _ (hex_bytes s) (λ c f b o u v p q. f ((u * 16 + v) ∷ b) (octet p q o)) r))

-- whole pairs of digits, and nothing else
pairs : (t : Text) → Reads (λ b. HexOctets (length b) t b) (hex_bytes t)
unfolding hex_bytes
pairs [] = end
pairs (h ∷ []) = tt
pairs (h ∷ l ∷ t) =
    reads-pair _ h l (hex_digit h) (hex_digit l) (hex_bytes t) refl refl (reads-map _ _ (hex_bytes t) (λ b o u v p q. octet p q o) (pairs t))

pub some→HexOctets : (t : Text) (b : List ℕ) → hex_bytes t ≡ some b → HexOctets (length b) t b
some→HexOctets t b e = rw e at (pairs t)

all-octets : (n : ℕ) (t : Text) → length t ≡ n + n → Reads (HexOctets n t) (hex_bytes t)
all-octets n t e =
    reads-map _ _ (hex_bytes t) (λ b o. subst (λ (k : ℕ). HexOctets k t b) (omega (arith, (length-octets o).0)) o) (pairs t)

-- ---- the 36-character form
length-UUID : {t : Text} {b : List ℕ} → UUID t b → (length t ≡ 36) × (length b ≡ 16)
length-UUID (fields o p q r s) =
    let k = length-octets o in
    let l = length-octets p in
    let m = length-octets q in
    let n = length-octets r in
    let w = length-octets s in
    (simp length-append (omega arith), simp length-append (omega arith))

ungrouped : (low mid high clock node : Text) → length low ≡ 8 → length mid ≡ 4 → length high ≡ 4 → length clock ≡ 4 → length node ≡ 12
    → hyphenated (low ++ 0x2d ∷ mid ++ 0x2d ∷ high ++ 0x2d ∷ clock ++ 0x2d ∷ node) ≡ hex_bytes (low ++ (mid ++ (high ++ (clock ++ node))))
unfolding hyphenated has_hyphens without_hyphens
ungrouped low mid high clock node k l m n w =
    rw (gets-rest 8 low 0 k, gets-rest 4 mid 0 l, gets-rest 4 high 0 m, gets-rest 4 clock 0 n, gets-rest 12 node 0 w) refl

UUID-read : {t : Text} {b : List ℕ} → UUID t b → hyphenated t ≡ some b
UUID-read (fields {low} {mid} {high} {clock} {node} o p q r s) =
    ungrouped low mid high clock node (length-octets o).0 (length-octets p).0 (length-octets q).0 (length-octets r).0 (length-octets s).0
    ∙ simp append_assoc (octets-read _ o (octets-read _ p (octets-read _ q (octets-read _ r (HexOctets→some s)))))

-- the groups of a text of 36 characters that has its hyphens
regrouped : (t : Text) → length t ≡ 36 → has_hyphens t ≡ true
    → take 8 t ++ 0x2d ∷ take 4 (drop 9 t) ++ 0x2d ∷ take 4 (drop 14 t) ++ 0x2d ∷ take 4 (drop 19 t) ++ 0x2d ∷ drop 24 t ≡ t
unfolding has_hyphens
regrouped t n e =
    let p = (and-eq-true_iff (eqb (get_or t 8 0) 0x2d && eqb (get_or t 13 0) 0x2d && eqb (get_or t 18 0) 0x2d) (eqb (get_or t 23 0) 0x2d)).0 e in
    let q = (and-eq-true_iff (eqb (get_or t 8 0) 0x2d && eqb (get_or t 13 0) 0x2d) (eqb (get_or t 18 0) 0x2d)).0 p.0 in
    let r = (and-eq-true_iff (eqb (get_or t 8 0) 0x2d) (eqb (get_or t 13 0) 0x2d)).0 q.0 in
    ◌∙◌ {b = gets t 0 36}
    (rw (
      gets-part 8 t 0 (omega arith),
      gets-part 4 t 9 (omega arith),
      gets-part 4 t 14 (omega arith),
      gets-part 4 t 19 (omega arith),
      gets-rest 12 t 24 n,
      eqb-true (get_or t 8 0) 0x2d r.0,
      eqb-true (get_or t 13 0) 0x2d r.1,
      eqb-true (get_or t 18 0) 0x2d q.1,
      eqb-true (get_or t 23 0) 0x2d p.1,
    )
    refl)
    (sym (gets-rest 36 t 0 n))

in-groups : (t : Text) → length t ≡ 36 → has_hyphens t ≡ true → {a b c d e : List ℕ}
    → HexOctets 4 (take 8 t) a → HexOctets 2 (take 4 (drop 9 t)) b → HexOctets 2 (take 4 (drop 14 t)) c → HexOctets 2 (take 4 (drop 19 t)) d → HexOctets 6 (drop 24 t) e
    → UUID t (a ++ (b ++ (c ++ (d ++ e))))
in-groups t n h {a} {b} {c} {d} {e} o p q r s =
    let k : a ++ b ++ c ++ d ++ e ≡ a ++ (b ++ (c ++ (d ++ e))) = simp append_assoc in
    subst₂ UUID (regrouped t n h) k (fields o p q r s)

UUID-of : (t : Text) → length t ≡ 36 → Reads (UUID t) (hyphenated t)
unfolding hyphenated without_hyphens
UUID-of t n =
    reads-if (UUID t) (has_hyphens t) _ none
    (λ h.
    let part : (k m : ℕ) → k + m ≤ 36 → length (take m (drop k t)) ≡ m = λ k m l. length-take-le m (drop k t) (simp length-drop (omega arith)) in
    rw (append_assoc, append_assoc, append_assoc)
    (octets-of 4 (take 8 t) _ _ (part 0 8 (omega arith))
    (octets-of 2 (take 4 (drop 9 t)) _ _ (part 9 4 (omega arith))
    (octets-of 2 (take 4 (drop 14 t)) _ _ (part 14 4 (omega arith))
    (octets-of 2 (take 4 (drop 19 t)) _ _ (part 19 4 (omega arith))
    (reads-map _ _ (hex_bytes (drop 24 t)) (λ e s d r c q b p a o. in-groups t n h o p q r s)
    (all-octets 6 (drop 24 t) (simp length-drop (omega arith)))))))))
    tt

-- ---- the four forms
at-lengths : (t : Text)
    → (uuid_of_text (gets t 0 32) ≡ hex_bytes (gets t 0 32)) × (uuid_of_text (gets t 0 36) ≡ hyphenated (gets t 0 36))
    × (uuid_of_text (ascii "{" ++ gets t 0 36 ++ ascii "}") ≡ hyphenated (gets t 0 36)) × (uuid_of_text (ascii "urn:uuid:" ++ gets t 0 36) ≡ hyphenated (gets t 0 36))
unfolding uuid_of_text in_braces after_urn ascii same
at-lengths t = (refl, refl, refl, refl)

-- what the grammar has is read
pub UuidText→some : {t : Text} {b : List ℕ} → UuidText t b → uuid_of_text t ≡ some b
UuidText→some (plain {t} o) = subst (λ (s : Text). uuid_of_text s ≡ hex_bytes s) (sym (gets-rest 32 t 0 (length-octets o).0)) (at-lengths t).0 ∙ HexOctets→some o
UuidText→some (hyphens {t} u) = subst (λ (s : Text). uuid_of_text s ≡ hyphenated s) (sym (gets-rest 36 t 0 (length-UUID u).0)) (at-lengths t).1 ∙ UUID-read u
UuidText→some (braces {t} u) =
    subst (λ (s : Text). uuid_of_text (ascii "{" ++ s ++ ascii "}") ≡ hyphenated s) (sym (gets-rest 36 t 0 (length-UUID u).0)) (at-lengths t).2 ∙ UUID-read u
UuidText→some (urn {t} u) =
    subst (λ (s : Text). uuid_of_text (ascii "urn:uuid:" ++ s) ≡ hyphenated s) (sym (gets-rest 36 t 0 (length-UUID u).0)) (at-lengths t).3 ∙ UUID-read u

-- and nothing else is
in-braces : (t : Text) → length t ≡ 38 → get_or t 0 0 ≡ 0x7b → get_or t 37 0 ≡ 0x7d → ascii "{" ++ take 36 (drop 1 t) ++ ascii "}" ≡ t
unfolding ascii
in-braces t n p q = ◌∙◌ {b = gets t 0 38} (rw (gets-part 36 t 1 (omega arith), p, q) refl) (sym (gets-rest 38 t 0 n))

braces-of : (t : Text) → length t ≡ 38 → Reads (UuidText t) (in_braces t)
unfolding in_braces
braces-of t n =
    reads-if (UuidText t) (eqb (get_or t 0 0) 0x7b && eqb (get_or t 37 0) 0x7d) (hyphenated (take 36 (drop 1 t))) none
    (λ e.
    let p = (and-eq-true_iff (eqb (get_or t 0 0) 0x7b) (eqb (get_or t 37 0) 0x7d)).0 e in
    reads-map _ _ (hyphenated (take 36 (drop 1 t)))
    (λ b u. subst (λ (s : Text). UuidText s b) (in-braces t n (eqb-true _ _ p.0) (eqb-true _ _ p.1)) (braces u))
    (UUID-of (take 36 (drop 1 t)) (length-take-le 36 (drop 1 t) (simp length-drop (omega arith)))))
    tt

urn-of : (t : Text) → length t ≡ 45 → Reads (UuidText t) (after_urn t)
unfolding after_urn
urn-of t n =
    reads-if (UuidText t) (same (take 9 t) (ascii "urn:uuid:")) (hyphenated (drop 9 t)) none
    (λ e.
    let p : ascii "urn:uuid:" ++ drop 9 t ≡ t = ap (λ (s : Text). s ++ drop 9 t) (sym (same→≡ (take 9 t) (ascii "urn:uuid:") (rw e tt))) ∙ take-append-drop 9 t in
    reads-map _ _ (hyphenated (drop 9 t)) (λ b u. subst (λ (s : Text). UuidText s b) p (urn u)) (UUID-of (drop 9 t) (simp length-drop (omega arith))))
    tt

text_of : (t : Text) → Reads (UuidText t) (uuid_of_text t)
unfolding uuid_of_text
text_of t =
    reads-if (UuidText t) (eqb (length t) 32) (hex_bytes t) _ (λ e. reads-map _ _ (hex_bytes t) (λ b o. plain o) (all-octets 16 t (eqb-true _ _ e)))
    (reads-if (UuidText t) (eqb (length t) 36) (hyphenated t) _ (λ e. reads-map _ _ (hyphenated t) (λ b u. hyphens u) (UUID-of t (eqb-true _ _ e)))
    (reads-if (UuidText t) (eqb (length t) 38) (in_braces t) _ (λ e. braces-of t (eqb-true _ _ e))
    (reads-if (UuidText t) (eqb (length t) 45) (after_urn t) none (λ e. urn-of t (eqb-true _ _ e)) tt)))

pub some→UuidText : (t : Text) (b : List ℕ) → uuid_of_text t ≡ some b → UuidText t b
some→UuidText t b e = rw e at (text_of t)

-- a UUID has 16 bytes
pub length-UuidText : {t : Text} {b : List ℕ} → UuidText t b → length b ≡ 16
length-UuidText (plain o) = (length-octets o).1
length-UuidText (hyphens u) = (length-UUID u).1
length-UuidText (braces u) = (length-UUID u).1
length-UuidText (urn u) = (length-UUID u).1

-- ---- what RFC 4122 writes
small_row : T (below 16 (λ v. eqb (get_or (ascii "0123456789abcdef") v 0) (small_digit v)))
unfolding small_digit ascii
small_row = tt

small-written : (v : ℕ) → v < 16 → HexDigit (small_digit v) v
small-written v h =
    subst (λ (c : ℕ). HexDigit c v) (eqb→eq _ (small_digit v) (at 16 (λ v. eqb (get_or (ascii "0123456789abcdef") v 0) (small_digit v)) small_row v h)) (small h)

octets-written : (n : ℕ) (b : List ℕ) → length b ≡ n → T (all_bytes b) → HexOctets n (hex_text small_digit b) b
unfolding hex_text
octets-written zero [] e h = end
octets-written zero (x ∷ b) e h = absurd (omega arith)
octets-written (suc n) [] e h = absurd (omega arith)
octets-written (suc n) (x ∷ b) e h =
    let l : x < 256 = all_bytes-head x b h in
    let v : x / 16 * 16 + x % 16 ≡ x = omega arith in
    subst (λ (y : ℕ). HexOctets (suc n) (small_digit (x / 16) ∷ small_digit (x % 16) ∷ hex_text small_digit b) (y ∷ b)) v
    (octet (small-written (x / 16) (omega arith)) (small-written (x % 16) (omega arith)) (octets-written n b (omega arith) (all_bytes-tail x b h)))

pub rfc4122-written : (b : List ℕ) → length b ≡ 16 → T (all_bytes b) → UUID (rfc4122 b) b
unfolding rfc4122
rfc4122-written b n h =
    let part : (k m : ℕ) → k + m ≤ 16 → HexOctets m (hex_text small_digit (take m (drop k b))) (take m (drop k b)) =
    λ k m l. octets-written m (take m (drop k b)) (length-take-le m (drop k b) (simp length-drop (omega arith))) (all_bytes-take m (drop k b) (all_bytes-drop k b h)) in
    let last : HexOctets 6 (hex_text small_digit (drop 10 b)) (drop 10 b) = octets-written 6 (drop 10 b) (simp length-drop (omega arith)) (all_bytes-drop 10 b h) in
    let whole : take 4 b ++ take 2 (drop 4 b) ++ take 2 (drop 6 b) ++ take 2 (drop 8 b) ++ drop 10 b ≡ b =
    ◌∙◌ {b = gets b 0 16} (rw (gets-part 4 b 0 (omega arith), gets-part 2 b 4 (omega arith), gets-part 2 b 6 (omega arith), gets-part 2 b 8 (omega arith), gets-rest 6 b 10 n) refl) (sym (gets-rest 16 b 0 n)) in
    subst (λ (c : List ℕ). UUID (rfc4122 b) c) whole
    (fields (part 0 4 (omega arith)) (part 4 2 (omega arith)) (part 6 2 (omega arith)) (part 8 2 (omega arith)) last)

-- ---- the example of RFC 4122, section 3
abbrev pub example : List ℕ
example = 0xf8 ∷ 0x1d ∷ 0x4f ∷ 0xae ∷ 0x7d ∷ 0xec ∷ 0x11 ∷ 0xd0 ∷ 0xa7 ∷ 0x65 ∷ 0x00 ∷ 0xa0 ∷ 0xc9 ∷ 0x1e ∷ 0x6b ∷ 0xf6 ∷ []

pub rfc4122-example : rfc4122 example ≡ ascii "f81d4fae-7dec-11d0-a765-00a0c91e6bf6"
unfolding rfc4122 hex_text small_digit ascii
rfc4122-example = refl

pub urn-example : UuidText (ascii "urn:uuid:f81d4fae-7dec-11d0-a765-00a0c91e6bf6") example
unfolding ascii all_bytes
urn-example =
    let u : UUID (ascii "f81d4fae-7dec-11d0-a765-00a0c91e6bf6") example = rw rfc4122-example at (rfc4122-written example refl tt) in
    urn u

-- and with digits of both cases, in braces
pub both-cases : UuidText (ascii "{F81d4faE-7dEc-11D0-A765-00a0c91E6Bf6}") example
unfolding uuid_of_text in_braces hyphenated has_hyphens without_hyphens hex_bytes hex_pair hex_digit ascii
both-cases = some→UuidText _ example refl
