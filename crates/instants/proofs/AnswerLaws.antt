-- The answers for C at each way of the code: a refusal's number negated with the buffer as it was, or a length with the result in front.
use Prim.Native.Nat.{ℕ, ◌≤◌, ◌<◌}
use mathlib.Core.Path.{◌≡◌, refl, sym, ap, ◌∙◌}
use mathlib.Core.List.{List, [], ◌∷◌, ◌++◌}
use mathlib.Core.Bool.{Bool, true, false}
use native.Mathlib.Omega.{arith}
use lib.IntN.{ℤ, pos, negsuc, neg_ℤ, nat_abs}
use lib.ListN.{length, take, drop, set}
use lib.Seq.{length-take-le}
use lib.Signed.{lt_z}
use mir.Syntax.{w32}
use mir.Val.{SFits, to_z, of_z}
use mir.ValLaws.{to_z-of_z, to_z_pos}
use borrow.Author.Tests.{ltb-true}
use Rattle.std.specs.Int.{from_bool}
use Rattle.base.specs.Base.{Result, ok, stop, after}
use Rattle.number.proofs.Laws.{length-bytes_of}
use Rattle.scalar.specs.Scalars.{content_of}
use Rattle.scalar.specs.declared.Scalar.{Scalar}
use Rattle.scalar.specs.declared.Scalar.TheVariants.{Int, Long, Float, FloatNan, Double, DoubleNan, Date, TimeMillis, TimeMicros, TimestampMillis, TimestampMicros, TimestampNanos, LocalTimestampMillis, LocalTimestampMicros, LocalTimestampNanos}
use Rattle.frame.specs.ValueFrame.{contents, write_scalar, encode_value}
use Rattle.buffer.specs.Built.{Built}
use Rattle.buffer.specs.After.{checked_result, buffer_after, code_for}
use Rattle.buffer.proofs.AfterLaws.{checked_result-short, checked_result-fits}
use Rattle.types.specs.Contract.{value_of}
use Rattle.calendar.specs.declared.Civil.{Civil}
use Rattle.calendar.specs.Calendar.{civil, civil_of}
use Rattle.calendar.specs.Instants.{date_of}
use Rattle.calendar.proofs.EntryLaws.{civil-small}
use Rattle.instants.specs.Frames.{frame_sum, sum_for, held_code, civil_for, date_in, date_for}

-- ---- answers with a buffer
module _ {A : Type 0} (r : Result (List A)) (z : ℤ) (b : List A) where
  pub told-stop : (n : ℕ) → r ≡ stop n → z ≡ neg_ℤ (pos n) → (z ≡ code_for r) × (b ≡ buffer_after r b)
  unfolding code_for buffer_after
  told-stop n e q = rw e (q, refl)

  pub told-ok : (x c : List A) → r ≡ ok x → z ≡ pos (length x) → c ≡ x ++ drop (length x) b → (z ≡ code_for r) × (c ≡ buffer_after r b)
  unfolding code_for buffer_after
  told-ok x c e q f = rw e (q, f)

-- ---- a scalar's frame
abbrev pub frame_of : Scalar → List ℕ
frame_of s = encode_value (value_of s)

pub frame-length : (s : Scalar) → length (frame_of s) ≤ 9
unfolding encode_value value_of write_scalar contents
frame-length (Int z) = omega (arith, length-bytes_of 4 (content_of (Int z)))
frame-length (Long z) = omega (arith, length-bytes_of 8 (content_of (Long z)))
frame-length (Float x) = omega (arith, length-bytes_of 4 (content_of (Float x)))
frame-length (FloatNan b) = omega (arith, length-bytes_of 4 b)
frame-length (Double x) = omega (arith, length-bytes_of 8 (content_of (Double x)))
frame-length (DoubleNan b) = omega (arith, length-bytes_of 8 b)
frame-length (Date z) = omega (arith, length-bytes_of 4 (content_of (Date z)))
frame-length (TimeMillis z) = omega (arith, length-bytes_of 4 (content_of (TimeMillis z)))
frame-length (TimeMicros z) = omega (arith, length-bytes_of 8 (content_of (TimeMicros z)))
frame-length (TimestampMillis z) = omega (arith, length-bytes_of 8 (content_of (TimestampMillis z)))
frame-length (TimestampMicros z) = omega (arith, length-bytes_of 8 (content_of (TimestampMicros z)))
frame-length (TimestampNanos z) = omega (arith, length-bytes_of 8 (content_of (TimestampNanos z)))
frame-length (LocalTimestampMillis z) = omega (arith, length-bytes_of 8 (content_of (LocalTimestampMillis z)))
frame-length (LocalTimestampMicros z) = omega (arith, length-bytes_of 8 (content_of (LocalTimestampMicros z)))
frame-length (LocalTimestampNanos z) = omega (arith, length-bytes_of 8 (content_of (LocalTimestampNanos z)))

-- written into an array of nine bytes
module _ (s : Scalar) (o : List ℕ) (n : ℕ) (nine : length o ≡ 9) (h : Built (frame_of s) o n) where
  count : n ≡ length (frame_of s)
  unfolding Built
  count = omega (arith, h.0, frame-length s)

  pub written-within : n ≤ length o
  written-within = omega (arith, count, frame-length s)

  pub written-taken : n ≡ length (take n o)
  written-taken = sym (length-take-le n o written-within)

  pub written-fits : SFits w32 (pos n)
  written-fits = record { sfits = omega (arith, written-within) }

  written : take n o ≡ frame_of s
  unfolding Built
  written = ap (λ (k : ℕ). take k o) count ∙ h.1 (omega (arith, frame-length s)) (omega (arith, frame-length s))

  pub too_short : (b : List ℕ) (z : ℤ) → length b < n → z ≡ neg_ℤ (pos 18) → let r = checked_result (length b) (frame_of s) in (z ≡ code_for r) × (b ≡ buffer_after r b)
  too_short b z l q = told-stop (checked_result (length b) (frame_of s)) z b 18 (checked_result-short (length b) (frame_of s) (omega (arith, frame-length s)) (omega (arith, count))) q

  pub handed : (b c : List ℕ) → n ≤ length b → c ≡ take n o ++ drop (length (take n o)) b → let r = checked_result (length b) (frame_of s) in (to_z w32 n ≡ code_for r) × (c ≡ buffer_after r b)
  handed b c l e =
      told-ok (checked_result (length b) (frame_of s)) (to_z w32 n) b (frame_of s) c
      (checked_result-fits (length b) (frame_of s) (omega (arith, frame-length s)) (omega (arith, count)))
      (to_z_pos w32 n (omega (arith, written-within)) ∙ ap pos count)
      (e ∙ ap (λ (x : List ℕ). x ++ drop (length x) b) written)

-- ---- the sum, and the window
pub sum_for-to : (i d : List ℕ) (l : ℕ) (s : Scalar) → frame_sum i d ≡ ok s → sum_for i d l ≡ checked_result l (frame_of s)
unfolding sum_for after
sum_for-to i d l s e = rw e refl

pub sum_for-refused : (i d : List ℕ) (l n : ℕ) → frame_sum i d ≡ stop n → sum_for i d l ≡ stop n
unfolding sum_for after
sum_for-refused i d l n e = rw e refl

pub held-ok : (r : Result Bool) (t : Bool) → r ≡ ok t → pos (from_bool t) ≡ held_code r
unfolding held_code
held-ok r true e = rw e refl
held-ok r false e = rw e refl

pub held-stop : (r : Result Bool) (n : ℕ) → r ≡ stop n → neg_ℤ (pos n) ≡ held_code r
unfolding held_code
held-stop r n e = rw e refl

-- ---- three slots
set-three : (s : List ℤ) (a b c : ℤ) → 3 ≤ length s → set (set (set s 0 a) 1 b) 2 c ≡ (a ∷ b ∷ c ∷ []) ++ drop 3 s
set-three [] a b c h = absurd (omega arith)
set-three (x ∷ []) a b c h = absurd (omega arith)
set-three (x ∷ y ∷ []) a b c h = absurd (omega arith)
set-three (x ∷ y ∷ z ∷ s) a b c h = refl

-- a month and a day fit a slot
pub month-fits : (c : Civil) (z : ℤ) → SFits w32 z → c ≡ civil_of (to_z w32 (of_z w32 z)) → SFits w32 (pos c.month)
month-fits c z f e =
    let h : (civil_of z).month ≤ 12 = (civil-small z f.sfits).0 in
    let q : c.month ≡ (civil_of z).month = ap (λ (x : Civil). x.month) (e ∙ ap civil_of (to_z-of_z w32 z f)) in
    record { sfits = omega arith }

pub day-fits : (c : Civil) (z : ℤ) → SFits w32 z → c ≡ civil_of (to_z w32 (of_z w32 z)) → SFits w32 (pos c.day)
day-fits c z f e =
    let h : (civil_of z).day ≤ 31 = (civil-small z f.sfits).1 in
    let q : c.day ≡ (civil_of z).day = ap (λ (x : Civil). x.day) (e ∙ ap civil_of (to_z-of_z w32 z f)) in
    record { sfits = omega arith }

pub civil-short : (z n : ℤ) (s : List ℤ) → length s < 3 → n ≡ neg_ℤ (pos 18) → let r = civil_for z (length s) in (n ≡ code_for r) × (s ≡ buffer_after r s)
unfolding civil_for
civil-short z n s h q = told-stop (civil_for z (length s)) n s 18 (checked_result-short (length s) ((civil_of z).year ∷ pos (civil_of z).month ∷ pos (civil_of z).day ∷ []) (omega arith) h) q

civil-put : (z a b c : ℤ) (s : List ℤ) → 3 ≤ length s → a ≡ (civil_of z).year → b ≡ pos (civil_of z).month → c ≡ pos (civil_of z).day
    → let r = civil_for z (length s) in (pos 3 ≡ code_for r) × (set (set (set s 0 a) 1 b) 2 c ≡ buffer_after r s)
unfolding civil_for
civil-put z a b c s h p q r =
    let x = (civil_of z).year ∷ pos (civil_of z).month ∷ pos (civil_of z).day ∷ [] in
    let e : ◌≡◌ {A = List ℤ} (a ∷ b ∷ c ∷ []) x = cc in
    told-ok (civil_for z (length s)) (pos 3) s x (set (set (set s 0 a) 1 b) 2 c) (checked_result-fits (length s) x (omega arith) h) refl
    (set-three s a b c h ∙ ap (λ (y : List ℤ). y ++ drop 3 s) e)

pub civil-stored : (c : Civil) (z : ℤ) (s : List ℤ) → SFits w32 z → SFits w32 c.year → c ≡ civil_of (to_z w32 (of_z w32 z)) → 3 ≤ length s
    → let r = civil_for z (length s) in (pos 3 ≡ code_for r) × (set (set (set s 0 (to_z w32 (of_z w32 c.year))) 1 (to_z w32 c.month)) 2 (to_z w32 c.day) ≡ buffer_after r s)
civil-stored c z s f g e h =
    let q : c ≡ civil_of z = e ∙ ap civil_of (to_z-of_z w32 z f) in
    civil-put z (to_z w32 (of_z w32 c.year)) (to_z w32 c.month) (to_z w32 c.day) s h
    (to_z-of_z w32 c.year g ∙ ap (λ (x : Civil). x.year) q)
    (to_z_pos w32 c.month (month-fits c z f e).sfits ∙ ap (λ (x : Civil). pos x.month) q)
    (to_z_pos w32 c.day (day-fits c z f e).sfits ∙ ap (λ (x : Civil). pos x.day) q)

-- ---- a month and a day that may be below 0
pub date-no-month : (y m d : ℤ) → lt_z m (pos 0) ≡ true → stop 27 ≡ date_in y m d
unfolding date_in
date-no-month y (pos m) d e = absurd (omega (arith, ltb-true m 0 e))
date-no-month y (negsuc m) d e = refl

pub date-no-day : (y m d : ℤ) → lt_z m (pos 0) ≡ false → lt_z d (pos 0) ≡ true → stop 27 ≡ date_in y m d
unfolding date_in
date-no-day y (pos m) (pos d) e f = absurd (omega (arith, ltb-true d 0 f))
date-no-day y (pos m) (negsuc d) e f = refl
date-no-day y (negsuc m) d e f = let z : ◌≡◌ {A = ℕ} 0 1 = cc in absurd (omega arith)

date-both : (y m d : ℤ) → lt_z m (pos 0) ≡ false → lt_z d (pos 0) ≡ false → date_of (civil y (nat_abs m) (nat_abs d)) ≡ date_in y m d
unfolding date_in
date-both y (pos m) (pos d) e f = refl
date-both y (pos m) (negsuc d) e f = let z : ◌≡◌ {A = ℕ} 0 1 = cc in absurd (omega arith)
date-both y (negsuc m) d e f = let z : ◌≡◌ {A = ℕ} 0 1 = cc in absurd (omega arith)

pub date-told : (y m d : ℤ) → SFits w32 y → SFits w32 m → SFits w32 d → lt_z m (pos 0) ≡ false → lt_z d (pos 0) ≡ false
    → date_of (civil (to_z w32 (of_z w32 y)) (nat_abs (to_z w32 (of_z w32 m))) (nat_abs (to_z w32 (of_z w32 d)))) ≡ date_in y m d
date-told y m d fy fm fd p q = rw (to_z-of_z w32 y fy, to_z-of_z w32 m fm, to_z-of_z w32 d fd) (date-both y m d p q)

-- a comparison of the code with 0, by its number
pub told-sign : (z : ℤ) (t : Bool) → SFits w32 z → lt_z (to_z w32 (of_z w32 z)) (pos 0) ≡ t → lt_z z (pos 0) ≡ t
told-sign z t f e = ap (λ (x : ℤ). lt_z x (pos 0)) (sym (to_z-of_z w32 z f)) ∙ e

-- ---- one slot
pub date_in-same : (y m d : ℤ) → SFits w32 y → SFits w32 m → SFits w32 d → date_in (to_z w32 (of_z w32 y)) (to_z w32 (of_z w32 m)) (to_z w32 (of_z w32 d)) ≡ date_in y m d
date_in-same y m d fy fm fd = cc (to_z-of_z w32 y fy, to_z-of_z w32 m fm, to_z-of_z w32 d fd)

module _ (y m d : ℤ) (s : List ℤ) where
  pub date-refused : (n : ℕ) (a : ℤ) → date_in y m d ≡ stop n → a ≡ neg_ℤ (pos n) → let r = date_for y m d (length s) in (a ≡ code_for r) × (s ≡ buffer_after r s)
  unfolding date_for after
  date-refused n a e q = told-stop (date_for y m d (length s)) a s n (rw e refl) q

  pub date-short : (z a : ℤ) → date_in y m d ≡ ok z → length s < 1 → a ≡ neg_ℤ (pos 18) → let r = date_for y m d (length s) in (a ≡ code_for r) × (s ≡ buffer_after r s)
  unfolding date_for after
  date-short z a e h q = told-stop (date_for y m d (length s)) a s 18 (rw e (checked_result-short (length s) (z ∷ []) (omega arith) h)) q

  pub date-put : (z a : ℤ) → date_in y m d ≡ ok z → 1 ≤ length s → a ≡ z → let r = date_for y m d (length s) in (pos 1 ≡ code_for r) × (set s 0 a ≡ buffer_after r s)
  unfolding date_for after
  date-put z a e h q = told-ok (date_for y m d (length s)) (pos 1) s (z ∷ []) (set s 0 a) (rw e (checked_result-fits (length s) (z ∷ []) (omega arith) h)) refl (set-one s a h ∙ ap (λ (x : ℤ). x ∷ drop 1 s) q)
    where
      set-one : (s : List ℤ) (a : ℤ) → 1 ≤ length s → set s 0 a ≡ a ∷ drop 1 s
      set-one [] a h = absurd (omega arith)
      set-one (x ∷ s) a h = refl
