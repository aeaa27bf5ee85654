-- Results that are written piece by piece: what is written so far, what is to follow, and loops over what a part holds.
use Prim.Native.Nat.{ℕ, ◌+◌, ◌-◌, ◌≤◌, ◌<◌, min}
use mathlib.Core.Path.{◌≡◌, refl, sym, ap, ◌∙◌, subst}
use mathlib.Core.List.{List, [], ◌∷◌, ◌++◌, append_assoc, append-nil}
use mathlib.Core.Option.{none, some}
use mathlib.Core.Bool.{Bool, true, false}
use native.Mathlib.Omega.{arith}
use lib.Dec.{leb}
use lib.ListN.{length, take, drop, length-drop}
use lib.Seq.{drop-drop}
use borrow.Author.Rules.{part_to_end}
use borrow.Author.Tests.{leb-true, leb-false}
use Rattle.base.specs.Base.{Result, ok, stop, after}
use Rattle.text.specs.Read.{Read, ◌>>=◌}
use Rattle.text.specs.Measured.{Reads}
use Rattle.frame.specs.Readers.{read_many}
use Rattle.frame.specs.Checks.{Spans}
use Rattle.frame.proofs.Reading.{reads-some}
use Rattle.frame.proofs.Measuring.{spans-le, spans-rest}
use Rattle.frame.proofs.Counting.{many-zero, Split, many-split}
use Rattle.types.specs.Contract.{on_read, on_both}
use Rattle.buffer.specs.Built.{Built, Wrote}
use Rattle.buffer.proofs.BuiltLaws.{tail-back, length-tail-back, built-small, built-append}
use Rattle.std.specs.Prelude.{Ok, Err}
use Rattle.base.specs.declared.refusal.Refusal.{Refusal}

-- ---- answers

pub accepted-small : (x : Result (List ℕ)) (o : List ℕ) (m : ℕ) → Wrote x o (Ok m) → m ≤ 65536
unfolding Wrote
accepted-small (ok b) o m w = built-small b o m w
accepted-small (stop e) o m w = absurd w

-- ---- what two parts hold

pub both_some : {A B C : Type 0} (f : A → B → Result C) (x : Read A) (y : Read B) (a : A) (b : B) (r u : List ℕ) → x ≡ some (a, r) → y ≡ some (b, u) → on_both f x y ≡ f a b
unfolding on_both
both_some f x y a b r u p q = rw (p, q)

-- f, with what the first part holds, or the second
unfoldable pub on_first : {A B C : Type 0} → (A → B → Result C) → Read A → B → Result C
on_first f none b = stop 0
on_first f (some x) b = f x.0 b

unfoldable pub on_second : {A B C : Type 0} → (A → B → Result C) → Read B → A → Result C
on_second f none a = stop 0
on_second f (some y) a = f a y.0

pub both_first : {A B C : Type 0} (f : A → B → Result C) (x : Read A) (y : Read B) → on_read (on_first f x) y ≡ on_both f x y
unfolding on_both on_read on_first
both_first f none none = refl
both_first f none (some y) = refl
both_first f (some x) none = refl
both_first f (some x) (some y) = refl

pub both-second : {A B C : Type 0} (f : A → B → Result C) (x : Read A) (y : Read B) → on_read (on_second f y) x ≡ on_both f x y
unfolding on_both on_read on_second
both-second f none none = refl
both-second f none (some y) = refl
both-second f (some x) none = refl
both-second f (some x) (some y) = refl

-- ---- what is written so far, and what is to follow

-- bytes in front of what is to follow
abbrev pub front : List ℕ → Result (List ℕ) → Result (List ℕ)
front p x = after x (λ b. ok (p ++ b))

pub record Going (whole : Result (List ℕ)) (y : List ℕ) (n : ℕ) (rest : Result (List ℕ)) : Type 0 where
  pub done : List ℕ
  pub built : Built done y n
  pub goes : whole ≡ front done rest

pub going_start : (whole : Result (List ℕ)) (p y : List ℕ) (n : ℕ) (rest : Result (List ℕ)) → Built p y n → whole ≡ front p rest → Going whole y n rest
going_start whole p y n rest w e = record { done = p; built = w; goes = e }

pub going-small : (whole : Result (List ℕ)) (y : List ℕ) (n : ℕ) (rest : Result (List ℕ)) → Going whole y n rest → n ≤ 65536
going-small whole y n rest g = built-small g.done y n g.built

front-front : (p b : List ℕ) (x : Result (List ℕ)) → front p (front b x) ≡ front (p ++ b) x
unfolding after
front-front p b (stop e) = refl
front-front p b (ok c) = ap ok (sym (append_assoc p b c))

-- one part more is accepted
pub going_step : (whole x rest rest' : Result (List ℕ)) (y z : List ℕ) (n m k r : ℕ) → Going whole y n rest → rest ≡ after x (λ b. front b rest') → k ≡ min n (length y)
    → length z ≡ length y - k → Wrote x z (Ok m) → r ≡ min (n + m) 65536 → Going whole (take k y ++ z) r rest'
unfolding Wrote after
going_step whole (stop e) rest rest' y z n m k r g q h l w i = absurd w
going_step whole (ok b) rest rest' y z n m k r g q h l w i = record {
  done = g.done ++ b;
  built = built-append g.done b y z n m k r g.built h l w i;
  goes = g.goes ∙ ap (front g.done) q ∙ front-front g.done b rest';
}

-- a part is refused
pub going-no : (whole x rest : Result (List ℕ)) (f : List ℕ → Result (List ℕ)) (y z o : List ℕ) (n : ℕ) (e : Refusal) → Going whole y n rest → rest ≡ after x f → Wrote x z (Err e) → Wrote whole o (Err e)
unfolding Wrote after
going-no whole (stop k) rest f y z o n e g q w = subst (λ v. Wrote v o (Err e)) (sym (g.goes ∙ ap (front g.done) q)) w
going-no whole (ok b) rest f y z o n e g q w = absurd w

-- nothing is to follow
pub going_end : (whole rest : Result (List ℕ)) (y : List ℕ) (n : ℕ) → Going whole y n rest → rest ≡ ok [] → Wrote whole y (Ok n)
unfolding Wrote after
going_end whole rest y n g q = subst (λ v. Wrote v y (Ok n)) (sym (g.goes ∙ ap (front g.done) q ∙ ap ok (append-nil g.done))) g.built

last-part : (x : Result (List ℕ)) → x ≡ after x (λ b. front b (ok []))
unfolding after
last-part (stop e) = refl
last-part (ok b) = ap ok (sym (append-nil b))

-- how many bytes a lent tail has
lent : (k : ℕ) (y z : List ℕ) → length z ≡ length (take (length y - k) (drop k y)) → length z ≡ length y - k
lent k y z l = l ∙ ap length (part_to_end y k) ∙ length-drop k y

-- bytes, and then the rest in the tail
pub wrote-last : (whole x : Result (List ℕ)) (p y z : List ℕ) (n m k r : ℕ) → Built p y n → whole ≡ front p x → k ≡ min n (length y) → length z ≡ length (take (length y - k) (drop k y))
    → Wrote x z (Ok m) → r ≡ min (n + m) 65536 → Wrote whole (take k y ++ (z ++ drop (length y - k) (drop k y))) (Ok r)
wrote-last whole x p y z n m k r b e h l w i =
    rw (tail-back k y z) (going_end whole (ok []) (take k y ++ z) r (going_step whole x x (ok []) y z n m k r (going_start whole p y n x b e) (last-part x) h (lent k y z l) w i) refl)

pub wrote-last-no : (whole x : Result (List ℕ)) (p z o : List ℕ) (e : Refusal) → whole ≡ front p x → Wrote x z (Err e) → Wrote whole o (Err e)
unfolding Wrote after
wrote-last-no whole (stop k) p z o e q w = subst (λ v. Wrote v o (Err e)) (sym q) w
wrote-last-no whole (ok b) p z o e q w = absurd w

-- ---- many things

unfoldable pub each_bytes : {A : Type 0} → (A → Result (List ℕ)) → List A → Result (List ℕ)
each_bytes f [] = ok []
each_bytes f (a ∷ xs) = after (f a) (λ b. front b (each_bytes f xs))

pub each-split : {A : Type 0} (p : List ℕ → Read A) (f : A → Result (List ℕ)) (left : ℕ) (t : List ℕ) (n : Split p left t)
    → on_read (each_bytes f) (read_many p left t) ≡ after (on_read f (p t)) (λ b. front b (on_read (each_bytes f) (read_many p (left - 1) n.tail)))
unfolding on_read each_bytes Reads ◌>>=◌
each-split p f left t n = rw (n.joins, n.first, n.others.1.1)

pub each_none : {A : Type 0} (p : List ℕ → Read A) (f : A → Result (List ℕ)) (left : ℕ) (t : List ℕ) → left ≤ 0 → on_read (each_bytes f) (read_many p left t) ≡ ok []
unfolding on_read each_bytes
each_none p f left t h = rw (many-zero p left t h)

-- a loop over many things of s has come to `from` with `left` to go, and has written `at` bytes of the whole
pub record Loop {A : Type 0} (p : List ℕ → Read A) (whole : Result (List ℕ)) (f : A → Result (List ℕ)) (s : List ℕ) (len : ℕ) (out : List ℕ) (left at from : ℕ) : Type 0 where
  pub inside : from ≤ length s
  pub others : Reads (read_many p left (drop from s))
  pub same : length out ≡ len
  pub going : Going whole out at (on_read (each_bytes f) (read_many p left (drop from s)))

module _ {A : Type 0} (p : List ℕ → Read A) (whole : Result (List ℕ)) (f : A → Result (List ℕ)) (s : List ℕ) (len : ℕ) (out : List ℕ) (left at from : ℕ) (w : Loop p whole f s len out left at from) where
  pub loop-first : 0 < left → Reads (p (drop from s))
  loop-first h = let n = many-split p left (drop from s) w.others h in reads-some n.item n.tail n.first

  pub loop-small : at ≤ 65536
  loop-small = going-small _ out at _ w.going

  pub loop-end : left ≤ 0 → Wrote whole out (Ok at)
  loop-end h = going_end _ _ out at w.going (each_none p f left (drop from s) h)

  pub loop-no : 0 < left → (z o : List ℕ) (e : Refusal) → Wrote (on_read f (p (drop from s))) z (Err e) → Wrote whole o (Err e)
  loop-no h z o e v = going-no _ _ _ _ out z o at e w.going (each-split p f left (drop from s) (many-split p left (drop from s) w.others h)) v

  pub loop-add : (m : ℕ) → Spans (p (drop from s)) (drop from s) m → from + m ≤ length s
  loop-add m v = omega (arith, spans-le _ _ m v, length-drop from s, w.inside)

  -- what comes behind the next
  pub loop-tail : (h : 0 < left) (m : ℕ) → Spans (p (drop from s)) (drop from s) m → (many-split p left (drop from s) w.others h).tail ≡ drop (from + m) s
  loop-tail h m v = let n = many-split p left (drop from s) w.others h in spans-rest _ _ m v n.item n.tail n.first ∙ drop-drop m from s

  pub loop-step : 0 < left → (m : ℕ) → Spans (p (drop from s)) (drop from s) m → (k a r : ℕ) (z : List ℕ) → k ≡ min at (length out) → length z ≡ length (take (length out - k) (drop k out))
      → Wrote (on_read f (p (drop from s))) z (Ok a) → r ≡ min (at + a) 65536
      → Loop p whole f s len (take k out ++ (z ++ drop (length out - k) (drop k out))) (left - 1) r (from + m)
  loop-step h m v k a r z hk l hw hr =
      let n = many-split p left (drop from s) w.others h in
      let e = loop-tail h m v in
      rw (tail-back k out z) (record {
        inside = loop-add m v;
        others = subst (λ t. Reads (read_many p (left - 1) t)) e n.others;
        same = length-tail-back k out z (omega arith) (lent k out z l) ∙ w.same;
        going = subst (λ t. Going whole (take k out ++ z) r (on_read (each_bytes f) (read_many p (left - 1) t))) e (going_step _ _ _ _ out z at a k r w.going (each-split p f left (drop from s) n) hk (lent k out z l) hw hr);
      })

  pub loop-within : (m : ℕ) → m ≤ length (drop from s) → from + m ≤ length s
  loop-within m g = omega (arith, g, length-drop from s, w.inside)

  -- the last, behind which nothing is looked at
  loop-last : 0 < left → left ≤ 1 → (m : ℕ) → m ≤ length (drop from s) → (k a r : ℕ) (z : List ℕ) → k ≡ min at (length out) → length z ≡ length (take (length out - k) (drop k out))
      → Wrote (on_read f (p (drop from s))) z (Ok a) → r ≡ min (at + a) 65536
      → Loop p whole f s len (take k out ++ (z ++ drop (length out - k) (drop k out))) (left - 1) r (from + m)
  loop-last h j m g k a r z hk l hw hr =
      let n = many-split p left (drop from s) w.others h in
      let o : left - 1 ≤ 0 = omega (arith, j) in
      let e : on_read (each_bytes f) (read_many p (left - 1) n.tail) ≡ on_read (each_bytes f) (read_many p (left - 1) (drop (from + m) s)) = each_none p f (left - 1) n.tail o ∙ sym (each_none p f (left - 1) (drop (from + m) s) o) in
      rw (tail-back k out z) (record {
        inside = loop-within m g;
        others = reads-some [] (drop (from + m) s) (many-zero p (left - 1) (drop (from + m) s) o);
        same = length-tail-back k out z (omega arith) (lent k out z l) ∙ w.same;
        going = subst (Going whole (take k out ++ z) r) e (going_step _ _ _ _ out z at a k r w.going (each-split p f left (drop from s) n) hk (lent k out z l) hw hr);
      })

  -- one more, of m bytes where others follow
  pub loop-reach : 0 < left → (m : ℕ) → m ≤ length (drop from s) → (1 < left → Spans (p (drop from s)) (drop from s) m) → (k a r : ℕ) (z : List ℕ) → k ≡ min at (length out)
      → length z ≡ length (take (length out - k) (drop k out)) → Wrote (on_read f (p (drop from s))) z (Ok a) → r ≡ min (at + a) 65536
      → Loop p whole f s len (take k out ++ (z ++ drop (length out - k) (drop k out))) (left - 1) r (from + m)
  loop-reach h m g v k a r z hk l hw hr = go (leb left 1) refl
    where
      go : (b : Bool) → leb left 1 ≡ b → Loop p whole f s len (take k out ++ (z ++ drop (length out - k) (drop k out))) (left - 1) r (from + m)
      go true q = loop-last h (leb-true left 1 q) m g k a r z hk l hw hr
      go false q = loop-step h m (v (leb-false left 1 q)) k a r z hk l hw hr
