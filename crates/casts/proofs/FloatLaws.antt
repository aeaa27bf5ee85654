-- Resolution to Float and to Double is one thing over the width: each number becomes one of the wished kind, a text may be one of the five,
-- a NaN is refused with 28, and any other kind with 6.
use Prim.Native.Nat.{ℕ}
use mathlib.Core.Path.{◌≡◌, refl, sym, ap, ◌∙◌, subst}
use mathlib.Core.List.{List, ◌∷◌}
use mathlib.Core.Option.{Option, none, some}
use mathlib.Core.Bool.{Bool, true, false}
use native.Mathlib.Omega.{arith}
use lib.Dec.{T}
use lib.ListN.{get_or, drop}
use Rattle.std.specs.Prelude as std
use Rattle.std.specs.Prelude.{Some, None, Ok, Err}
use Rattle.std.specs.Option.{ok_or}
use Rattle.base.specs.Base.{when◌then◌else◌, ok, stop}
use Rattle.base.specs.declared.refusal.Refusal.{Refusal}
use Rattle.base.specs.declared.refusal.Refusal.TheVariants.{Unsuited, NotANumber}
use Rattle.number.specs.Number.{all_bytes, number_at, bytes_of}
use Rattle.text.specs.Read.{Read, read_counted}
use Rattle.text.specs.Measured.{Reads}
use Rattle.scalar.specs.Conversion.{float_of_int, float_of_long, float_of_double, double_of_int, double_of_long, double_of_float, parse_special_float}
use Rattle.bits.specs.Special.{special_of}
use Rattle.frame.specs.Kind
use Rattle.frame.specs.Tree.{Value, kind_of, number, octets}
use Rattle.frame.specs.ValueFrame.{wide, kind_content, read_value}
use Rattle.buffer.specs.Built.{Built, Wrote}
use Rattle.types.specs.Types.{Outcome, float_of_bits, double_of_bits, special, resolve_float, resolve_double}
use Rattle.types.specs.Contract.{encoded, on_read}
use Rattle.types.proofs.Contents.{int-content, long-content, float-content, double-content, string-content}
use Rattle.types.proofs.NodeLaws.{encode-wide, wrote-ok, wrote-stop, wrote-refusal, wide-answered, kind-refused, text-answered, text-reads-counted}
use Rattle.types.proofs.ScalarLaws.{float-refused, double-refused}

-- f gives what `make` does of the bits that a conversion of each kind of number has
pub record Floating (f : Value → Outcome) (make : ℕ → Outcome) (of_int ofLong ofFloat ofDouble : ℕ → ℕ) : Type 0 where
  pub of-int : (n : ℕ) → f (Value.Scalar Kind.Int n) ≡ make (of_int n)
  pub of-long : (n : ℕ) → f (Value.Scalar Kind.Long n) ≡ make (ofLong n)
  pub of-float : (n : ℕ) → f (Value.Scalar Kind.Float n) ≡ make (ofFloat n)
  pub of-double : (n : ℕ) → f (Value.Scalar Kind.Double n) ≡ make (ofDouble n)
  pub of-text : (t : List ℕ) → f (Value.Octets Kind.String t) ≡ special (λ b. make (ofFloat b)) (parse_special_float t)
  pub of_other : (k : ℕ) → (k ≡ 2 → ⊥) → (k ≡ 3 → ⊥) → (k ≡ 4 → ⊥) → (k ≡ 5 → ⊥) → (k ≡ 7 → ⊥) → (v : Value) → kind_of v ≡ k → f v ≡ stop 6

pub to-float : Floating resolve_float (λ b. float_of_bits b) float_of_int float_of_long (λ b. b) float_of_double
unfolding resolve_float kind_of number octets
to-float = record { of-int = λ n. refl; of-long = λ n. refl; of-float = λ n. refl; of-double = λ n. refl; of-text = λ t. refl; of_other = float-refused }

pub to-double : Floating resolve_double (λ b. double_of_bits b) double_of_int double_of_long double_of_float (λ b. b)
unfolding resolve_double kind_of number octets
to-double = record { of-int = λ n. refl; of-long = λ n. refl; of-float = λ n. refl; of-double = λ n. refl; of-text = λ t. refl; of_other = double-refused }

ok-some : (y : std.Option ℕ) (b : ℕ) → ok_or y Unsuited ≡ Ok b → y ≡ Some b
ok-some None b e = let z : ◌≡◌ {A = ℕ} 0 1 = cc in absurd (omega arith)
ok-some (Some c) b e = let k : c ≡ b = cc in ap Some k

err-none : (y : std.Option ℕ) (r : Refusal) → ok_or y Unsuited ≡ Err r → (y ≡ None) × (r ≡ Unsuited)
err-none None r e = let k : r ≡ Unsuited = cc in (refl, k)
err-none (Some c) r e = let z : ◌≡◌ {A = ℕ} 0 1 = cc in absurd (omega arith)

-- ---- a float of kind j by its bits b, where n says whether they are a NaN's

pub nan-refused : (j b : ℕ) (n : Bool) → n ≡ true → (o : List ℕ) → Wrote (encoded (when n then stop 28 else ok (Value.Scalar j b))) o (Err NotANumber)
unfolding encoded
nan-refused j b n e o = wrote-stop _ o NotANumber (rw e refl)

pub number-built : (j w b : ℕ) (n : Bool) → kind_content j ≡ wide w → n ≡ false → (o : List ℕ) (m : ℕ) → Built (j ∷ bytes_of w b) o m
    → Wrote (encoded (when n then stop 28 else ok (Value.Scalar j b))) o (Ok m)
unfolding encoded
number-built j w b n c e o m = wrote-ok _ (j ∷ bytes_of w b) o m (rw e (ap ok (encode-wide j w b c)))

module _ {f : Value → Outcome} {make : ℕ → Outcome} {of_int ofLong ofFloat ofDouble : ℕ → ℕ} (F : Floating f make of_int ofLong ofFloat ofDouble) where
  -- ---- the ways of a node

  module _ (d : ℕ) (s : List ℕ) (p : Reads (read_value d s)) where
    -- a number m of kind k that becomes the bits x
    number-way : (k w : ℕ) (g : ℕ → ℕ) → kind_content k ≡ wide w → ((n : ℕ) → f (Value.Scalar k n) ≡ make (g n)) → get_or s 0 0 ≡ k
        → (m x : ℕ) → m ≡ number_at s 1 w → x ≡ g m → (o : List ℕ) (a : std.Result ℕ Refusal) → Wrote (encoded (make x)) o a → Wrote (on_read (λ v. encoded (f v)) (read_value d s)) o a
    number-way k w g c h e m x a b = wide-answered f d s p k w m c e a (make x) (h m ∙ ap make (sym b))

    pub int-way : get_or s 0 0 ≡ 2 → (m x : ℕ) → m ≡ number_at s 1 4 → x ≡ of_int m → (o : List ℕ) (a : std.Result ℕ Refusal) → Wrote (encoded (make x)) o a → Wrote (on_read (λ v. encoded (f v)) (read_value d s)) o a
    int-way = number-way 2 4 of_int int-content F.of-int

    pub long-way : get_or s 0 0 ≡ 3 → (m x : ℕ) → m ≡ number_at s 1 8 → x ≡ ofLong m → (o : List ℕ) (a : std.Result ℕ Refusal) → Wrote (encoded (make x)) o a → Wrote (on_read (λ v. encoded (f v)) (read_value d s)) o a
    long-way = number-way 3 8 ofLong long-content F.of-long

    pub float-way : get_or s 0 0 ≡ 4 → (m x : ℕ) → m ≡ number_at s 1 4 → x ≡ ofFloat m → (o : List ℕ) (a : std.Result ℕ Refusal) → Wrote (encoded (make x)) o a → Wrote (on_read (λ v. encoded (f v)) (read_value d s)) o a
    float-way = number-way 4 4 ofFloat float-content F.of-float

    pub double-way : get_or s 0 0 ≡ 5 → (m x : ℕ) → m ≡ number_at s 1 8 → x ≡ ofDouble m → (o : List ℕ) (a : std.Result ℕ Refusal) → Wrote (encoded (make x)) o a → Wrote (on_read (λ v. encoded (f v)) (read_value d s)) o a
    double-way = number-way 5 8 ofDouble double-content F.of-double

    -- a text, in the part x behind the kind
    text-way : get_or s 0 0 ≡ 7 → (x : List ℕ) → x ≡ drop 1 s → (o : List ℕ) (a : std.Result ℕ Refusal) → Wrote (on_read (λ t. encoded (special (λ b. make (ofFloat b)) (parse_special_float t))) (read_counted x)) o a
        → Wrote (on_read (λ v. encoded (f v)) (read_value d s)) o a
    text-way e = text-answered f d s p (λ t. special (λ b. make (ofFloat b)) (parse_special_float t)) 7 string-content e F.of-text

    pub other_way : T (all_bytes s) → (get_or s 0 0 ≡ 2 → ⊥) → (get_or s 0 0 ≡ 3 → ⊥) → (get_or s 0 0 ≡ 4 → ⊥) → (get_or s 0 0 ≡ 5 → ⊥) → (get_or s 0 0 ≡ 7 → ⊥)
        → (o : List ℕ) → Wrote (on_read (λ v. encoded (f v)) (read_value d s)) o (Err Unsuited)
    other_way b h₂ h₃ h₄ h₅ h₇ = kind-refused f d s p b Unsuited (F.of_other _ h₂ h₃ h₄ h₅ h₇)

  -- ---- the ways of a text

  module _ (r : Read (List ℕ)) (t u : List ℕ) (e : r ≡ some (t, u)) (a : std.Option ℕ) (h : a ≡ special_of (parse_special_float t)) (o : List ℕ) where
    -- one of the five
    bits-way : (b x : ℕ) → a ≡ Some b → x ≡ ofFloat b → (z : std.Result ℕ Refusal) → Wrote (encoded (make x)) o z → Wrote (on_read (λ t. encoded (special (λ b. make (ofFloat b)) (parse_special_float t))) r) o z
    unfolding on_read special
    bits-way b x q i z w = subst (λ y. Wrote y o z) (sym (ap (on_read (λ t. encoded (special (λ b. make (ofFloat b)) (parse_special_float t)))) e ∙ ap encoded (go (parse_special_float t) (sym h ∙ q)))) w
      where
        go : (y : Option ℕ) → special_of y ≡ Some b → special (λ b. make (ofFloat b)) y ≡ make x
        go none q = let z : ◌≡◌ {A = ℕ} 0 1 = cc in absurd (omega arith)
        go (some c) q = let k : c ≡ b = cc in ap make (ap ofFloat k ∙ sym i)

    -- any other
    none-way : a ≡ None → Wrote (on_read (λ t. encoded (special (λ b. make (ofFloat b)) (parse_special_float t))) r) o (Err Unsuited)
    unfolding special
    none-way q = wrote-refusal (λ t. special (λ b. make (ofFloat b)) (parse_special_float t)) r t u e o Unsuited (go (parse_special_float t) (sym h ∙ q))
      where
        go : (y : Option ℕ) → special_of y ≡ None → special (λ b. make (ofFloat b)) y ≡ stop 6
        go none q = refl
        go (some c) q = let z : ◌≡◌ {A = ℕ} 0 1 = cc in absurd (omega arith)

  -- ---- a text's Float, or that it has none, where a node holds a text

  module _ (d : ℕ) (s : List ℕ) (p : Reads (read_value d s)) (h : get_or s 0 0 ≡ 7) (x : List ℕ) (q : x ≡ drop 1 s) (a : std.Result ℕ Refusal)
      (g : (t u : List ℕ) → read_counted x ≡ some (t, u) → a ≡ ok_or (special_of (parse_special_float t)) Unsuited) where
    pub text-number : (b y : ℕ) → a ≡ Ok b → y ≡ ofFloat b → (o : List ℕ) (z : std.Result ℕ Refusal) → Wrote (encoded (make y)) o z → Wrote (on_read (λ v. encoded (f v)) (read_value d s)) o z
    unfolding Reads
    text-number b y i j o z w =
        let n = text-reads-counted d s p 7 string-content h in
        let e : read_counted x ≡ some (n.0, n.1.0) = ap read_counted q ∙ n.1.1 in
        text-way d s p h x q o z (bits-way (read_counted x) n.0 n.1.0 e _ refl o b y (ok-some _ b (sym (g _ _ e) ∙ i)) j z w)

    pub text-other : (r : Refusal) → a ≡ Err r → (o : List ℕ) → Wrote (on_read (λ v. encoded (f v)) (read_value d s)) o (Err r)
    unfolding Reads
    text-other r i o =
        let n = text-reads-counted d s p 7 string-content h in
        let e : read_counted x ≡ some (n.0, n.1.0) = ap read_counted q ∙ n.1.1 in
        let k = err-none _ r (sym (g _ _ e) ∙ i) in
        rw k.1 (text-way d s p h x q o (Err Unsuited) (none-way (read_counted x) n.0 n.1.0 e _ refl o k.0))
