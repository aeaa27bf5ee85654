-- The seq of a frame of bytes has 64 bits.
use Prim.Native.Nat.{ℕ, zero, suc, ◌<◌, ◌^◌}
use mathlib.Core.Path.{◌≡◌, refl, ap, subst, ◌∙◌}
use mathlib.Core.List.{List}
use mathlib.Core.Option.{Option, none, some, or_else}
use mathlib.Core.Bool.{Bool, true, false, ◌&&◌}
use native.Mathlib.Omega.{arith}
use lib.Dec.{T, ltb, ltb→lt}
use lib.Ieee.Fits.{and_l, and_r}
use Rattle.base.specs.Base.{when◌then◌else◌}
use Rattle.number.specs.Number.{all_bytes}
use Rattle.text.specs.Text.{Text, ascii, same}
use Rattle.frame.specs.Kind
use Rattle.frame.specs.Tree.{Value, Entries, no_entries, entry, kind_of, number, entries}
use Rattle.frame.specs.ValueFrame.{Content, kind_content, count_entries}
use Rattle.frame.proofs.RoundTrip.{scalar_held, text_held, held, entries_held}
use Rattle.frame.proofs.ReadHeld.{decode-held}
use Rattle.frame.proofs.Passed.{value-decoded}
use Rattle.types.proofs.Contents.{long-content}
use Rattle.avro.specs.Resolve.{last_under}
use Rattle.finishes.specs.Words.{IsFinish}

-- a Long that a frame can hold
long-small : (w : Value) (d : ℕ) → T (held w d) → kind_of w ≡ Kind.Long → number w < 2 ^ 64
unfolding held number kind_of scalar_held
long-small (Value.Scalar k n) zero h e = absurd h
long-small (Value.Scalar k n) (suc d) h e = ltb→lt n (256 ^ 8) (subst (λ (c : Content). T (scalar_held c n)) (ap kind_content e ∙ long-content) h)
long-small (Value.Octets k s) d h e = omega arith
long-small (Value.Enum i s) d h e = omega arith
long-small (Value.Array vs) d h e = omega arith
long-small (Value.Map es) d h e = omega arith
long-small (Value.Record es) d h e = omega arith
long-small (Value.Union i v) d h e = omega arith

under-held : (n : Text) (es : Entries) (d : ℕ) → T (entries_held es d) → (w : Value) → last_under n es ≡ some w → T (held w d)
unfolding held last_under or_else
under-held n no_entries d h w e = let z : ◌≡◌ {A = ℕ} 0 1 = cc in absurd (omega arith)
under-held n (entry m v es) d h w e = go (last_under n es) refl (same m n) (under-held n es d (and_r (text_held m && held v d) (entries_held es d) h)) e
  where
    own : T (held v d)
    own = and_r (text_held m) (held v d) (and_l (text_held m && held v d) (entries_held es d) h)

    go : (o : Option Value) → last_under n es ≡ o → (c : Bool) → ((u : Value) → last_under n es ≡ some u → T (held u d)) → or_else o (when c then some v else none) ≡ some w → T (held w d)
    go none q true ih e = let z : v ≡ w = cc in subst (λ (u : Value). T (held u d)) z own
    go none q false ih e = let z : ◌≡◌ {A = ℕ} 0 1 = cc in absurd (omega arith)
    go (some u) q c ih e = let z : u ≡ w = cc in subst (λ (u : Value). T (held u d)) z (ih u q)

entries-held : (v : Value) → T (held v 16) → T (entries_held (entries v) 15)
unfolding held entries
entries-held (Value.Scalar k n) h = tt
entries-held (Value.Octets k s) h = tt
entries-held (Value.Enum i s) h = tt
entries-held (Value.Array vs) h = tt
entries-held (Value.Map es) h = and_r (ltb (count_entries es) 65536) (entries_held es 15) h
entries-held (Value.Record es) h = and_r (ltb (count_entries es) 65536) (entries_held es 15) h
entries-held (Value.Union i v) h = tt

pub seq-small : (v : List ℕ) (x : Text) (n : ℕ) → T (all_bytes v) → (f : IsFinish v x n) → number f.seq < 2 ^ 64
seq-small v x n b f =
    let h : T (held f.tree 16) = decode-held v f.tree b (value-decoded v f.tree f.whole.passes) in
    long-small f.seq 15 (under-held (ascii "seq") (entries f.tree) 15 (entries-held f.tree h) f.seq f.seq_there) f.seq_kind
