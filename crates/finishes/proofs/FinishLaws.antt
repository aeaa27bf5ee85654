-- Texts and Longs at a place of a frame, and the finish at each way of the code.
use Rattle.std.specs.Prelude as std
use Rattle.std.specs.Prelude.{Some, None}
use Prim.Native.Nat.{ℕ, ◌+◌, ◌-◌, ◌≤◌, ◌<◌}
use mathlib.Core.Path.{◌≡◌, refl, sym, ap, subst, ◌∙◌}
use mathlib.Core.List.{List}
use mathlib.Core.Logic.{inr}
use mathlib.Core.Option.{Option, none, some}
use mathlib.Core.Bool.{Bool, true, false}
use native.Mathlib.Omega.{arith}
use lib.Dec.{T}
use lib.ListN.{length, get_or, take, drop, length-drop}
use lib.Seq.{drop-drop, get_or-drop}
use borrow.Author.Tests.{eq-eqb, ne_eqb}
use Rattle.base.specs.Base.{when◌then◌else◌}
use Rattle.number.specs.Number.{all_bytes, number_at}
use Rattle.number.proofs.Laws.{all_bytes-drop}
use Rattle.text.specs.Text.{Text, ascii}
use Rattle.text.specs.Read.{◌>>=◌, read_number, read_text}
use Rattle.text.specs.Measured.{Reads}
use Rattle.text.proofs.ReadLaws.{read_number-some}
use Rattle.frame.specs.Tree.{Value, kind_of, is, number, octets, entries}
use Rattle.frame.specs.ValueFrame.{Content, read_content, read_value}
use Rattle.frame.proofs.Reading.{read-what, bind-some, reads-some, reads-eq, reads_first, reads-number}
use Rattle.frame.proofs.ValueNodes.{value_there, value-content, value-kind}
use Rattle.frame.proofs.Texts.{text-is}
use Rattle.frame.proofs.Passed.{Passes, passed, stopped, passed_reads, passes-reads}
use Rattle.types.proofs.Contents.{string-content, long-content}
use Rattle.find.specs.Find.{Keyed, Located, entry_under}
use Rattle.find.proofs.FindLaws.{located-at, located-nothing}
use Rattle.finishes.specs.Finish.{rank, string_of, long_of, fields, said, said_in, finish_of}
use Rattle.finishes.specs.Parts.{Within, Parted, long_answer, fields_read, Says}
use Rattle.finishes.specs.declared.Part.{Part}
use Rattle.finishes.specs.declared.Entry.{Entry}

-- ---- a value that was found

module _ (v : List ℕ) (p : ℕ) (o : Option Value) (l : Located o 15 v (Some p)) where
  found : (p ≤ length v) × ((w : Value) × ((o ≡ some w) × ((r : List ℕ) × (read_value 15 (drop p v) ≡ some (w, r)))))
  found = located-at o 15 v p l

  there : Reads (read_value 15 (drop p v))
  there = reads-some found.1.0 found.1.1.1.0 found.1.1.1.1

  pub found_inside : p < length v
  found_inside = omega (arith, (value_there 15 (drop p v) there).1, length-drop p v)

  front : get_or (drop p v) 0 0 ≡ get_or v p 0
  front = get_or-drop p v 0 0 ∙ ap (λ (k : ℕ). get_or v k 0) (omega arith)

  kind : T (all_bytes v) → kind_of found.1.0 ≡ get_or v p 0
  kind b = value-kind 15 (drop p v) (all_bytes-drop p v b) found.1.0 found.1.1.1.0 found.1.1.1.1 ∙ front

  -- not a String, not a Long
  pub string-not : T (all_bytes v) → (get_or v p 0 ≡ 7 → ⊥) → string_of o ≡ none
  unfolding string_of
  string-not b h = ap string_of found.1.1.0 ∙ ap (λ (t : Bool). when t then some (octets found.1.0) else none) (ne_eqb (kind_of found.1.0) 7 (λ e. h (sym (kind b) ∙ e)))

  pub long-not : T (all_bytes v) → (get_or v p 0 ≡ 3 → ⊥) → long_of o ≡ none
  unfolding long_of
  long-not b h = ap long_of found.1.1.0 ∙ ap (λ (t : Bool). when t then some (rank (number found.1.0)) else none) (ne_eqb (kind_of found.1.0) 3 (λ e. h (sym (kind b) ∙ e)))

  behind : drop 1 (drop p v) ≡ drop (p + 1) v
  behind = drop-drop 1 p v

  module _ (h : get_or v p 0 ≡ 7) where
    string-node : read_value 15 (drop p v) ≡ (read_text (drop (p + 1) v) >>= (λ x. some (Value.Octets 7 x.0, x.1)))
    unfolding read_content
    string-node = value-content 15 (drop p v) there 7 Content.text string-content (front ∙ h) ∙ ap (λ s. read_text s >>= (λ x. some (Value.Octets 7 x.0, x.1))) behind

    string-text : (p + 1 + 2 + number_at v (p + 1) 2 ≤ length v) × (read_text (drop (p + 1) v) ≡ some (take (number_at v (p + 1) 2) (drop (p + 1 + 2) v), drop (p + 1 + 2 + number_at v (p + 1) 2) v))
    string-text = text-is v (p + 1) (reads_first _ _ (reads-eq _ _ string-node there))

    pub string-inside : p + 3 + number_at v (p + 1) 2 ≤ length v
    string-inside = omega (arith, string-text.0)

    string-is : found.1.0 ≡ Value.Octets 7 (take (number_at v (p + 1) 2) (drop (p + 1 + 2) v))
    string-is = read-what (sym found.1.1.1.1 ∙ string-node ∙ bind-some _ _ _ _ string-text.1)

    pub string-parted : Parted (string_of o) v (Some (record { from = p + 3; to = p + 3 + number_at v (p + 1) 2 }))
    unfolding string_of Parted kind_of octets
    string-parted =
        let n = number_at v (p + 1) 2 in
        let e : string_of o ≡ some (take n (drop (p + 1 + 2) v)) = ap string_of (found.1.1.0 ∙ ap some string-is) in
        let a : p + 1 + 2 ≡ p + 3 = omega arith in
        let b : n ≡ p + 3 + n - (p + 3) = omega arith in
        rw e (record { ordered = omega arith; inside = string-inside; is = ap (λ (k : ℕ). take n (drop k v)) a ∙ ap (λ (k : ℕ). take k (drop (p + 3) v)) b })

  module _ (h : get_or v p 0 ≡ 3) where
    long-node : read_value 15 (drop p v) ≡ (read_number 8 (drop (p + 1) v) >>= (λ x. some (Value.Scalar 3 x.0, x.1)))
    unfolding read_content
    long-node = value-content 15 (drop p v) there 3 (Content.wide 8) long-content (front ∙ h) ∙ ap (λ s. read_number 8 s >>= (λ x. some (Value.Scalar 3 x.0, x.1))) behind

    long-room : 8 ≤ length (drop (p + 1) v)
    long-room = reads-number 8 (drop (p + 1) v) (reads_first _ _ (reads-eq _ _ long-node there))

    pub long-inside : p + 1 + 8 ≤ length v
    long-inside = omega (arith, long-room, length-drop (p + 1) v)

    long-is : found.1.0 ≡ Value.Scalar 3 (number_at v (p + 1) 8)
    long-is = read-what (sym found.1.1.1.1 ∙ long-node ∙ bind-some _ _ _ _ (read_number-some 8 (drop (p + 1) v) long-room))

    pub long-told : long_of o ≡ some (rank (number_at v (p + 1) 8))
    unfolding long_of kind_of number
    long-told = ap long_of (found.1.1.0 ∙ ap some long-is)

pub parted-none : (o : Option Text) (s : List ℕ) → o ≡ none → Parted o s None
unfolding Parted
parted-none o s e = rw e tt

pub string-nothing : (o : Option Value) (v : List ℕ) → Located o 15 v None → string_of o ≡ none
unfolding string_of
string-nothing o v l = ap string_of (located-nothing o 15 v l)

pub long-nothing : (o : Option Value) (v : List ℕ) → Located o 15 v None → long_of o ≡ none
unfolding long_of
long-nothing o v l = ap long_of (located-nothing o 15 v l)

pub long-answer : (o : Option ℕ) (p : Option ℕ) → o ≡ p → long_answer p ≡ long_answer o
long-answer o p e = ap long_answer (sym e)

-- ---- the two fields

pub fields-are : (v : List ℕ) → Reads (read_value 16 v) → fields_read (read_value 16 v) ≡ (string_of (entry_under (ascii "sail") (read_value 16 v)) >>= (λ x. long_of (entry_under (ascii "seq") (read_value 16 v)) >>= (λ n. some (x, n))))
unfolding Reads fields_read fields entry_under
fields-are v h = rw h.1.1 refl

pub parted-nothing : (o : Option Text) (s : List ℕ) → Parted o s None → o ≡ none
unfolding Parted
parted-nothing none s h = refl
parted-nothing (some t) s h = absurd h

pub parted-at : (o : Option Text) (s : List ℕ) (p : Part) → Parted o s (Some p) → (t : Text) × ((o ≡ some t) × Within s t p.from p.to)
unfolding Parted
parted-at none s p h = absurd h
parted-at (some t) s p h = (t, (refl, h))

pub long-none : (o : Option ℕ) → long_answer o ≡ None → o ≡ none
unfolding long_answer
long-none none e = refl
long-none (some n) e = let z : ◌≡◌ {A = ℕ} 0 1 = cc in absurd (omega arith)

pub long-some : (o : Option ℕ) (n : ℕ) → long_answer o ≡ Some n → o ≡ some n
unfolding long_answer
long-some none n e = let z : ◌≡◌ {A = ℕ} 0 1 = cc in absurd (omega arith)
long-some (some m) n e = let f : m ≡ n = cc in ap some f

pub broken-says : (o : Option (Text × ℕ)) (s : List ℕ) → o ≡ none → Says o s None
unfolding Says
broken-says o s e = rw e tt

module _ (v : List ℕ) (h : Reads (read_value 16 v)) where
  pub no-sail : string_of (entry_under (ascii "sail") (read_value 16 v)) ≡ none → Says (fields_read (read_value 16 v)) v None
  unfolding ◌>>=◌
  no-sail e = broken-says _ v (fields-are v h ∙ ap (λ (o : Option Text). o >>= (λ x. long_of (entry_under (ascii "seq") (read_value 16 v)) >>= (λ n. some (x, n)))) e)

  module _ (sail : Part) (p : Parted (string_of (entry_under (ascii "sail") (read_value 16 v))) v (Some sail)) where
    step : fields_read (read_value 16 v) ≡ (long_of (entry_under (ascii "seq") (read_value 16 v)) >>= (λ n. some ((parted-at _ v sail p).0, n)))
    unfolding ◌>>=◌
    step = fields-are v h ∙ ap (λ (o : Option Text). o >>= (λ x. long_of (entry_under (ascii "seq") (read_value 16 v)) >>= (λ n. some (x, n)))) (parted-at _ v sail p).1.0

    pub no-seq : long_of (entry_under (ascii "seq") (read_value 16 v)) ≡ none → Says (fields_read (read_value 16 v)) v None
    unfolding ◌>>=◌
    no-seq q = broken-says _ v (step ∙ ap (λ (o : Option ℕ). o >>= (λ n. some ((parted-at _ v sail p).0, n))) q)

    pub both-said : (n : ℕ) → long_of (entry_under (ascii "seq") (read_value 16 v)) ≡ some n → Says (fields_read (read_value 16 v)) v (Some (record { from = sail.from; to = sail.to; rank = n }))
    unfolding ◌>>=◌ Says
    both-said n q =
        let d : fields_read (read_value 16 v) ≡ some ((parted-at _ v sail p).0, n) = step ∙ ap (λ (o : Option ℕ). o >>= (λ n. some ((parted-at _ v sail p).0, n))) q in
        rw d ((parted-at _ v sail p).1.1, refl)

-- ---- the frame

pub no-frame : (v : List ℕ) → Passes v ≡ false → finish_of v ≡ none
unfolding finish_of said_in
no-frame v e = ap said_in (stopped v e)

module _ (v : List ℕ) (e : Passes v ≡ true) where
  abbrev tree : Value
  tree = (passed v e).0

  whole : (r : List ℕ) × (read_value 16 v ≡ some (tree, r))
  whole = passed_reads v tree (passed v e).1

  says : finish_of v ≡ said tree
  unfolding finish_of said_in
  says = ap said_in (passed v e).1

  pub frame-long : 0 < length v
  frame-long = (value_there 16 v (passes-reads v e)).1

  root : T (all_bytes v) → kind_of tree ≡ get_or v 0 0
  root b = value-kind 16 v b tree whole.0 whole.1

  pub no_record : T (all_bytes v) → (get_or v 0 0 ≡ 11 → ⊥) → finish_of v ≡ none
  unfolding said
  no_record b h = says ∙ ap (λ (t : Bool). when t then fields (entries tree) else none) (ne_eqb (kind_of tree) 11 (λ e. h (sym (root b) ∙ e)))

  pub a-record : T (all_bytes v) → get_or v 0 0 ≡ 11 → fields_read (read_value 16 v) ≡ finish_of v
  unfolding said fields_read
  a-record b h = ap fields_read whole.1 ∙ sym (says ∙ ap (λ (t : Bool). when t then fields (entries tree) else none) (eq-eqb (kind_of tree) 11 (root b ∙ h)))

pub is-keyed : (v : List ℕ) → get_or v 0 0 ≡ 11 → Keyed v
unfolding Keyed
is-keyed v e = inr e

pub says_eq : (o p : Option (Text × ℕ)) (s : List ℕ) (r : std.Option Entry) → o ≡ p → Says o s r → Says p s r
says_eq o p s r e h = subst (λ x. Says x s r) e h
