-- What the answers for a union and a record say, and the turns of the loops over variants and names.
use Prim.Native.Nat.{ℕ, ◌+◌, ◌-◌, ◌≤◌, ◌<◌}
use mathlib.Core.Path.{◌≡◌, sym, ap, ◌∙◌, subst}
use mathlib.Core.List.{List}
use mathlib.Core.Option.{none, some}
use mathlib.Core.Bool.{Bool, true, false, ◌&&◌, ◌||◌, not, and_assoc, and_comm}
use native.Mathlib.Omega.{arith}
use native.Mathlib.Nat.{add-zero}
use lib.Dec.{ltb, eqb}
use lib.ListN.{length, drop, get_or, length-drop}
use lib.Seq.{get_or-drop}
use Rattle.number.specs.Number.{number_at}
use Rattle.text.specs.Text.{Text, same}
use Rattle.text.specs.Read.{Read, read_counted, read_text}
use Rattle.text.specs.Measured.{Reads}
use Rattle.text.proofs.ReadLaws.{reads-text}
use Rattle.frame.specs.Tree.{Schema, schema_kind}
use Rattle.frame.specs.Readers.{read_list}
use Rattle.frame.specs.SchemaFrame.{Form, Under, Field, fields_of, variants_of, read_field, read_tables, read_formed, read_schema_under}
use Rattle.frame.specs.Sound.{schema_sound, variants_sound, kinds_sound, positions_sound, tables_sound, count_variants, has_field}
use Rattle.frame.specs.Checks.{Checks, Spans}
use Rattle.std.specs.Prelude.{None}
use Rattle.frame.proofs.Reading.{read-what, bind-some, reads-some, reads_first}
use Rattle.frame.proofs.Measuring.{told, Held, held, checks-some, checks-broken, checks-reads}
use Rattle.frame.proofs.Counting.{many-length, list-many, reads-list, Going, going_step, Left, left-first, left_step}
use Rattle.frame.proofs.SchemaNodes.{schema-there-under, schema-kind-under, count-variants}
use Rattle.schema.specs.Parts.{each_sound, names_differ, no_unions}
use Rattle.schema.proofs.Nodes.{union-none₂, union-got, record-content}
use Rattle.schema.proofs.Seeking.{field-name, fields-sound}

-- ---- variants

pub variant-there : (u : Under) (d : ℕ) (s : List ℕ) (at m : ℕ) (fine : Bool) → Checks schema_sound (read_schema_under u d (drop at s)) (drop at s) (told m fine) → at < length s
variant-there u d s at m fine w =
    let q = held schema_sound _ _ m fine w in
    let t : 0 < length (drop at s) = (schema-there-under u d (drop at s) (reads-some q.what _ q.read)).1 in
    omega (arith, t, length-drop at s)

pub variants-step : (u : Under) (d : ℕ) (s : List ℕ) (at n i : ℕ) (ok : Bool) → Going (read_list (read_schema_under u d) s) (read_schema_under u d) no_unions s at (n - i) ok no_unions → i < n
    → (m : ℕ) (fine ok' : Bool) → Checks schema_sound (read_schema_under u d (drop at s)) (drop at s) (told m fine) → ok' ≡ ok && fine && not (eqb (get_or s at 0) 10)
    → Going (read_list (read_schema_under u d) s) (read_schema_under u d) no_unions s (at + m) (n - (i + 1)) ok' no_unions
unfolding variants_sound variants_of
variants-step u d s at n i ok w h m fine ok' v e =
    subst (λ left. Going (read_list (read_schema_under u d) s) (read_schema_under u d) no_unions s (at + m) left ok' no_unions) (omega arith)
    (going_step _ (read_schema_under u d) no_unions s at (n - i) ok no_unions w (omega arith) m q.inside q.what q.read ok' no_unions
    (λ l. sym (and_assoc ok (not (eqb (schema_kind q.what) 10) && schema_sound q.what) (no_unions l)) ∙ ap (λ y. y && no_unions l) (sym (e ∙ turned))))
  where
    q : Held schema_sound (read_schema_under u d (drop at s)) (drop at s) m fine
    q = held schema_sound _ _ m fine v

    kind : schema_kind q.what ≡ get_or s at 0
    kind = schema-kind-under u d (drop at s) q.what _ q.read ∙ get_or-drop at s 0 0 ∙ ap (λ i. get_or s i 0) (add-zero at)

    turned : ok && fine && not (eqb (get_or s at 0) 10) ≡ ok && (not (eqb (schema_kind q.what) 10) && schema_sound q.what)
    turned = and_assoc ok fine _ ∙ ap (λ y. ok && y) (and_comm fine _ ∙ ap (λ y. not (eqb y 10) && fine) (sym kind) ∙ ap (λ y. not (eqb (schema_kind q.what) 10) && y) q.tells)

-- ---- unions

pub count-there : (node : List ℕ → Read Schema) (s : List ℕ) (a : ℕ) (ok : Bool) → Checks no_unions (read_list node s) s (told a ok) → 2 ≤ length s
count-there node s a ok v = reads-list node s (checks-reads no_unions _ s a ok v)

module _ (form : Form) (node : List ℕ → Read Schema) (s : List ℕ) (a : ℕ) (ok : Bool) (v : Checks no_unions (read_list node s) s (told a ok)) (count : ℕ) (ec : count ≡ number_at s 0 2) where
  several : Held no_unions (read_list node s) s a ok
  several = held no_unions (read_list node s) s a ok v

  counted : length several.what ≡ count
  counted = many-length node (number_at s 0 2) (drop 2 s) several.what _ (sym (list-many node s (count-there node s a ok v)) ∙ several.read) ∙ sym ec

  pub union-broken₂ : ((vs : List Schema) → length vs ≡ count → Checks (tables_sound count) (read_tables form vs (drop a s)) (drop a s) None) → read_formed form node 10 s ≡ none
  union-broken₂ w = union-none₂ form node s a several.what several.read (checks-broken _ _ _ (w several.what counted))

  pub union-checks : (b : ℕ) (fine : Bool) → ((vs : List Schema) → length vs ≡ count → Checks (tables_sound count) (read_tables form vs (drop a s)) (drop a s) (told b fine))
      → (x z : Bool) → x ≡ ltb 0 count && ok → z ≡ x && fine → Checks schema_sound (read_formed form node 10 s) s (told (a + b) z)
  unfolding schema_sound
  union-checks b fine w x z ex ez =
      let vs = several.what in
      let t = held (tables_sound count) (read_tables form vs (drop a s)) (drop a s) b fine (w vs counted) in
      let n : count ≡ count_variants (variants_of vs) = sym (count-variants vs ∙ counted) in
      checks-some schema_sound _ s (a + b) z (omega (arith, several.inside, t.inside, length-drop a s)) _ (union-got form node s a vs several.read b t.what t.read)
      (ez ∙ ap (λ k. k && fine) (ex ∙ ap (λ k. ltb 0 count && k) several.tells) ∙ ap (λ k. ltb 0 count && no_unions vs && k) t.tells
      ∙ sym (and_assoc (ltb 0 count && no_unions vs) (kinds_sound count 0 t.what.0) (positions_sound count t.what.1))
      ∙ ap (λ k. ltb 0 k && no_unions vs && kinds_sound k 0 t.what.0 && positions_sound k t.what.1) n)

-- ---- records

pub record-checks : (form : Form) (node : List ℕ → Read Schema) (s : List ℕ) (m : ℕ) (ok : Bool) → Checks each_sound (read_list (read_field node) s) s (told m ok) → (differ : Bool)
    → ((fs : List Field) (u : List ℕ) → read_list (read_field node) s ≡ some (fs, u) → differ ≡ names_differ fs) → (b : Bool) → b ≡ ok && differ → Checks schema_sound (read_formed form node 11 s) s (told m b)
unfolding schema_sound
record-checks form node s m ok v differ h b e =
    let q = held each_sound (read_list (read_field node) s) s m ok v in
    checks-some schema_sound _ s m b q.inside (Schema.Record (fields_of q.what)) (record-content form node s ∙ bind-some _ _ q.what (drop m s) q.read)
    (e ∙ ap (λ k. k && differ) q.tells ∙ ap (λ k. each_sound q.what && k) (h q.what (drop m s) q.read) ∙ fields-sound q.what)

-- where a field is unsound by itself, the names do not matter
pub record-unsound : (form : Form) (node : List ℕ → Read Schema) (s : List ℕ) (m : ℕ) (ok : Bool) → Checks each_sound (read_list (read_field node) s) s (told m ok) → ok ≡ false → Checks schema_sound (read_formed form node 11 s) s (told m ok)
unfolding schema_sound
record-unsound form node s m ok v f =
    let q = held each_sound (read_list (read_field node) s) s m ok v in
    checks-some schema_sound _ s m ok q.inside (Schema.Record (fields_of q.what)) (record-content form node s ∙ bind-some _ _ q.what (drop m s) q.read)
    (f ∙ ap (λ k. k && names_differ q.what) (sym f ∙ q.tells) ∙ fields-sound q.what)

-- ---- names

pub name-reads : (node : List ℕ → Read Schema) (t : List ℕ) → Reads (read_field node t) → Reads (read_counted t)
unfolding read_field
name-reads node t r = reads-text t (reads_first (read_text t) _ r)

pub name-is : (node : List ℕ → Read Schema) (t : List ℕ) (f : Field) (r : List ℕ) → read_field node t ≡ some (f, r) → (other : Text) (v : List ℕ) → read_counted t ≡ some (other, v) → other ≡ f.0
name-is node t f r e other v g = read-what (sym g ∙ (field-name node t f r e).1)

abbrev pub seeks : Text → List Field → Bool
seeks name fs = has_field name (fields_of fs)

module _ (x : Read (List Field)) (node : List ℕ → Read Schema) (name : Text) (s : List ℕ) (at left : ℕ) (w : Left x (read_field node) (seeks name) (seeks name) s at left) (h : 0 < left) (other : Text) (v : List ℕ) (g : read_counted (drop at s) ≡ some (other, v)) where
  pub seek_hit : same other name ≡ true → (l : List Field) (u : List ℕ) → x ≡ some (l, u) → true ≡ seeks name l
  unfolding has_field fields_of
  seek_hit t l u e =
      let q = left-first x (read_field node) (seeks name) (seeks name) s at left w h in
      sym (w.tells l u e ∙ ap (seeks name) q.cons ∙ ap (λ y. same y name || seeks name q.others) (sym (name-is node (drop at s) q.item q.behind q.first other v g)) ∙ ap (λ y. y || seeks name q.others) t)

  pub seek-step : same other name ≡ false → (m : ℕ) → Spans (read_field node (drop at s)) (drop at s) m → Left x (read_field node) (seeks name) (seeks name) s (at + m) (left - 1)
  unfolding has_field fields_of
  seek-step t m k =
      let q = left-first x (read_field node) (seeks name) (seeks name) s at left w h in
      left_step x (read_field node) (seeks name) (seeks name) s at left w (seeks name) h m k
      (ap (λ y. same y name || seeks name q.others) (sym (name-is node (drop at s) q.item q.behind q.first other v g)) ∙ ap (λ y. y || seeks name q.others) t)
