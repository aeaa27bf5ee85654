-- Nodes that were read, by their kind byte: the children behind it.
use Prim.Native.Nat.{ℕ, ◌-◌, ◌≤◌}
use mathlib.Core.Path.{◌≡◌, ap, ◌∙◌}
use mathlib.Core.List.{List}
use lib.ListN.{length, get_or, drop}
use Rattle.number.specs.Number.{number_at}
use Rattle.text.specs.Read.{Read}
use Rattle.text.specs.Measured.{Reads}
use Rattle.frame.specs.Tree.{Value, Schema}
use Rattle.frame.specs.Readers.{read_many, read_list}
use Rattle.frame.specs.ValueFrame.{contents, items_of, entries_of, read_entry, read_content, read_value}
use Rattle.frame.specs.SchemaFrame.{fields_of, read_field, read_formed, read_schema}
use Rattle.frame.proofs.Reading.{map_read, reads-eq, reads_first}
use Rattle.frame.proofs.Counting.{list-behind}
use Rattle.frame.proofs.ValueNodes.{value-opened}
use Rattle.frame.proofs.SchemaNodes.{schema-opened}

counted-node : {A B : Type 0} (p : List ℕ → Read A) (g : List A → B) (x : Read B) (s : List ℕ) → Reads x → x ≡ map_read g (read_list p (drop 1 s))
    → (3 ≤ length s) × (x ≡ map_read g (read_many p (number_at s 1 2) (drop 3 s)))
counted-node p g x s h e =
    let l = list-behind p s (reads_first (read_list p (drop 1 s)) _ (reads-eq _ _ e h)) in
    (l.0, e ∙ ap (map_read g) l.1)

-- ---- a value node

module _ (d : ℕ) (s : List ℕ) (p : Reads (read_value d s)) where
  pub value-array : get_or s 0 0 ≡ 8 → (3 ≤ length s) × (read_value d s ≡ map_read (λ vs. Value.Array (items_of vs)) (read_many (read_value (d - 1)) (number_at s 1 2) (drop 3 s)))
  unfolding read_content contents
  value-array e = counted-node (read_value (d - 1)) (λ vs. Value.Array (items_of vs)) (read_value d s) s p (value-opened d s p 8 e)

  pub value-map : get_or s 0 0 ≡ 9 → (3 ≤ length s) × (read_value d s ≡ map_read (λ es. Value.Map (entries_of es)) (read_many (read_entry (read_value (d - 1))) (number_at s 1 2) (drop 3 s)))
  unfolding read_content contents
  value-map e = counted-node (read_entry (read_value (d - 1))) (λ es. Value.Map (entries_of es)) (read_value d s) s p (value-opened d s p 9 e)

-- ---- a schema node

module _ (d : ℕ) (s : List ℕ) (p : Reads (read_schema d s)) where
  pub schema-array : get_or s 0 0 ≡ 8 → read_schema d s ≡ map_read Schema.Array (read_schema (d - 1) (drop 1 s))
  unfolding read_formed
  schema-array e = schema-opened d s p 8 e

  pub schema-map : get_or s 0 0 ≡ 9 → read_schema d s ≡ map_read Schema.Map (read_schema (d - 1) (drop 1 s))
  unfolding read_formed
  schema-map e = schema-opened d s p 9 e

  pub schema-fields : get_or s 0 0 ≡ 11 → (3 ≤ length s) × (read_schema d s ≡ map_read (λ fs. Schema.Record (fields_of fs)) (read_many (read_field (read_schema (d - 1))) (number_at s 1 2) (drop 3 s)))
  unfolding read_formed
  schema-fields e = counted-node (read_field (read_schema (d - 1))) (λ fs. Schema.Record (fields_of fs)) (read_schema d s) s p (schema-opened d s p 11 e)
