-- What an answer says of a content that holds no child nodes: the same in each form of a frame, and whatever reads child nodes.
use Rattle.std.specs.Prelude.{ℕ, List, Option}
use Rattle.text.specs.Read.{Read}
use Rattle.frame.specs.Tree.{Schema}
use Rattle.frame.specs.SchemaFrame.{Form, read_formed}
use Rattle.frame.specs.Sound.{schema_sound}
use Rattle.frame.specs.Checks.{Checks}
use Rattle.frame.specs.declared.Checked.{Checked}

abbrev pub ChecksLeaf : ℕ → List ℕ → Option Checked → Type 0
ChecksLeaf kind s c = (form : Form) (node : List ℕ → Read Schema) → Checks schema_sound (read_formed form node kind s) s c
