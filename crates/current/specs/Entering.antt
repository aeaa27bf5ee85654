-- One finish more behind those listed, as finishes are entered.
use Rattle.std.specs.Prelude.{ℕ, suc, List, [], ◌∷◌, Bool}
use Rattle.base.specs.Base.{when◌then◌else◌}
use Rattle.text.specs.Text.{Text, same}
use Rattle.current.specs.Current.{Finish}

-- it may take over from the one of its sail; where there is none, it is the last
unfoldable pub entered_by : (ℕ → ℕ → Bool) → List Finish → Finish → List Finish
entered_by wins [] f = f ∷ []
entered_by wins (c ∷ l) f =
    when same f.sail c.sail then (when wins f.seq c.seq then f else c) ∷ l else c ∷ entered_by wins l f

-- where a sail stands among sails; their number where it doesn't
unfoldable pub place_of : List Text → Text → ℕ
place_of [] x = 0
place_of (y ∷ l) x = when same x y then 0 else suc (place_of l x)
