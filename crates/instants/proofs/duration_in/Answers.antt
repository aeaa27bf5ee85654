-- `instants::duration_in` meets its contract: the 12 bytes behind the kind.
use mathlib.Core.Path.{refl, ap, ◌∙◌}
use Rattle.duration.specs.Duration.{duration_of}
use Rattle.instants.proofs.FrameLaws.{duration-there, duration-length, duration-read, copied-whole}
use Rattle.instants.proofs.duration_in.Goals as goal

pub slice_bounds-copy-end-2 : goal.slice_bounds-copy-end-2
slice_bounds-copy-end-2 c = duration-there c.args.v.now c.requires.0 c.requires.1

pub returns : goal.returns
returns c =
    let v = c.args.v.now in
    λ w u e. c.from_bytes.ensures ∙ ap duration_of (copied-whole _ _ _ (duration-length v c.requires.0 c.requires.1) refl c.copy.ensures ∙ duration-read v c.requires.0 c.requires.1 w u e)
