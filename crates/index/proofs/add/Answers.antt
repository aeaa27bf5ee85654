-- `index::add` meets its contract.
use Prim.Native.Nat.{◌%◌}
use mathlib.Core.Path.{◌≡◌, sym, ap, ◌∙◌}
use native.Mathlib.Omega.{arith}
use Rattle.text.specs.Read.{text_at}
use Rattle.index.specs.Table.{row}
use Rattle.index.proofs.PlaceLaws.{tail-reads, tail-text}
use Rattle.text.proofs.ReadLaws.{place_inside}
use Rattle.index.proofs.AddLaws.{indexed-more}
use Rattle.index.proofs.add.Goals as goal

pub slice_bounds-content-count : goal.slice_bounds-content-count
slice_bounds-content-count c = place_inside _ _ c.requires.1.1.1

pub slice_bounds-content-start : goal.slice_bounds-content-start
slice_bounds-content-start c = place_inside _ _ c.requires.1.1.1

pub content-requires : goal.content-requires
content-requires c = tail-reads c.args.s.now c.args.place c.requires.1.1.1

pub returns : goal.returns
unfolding row
returns c ps x q =
    let s = c.args.s.now in
    let e : text_at s c.args.place ≡ c.content.result.now = tail-text s c.args.place _ _ c.content.ensures.0 in
    indexed-more c.args.t.now s ps c.args.n (c.hash-h.result % 512) c.args.place c.requires.0 (omega arith) (ap (λ h. h % 512) c.hash-h.ensures ∙ ap row (sym e)) c.requires.1.0 c.requires.1.1.1 x q
