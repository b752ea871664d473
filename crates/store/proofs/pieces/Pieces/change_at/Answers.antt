use Rattle.std.proofs.Common.{◌<◌, ◌≤◌, ◌∙◌, Bool, List, None, if◌then◌else◌, length, slice_get, sym, ap, arith}
use Rattle.store.specs.Records.{Changes, entry_at}
use Rattle.store.specs.Batch.{all_changes}
use Rattle.store.proofs.Spots.{spot_entry, spot_nowhere}
use Rattle.store.proofs.pieces.Pieces.change_at.Goals as goal

-- there is no piece
pub returns-then-place-len : goal.returns-then-place-len
returns-then-place-len c =
    let ps = c.args.self.now.list.items in
    let past : length ps ≤ c.args.place.piece = omega (arith, c.if-place-len.true, c.len.ensures, c.args.self.now.list.ok) in
    sym (ap (λ (qs : List Changes). entry_at c.args.key.now (all_changes qs)) (spot_nowhere c.args.key.now c.args.place.piece c.args.place.at ps c.requires past))

-- the key's change stands at its place
pub returns-then-has_key_at : goal.returns-then-has_key_at
returns-then-has_key_at c =
    let s = c.args.self.now in
    let place = c.args.place in
    let piece = c.index-piece.result.now in
    let inside : place.piece < length s.list.items = omega (arith, c.if-place-len.false, c.len.ensures, s.list.ok) in
    c.get.ensures
    ∙ sym (ap (λ (b : Bool). if b then slice_get piece place.at else None) (sym c.has_key_at.ensures ∙ c.if-has_key_at.true))
    ∙ sym (spot_entry c.args.key.now place.piece place.at s.list.items piece s.ordered c.requires inside c.index-piece.ensures)

-- or there is none
pub returns-else-has_key_at : goal.returns-else-has_key_at
returns-else-has_key_at c =
    let s = c.args.self.now in
    let place = c.args.place in
    let piece = c.index-piece.result.now in
    let inside : place.piece < length s.list.items = omega (arith, c.if-place-len.false, c.len.ensures, s.list.ok) in
    sym (ap (λ (b : Bool). if b then slice_get piece place.at else None) (sym c.has_key_at.ensures ∙ c.if-has_key_at.false))
    ∙ sym (spot_entry c.args.key.now place.piece place.at s.list.items piece s.ordered c.requires inside c.index-piece.ensures)
