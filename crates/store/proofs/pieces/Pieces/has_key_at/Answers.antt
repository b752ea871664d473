use Rattle.std.proofs.Common.{◌<◌, ◌≤◌, ◌∙◌, List, length, is_some, sym, ap, arith}
use Rattle.store.specs.Records.{Changes, lookup}
use Rattle.store.specs.Batch.{all_changes}
use Rattle.store.specs.Place.{has_key_at}
use Rattle.store.proofs.Spots.{spot_nowhere, spot_there}
use Rattle.store.proofs.pieces.Pieces.has_key_at.Goals as goal

-- there is no piece
pub returns-then-place-len : goal.returns-then-place-len
returns-then-place-len c =
    let ps = c.args.self.now.list.items in
    let past : length ps ≤ c.args.place.piece = omega (arith, c.if-place-len.true, c.len.ensures, c.args.self.now.list.ok) in
    sym (ap (λ (qs : List Changes). is_some (lookup c.args.key.now (all_changes qs))) (spot_nowhere c.args.key.now c.args.place.piece c.args.place.at ps c.requires past))

-- the key's change stands at its place
pub returns : goal.returns
returns c =
    let ps = c.args.self.now.list.items in
    let inside : c.args.place.piece < length ps = omega (arith, c.if-place-len.false, c.len.ensures, c.args.self.now.list.ok) in
    c.has_key_at.ensures
    ∙ ap (λ (p : Changes). has_key_at c.args.key.now c.args.place.at p) c.index.ensures
    ∙ spot_there c.args.key.now c.args.place.piece c.args.place.at ps c.index.result.now c.args.self.now.ordered c.requires inside
