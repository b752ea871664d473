use Rattle.std.proofs.Common.{◌<◌, ◌∙◌, ◌≡◌, Option, List, ℕ, length, sym, ap, subst, arith, set, true, false, Some, IsSome}
use Rattle.store.specs.Records.{Changes, IsOrdered, changed, lookup}
use Rattle.store.specs.Batch.{all_changes}
use Rattle.store.specs.Place.{IsPlace}
use Rattle.store.proofs.InPieces.{piece_ordered, home_changed, lookup_home, put_in_home, either}
use Rattle.store.proofs.Spots.{spot_home, spot_place}
use Rattle.store.proofs.pieces.Pieces.put_at.Goals as goal

pub put_at-requires-clause-ordered : goal.put_at-requires-clause-ordered
put_at-requires-clause-ordered c =
    let inside : c.args.place.piece < length c.args.self.now.list.items = omega (arith, c.requires.inside, c.args.self.now.list.ok) in
    subst (λ (p : Changes). IsOrdered p) (sym c.index_mut.ensures.value) (piece_ordered c.args.self.now.list.items c.args.place.piece c.index_mut.result.now c.args.self.now.ordered inside)

-- keys rise still, and no piece is empty
pub invariant_of-self : goal.invariant_of-self
invariant_of-self c =
    let inside : c.args.place.piece < length c.args.self.now.list.items = omega (arith, c.requires.inside, c.args.self.now.list.ok) in
    let made = put_in_home c.args.change.0 c.args.change.1 c.args.place.piece c.args.self.now.list.items c.index_mut.result.now c.put_at.new.self c.args.self.now.ordered c.args.self.now.filled (spot_home c.args.change.0 c.args.place.piece c.args.place.at c.args.self.now.list.items c.requires.spot inside) inside c.index_mut.ensures.value (either c.put_at.result c.put_at.ensures.ok c.put_at.ensures.err) in
    record { ordered = made.ordered; filled = made.filled }

-- the change is put among all
pub returns-clause-ok : goal.returns-clause-ok
returns-clause-ok c =
    let inside : c.args.place.piece < length c.args.self.now.list.items = omega (arith, c.requires.inside, c.args.self.now.list.ok) in
    ap (λ (p : Changes). all_changes (set c.args.self.now.list.items c.args.place.piece p)) (c.in_ok-put_at.ensures.ok ∙ ap (changed c.args.change.0 (Some c.args.change.1)) c.index_mut.ensures.value)
    ∙ home_changed c.args.change.0 (Some c.args.change.1) c.args.place.piece c.args.self.now.list.items c.index_mut.result.now (spot_home c.args.change.0 c.args.place.piece c.args.place.at c.args.self.now.list.items c.requires.spot inside)

-- a put in place of a change allocates nothing
pub returns-in_err-put_at-clause-there : goal.returns-in_err-put_at-clause-there
returns-in_err-put_at-clause-there c =
    λ some.
    let inside : c.args.place.piece < length c.args.self.now.list.items = omega (arith, c.requires.inside, c.args.self.now.list.ok) in
    let ps = c.args.self.now.list.items in
    let same = lookup_home c.args.change.0 c.args.place.piece ps c.index_mut.result.now (spot_home c.args.change.0 c.args.place.piece c.args.place.at c.args.self.now.list.items c.requires.spot inside) ∙ ap (lookup c.args.change.0) (sym c.index_mut.ensures.value) in
    let wrong : false ≡ true = c.in_err-put_at.ensures.there (subst (λ (v : Option (Option (List ℕ))). IsSome v) same some) in
    cc

pub put_at-requires-clause-place : goal.put_at-requires-clause-place
put_at-requires-clause-place c =
    let inside : c.args.place.piece < length c.args.self.now.list.items = omega (arith, c.requires.inside, c.args.self.now.list.ok) in
    subst (λ (p : Changes). IsPlace c.args.change.0 c.args.place.at p) (sym c.index_mut.ensures.value)
    (spot_place c.args.change.0 c.args.place.piece c.args.place.at c.args.self.now.list.items c.index_mut.result.now c.requires.spot inside)
