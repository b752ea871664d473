use Rattle.std.proofs.Common.{◌≡◌, ◌<◌, ◌∙◌, true, length, sym, subst, arith}
use Rattle.store.specs.Records.{Changes, IsOrdered}
use Rattle.store.specs.Place.{has_key_at}
use Rattle.store.specs.Pieces.{IsInnerPlace}
use Rattle.store.proofs.InPieces.{piece_ordered}
use Rattle.store.proofs.Spots.{inner_spot}
use Rattle.store.proofs.Apart.{spot_at}
use Rattle.store.proofs.pieces.Pieces.is_at.Goals as goal

-- the key's change stands there
pub returns-then-has_key_at : goal.returns-then-has_key_at
returns-then-has_key_at c =
    λ is.
    let s = c.args.self.now in
    let tried = c.args.tried in
    let inside : tried.piece < length s.list.items = omega (arith, c.if-tried-len.false, c.len.ensures, s.list.ok) in
    let there : has_key_at c.args.key.now tried.at c.index-piece.result.now ≡ true = sym c.has_key_at.ensures ∙ c.if-has_key_at.true in
    spot_at c.args.key.now tried.piece tried.at s.list.items c.index-piece.result.now s.ordered inside
    (subst (λ (p : Changes). has_key_at c.args.key.now tried.at p ≡ true) c.index-piece.ensures there)

pub is_inner_place-requires : goal.is_inner_place-requires
is_inner_place-requires c =
    let s = c.args.self.now in
    let inside : c.args.tried.piece < length s.list.items = omega (arith, c.if-tried-len.false, c.len.ensures, s.list.ok) in
    subst (λ (p : Changes). IsOrdered p) (sym c.index-piece.ensures) (piece_ordered s.list.items c.args.tried.piece c.index-piece.result.now s.ordered inside)

-- or it is between two others
pub returns : goal.returns
returns c =
    λ is.
    let s = c.args.self.now in
    let inside : c.args.tried.piece < length s.list.items = omega (arith, c.if-tried-len.false, c.len.ensures, s.list.ok) in
    inner_spot c.args.key.now c.args.tried.piece c.args.tried.at s.list.items c.index-piece.result.now s.ordered inside
    (subst (λ (p : Changes). IsInnerPlace c.args.key.now c.args.tried.at p) c.index-piece.ensures (c.is_inner_place.ensures is))
