use Rattle.std.proofs.Common.{◌≡◌, ◌<◌, ◌-◌, ◌∙◌, suc, length, sym, ap, subst, arith}
use Rattle.store.specs.Records.{Changes, IsOrdered}
use Rattle.store.specs.Place.{IsPlace}
use Rattle.store.specs.Pieces.{ends_before}
use Rattle.store.proofs.InPieces.{index_home, piece_ordered}
use Rattle.store.proofs.Spots.{end_spot, index_inside, spot_made}
use Rattle.store.proofs.pieces.Pieces.place_of.Goals as goal

-- the place that is tried first
pub returns-then-is_at : goal.returns-then-is_at
returns-then-is_at c = c.is_at.ensures c.if-is_at.true

-- behind the last piece
pub returns-then-ends_before : goal.returns-then-ends_before
returns-then-ends_before c =
    let s = c.args.self.now in
    let all : suc (c.len-len.result - 1) ≡ length s.list.items = omega (arith, c.if-len-eq0.false, c.len-len.ensures, s.list.ok) in
    let long = c.len.ensures ∙ ap (λ (p : Changes). length p) c.index-end.ensures in
    let ends = sym (ap (λ (p : Changes). ends_before c.args.key.now p) c.index-end.ensures) ∙ sym c.ends_before.ensures ∙ c.if-ends_before.true in
    end_spot c.args.key.now (c.len-len.result - 1) c.len.result s.list.items c.index-end.result.now s.ordered s.filled all long ends

pub index-requires : goal.index-requires
index-requires c =
    let s = c.args.self.now in
    let last : c.len-len.result - 1 < length s.list.items = omega (arith, c.if-len-eq0.false, c.len-len.ensures, s.list.ok) in
    let ends = sym (ap (λ (p : Changes). ends_before c.args.key.now p) c.index-end.ensures) ∙ sym c.ends_before.ensures ∙ c.if-ends_before.false in
    let within = index_inside c.args.key.now c.index-piece.result (c.len-len.result - 1) s.list.items c.index-end.result.now c.index-piece.ensures.index last ends in
    omega (arith, within, last, s.list.ok)

pub place-at-requires : goal.place-at-requires
place-at-requires c =
    let s = c.args.self.now in
    let last : c.len-len.result - 1 < length s.list.items = omega (arith, c.if-len-eq0.false, c.len-len.ensures, s.list.ok) in
    let ends = sym (ap (λ (p : Changes). ends_before c.args.key.now p) c.index-end.ensures) ∙ sym c.ends_before.ensures ∙ c.if-ends_before.false in
    let within = index_inside c.args.key.now c.index-piece.result (c.len-len.result - 1) s.list.items c.index-end.result.now c.index-piece.ensures.index last ends in
    let inside : c.index-piece.result < length s.list.items = omega (arith, within, last) in
    subst (λ (p : Changes). IsOrdered p) (sym c.index.ensures) (piece_ordered s.list.items c.index-piece.result c.index.result.now s.ordered inside)

-- in the piece at its index
pub returns : goal.returns
returns c =
    let s = c.args.self.now in
    let last : c.len-len.result - 1 < length s.list.items = omega (arith, c.if-len-eq0.false, c.len-len.ensures, s.list.ok) in
    let ends = sym (ap (λ (p : Changes). ends_before c.args.key.now p) c.index-end.ensures) ∙ sym c.ends_before.ensures ∙ c.if-ends_before.false in
    let within = index_inside c.args.key.now c.index-piece.result (c.len-len.result - 1) s.list.items c.index-end.result.now c.index-piece.ensures.index last ends in
    let inside : c.index-piece.result < length s.list.items = omega (arith, within, last) in
    spot_made c.args.key.now c.index-piece.result c.place-at.result s.list.items c.index.result.now
    (index_home c.args.key.now c.index-piece.result s.list.items s.ordered s.filled c.index-piece.ensures.index inside) inside
    (subst (λ (p : Changes). IsPlace c.args.key.now c.place-at.result p) c.index.ensures c.place-at.ensures.place)
