use Rattle.std.proofs.Common.{None, ◌≡◌, ◌<◌, ◌≤◌, ◌∙◌, [], List, true, false, length, sym, ap, subst, arith}
use Rattle.store.specs.Records.{Changes, IsOrdered, changed}
use Rattle.store.specs.Batch.{all_changes}
use Rattle.store.specs.Place.{IsPlace}
use Rattle.store.specs.Pieces.{AreFilled}
use Rattle.store.proofs.InPieces.{some_left, none_left, read_again}
use Rattle.store.proofs.Spots.{spot_home, spot_nowhere, spot_place}
use Rattle.store.proofs.pieces.Pieces.remove_near.Goals as goal

-- there is no piece
pub returns-then-place-len : goal.returns-then-place-len
returns-then-place-len c =
    let ps = c.args.self.now.list.items in
    let place = c.place_of-place.result in
    let past : length ps ≤ place.piece = omega (arith, c.if-place-len.true, c.len.ensures, c.args.self.now.list.ok) in
    let none = spot_nowhere c.args.key.now place.piece place.at ps c.place_of-place.ensures past in
    ap all_changes none ∙ sym (ap (λ (qs : List Changes). changed c.args.key.now None (all_changes qs)) none)

pub remove_at-requires : goal.remove_at-requires
remove_at-requires c =
    let ps = c.args.self.now.list.items in
    let inside : c.place_of-place.result.piece < length ps = omega (arith, c.if-place-len.false, c.len.ensures, c.args.self.now.list.ok) in
    subst (λ (p : Changes). IsPlace c.args.key.now c.place_of-place.result.at p) (sym c.index_mut.ensures.value)
    (spot_place c.args.key.now c.place_of-place.result.piece c.place_of-place.result.at ps c.index_mut.result.now c.place_of-place.ensures inside)

-- the piece is empty, and taken out
pub invariant_of-self : goal.invariant_of-self
invariant_of-self c =
    let s = c.args.self.now in
    let inside : c.place_of-place.result.piece < length s.list.items = omega (arith, c.if-place-len.false, c.len.ensures, s.list.ok) in
    let home = spot_home c.args.key.now c.place_of-place.result.piece c.place_of-place.result.at s.list.items c.place_of-place.ensures inside in
    let none = sym (read_again s.list.items c.place_of-place.result.piece c.remove_at.new.self c.index.result.now inside c.index.ensures) ∙ c.is_empty.ensures.0 c.if-is_empty.true in
    let made = none_left c.args.key.now c.place_of-place.result.piece s.list.items c.index_mut.result.now c.remove_at.new.self s.ordered s.filled home inside c.index_mut.ensures.value c.remove_at.ensures none in
    record {
      ordered = subst (λ (ps : List Changes). IsOrdered (all_changes ps)) (sym c.remove.ensures.items) made.ordered;
      filled = subst (λ (ps : List Changes). AreFilled ps) (sym c.remove.ensures.items) made.filled;
    }

pub returns-then-is_empty : goal.returns-then-is_empty
returns-then-is_empty c =
    let s = c.args.self.now in
    let inside : c.place_of-place.result.piece < length s.list.items = omega (arith, c.if-place-len.false, c.len.ensures, s.list.ok) in
    let home = spot_home c.args.key.now c.place_of-place.result.piece c.place_of-place.result.at s.list.items c.place_of-place.ensures inside in
    let none = sym (read_again s.list.items c.place_of-place.result.piece c.remove_at.new.self c.index.result.now inside c.index.ensures) ∙ c.is_empty.ensures.0 c.if-is_empty.true in
    let made = none_left c.args.key.now c.place_of-place.result.piece s.list.items c.index_mut.result.now c.remove_at.new.self s.ordered s.filled home inside c.index_mut.ensures.value c.remove_at.ensures none in
    ap all_changes c.remove.ensures.items ∙ made.same

-- the piece has other changes
pub invariant_of-self-else-is_empty : goal.invariant_of-self-else-is_empty
invariant_of-self-else-is_empty c =
    let s = c.args.self.now in
    let inside : c.place_of-place.result.piece < length s.list.items = omega (arith, c.if-place-len.false, c.len.ensures, s.list.ok) in
    let home = spot_home c.args.key.now c.place_of-place.result.piece c.place_of-place.result.at s.list.items c.place_of-place.ensures inside in
    let seen = read_again s.list.items c.place_of-place.result.piece c.remove_at.new.self c.index.result.now inside c.index.ensures in
    let made = some_left c.args.key.now c.place_of-place.result.piece s.list.items c.index_mut.result.now c.remove_at.new.self s.ordered s.filled home c.index_mut.ensures.value c.remove_at.ensures
    (λ (none : c.remove_at.new.self ≡ []). let wrong : false ≡ true = sym c.if-is_empty.false ∙ c.is_empty.ensures.1 (seen ∙ none) in cc) in
    record { ordered = made.ordered; filled = made.filled }

pub returns-else-is_empty : goal.returns-else-is_empty
returns-else-is_empty c =
    let s = c.args.self.now in
    let inside : c.place_of-place.result.piece < length s.list.items = omega (arith, c.if-place-len.false, c.len.ensures, s.list.ok) in
    let home = spot_home c.args.key.now c.place_of-place.result.piece c.place_of-place.result.at s.list.items c.place_of-place.ensures inside in
    let seen = read_again s.list.items c.place_of-place.result.piece c.remove_at.new.self c.index.result.now inside c.index.ensures in
    let made = some_left c.args.key.now c.place_of-place.result.piece s.list.items c.index_mut.result.now c.remove_at.new.self s.ordered s.filled home c.index_mut.ensures.value c.remove_at.ensures
    (λ (none : c.remove_at.new.self ≡ []). let wrong : false ≡ true = sym c.if-is_empty.false ∙ c.is_empty.ensures.1 (seen ∙ none) in cc) in
    made.same
