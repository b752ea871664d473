use Rattle.std.proofs.Common.{◌≡◌, ◌+◌, ◌-◌, ◌^◌, ◌<◌, ◌≤◌, ◌∙◌, length, min, drop, sym, ap, subst, arith}
use Rattle.store.specs.Records.{Changes, IsOrdered}
use Rattle.store.specs.Pieces.{from_place, puts, puts_within}
use Rattle.store.proofs.InPieces.{piece_ordered}
use Rattle.store.proofs.InPlaces.{past_all}
use Rattle.store.proofs.Stops.{ends_in, ends_out}
use Rattle.store.proofs.Counting.{counted_enough, counted_whole, last_counted, piece_counted}
use Rattle.store.proofs.pieces.Pieces.count_within.Goals as goal

-- as many as are wanted were counted
pub returns-then-count-most : goal.returns-then-count-most
returns-then-count-most c =
    let ps = c.args.self.now.list.items in
    let here = c.loop-place.place in
    counted_enough (puts_within c.args.stop.now (from_place c.args.from.piece c.args.from.at ps)) c.loop-place.count (length (puts_within c.args.stop.now (from_place here.piece here.at ps))) c.args.most
    c.loop-place.invariant.all (omega (arith, c.if-count-most.true)) c.loop-place.invariant.fits

-- a piece that ends within the stop counts whole
pub loop-place-preserved : goal.loop-place-preserved
loop-place-preserved c =
    let s = c.args.self.now in
    let ps = s.list.items in
    let stop = c.args.stop.now in
    let here = c.loop-place.place in
    let inside : here.piece < length ps = omega (arith, c.loop-place-test.true, c.stop_index-whole.ensures.inside, s.list.ok) in
    let ends = ends_in stop c.stop_index-whole.result here.piece ps c.index.result.now c.stop_index-whole.ensures.index c.loop-place-test.true in
    let counted = piece_counted stop here.piece here.at ps c.index.result.now s.ordered inside ends in
    let read = c.count_from.ensures ∙ ap (λ (p : Changes). length (puts (drop here.at p))) c.index.ensures in
    record {
      all = omega (arith, counted, read, c.loop-place.invariant.all, c.saturating_add-count.ensures);
      fits = omega (arith, c.saturating_add-count.ensures);
    }

-- no piece is left
pub returns-then-place-len : goal.returns-then-place-len
returns-then-place-len c =
    let ps = c.args.self.now.list.items in
    let here = c.loop-place.place in
    let past : length ps ≤ here.piece = omega (arith, c.if-place-len.true, c.len.ensures, c.args.self.now.list.ok) in
    let none = ap (λ (cs : Changes). length (puts_within c.args.stop.now cs)) (past_all here.piece here.at ps past) in
    let whole : min (c.loop-place.count + length (puts_within c.args.stop.now (from_place here.piece here.at ps))) (2 ^ 64 - 1) ≡ c.loop-place.count = omega (arith, none, c.loop-place.invariant.fits) in
    c.min.ensures ∙ counted_whole (puts_within c.args.stop.now (from_place c.args.from.piece c.args.from.at ps)) c.loop-place.count c.args.most (sym whole ∙ c.loop-place.invariant.all) (omega (arith, c.ranges.most.fits))

pub count_within-requires : goal.count_within-requires
count_within-requires c =
    let s = c.args.self.now in
    let ps = s.list.items in
    let inside : c.loop-place.place.piece < length ps = omega (arith, c.if-place-len.false, c.len.ensures, s.list.ok) in
    subst (λ (p : Changes). IsOrdered p) (sym c.index-2.ensures) (piece_ordered ps c.loop-place.place.piece c.index-2.result.now s.ordered inside)

-- behind a piece that does not end within the stop none is counted
pub returns : goal.returns
returns c =
    let s = c.args.self.now in
    let ps = s.list.items in
    let stop = c.args.stop.now in
    let here = c.loop-place.place in
    let inside : here.piece < length ps = omega (arith, c.if-place-len.false, c.len.ensures, s.list.ok) in
    let ends = ends_out stop c.stop_index-whole.result here.piece ps c.index-2.result.now c.stop_index-whole.ensures.index (omega (arith, c.loop-place-test.false)) inside in
    let counted = last_counted stop here.piece here.at ps c.index-2.result.now s.ordered s.filled inside ends in
    let read = c.count_within.ensures ∙ ap (λ (p : Changes). length (puts_within stop (drop here.at p))) c.index-2.ensures in
    let sum : c.saturating_add.result ≡ min (c.loop-place.count + length (puts_within stop (from_place here.piece here.at ps))) (2 ^ 64 - 1) = omega (arith, counted, read, c.saturating_add.ensures) in
    c.min-2.ensures ∙ counted_whole (puts_within stop (from_place c.args.from.piece c.args.from.at ps)) c.saturating_add.result c.args.most (sum ∙ c.loop-place.invariant.all) (omega (arith, c.ranges.most.fits))
