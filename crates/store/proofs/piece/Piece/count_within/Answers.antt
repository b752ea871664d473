use Rattle.std.proofs.Common.{◌-◌, ◌∙◌, length, sym, ap, take, drop, arith}
use Rattle.store.specs.Records.{Changes, Records}
use Rattle.store.specs.Pieces.{puts}
use Rattle.store.proofs.Counting.{counted_between, counted_past}
use Rattle.store.proofs.piece.Piece.count_within.Goals as goal

-- the index is the stop's place or behind it
pub returns-then-at-end : goal.returns-then-at-end
returns-then-at-end c = sym (ap (λ (es : Records). length es) (counted_past c.args.stop.now c.args.at c.stop_place-end.result c.args.self.now c.stop_place-end.ensures.place (omega (arith, c.if-at-end.true))))

-- the changes up to the stop's place
pub returns : goal.returns
returns c =
    let at = c.args.at in
    let end = c.stop_place-end.result in
    c.count_puts.ensures
    ∙ ap (λ (cs : Changes). length (puts (take (end - at) (drop at cs)))) (c.deref.ensures.value ∙ c.self.view_is)
    ∙ sym (ap (λ (es : Records). length es) (counted_between c.args.stop.now at end c.args.self.now c.stop_place-end.ensures.place (omega (arith, c.if-at-end.false))))
