use Rattle.std.proofs.Common.{Bool, refl, sym, ◌∙◌, subst}
use Rattle.store.specs.Steps.{Takes}
use Rattle.transactions.specs.declared.merge.Found.TheVariants.{InMap}
use Rattle.transactions.specs.declared.merge.MergedPlace.{MergedPlace}
use Rattle.transactions.proofs.Merging.{found_below, unread_is}
use Rattle.transactions.proofs.merge.read_within.Goals as goal

pub returns-then-is_first-clause-read : goal.returns-then-is_first-clause-read
returns-then-is_first-clause-read g c sound lists es records rise ahead =
    let old = c.args.map.now in
    let new = c.step_within.new.self in
    let stop = c.args.stop.now in
    let place = c.args.place.now in
    let after : MergedPlace g.row.M-Place.Denot = record { below = c.step_within.new.place; merge = record place.merge { found = InMap } } in
    found_below (g.M.Map.ahead_within old stop) (g.M.Map.ahead_within new stop) (g.M.Map.found_at new) lists es rise place after
    (unread_is place.merge.ahead (sym c.is_unread.ensures ∙ c.if-not-is_unread.false)) refl refl refl
    (λ e found. sym (c.is_first.ensures e found) ∙ c.if-is_first.true)
    (λ rs at. subst (λ (b : Bool). Takes (g.M.Map.found_at new c.step_within.new.place) (g.M.Map.ahead_within new stop c.step_within.new.place) b rs) c.if-not-branch.false (c.in_ok-step_within.ensures.goes.answer sound rs at))
    records ahead
