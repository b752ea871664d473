use Rattle.std.proofs.Common.{◌≡◌, ℕ, IsSome, get_or, refl, sym, ap, subst, ◌∙◌, inl, inr}
use Rattle.std.proofs.lemmas.Bool.Decides.{eqb_tells}
use Rattle.cow_pages.specs.Dirty.{overlaid_page, IsOutsideReach}
use Rattle.cow_pages.specs.DirtyPages.{dirty_bytes}
use Rattle.cow_pages.specs.PreservedLaws.{preserved_joined}
use Rattle.cow_pages.proofs.Preserving.{preserved_still}
use Rattle.cow_pages.proofs.Overlaid.{page_dirty, page_same, some_dirty}
use Rattle.std.proofs.lemmas.Result.{err_from_is_err_and}
use Rattle.cow_pages.proofs.Answered.{never_ok}
use Rattle.cow_pages.proofs.cow.CowPages.put.Goals as goal

pub invariant_of-self : goal.invariant_of-self
invariant_of-self g c =
    let mid = c.make_room.new.self in
    let physical = c.args.physical in
    let can = subst (λ m. IsOutsideReach m.root.pages m.root.maps m.durable.items physical) (sym c.make_room.ensures.map) c.requires.outside in
    record {
      sized = mid.sized;
      idle = mid.idle;
      outside = λ page some. elim (eqb_tells page physical) [
        | inl same ↦ subst (λ (p : ℕ). IsOutsideReach mid.map.root.pages mid.map.root.maps mid.map.durable.items p) (sym same.1) can
        | inr apart ↦ mid.outside page (subst (λ w. IsSome w) (c.put.ensures.others page apart.1) some)
      ];
      cached = mid.cached;
    }

pub returns-clause-preserved : goal.returns-clause-preserved
returns-clause-preserved g c =
    preserved_joined _ _ _ c.make_room.ensures.preserved (preserved_still g.met.D.Device.only_now c.make_room.new.self _ refl refl refl refl)

pub returns-clause-put : goal.returns-clause-put
returns-clause-put g c =
    let mid = c.make_room.new.self in
    let image = (g.D.Device.state mid.device).content in
    let new = dirty_bytes c.put.new.self in
    let made = c.in_ok-make_room.ensures.room in
    record {
      has_failed = made.has_failed;
      is_dirty = some_dirty _ _ c.put.ensures.here;
      here = λ l at. ap (λ m. overlaid_page new image (get_or m.working.items l 0)) c.make_room.ensures.map ∙ ap (λ (p : ℕ). overlaid_page new image p) at
          ∙ page_dirty new image c.args.physical c.args.bytes.now c.requires.outside.0 c.put.ensures.here;
      others = λ first l apart.
          let same : get_or mid.map.working.items l 0 ≡ get_or c.args.self.now.map.working.items l 0 = ap (λ m. get_or m.working.items l 0) c.make_room.ensures.map in
          page_same (dirty_bytes mid.dirty) new image (get_or mid.map.working.items l 0)
          (λ some. c.put.ensures.others (get_or mid.map.working.items l 0) (λ is. apart (sym same ∙ is)))
          ∙ made.array first l;
    }

pub returns-in_err-make_room-clause-preserved : goal.returns-in_err-make_room-clause-preserved
returns-in_err-make_room-clause-preserved g c = c.make_room.ensures.preserved

pub returns-in_err-make_room-clause-map : goal.returns-in_err-make_room-clause-map
returns-in_err-make_room-clause-map g c = c.make_room.ensures.map

pub returns-in_err-make_room-clause-put : goal.returns-in_err-make_room-clause-put
returns-in_err-make_room-clause-put g c = never_ok _ _ _ (err_from_is_err_and c.from_residual.result c.from_residual.ensures.1).1

pub returns-in_err-make_room-clause-fault : goal.returns-in_err-make_room-clause-fault
returns-in_err-make_room-clause-fault g c = let back = err_from_is_err_and c.from_residual.result c.from_residual.ensures.1 in rw (back.1, back.2) c.in_err-make_room.ensures.fault

pub returns-in_err-make_room-clause-no_device_call : goal.returns-in_err-make_room-clause-no_device_call
returns-in_err-make_room-clause-no_device_call g c room = c.make_room.ensures.no_device_call room

pub returns-clause-map : goal.returns-clause-map
returns-clause-map g c = c.make_room.ensures.map

pub returns-clause-fault : goal.returns-clause-fault
returns-clause-fault g c = tt

pub returns-clause-no_device_call : goal.returns-clause-no_device_call
returns-clause-no_device_call g c room = c.make_room.ensures.no_device_call room
