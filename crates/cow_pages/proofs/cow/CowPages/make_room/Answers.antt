use Rattle.std.proofs.Common.{◌∙◌, refl, inl, inr, arith}
use Rattle.cow_pages.specs.PreservedLaws.{preserved_same}
use Rattle.cow_pages.proofs.Answered.{not_both}
use Rattle.cow_pages.specs.DirtyPages.{dirty_bytes}
use Rattle.cow_pages.proofs.Preserving.{preserved_written}
use Rattle.cow_pages.proofs.Overlaid.{none_dirty, nothing_dirty, array_written}
use Rattle.cow_pages.proofs.cow.CowPages.make_room.Goals as goal

pub write_pages-requires-clause-inside : goal.write_pages-requires-clause-inside
write_pages-requires-clause-inside g c page some =
    let can = c.args.self.now.outside page some in
    (can.0, omega (arith, can.1, c.args.self.now.sized))

pub write_pages-requires-clause-size : goal.write_pages-requires-clause-size
write_pages-requires-clause-size g c = omega (arith, c.args.self.now.sized, c.args.self.now.map.consistent.most)

pub returns-in-Ok-clause-preserved : goal.returns-in-Ok-clause-preserved
returns-in-Ok-clause-preserved g c =
    preserved_written g.met.D.Device.only_now _ _ (record { history = c.write_pages.ensures.history; root = refl; durable = refl }) (λ is. inl is) (λ is. is)
    c.write_pages.ensures.any_moment c.write_pages.ensures.alone

pub returns-in-Ok-clause-room : goal.returns-in-Ok-clause-room
returns-in-Ok-clause-room g c =
    let s = c.args.self.now in
    let e = g.D.Device.state c.write_pages.new.device in
    record {
      has_failed = refl;
      room = inr c.clear.ensures.space;
      array = λ first l. nothing_dirty (dirty_bytes c.clear.new.self) e.content s.map.working.items c.clear.ensures.empty l
          ∙ array_written _ e (dirty_bytes s.dirty) (c.write_pages.ensures.alone first) (c.in-Ok.ensures.written first) s.map.working.items l;
    }

pub returns-in-Err-clause-preserved : goal.returns-in-Err-clause-preserved
returns-in-Err-clause-preserved g c =
    preserved_written g.met.D.Device.only_now _ _ (record { history = c.write_pages.ensures.history; root = refl; durable = refl }) (λ is. inr c.in-Err.ensures.cause) (λ is. refl)
    c.write_pages.ensures.any_moment c.write_pages.ensures.alone

pub returns-then-has_room-clause-preserved : goal.returns-then-has_room-clause-preserved
returns-then-has_room-clause-preserved g c = preserved_same c.args.self.now

pub returns-then-has_room-clause-map : goal.returns-then-has_room-clause-map
returns-then-has_room-clause-map g c = refl

pub returns-then-has_room-clause-room : goal.returns-then-has_room-clause-room
returns-then-has_room-clause-room g c = record { has_failed = refl; room = c.has_room.ensures.0 c.if-has_room.true; array = λ first l. refl }

pub returns-then-has_room-clause-fault : goal.returns-then-has_room-clause-fault
returns-then-has_room-clause-fault g c = tt

pub returns-then-has_room-clause-no_device_call : goal.returns-then-has_room-clause-no_device_call
returns-then-has_room-clause-no_device_call g c room = refl

pub invariant_of-self : goal.invariant_of-self
invariant_of-self g c =
    let s = c.args.self.now in
    let history = c.write_pages.ensures.history in
    record {
      sized = history.sectors ∙ s.sized;
      idle = s.idle;
      outside = λ page some. absurd (none_dirty _ (c.clear.ensures.empty page) some);
      cached = λ now. let was = history.was_faithful now in c.write_pages.ensures.cached was (s.cached was);
    }

pub invariant_of-self-in-Err : goal.invariant_of-self-in-Err
invariant_of-self-in-Err g c =
    let s = c.args.self.now in
    let history = c.write_pages.ensures.history in
    record {
      sized = history.sectors ∙ s.sized;
      idle = s.idle;
      outside = s.outside;
      cached = λ now. let was = history.was_faithful now in c.write_pages.ensures.cached was (s.cached was);
    }

pub returns-in-Ok-clause-map : goal.returns-in-Ok-clause-map
returns-in-Ok-clause-map g c = refl

pub returns-in-Ok-clause-fault : goal.returns-in-Ok-clause-fault
returns-in-Ok-clause-fault g c = tt

pub returns-in-Ok-clause-no_device_call : goal.returns-in-Ok-clause-no_device_call
returns-in-Ok-clause-no_device_call g c room = not_both _ c.if-has_room.false (c.has_room.ensures.1 room)

pub returns-in-Err-clause-map : goal.returns-in-Err-clause-map
returns-in-Err-clause-map g c = refl

pub returns-in-Err-clause-room : goal.returns-in-Err-clause-room
returns-in-Err-clause-room g c = tt

pub returns-in-Err-clause-fault : goal.returns-in-Err-clause-fault
returns-in-Err-clause-fault g c = (refl, record { has_failed = refl; cause = inr c.in-Err.ensures.cause })

pub returns-in-Err-clause-no_device_call : goal.returns-in-Err-clause-no_device_call
returns-in-Err-clause-no_device_call g c room = not_both _ c.if-has_room.false (c.has_room.ensures.1 room)
