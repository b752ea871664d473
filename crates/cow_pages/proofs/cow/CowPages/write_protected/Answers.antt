use Rattle.std.proofs.Common.{◌≡◌, ◌<◌, ◌+◌, ℕ, length, refl, inl, ◌∙◌, arith}
use Rattle.sector_device.specs.Timeline.{LeavesOnly}
use Rattle.sector_device.specs.Device.{DeviceState, IsBehindRoots, timeline}
use Rattle.sector_device.proofs.EachSector.{none_written}
use Rattle.cow_pages.specs.Cached.{AgreesWith}
use Rattle.cow_pages.specs.Dirty.{overlaid_array}
use Rattle.cow_pages.specs.DirtyPages.{dirty_bytes}
use Rattle.cow_pages.specs.Held.{IsSettled}
use Rattle.cow_pages.specs.Image.{array_of, Means}
use Rattle.cow_pages.specs.Preserved.{HoldsDurable}
use Rattle.cow_pages.proofs.Beside.{agrees_beside, working_beside, settled_beside, array_beside, leaves_beside}
use Rattle.cow_pages.proofs.cow.CowPages.write_protected.Given.{Over}
use Rattle.cow_pages.proofs.cow.CowPages.write_protected.Goals.{After-write_protected}
use Rattle.cow_pages.proofs.Answered.{not_both}
use Rattle.cow_pages.proofs.cow.CowPages.write_protected.Goals as goal

-- what the sectors that were written leave as it was
module _ (g : Over) (c : After-write_protected g) where
  abbrev before : DeviceState
  before = g.D.Device.state c.args.self.now.device

  abbrev after : DeviceState
  after = g.D.Device.state c.write_protected.new.self

  behind : (i : ℕ) → i < length c.args.sectors.now → IsBehindRoots (c.args.first + i)
  behind i lt = g.met.D.Device.beside_behind c.args.self.now.device (c.args.first + i) (c.requires.beside i lt)

  cached : after.faithful → AgreesWith c.args.self.now.cache after.content
  cached now =
      let faithful = c.write_protected.ensures.size.was_faithful now in
      agrees_beside before after c.args.first c.args.sectors.now behind (c.write_protected.ensures.writes faithful) c.write_protected.ensures.size.sectors c.args.self.now.cache (c.args.self.now.cached faithful)

  working : before.faithful → (l : ℕ) → overlaid_array (dirty_bytes c.args.self.now.dirty) after.content c.args.self.now.map.working.items l ≡ overlaid_array (dirty_bytes c.args.self.now.dirty) before.content c.args.self.now.map.working.items l
  working faithful = working_beside before after c.args.first c.args.sectors.now behind (c.write_protected.ensures.writes faithful) c.write_protected.ensures.size.sectors (dirty_bytes c.args.self.now.dirty) c.args.self.now.map.working.items

  module _ (holds : HoldsDurable c.args.self.now) where
    settled : IsSettled after c.args.self.now.map.root c.args.self.now.map.durable.items
    settled = settled_beside before after c.args.first c.args.sectors.now behind (c.write_protected.ensures.writes holds.faithful) c.write_protected.ensures.size.sectors c.args.self.now.map.root c.args.self.now.map.durable.items holds.settled

    same : (l : ℕ) → array_of after.content c.args.self.now.map.durable.items l ≡ array_of before.content c.args.self.now.map.durable.items l
    same = array_beside before after c.args.first c.args.sectors.now behind (c.write_protected.ensures.writes holds.faithful) c.write_protected.ensures.size.sectors c.args.self.now.map.root c.args.self.now.map.durable.items holds.settled

    durable_left : LeavesOnly (Means c.args.self.now.map.root.pages c.args.self.now.map.root.format c.args.self.now.map.root.number (array_of before.content c.args.self.now.map.durable.items)) (timeline before) (timeline after)
    durable_left = leaves_beside before after c.args.first c.args.sectors.now behind (c.write_protected.ensures.writes holds.faithful) c.write_protected.ensures.size.sectors c.args.self.now.map.root c.args.self.now.map.durable.items holds.settled

pub invariant_of-self : goal.invariant_of-self
invariant_of-self g c =
    let p = c.args.self.now in
    record { sized = c.write_protected.ensures.size.sectors ∙ p.sized; idle = p.idle; outside = p.outside; cached = cached g (goal.at.invariant_of-self g c).After-write_protected }

pub invariant_of-self-in-Err : goal.invariant_of-self-in-Err
invariant_of-self-in-Err g c =
    let p = c.args.self.now in
    record { sized = c.write_protected.ensures.size.sectors ∙ p.sized; idle = p.idle; outside = p.outside; cached = cached g (goal.at.invariant_of-self-in-Err g c).After-write_protected }

pub returns-in-Ok-clause-array : goal.returns-in-Ok-clause-array
returns-in-Ok-clause-array g c = working g (goal.at.returns-in-Ok-clause-array g c).After-write_protected

pub returns-in-Err-clause-array : goal.returns-in-Err-clause-array
returns-in-Err-clause-array g c = working g (goal.at.returns-in-Err-clause-array g c).After-write_protected

pub returns-in-Ok-clause-durable : goal.returns-in-Ok-clause-durable
returns-in-Ok-clause-durable g c holds =
    let at = (goal.at.returns-in-Ok-clause-durable g c).After-write_protected in
    record { leaves = durable_left g at holds; stays = record { settled = settled g at holds; same = same g at holds } }

pub returns-in-Err-clause-durable : goal.returns-in-Err-clause-durable
returns-in-Err-clause-durable g c holds =
    let at = (goal.at.returns-in-Err-clause-durable g c).After-write_protected in
    record { leaves = durable_left g at holds; stays = record { settled = settled g at holds; same = same g at holds } }

pub returns-then-self-clause-device : goal.returns-then-self-clause-device
returns-then-self-clause-device g c =
    let p = c.args.self.now in
    record {
      size = record { sectors = refl; faithful = λ is. is; was_faithful = λ is. is; failures = omega arith; same_beside = λ s. (λ is. is, λ is. is) };
      writes = λ faithful. none_written c.args.first c.args.sectors.now (g.D.Device.state p.device) (g.met.D.Device.only_now p.device faithful);
      written = λ faithful. tt;
      synced = λ faithful. tt;
    }

pub returns-then-self-clause-memory : goal.returns-then-self-clause-memory
returns-then-self-clause-memory g c = record { root = refl; durable = refl; working = refl; dirty = refl }

pub returns-then-self-clause-array : goal.returns-then-self-clause-array
returns-then-self-clause-array g c first l = refl

pub returns-then-self-clause-durable : goal.returns-then-self-clause-durable
returns-then-self-clause-durable g c holds = record { leaves = holds.now; stays = record { settled = holds.settled; same = λ l. refl } }

pub returns-then-self-clause-outcome : goal.returns-then-self-clause-outcome
returns-then-self-clause-outcome g c = record { has_failed = c.if-self.true; cause = inl c.if-self.true }

pub returns-in-Ok-clause-device : goal.returns-in-Ok-clause-device
returns-in-Ok-clause-device g c = record {
  size = c.write_protected.ensures.size;
  writes = c.write_protected.ensures.writes;
  written = c.in-Ok.ensures.written;
  synced = c.in-Ok.ensures.synced;
}

pub returns-in-Ok-clause-memory : goal.returns-in-Ok-clause-memory
returns-in-Ok-clause-memory g c = record { root = refl; durable = refl; working = refl; dirty = refl }

pub returns-in-Ok-clause-outcome : goal.returns-in-Ok-clause-outcome
returns-in-Ok-clause-outcome g c = c.if-self.false

pub returns-in-Ok-clause-closed : goal.returns-in-Ok-clause-closed
returns-in-Ok-clause-closed g c was = not_both _ c.if-self.false was

pub returns-in-Err-clause-device : goal.returns-in-Err-clause-device
returns-in-Err-clause-device g c = record {
  size = c.write_protected.ensures.size;
  writes = c.write_protected.ensures.writes;
  written = λ first. tt;
  synced = λ first. tt;
}

pub returns-in-Err-clause-memory : goal.returns-in-Err-clause-memory
returns-in-Err-clause-memory g c = record { root = refl; durable = refl; working = refl; dirty = refl }

pub returns-in-Err-clause-closed : goal.returns-in-Err-clause-closed
returns-in-Err-clause-closed g c was = not_both _ c.if-self.false was
