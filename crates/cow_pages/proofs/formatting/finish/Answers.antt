use Rattle.std.proofs.Common.{arith, ◌≡◌, ◌≢◌, ℕ, List, sym, ap, ◌∙◌}
use Rattle.sector_device.specs.Timeline.{IsPresent}
use Rattle.sector_device.specs.Device.{Writes, timeline, history_joined}
use Rattle.sector_device.specs.Page.{IsAlone}
use Rattle.page_roots.specs.Root.{home}
use Rattle.page_roots.specs.Sector.{root_at}
use Rattle.page_roots.specs.declared.sector.RootSector.TheVariants.{Found}
use Rattle.cow_pages.specs.PreservedLaws.{failed_later}
use Rattle.cow_pages.proofs.Answered.{on_ok_always, on_err_also}
use Rattle.cow_pages.proofs.Making.{alone_joined, alone_reads, alone_writes, leaves_synced, leaves_root, leaves_read_across}
use Rattle.cow_pages.proofs.formatting.finish.Given.{Over}
use Rattle.cow_pages.proofs.formatting.finish.Goals.{After-write}
use Rattle.cow_pages.proofs.formatting.finish.Goals as goal

-- the root is written
module _ (g : Over) (c : After-write g) where
  found : root_at 1 c.bytes.result ≡ Found c.args.root.now
  found = ap (λ (n : ℕ). root_at (home n) c.bytes.result) (sym c.requires.first) ∙ c.bytes.ensures.read

  writes : (g.D.Device.state c.args.device.now).faithful → Writes 1 c.bytes.result (g.D.Device.state c.sync.new.self) (g.D.Device.state c.write.new.self)
  writes first = c.write.ensures.writes (c.sync.ensures.history.faithful first)

  others_alone : (g.D.Device.state c.args.device.now).faithful → (s : ℕ) → s ≢ 1 → IsAlone (g.D.Device.state c.args.device.now) (g.D.Device.state c.write.new.self) s
  others_alone first s other =
      let mid = g.D.Device.state c.sync.new.self in
      let new = g.D.Device.state c.write.new.self in
      alone_joined _ mid new s (alone_reads _ mid (c.sync.ensures.only_reads first) s) (alone_writes 1 c.bytes.result mid new (writes first) s other)

pub returns-in_err-sync-clause-any_moment : goal.returns-in_err-sync-clause-any_moment
returns-in_err-sync-clause-any_moment g c first =
    let state = g.D.Device.state in
    let only_now : IsPresent (timeline (state c.args.device.now)) = g.met.D.Device.only_now c.args.device.now first in
    leaves_synced (state c.args.device.now) c.args.root.now c.requires.room only_now (state c.sync.new.self) c.sync.ensures.history (c.sync.ensures.only_reads first)

pub returns-in_err-write-clause-any_moment : goal.returns-in_err-write-clause-any_moment
returns-in_err-write-clause-any_moment g c first =
    let state = g.D.Device.state in
    let at = (goal.at.returns-in_err-write-clause-any_moment g c).After-write in
    leaves_root (state c.args.device.now) c.args.root.now c.requires.room (g.met.D.Device.only_now c.args.device.now first) (state c.sync.new.self) c.sync.ensures.history (c.sync.ensures.only_reads first)
    (c.in_ok-sync.ensures.synced first) (state c.write.new.self) c.write.ensures.history c.bytes.result (found g at) (writes g at first)

pub returns-clause-any_moment : goal.returns-clause-any_moment
returns-clause-any_moment g c first =
    let state = g.D.Device.state in
    let at = (goal.at.returns-clause-any_moment g c).After-write in
    let only_reads = c.sync-2.ensures.only_reads (c.write.ensures.history.faithful (c.sync.ensures.history.faithful first)) in
    leaves_read_across (state c.args.device.now) c.args.root.now c.requires.room (g.met.D.Device.only_now c.args.device.now first) (state c.sync.new.self) c.sync.ensures.history (c.sync.ensures.only_reads first)
    (c.in_ok-sync.ensures.synced first) (state c.write.new.self) c.write.ensures.history c.bytes.result (found g at) (writes g at first) (state c.sync-2.new.self) c.sync-2.ensures.history only_reads

pub returns-in_err-sync-clause-alone : goal.returns-in_err-sync-clause-alone
returns-in_err-sync-clause-alone g c first s other = alone_reads (g.D.Device.state c.args.device.now) (g.D.Device.state c.sync.new.self) (c.sync.ensures.only_reads first) s

pub returns-in_err-write-clause-alone : goal.returns-in_err-write-clause-alone
returns-in_err-write-clause-alone g c first s other = others_alone g (goal.at.returns-in_err-write-clause-alone g c).After-write first s other

pub returns-clause-alone : goal.returns-clause-alone
returns-clause-alone g c first s other =
    let new = g.D.Device.state c.write.new.self in
    let last = g.D.Device.state c.sync-2.new.self in
    let only_reads = c.sync-2.ensures.only_reads (c.write.ensures.history.faithful (c.sync.ensures.history.faithful first)) in
    alone_joined _ new last s (others_alone g (goal.at.returns-clause-alone g c).After-write first s other) (alone_reads new last only_reads s)

pub returns-in_err-write-clause-history : goal.returns-in_err-write-clause-history
returns-in_err-write-clause-history g c =
    history_joined _ _ (g.D.Device.state c.write.new.self) c.sync.ensures.history c.write.ensures.history

pub returns-clause-history : goal.returns-clause-history
returns-clause-history g c =
    let state = g.D.Device.state in
    let new = state c.write.new.self in
    history_joined _ new (state c.sync-2.new.self) (history_joined _ _ new c.sync.ensures.history c.write.ensures.history) c.sync-2.ensures.history

pub returns-clause-cause : goal.returns-clause-cause
returns-clause-cause g c =
    let state = g.D.Device.state in
    let new = state c.write.new.self in
    let two = history_joined _ _ new c.sync.ensures.history c.write.ensures.history in
    on_err_also c.sync-2.result c.sync-2.ensures.cause (failed_later _ new (state c.sync-2.new.self) two c.sync-2.ensures.history)

pub returns-clause-synced : goal.returns-clause-synced
returns-clause-synced g c first = c.sync-2.ensures.synced (c.write.ensures.history.faithful (c.sync.ensures.history.faithful first))

pub returns-clause-written : goal.returns-clause-written
returns-clause-written g c first =
    let second = c.sync.ensures.history.faithful first in
    let third = c.write.ensures.history.faithful second in
    let same = (c.sync-2.ensures.only_reads third).content 1 ∙ c.in_ok-write.ensures.written second in
    on_ok_always c.sync-2.result (record {
      spelled = same ∙ c.bytes.ensures.spelled;
      read = ap (λ (b : List ℕ). root_at 1 b) same ∙ found g (goal.at.returns-clause-written g c).After-write;
    })

pub write-requires-clause-not_beside : goal.write-requires-clause-not_beside
write-requires-clause-not_beside g c beside =
    let behind = g.met.D.Device.beside_behind c.sync.new.self _ beside in
    omega (arith, behind.0)
