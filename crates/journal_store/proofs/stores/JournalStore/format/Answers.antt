use Rattle.std.proofs.Common.{◌≡◌, ◌≤◌, ℕ, true, arith}
use Rattle.sector_device.specs.Device.{DeviceState}
use Rattle.cow_pages.specs.Image.{is_size}
use Rattle.cow_pages.proofs.Formatted.{size_is}
use Rattle.journal_store.proofs.Formatted.{written, made, not_cleared, failed_later}
use Rattle.journal_store.proofs.stores.JournalStore.format.Goals as goal

-- a device of such a size has a first page
has_first_page : (sectors : ℕ) → is_size sectors ≡ true → 8 ≤ sectors
has_first_page sectors size = let sizes = size_is sectors size in omega (arith, sizes.0, sizes.1)

pub returns-in_default : goal.returns-in_default
returns-in_default g c =
    let d : DeviceState = g.D.Device.state c.args.device.now in
    let e : DeviceState = g.D.Device.state c.clear_journal.new.device in
    (not_cleared c.args.first.now d e c.clear_journal.ensures.size c.clear_journal.ensures.clears (has_first_page d.sectors c.requires.size) c.requires.size, c.in_default.ensures.cause)

pub returns-in-Ok-format : goal.returns-in-Ok-format
returns-in-Ok-format g c =
    let d : DeviceState = g.D.Device.state c.args.device.now in
    let e : DeviceState = g.D.Device.state c.clear_journal.new.device in
    let f : DeviceState = g.D.Device.state c.format.new.device in
    let size = c.clear_journal.ensures.size in
    let is = c.in-Ok-format.ensures in
    let entry = c.args.first.now in
    let page = c.write_leaf_of.new.page in
    let node = c.in_ok-write_leaf_of.ensures in
    let room = has_first_page d.sectors c.requires.size in
    let beside = g.met.D.JournalDevice.all_beside c.clear_journal.new.device in
    let present = g.met.D.Device.only_now c.clear_journal.new.device in (
      written entry page node d e f size c.clear_journal.ensures.clears room c.requires.size c.in-Ok.ensures.cleared beside present is.history is.any_moment is.others,
      made entry page node d e f size c.clear_journal.ensures.clears room c.requires.size c.in-Ok.ensures.cleared beside present is.history is.any_moment is.others
          (λ faithful image left. is.means (size.faithful faithful) image left) (λ faithful. is.synced (size.faithful faithful)),
    )

pub returns-in-Err : goal.returns-in-Err
returns-in-Err g c =
    let d : DeviceState = g.D.Device.state c.args.device.now in
    let e : DeviceState = g.D.Device.state c.clear_journal.new.device in
    let f : DeviceState = g.D.Device.state c.format.new.device in
    let size = c.clear_journal.ensures.size in
    let is = c.in-Err.ensures in (
      written c.args.first.now c.write_leaf_of.new.page c.in_ok-write_leaf_of.ensures d e f size c.clear_journal.ensures.clears (has_first_page d.sectors c.requires.size) c.requires.size c.in-Ok.ensures.cleared
          (g.met.D.JournalDevice.all_beside c.clear_journal.new.device) (g.met.D.Device.only_now c.clear_journal.new.device) is.history is.any_moment is.others,
      failed_later d e f size.failures is.history.failures is.cause,
    )
