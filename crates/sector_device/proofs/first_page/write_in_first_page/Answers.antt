use Rattle.std.proofs.Common.{◌∙◌}
use Rattle.sector_device.proofs.OneWrite.{page_writes_sectors, synced_sectors}
use Rattle.sector_device.proofs.first_page.write_in_first_page.Goals as goal

pub returns-in_err-write_page-clause-writes : goal.returns-in_err-write_page-clause-writes
returns-in_err-write_page-clause-writes g c faithful =
    let read = c.read_page.ensures.history in
    page_writes_sectors c.args.first c.args.sectors.now c.read_page.new.bytes c.put_sectors.new.bytes _ _ _ (c.read_page.ensures.only_reads faithful)
    (c.in_ok-read_page.ensures.bytes faithful) c.put_sectors.ensures.others c.put_sectors.ensures.written read.sectors
    (λ s inside. g.met.D.Device.content_left c.args.device.now s faithful inside) c.requires.room (c.write_page.ensures.writes (read.faithful faithful))

pub returns-in_err-sync-clause-writes : goal.returns-in_err-sync-clause-writes
returns-in_err-sync-clause-writes g c faithful =
    let read = c.read_page.ensures.history in
    let write = c.write_page.ensures.history in
    let first = read.faithful faithful in
    synced_sectors c.args.first c.args.sectors.now _ _ _ (c.sync.ensures.history.sectors ∙ write.sectors ∙ read.sectors)
    (page_writes_sectors c.args.first c.args.sectors.now c.read_page.new.bytes c.put_sectors.new.bytes _ _ _ (c.read_page.ensures.only_reads faithful)
    (c.in_ok-read_page.ensures.bytes faithful) c.put_sectors.ensures.others c.put_sectors.ensures.written read.sectors
    (λ s inside. g.met.D.Device.content_left c.args.device.now s faithful inside) c.requires.room (c.write_page.ensures.writes first))
    (c.sync.ensures.only_reads (write.faithful first))

pub returns-clause-writes : goal.returns-clause-writes
returns-clause-writes g c faithful =
    let read = c.read_page.ensures.history in
    let write = c.write_page.ensures.history in
    let first = read.faithful faithful in
    synced_sectors c.args.first c.args.sectors.now _ _ _ (c.sync.ensures.history.sectors ∙ write.sectors ∙ read.sectors)
    (page_writes_sectors c.args.first c.args.sectors.now c.read_page.new.bytes c.put_sectors.new.bytes _ _ _ (c.read_page.ensures.only_reads faithful)
    (c.in_ok-read_page.ensures.bytes faithful) c.put_sectors.ensures.others c.put_sectors.ensures.written read.sectors
    (λ s inside. g.met.D.Device.content_left c.args.device.now s faithful inside) c.requires.room (c.write_page.ensures.writes first))
    (c.sync.ensures.only_reads (write.faithful first))
