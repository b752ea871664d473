use Rattle.std.proofs.Common.{◌≡◌, ◌+◌, ◌*◌, ◌/◌, ℕ, length, sym, ap, ◌∙◌, arith}
use Rattle.sector_device.specs.Device.{history_joined}
use Rattle.dumps.specs.OnDevice.{bytes_from}
use Rattle.dumps.proofs.Sectors.{same_bytes}
use Rattle.dumps.proofs.writing.end_dump.Goals as goal

pub returns-in-Ok-sync-clause-written : goal.returns-in-Ok-sync-clause-written
returns-in-Ok-sync-clause-written g c = λ faithful before hashed.
    let mid = g.E.Device.state c.write_pages.new.device in
    let new = g.E.Device.state c.sync.new.self in
    let page = c.args.place.page in
    let there = c.write_pages.ensures.history.faithful faithful in
    let long : length c.as_slice.result.now / 4096 ≡ 1 = omega (arith, ap length c.as_slice.ensures.value, c.in_ok-end.ensures.long) in
    let one : bytes_from mid.content (8 * page) (8 * 1) ≡ bytes_from mid.content (8 * page) (8 * (length c.as_slice.result.now / 4096)) = ap (λ (n : ℕ). bytes_from mid.content (8 * page) (8 * n)) (sym long) in
    record {
      there = same_bytes new.content mid.content 8 (8 * page) (λ k lt. (c.sync.ensures.only_reads there).content (8 * page + k)) ∙ one
          ∙ c.in-Ok.ensures.written faithful ∙ c.as_slice.ensures.value ∙ c.in_ok-end.ensures.spelled before (c.finalize.ensures before hashed);
      last = omega (arith, c.sectors-pages.ensures, c.write_pages.ensures.history.sectors, c.sync.ensures.history.sectors);
    }

pub returns-in-Ok-sync-clause-history : goal.returns-in-Ok-sync-clause-history
returns-in-Ok-sync-clause-history g c =
    history_joined (g.E.Device.state c.args.device.now) (g.E.Device.state c.write_pages.new.device) (g.E.Device.state c.sync.new.self) c.write_pages.ensures.history c.sync.ensures.history

pub returns-clause-history : goal.returns-clause-history
returns-clause-history g c =
    history_joined (g.E.Device.state c.args.device.now) (g.E.Device.state c.write_pages.new.device) (g.E.Device.state c.sync.new.self) c.write_pages.ensures.history c.sync.ensures.history
