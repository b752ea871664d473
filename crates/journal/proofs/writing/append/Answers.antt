use Rattle.sector_device.proofs.EachSector.{alone_outside}
use Rattle.journal.proofs.Appending.{leaves_written, appended_now, on_ok_both}
use Rattle.journal.proofs.writing.append.Goals as goal

pub returns : goal.returns
returns g c =
    let old = g.D.Device.state c.args.device.now in
    let new = g.D.Device.state c.write_and_sync.new.device in
    let is = c.write_and_sync.ensures in
    record {
      history = is.history;
      any_moment = λ faithful. (is.writes faithful).any_moment;
      alone = λ faithful s outside. alone_outside c.args.first c.args.sectors.now old new (is.writes faithful) s outside;
      synced = is.synced;
      leaves = λ faithful start room root top es entry can. leaves_written start room root top es entry c.args.first c.args.sectors.now old can new (is.writes faithful).any_moment;
      appended = λ faithful. on_ok_both c.write_and_sync.result (is.written faithful) (is.synced faithful) (λ written synced start room root top es entry can.
          appended_now start room root top es entry c.args.first c.args.sectors.now old can new (is.writes faithful) written synced is.history.sectors
          (λ s lt. g.met.D.Device.content_left c.args.device.now s faithful lt) c.requires.inside);
      cause = is.cause;
    }
