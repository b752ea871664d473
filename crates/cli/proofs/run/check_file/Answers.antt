use Rattle.std.proofs.Common.{◌≡◌, ◌∙◌, ap, subst}
use Rattle.journal_store.specs.DeviceStores.{device_of}
use Rattle.databases.specs.Openings.{device_under}
use Rattle.cli.specs.Files.{ChangesDevice}
use Rattle.cli.proofs.Changes.{closed_again}
use Rattle.cli.proofs.run.check_file.Goals as goal

pub returns : goal.returns
returns g c =
    let old = g.Y.System.state c.args.system.now in
    let new = g.Y.System.state c.close.new.self in
    let at = c.in-Ok.ensures in
    let under : c.into_device.result ≡ device_under c.in-Ok.opened.server = c.into_device.ensures ∙ ap (λ s. device_of s) c.into_store.ensures in
    record {
      file = record { device = at.device; opened = c.in-Ok.opened; is_opened = at.is_opened; tells = c.tell_migration-told.ensures };
      changes = λ is. subst (λ left. ChangesDevice g.Y.Device.Device old c.args.path.now at.device left new) under
          (closed_again g.Y.Device.Device c.args.path.now at.device c.into_device.result old (g.Y.System.state c.open_to_check_in.new.system) new (at.named is) (at.is_open is) (at.others is) c.close.ensures.closed
          c.close.ensures.others is);
    }
