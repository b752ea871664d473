use Rattle.std.proofs.Common.{◌∙◌, Ok, Err, sym, subst}
use Rattle.sector_device.specs.Device.{DeviceState}
use Rattle.cow_pages.specs.Cow.{device_below}
use Rattle.kv_store.specs.TreeStore.{pages_of}
use Rattle.journal_store.specs.declared.switch_fault.SwitchFault.TheVariants.{NotMigrated, Refused}
use Rattle.journal_store.specs.TurningOn.{TurnsOn}
use Rattle.journal_store.proofs.Kept.{has_first_page, size_after, size_kept}
use Rattle.journal_store.proofs.TurningOn.{turned_on, not_turned_on, not_migrated}
use Rattle.journal_store.proofs.turning_on.make_journal.Goals as goal

pub begin_journal-requires-clause-room : goal.begin_journal-requires-clause-room
begin_journal-requires-clause-room g c = has_first_page (pages_of c.args.store)

pub returns-in-V1 : goal.returns-in-V1
returns-in-V1 g c device opened =
    let state = g.D.Device.state in
    let d : DeviceState = state device in
    let s = c.args.store in
    subst (λ (x : g.row.D.Denot). TurnsOn g.D.Device d (Err NotMigrated) (state x)) (sym c.into_device.ensures) (record {
      size = size_kept d (device_below (pages_of s)) opened.history;
      outcome = λ faithful. not_migrated g.met.D.Device.content_left d s opened c.requires.kind faithful (sym c.record_format.ensures ∙ c.in-V1.is);
    })

pub returns-in-Ok : goal.returns-in-Ok
returns-in-Ok g c device opened =
    let state = g.D.Device.state in
    let d : DeviceState = state device in
    let s = c.args.store in
    let e : DeviceState = device_below (pages_of c.begin_journal.new.store) in
    let second = sym c.record_format.ensures ∙ c.in-V2.is in
    let is = c.in-Ok.ensures in
    subst (λ (x : g.row.D.Denot). TurnsOn g.D.Device d (Ok c.number-number.result) (state x)) (sym c.into_device-in-Ok.ensures) (record {
      size = size_after d (device_below (pages_of s)) e opened.history is.size;
      outcome = λ faithful.
          let sound = (opened.holds faithful).sound in
          turned_on g.met.D.Device.content_left d s opened c.requires.kind faithful e is.size c.number-number.result (c.number-number.ensures ∙ is.number sound second) (is.begins sound c.requires.kind second);
    })

pub returns-in-Err : goal.returns-in-Err
returns-in-Err g c device opened =
    let state = g.D.Device.state in
    let d : DeviceState = state device in
    let s = c.args.store in
    let e : DeviceState = device_below (pages_of c.begin_journal.new.store) in
    let second = sym c.record_format.ensures ∙ c.in-V2.is in
    let is = c.in-Err.ensures in
    subst (λ (x : g.row.D.Denot). TurnsOn g.D.Device d (Err (Refused c.in-Err.fault)) (state x)) (sym c.into_device-in-Err.ensures) (record {
      size = size_after d (device_below (pages_of s)) e opened.history is.size;
      outcome = λ faithful.
          let sound = (opened.holds faithful).sound in
          not_turned_on g.met.D.Device.content_left d s opened c.requires.kind faithful e is.size c.in-Err.fault (is.begins sound c.requires.kind second);
    })
