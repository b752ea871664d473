use Rattle.std.proofs.Common.{◌∙◌, ap, sym, subst}
use Rattle.storage_sizes.specs.declared.record_format.RecordFormat.{RecordFormat}
use Rattle.std.specs.Prelude.{Ok}
use Rattle.recovery.specs.Openings.{OnlyLooks}
use Rattle.databases.specs.declared.fault.DatabaseFault.TheVariants.{Records}
use Rattle.databases.specs.Openings.{IsRefused, is_first}
use Rattle.databases.proofs.DeviceOpening.{opened_on, refused_pages, refused_records}
use Rattle.databases.proofs.database.open_database.Goals as goal

pub returns-in-Err-clause-opens : goal.returns-in-Err-clause-opens
returns-in-Err-clause-opens g c = λ faithful.
    let d = g.D.Device.state c.args.device in
    refused_pages d (g.D.Device.state c.in-Err.device) c.in-Err.fault c.in-Err.ensures faithful

pub returns-in-Ok-open-clause-opens : goal.returns-in-Ok-open-clause-opens
returns-in-Ok-open-clause-opens g c = λ faithful.
    let d = g.D.Device.state c.args.device in
    let opened = c.in-Ok.ensures in
    let is = c.in-Ok-open.ensures in
    let sound = (opened.holds faithful).sound in
    opened_on g.met.D.Device.only_now d c.in-Ok.store _ opened faithful is.history (c.is_record_format_1-was_migrated.ensures ∙ ap is_first c.record_format.ensures) (is.opened sound) (is.number sound)
    (λ second.
    let looks = subst (λ (sp : RecordFormat). OnlyLooks sp (Ok tt)) (sym second) tt in
    ((is.read looks).only_reads, is.preserved looks opened.has_not_failed))
    (is.same sound opened.has_not_failed)

pub returns-in-Ok-open-clause-works : goal.returns-in-Ok-open-clause-works
returns-in-Ok-open-clause-works g c = c.in-Ok-open.ensures.works ∙ c.in-Ok.ensures.has_not_failed

pub returns-in-Err-open-clause-opens : goal.returns-in-Err-open-clause-opens
returns-in-Err-open-clause-opens g c = λ faithful.
    let d = g.D.Device.state c.args.device in
    let refused = c.in-Err-open.refused in
    let opened = c.in-Ok.ensures in
    let is = c.in-Err-open.ensures in
    let sound = (opened.holds faithful).sound in
    let whole = refused_records g.met.D.Device.only_now d c.in-Ok.store refused.store refused.fault opened faithful is.history (is.cause sound) is.works (is.unchanged sound)
    (λ looks. is.preserved looks opened.has_not_failed) (is.same sound opened.has_not_failed) in
    subst (λ (e : g.row.D.Denot). IsRefused d (Records refused.fault) (g.D.Device.state e)) (sym c.into_device.ensures) whole
