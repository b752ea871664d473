use Rattle.std.proofs.Common.{sym, subst, Ok, Err}
use Rattle.recovery.specs.declared.fault.OpeningFault.TheVariants.{Read}
use Rattle.databases.specs.declared.fault.DatabaseFault.TheVariants.{Records}
use Rattle.cli.specs.Reading.{ReadsOn}
use Rattle.cli.proofs.OnlyRead.{read_definitions_on, unread_on}
use Rattle.cli.proofs.reading.read_definitions.Goals as goal

pub returns-in-Ok-read : goal.returns-in-Ok-read
returns-in-Ok-read g c = λ faithful.
    let d = g.D.Device.state c.args.device in
    let opened = c.in-Ok.ensures in
    let read = c.in-Ok-read.ensures in
    subst (λ (e : g.row.D.Denot). ReadsOn d (Ok c.in-Ok-read.catalogue) (g.D.Device.state e)) (sym c.into_device-left.ensures)
    (read_definitions_on g.met.D.Device.only_now d c.in-Ok.store c.read_store-read.new.store opened faithful read.preserved c.in-Ok-read.catalogue (read.found (opened.holds faithful).sound))

pub returns-in-Err-read : goal.returns-in-Err-read
returns-in-Err-read g c = λ faithful.
    let d = g.D.Device.state c.args.device in
    let opened = c.in-Ok.ensures in
    let read = c.in-Err-read.ensures in
    let fault = c.in-Err-read.fault in
    subst (λ (e : g.row.D.Denot). ReadsOn d (Err (Records (Read fault))) (g.D.Device.state e)) (sym c.into_device-left.ensures)
    (unread_on g.met.D.Device.only_now d c.in-Ok.store c.read_store-read.new.store opened faithful read.preserved fault read.read.only_reads.history (read.found (opened.holds faithful).sound) read.read.cause)
