use Rattle.std.proofs.Common.{ℕ, Result, Ok, subst}
use Rattle.stored_database.specs.Definitions.{Definitions}
use Rattle.journal_store.specs.declared.switch_fault.SwitchFault.{SwitchFault}
use Rattle.databases.specs.declared.fault.DatabaseFault.{DatabaseFault}
use Rattle.cli.specs.Reading.{ReadsOn}
use Rattle.cli.specs.Switching.{Switches}
use Rattle.cli.proofs.Switched.{stays}
use Rattle.cli.proofs.switching.switch_on_device.Goals as goal

pub returns-in-Ok-switched : goal.returns-in-Ok-switched
returns-in-Ok-switched g c =
    let state = g.D.Device.state in
    let d = state c.args.device in
    let mid = c.read_definitions-mid.result.0 in
    let e = state c.turn-left.result.0 in
    let reads : d.faithful → ReadsOn d (Ok c.in-Ok._definitions) (state mid) = λ faithful.
    subst (λ (r : Result Definitions DatabaseFault). ReadsOn d r (state mid)) c.in-Ok.is (c.read_definitions-mid.ensures faithful)
    in
    let switches = subst (λ (r : Result ℕ SwitchFault). Switches g.D.Device c.args.on (state mid) r e) c.in-Ok-switched.is c.turn-left.ensures in
    record {
      number = c.in-Ok-switched._number;
      switched = record { definitions = c.in-Ok._definitions; mid = mid; reads = reads; switches = switches };
      stays = λ faithful. stays c.one_contents.ensures g.D.Device c.args.on d (state mid) e c.in-Ok-switched._number faithful (reads faithful).unwritten switches;
    }
