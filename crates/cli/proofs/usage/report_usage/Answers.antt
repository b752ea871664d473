use Rattle.std.proofs.Common.{OnOk, subst}
use Rattle.std.specs.Prelude.{IfSome}
use Rattle.std.specs.Io.KnownBytes.{Appends}
use Rattle.cli.specs.declared.command.UsageFault.{UsageFault}
use Rattle.cli.specs.Program.{usage_message}
use Rattle.cli.specs.Usage.{usage_reason}
use Rattle.cli.proofs.UsageTold.{usage_told}
use Rattle.cli.proofs.usage.report_usage.Goals as goal

pub returns : goal.returns
returns g c =
    let before = g.E.Write.contents c.args.err.now in
    let after = g.E.Write.contents c.write_usage.new.err in
    let called = c.usage_of.result.now in
    let written = subst (λ (u : UsageFault). OnOk c.write_usage.result (IfSome (usage_reason u) (λ r. Appends before after (usage_message called r)))) c.fault_told-told.ensures c.write_usage.ensures in
    let said = usage_told c.args.command called c.args.fault c.write_usage.result c.is_ok.result before after c.in_default.not-Memory c.usage_of.ensures c.is_ok.ensures.value written in
    record { status = said.0; told = said.1 }
