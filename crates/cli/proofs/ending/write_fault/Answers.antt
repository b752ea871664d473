use Rattle.std.proofs.Common.{OnOk, subst, sym}
use Rattle.std.specs.Io.KnownBytes.{Appends}
use Rattle.cli.proofs.FaultMessages.{told_with_reason}
use Rattle.cli.proofs.ending.write_fault.Goals as goal

pub returns-in_default : goal.returns-in_default
returns-in_default g c =
    let told = told_with_reason c.args.about c.args.fault c.in_default.not-Memory c.in_default.not-Output in
    subst (λ text. OnOk c.writeln-in_default.result (Appends (g.E.Write.contents c.args.err.now) (g.E.Write.contents c.writeln-in_default.new.self) text)) (sym told) c.writeln-in_default.ensures.bytes
