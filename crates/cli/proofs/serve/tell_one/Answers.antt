use Rattle.std.proofs.Common.{OnOk, subst, sym}
use Rattle.std.specs.Io.KnownBytes.{Appends}
use Rattle.systems.specs.declared.place.OnePlace.{OnePlace}
use Rattle.cli.specs.Serving.{listening_line}
use Rattle.cli.proofs.serve.tell_one.Goals as goal

pub returns-in-Socket : goal.returns-in-Socket
returns-in-Socket g c =
    subst (λ (p : OnePlace). OnOk c.writeln-in-Socket.result (Appends (g.E.Write.contents c.args.err.now) (g.E.Write.contents c.writeln-in-Socket.new.self) (listening_line p))) (sym c.in-Socket.is)
    c.writeln-in-Socket.ensures.bytes

pub returns-in-PostgresFolder : goal.returns-in-PostgresFolder
returns-in-PostgresFolder g c =
    subst (λ (p : OnePlace). OnOk c.writeln-in-PostgresFolder.result (Appends (g.E.Write.contents c.args.err.now) (g.E.Write.contents c.writeln-in-PostgresFolder.new.self) (listening_line p)))
    (sym c.in-PostgresFolder.is) c.writeln-in-PostgresFolder.ensures.bytes
