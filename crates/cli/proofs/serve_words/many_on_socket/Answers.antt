use Rattle.std.proofs.Common.{rules, refl}
use Rattle.cli.specs.CommandLine.{AtSocket, given_counts}
use Rattle.cli.specs.PlaceWords.{IsSocketPath}
use Rattle.cli.proofs.serve_words.many_on_socket.Goals as goal

pub returns-clause-asked : goal.returns-clause-asked
returns-clause-asked c =
    let path : IsSocketPath c.args.socket.now = search rules in
    (AtSocket c.args.socket.now, given_counts c.args.counts, refl, record { placed = (refl, (refl, path)); guarded = (refl, refl); tells = refl }, c.in_ok-many.ensures.read)
