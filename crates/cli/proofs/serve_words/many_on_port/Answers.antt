use Rattle.std.proofs.Common.{refl}
use Rattle.cli.specs.CommandLine.{AtPort, given_counts}
use Rattle.cli.proofs.serve_words.many_on_port.Goals as goal

pub returns-clause-asked : goal.returns-clause-asked
returns-clause-asked c = (AtPort c.args.port_word.now, given_counts c.args.counts, refl, record { placed = (refl, c.in_ok-port.ensures.read); guarded = (refl, refl); tells = refl }, c.in_ok-many.ensures.read)
