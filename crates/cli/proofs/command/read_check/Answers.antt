use Rattle.std.proofs.Common.{codes, refl}
use Rattle.clap.specs.Words.{found_of, rows_of}
use Rattle.cli.proofs.GivenWords.{got_word, no_word, no_check}
use Rattle.cli.proofs.command.read_check.Goals as goal

pub returns-in-Some-clause-asked : goal.returns-in-Some-clause-asked
returns-in-Some-clause-asked c = record {
  named = refl;
  words = got_word (found_of c.args.given.now) (codes "file") c.get_str.result c.get_str.ensures c.in-Some.file c.in-Some.is;
}

pub returns-in-None-clause-refused : goal.returns-in-None-clause-refused
returns-in-None-clause-refused c = no_check (rows_of (found_of c.args.given.now)) (λ file has. no_word (found_of c.args.given.now) (codes "file") c.get_str.result c.get_str.ensures file c.in-None.is has)
