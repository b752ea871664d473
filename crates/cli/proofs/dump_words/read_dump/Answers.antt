use Rattle.std.proofs.Common.{rules, codes, refl}
use Rattle.clap.specs.Words.{found_of, rows_of}
use Rattle.cli.specs.CommandLine.{Dump, GivesAs, HasWords}
use Rattle.cli.proofs.GivenWords.{got_word, no_word, no_dump}
use Rattle.cli.proofs.dump_words.read_dump.Goals as goal

pub returns-in_default-clause-refused : goal.returns-in_default-clause-refused
returns-in_default-clause-refused c = no_dump (rows_of (found_of c.args.given.now)) (λ file out has. no_word (found_of c.args.given.now) (codes "file") c.get_str.result c.get_str.ensures file (search rules) has.0)

pub returns-in_default-get_str-clause-refused : goal.returns-in_default-get_str-clause-refused
returns-in_default-get_str-clause-refused c = no_dump (rows_of (found_of c.args.given.now)) (λ file out has. no_word (found_of c.args.given.now) (codes "out") c.get_str-2.result c.get_str-2.ensures out (search rules) has.1)

pub returns-clause-asked : goal.returns-clause-asked
returns-clause-asked c =
    let found = found_of c.args.given.now in
    let words : HasWords (rows_of found) (Dump c.in-Some.file.now c.in-Some-get_str.out.now) = (got_word found (codes "file") c.get_str.result c.get_str.ensures c.in-Some.file c.in-Some.is, got_word found (codes "out") c.get_str-2.result c.get_str-2.ensures c.in-Some-get_str.out c.in-Some-get_str.is) in
    let gives : GivesAs (codes "dump") (rows_of found) (Dump c.in-Some.file.now c.in-Some-get_str.out.now) = record { named = refl; words = words } in
    gives
