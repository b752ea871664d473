use Rattle.std.proofs.Common.{rules, codes, refl}
use Rattle.std.proofs.lemmas.Result.{IfErr-weaker, IfOk-weaker}
use Rattle.clap.specs.Words.{found_of, rows_of}
use Rattle.cli.specs.CommandLine.{GivesAs, HasWords, Journal}
use Rattle.cli.proofs.GivenSo.{ordered_so, unfit_so}
use Rattle.cli.proofs.GivenWords.{got_word, no_word, no_journal}
use Rattle.cli.proofs.command.read_journal.Goals as goal

pub returns-in_default-clause-refused : goal.returns-in_default-clause-refused
returns-in_default-clause-refused c = no_journal (rows_of (found_of c.args.given.now)) (λ file state has. no_word (found_of c.args.given.now) (codes "file") c.get_str.result c.get_str.ensures file (search rules) has.0)

pub returns-in_default-get_str-clause-refused : goal.returns-in_default-get_str-clause-refused
returns-in_default-get_str-clause-refused c = no_journal (rows_of (found_of c.args.given.now)) (λ file state has. no_word (found_of c.args.given.now) (codes "state") c.get_str-2.result c.get_str-2.ensures state (search rules) has.1)

pub returns-clause-asked : goal.returns-clause-asked
returns-clause-asked c =
    let found = found_of c.args.given.now in
    let given = Journal c.in-Some.file.now c.in-Some-get_str.word.now in
    let words : HasWords (rows_of found) given = (got_word found (codes "file") c.get_str.result c.get_str.ensures c.in-Some.file c.in-Some.is, got_word found (codes "state") c.get_str-2.result c.get_str-2.ensures c.in-Some-get_str.word c.in-Some-get_str.is) in
    let gives : GivesAs (codes "journal") (rows_of found) given = record { named = refl; words = words } in
    IfOk-weaker c.switch_journal.result _ _ (λ o has. ordered_so (GivesAs (codes "journal") (rows_of found)) given gives o has) c.switch_journal.ensures.asked

pub returns-clause-refused : goal.returns-clause-refused
returns-clause-refused c =
    let found = found_of c.args.given.now in
    let given = Journal c.in-Some.file.now c.in-Some-get_str.word.now in
    let words : HasWords (rows_of found) given = (got_word found (codes "file") c.get_str.result c.get_str.ensures c.in-Some.file c.in-Some.is, got_word found (codes "state") c.get_str-2.result c.get_str-2.ensures c.in-Some-get_str.word c.in-Some-get_str.is) in
    let gives : GivesAs (codes "journal") (rows_of found) given = record { named = refl; words = words } in
    IfErr-weaker c.switch_journal.result _ _ (λ u unfit. unfit_so (GivesAs (codes "journal") (rows_of found)) given gives u unfit) c.switch_journal.ensures.refused
