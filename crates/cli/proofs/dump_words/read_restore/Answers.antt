use Rattle.std.proofs.Common.{rules, Some, codes, refl}
use Rattle.clap.specs.Words.{found_of, rows_of}
use Rattle.cli.specs.declared.number.NumberOption.TheVariants.{Pages}
use Rattle.cli.specs.CommandLine.{GivesAs, HasWords, IsUnfit, Restore}
use Rattle.cli.proofs.GivenSo.{handed_on, no_number_so, unfit_so}
use Rattle.cli.proofs.GivenWords.{flag_so, got_word, no_word, no_restore}
use Rattle.cli.proofs.dump_words.read_restore.Goals as goal

pub returns-in_default-clause-refused : goal.returns-in_default-clause-refused
returns-in_default-clause-refused c = no_restore (rows_of (found_of c.args.given.now)) (λ dump new pages journal has. no_word (found_of c.args.given.now) (codes "dump") c.get_str.result c.get_str.ensures dump (search rules) has.0)

pub returns-in_default-get_str-clause-refused : goal.returns-in_default-get_str-clause-refused
returns-in_default-get_str-clause-refused c = no_restore (rows_of (found_of c.args.given.now)) (λ dump new pages journal has. no_word (found_of c.args.given.now) (codes "new") c.get_str-2.result c.get_str-2.ensures new (search rules) has.1)

pub returns-in_default-get_str-2-clause-refused : goal.returns-in_default-get_str-2-clause-refused
returns-in_default-get_str-2-clause-refused c = no_restore (rows_of (found_of c.args.given.now)) (λ dump new pages journal has. no_word (found_of c.args.given.now) (codes "pages") c.get_str-3.result c.get_str-3.ensures pages (search rules) has.2)

pub returns-in_err-pages-clause-refused : goal.returns-in_err-pages-clause-refused
returns-in_err-pages-clause-refused c =
    let found = found_of c.args.given.now in
    let flag = flag_so found (codes "journal") c.get_flag-journal.result c.get_flag-journal.ensures.none c.get_flag-journal.ensures.value c.get_flag-journal.ensures.other in
    let given = Restore c.in-Some.dump.now c.in-Some-get_str.new.now c.in-Some-get_str-2.word.now c.get_flag-journal.result in
    let words : HasWords (rows_of found) given = (got_word found (codes "dump") c.get_str.result c.get_str.ensures c.in-Some.dump c.in-Some.is, got_word found (codes "new") c.get_str-2.result c.get_str-2.ensures c.in-Some-get_str.new c.in-Some-get_str.is, got_word found (codes "pages") c.get_str-3.result c.get_str-3.ensures c.in-Some-get_str-2.word c.in-Some-get_str-2.is, flag) in
    let gives : GivesAs (codes "restore") (rows_of found) given = record { named = refl; words = words } in
    let fault = c.in_err-pages.field-0.0 in
    handed_on (IsUnfit (GivesAs (codes "restore") (rows_of found))) c.from_residual.result fault c.from_residual.ensures.1
    (unfit_so (GivesAs (codes "restore") (rows_of found)) given gives fault (no_number_so Pages given (Some c.in-Some-get_str-2.word.now) refl fault c.in_err-pages.ensures.refused))

pub returns-clause-asked : goal.returns-clause-asked
returns-clause-asked c =
    let found = found_of c.args.given.now in
    let flag = flag_so found (codes "journal") c.get_flag-journal.result c.get_flag-journal.ensures.none c.get_flag-journal.ensures.value c.get_flag-journal.ensures.other in
    let words : HasWords (rows_of found) (Restore c.in-Some.dump.now c.in-Some-get_str.new.now c.in-Some-get_str-2.word.now c.get_flag-journal.result) = (got_word found (codes "dump") c.get_str.result c.get_str.ensures c.in-Some.dump c.in-Some.is, got_word found (codes "new") c.get_str-2.result c.get_str-2.ensures c.in-Some-get_str.new c.in-Some-get_str.is, got_word found (codes "pages") c.get_str-3.result c.get_str-3.ensures c.in-Some-get_str-2.word c.in-Some-get_str-2.is, flag) in
    (c.in-Some-get_str-2.word.now, record { named = refl; words = words }, c.in_ok-pages.ensures.read)
