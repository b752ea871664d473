use Rattle.std.proofs.Common.{rules, codes, refl}
use Rattle.clap.specs.Words.{found_of, rows_of}
use Rattle.sql_types.specs.Name.{IsName}
use Rattle.cli.specs.declared.number.NumberOption.TheVariants.{Pages}
use Rattle.cli.specs.CommandLine.{Format, HasWords}
use Rattle.cli.specs.Numbers.{IsNumberFor, NoNumberFor}
use Rattle.cli.proofs.GivenWords.{flag_so, got_word, no_word, no_name, no_format}
use Rattle.cli.proofs.command.read_format.Goals as goal

pub returns-in_default-clause-refused : goal.returns-in_default-clause-refused
returns-in_default-clause-refused c = no_format (rows_of (found_of c.args.given.now)) (λ file pages admin journal has. no_word (found_of c.args.given.now) (codes "file") c.get_str.result c.get_str.ensures file (search rules) has.0)

pub returns-in_default-get_str-clause-refused : goal.returns-in_default-get_str-clause-refused
returns-in_default-get_str-clause-refused c = no_format (rows_of (found_of c.args.given.now)) (λ file pages admin journal has. no_word (found_of c.args.given.now) (codes "pages") c.get_str-2.result c.get_str-2.ensures pages (search rules) has.1)

pub returns-in_default-get_str-2-clause-refused : goal.returns-in_default-get_str-2-clause-refused
returns-in_default-get_str-2-clause-refused c = no_format (rows_of (found_of c.args.given.now)) (λ file pages admin journal has. no_word (found_of c.args.given.now) (codes "admin") c.get_str-3.result c.get_str-3.ensures admin (search rules) has.2)

pub returns-in_default-read-clause-refused : goal.returns-in_default-read-clause-refused
returns-in_default-read-clause-refused c =
    let found = found_of c.args.given.now in
    let flag = flag_so found (codes "journal") c.get_flag-journal.result c.get_flag-journal.ensures.none c.get_flag-journal.ensures.value c.get_flag-journal.ensures.other in
    let words : HasWords (rows_of found) (Format c.in-Some.file.now c.in-Some-get_str.word.now c.in-Some-get_str-2.admin.now c.get_flag-journal.result) = (got_word (found_of c.args.given.now) (codes "file") c.get_str.result c.get_str.ensures c.in-Some.file c.in-Some.is, got_word (found_of c.args.given.now) (codes "pages") c.get_str-2.result c.get_str-2.ensures c.in-Some-get_str.word c.in-Some-get_str.is, got_word (found_of c.args.given.now) (codes "admin") c.get_str-3.result c.get_str-3.ensures c.in-Some-get_str-2.admin c.in-Some-get_str-2.is, flag) in
    let none : NoNumberFor Pages c.in-Some-get_str.word.now = search rules in
    (Format c.in-Some.file.now c.in-Some-get_str.word.now c.in-Some-get_str-2.admin.now c.get_flag-journal.result, record { named = refl; words = words }, refl, none)

pub returns-then-not-is_name-clause-refused : goal.returns-then-not-is_name-clause-refused
returns-then-not-is_name-clause-refused c =
    let found = found_of c.args.given.now in
    let flag = flag_so found (codes "journal") c.get_flag-journal.result c.get_flag-journal.ensures.none c.get_flag-journal.ensures.value c.get_flag-journal.ensures.other in
    let words : HasWords (rows_of found) (Format c.in-Some.file.now c.in-Some-get_str.word.now c.in-Some-get_str-2.admin.now c.get_flag-journal.result) = (got_word (found_of c.args.given.now) (codes "file") c.get_str.result c.get_str.ensures c.in-Some.file c.in-Some.is, got_word (found_of c.args.given.now) (codes "pages") c.get_str-2.result c.get_str-2.ensures c.in-Some-get_str.word c.in-Some-get_str.is, got_word (found_of c.args.given.now) (codes "admin") c.get_str-3.result c.get_str-3.ensures c.in-Some-get_str-2.admin c.in-Some-get_str-2.is, flag) in
    let none = no_name c.in-Some-get_str-2.admin.now c.is_name.result c.is_name.ensures (search rules) in
    (Format c.in-Some.file.now c.in-Some-get_str.word.now c.in-Some-get_str-2.admin.now c.get_flag-journal.result, record { named = refl; words = words }, refl, none)

pub returns-clause-asked : goal.returns-clause-asked
returns-clause-asked c =
    let found = found_of c.args.given.now in
    let flag = flag_so found (codes "journal") c.get_flag-journal.result c.get_flag-journal.ensures.none c.get_flag-journal.ensures.value c.get_flag-journal.ensures.other in
    let words : HasWords (rows_of found) (Format c.in-Some.file.now c.in-Some-get_str.word.now c.in-Some-get_str-2.admin.now c.get_flag-journal.result) = (got_word (found_of c.args.given.now) (codes "file") c.get_str.result c.get_str.ensures c.in-Some.file c.in-Some.is, got_word (found_of c.args.given.now) (codes "pages") c.get_str-2.result c.get_str-2.ensures c.in-Some-get_str.word c.in-Some-get_str.is, got_word (found_of c.args.given.now) (codes "admin") c.get_str-3.result c.get_str-3.ensures c.in-Some-get_str-2.admin c.in-Some-get_str-2.is, flag) in
    let number : IsNumberFor Pages c.in-Some-get_str.word.now c.in-Some-read.pages = search rules in
    let named : IsName c.in-Some-get_str-2.admin.now = search rules in
    (c.in-Some-get_str.word.now, record { named = refl; words = words }, number, named)
