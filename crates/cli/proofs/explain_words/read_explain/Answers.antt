use Rattle.std.proofs.Common.{rules, codes, refl}
use Rattle.clap.specs.Words.{found_of, rows_of}
use Rattle.cli.specs.CommandLine.{Explain, HasWords, lent_word}
use Rattle.cli.proofs.GivenWords.{flag_so, got_so, got_word, no_explain, no_word}
use Rattle.cli.proofs.explain_words.read_explain.Goals as goal

pub returns-in_default-clause-refused : goal.returns-in_default-clause-refused
returns-in_default-clause-refused c = no_explain (rows_of (found_of c.args.given.now)) (λ file role statement session json has. no_word (found_of c.args.given.now) (codes "file") c.get_str.result c.get_str.ensures file (search rules) has.0)

pub returns-in_default-get_str-clause-refused : goal.returns-in_default-get_str-clause-refused
returns-in_default-get_str-clause-refused c = no_explain (rows_of (found_of c.args.given.now)) (λ file role statement session json has. no_word (found_of c.args.given.now) (codes "role") c.get_str-2.result c.get_str-2.ensures role (search rules) has.1)

pub returns-in_default-get_str-2-clause-refused : goal.returns-in_default-get_str-2-clause-refused
returns-in_default-get_str-2-clause-refused c = no_explain (rows_of (found_of c.args.given.now)) (λ file role statement session json has. no_word (found_of c.args.given.now) (codes "statement") c.get_str-3.result c.get_str-3.ensures statement (search rules) has.2)

pub returns-clause-asked : goal.returns-clause-asked
returns-clause-asked c =
    let found = found_of c.args.given.now in
    let flag = flag_so found (codes "json") c.get_flag-json.result c.get_flag-json.ensures.none c.get_flag-json.ensures.value c.get_flag-json.ensures.other in
    let words : HasWords (rows_of found) (Explain c.in-Some.file.now c.in-Some-get_str.role.now c.in-Some-get_str-2.statement.now (lent_word c.get_str-session.result) c.get_flag-json.result) =
    (got_word found (codes "file") c.get_str.result c.get_str.ensures c.in-Some.file c.in-Some.is, got_word found (codes "role") c.get_str-2.result c.get_str-2.ensures c.in-Some-get_str.role c.in-Some-get_str.is, got_word found (codes "statement") c.get_str-3.result c.get_str-3.ensures c.in-Some-get_str-2.statement c.in-Some-get_str-2.is, got_so found (codes "session") c.get_str-session.result c.get_str-session.ensures, flag) in
    record { named = refl; words = words }
