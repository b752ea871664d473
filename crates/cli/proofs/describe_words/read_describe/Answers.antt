use Rattle.std.proofs.Common.{rules, codes, refl}
use Rattle.std.proofs.lemmas.Result.{IfErr-weaker, IfOk-weaker}
use Rattle.clap.specs.Words.{found_of, rows_of}
use Rattle.cli.specs.CommandLine.{Describe, GivesAs, HasWords, lent_word}
use Rattle.cli.proofs.GivenSo.{ordered_so, unfit_so}
use Rattle.cli.proofs.GivenWords.{flag_so, got_so, got_word, no_describe, no_word}
use Rattle.cli.proofs.describe_words.read_describe.Goals as goal

pub returns-in_default-clause-refused : goal.returns-in_default-clause-refused
returns-in_default-clause-refused c = no_describe (rows_of (found_of c.args.given.now)) (λ file role table since powers json has. no_word (found_of c.args.given.now) (codes "file") c.get_str.result c.get_str.ensures file (search rules) has.0)

pub returns-clause-asked : goal.returns-clause-asked
returns-clause-asked c =
    let found = found_of c.args.given.now in
    let given = Describe c.in-Some.file.now (lent_word c.get_str-role.result) (lent_word c.get_str-table.result) (lent_word c.get_str-since.result) c.get_flag-powers.result c.get_flag-json.result in
    let powers = flag_so found (codes "powers") c.get_flag-powers.result c.get_flag-powers.ensures.none c.get_flag-powers.ensures.value c.get_flag-powers.ensures.other in
    let json = flag_so found (codes "json") c.get_flag-json.result c.get_flag-json.ensures.none c.get_flag-json.ensures.value c.get_flag-json.ensures.other in
    let words : HasWords (rows_of found) given = (got_word found (codes "file") c.get_str.result c.get_str.ensures c.in-Some.file c.in-Some.is, got_so found (codes "role") c.get_str-role.result c.get_str-role.ensures, got_so found (codes "table") c.get_str-table.result c.get_str-table.ensures, got_so found (codes "since") c.get_str-since.result c.get_str-since.ensures, powers, json) in
    let gives : GivesAs (codes "describe") (rows_of found) given = record { named = refl; words = words } in
    IfOk-weaker c.order_by.result _ _ (λ o has. ordered_so (GivesAs (codes "describe") (rows_of found)) given gives o has) c.order_by.ensures.asked

pub returns-clause-refused : goal.returns-clause-refused
returns-clause-refused c =
    let found = found_of c.args.given.now in
    let given = Describe c.in-Some.file.now (lent_word c.get_str-role.result) (lent_word c.get_str-table.result) (lent_word c.get_str-since.result) c.get_flag-powers.result c.get_flag-json.result in
    let powers = flag_so found (codes "powers") c.get_flag-powers.result c.get_flag-powers.ensures.none c.get_flag-powers.ensures.value c.get_flag-powers.ensures.other in
    let json = flag_so found (codes "json") c.get_flag-json.result c.get_flag-json.ensures.none c.get_flag-json.ensures.value c.get_flag-json.ensures.other in
    let words : HasWords (rows_of found) given = (got_word found (codes "file") c.get_str.result c.get_str.ensures c.in-Some.file c.in-Some.is, got_so found (codes "role") c.get_str-role.result c.get_str-role.ensures, got_so found (codes "table") c.get_str-table.result c.get_str-table.ensures, got_so found (codes "since") c.get_str-since.result c.get_str-since.ensures, powers, json) in
    let gives : GivesAs (codes "describe") (rows_of found) given = record { named = refl; words = words } in
    IfErr-weaker c.order_by.result _ _ (λ u unfit. unfit_so (GivesAs (codes "describe") (rows_of found)) given gives u unfit) c.order_by.ensures.refused
