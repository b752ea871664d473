use Rattle.std.proofs.Common.{rules, ◌≡◌, refl}
use Rattle.std.proofs.lemmas.Result.{IfErr-weaker, IfOk-weaker}
use Rattle.clap.specs.Words.{app_of, found_of, rows_of}
use Rattle.cli.specs.CommandGrammar.{program_app}
use Rattle.cli.specs.CommandLine.{lent_words}
use Rattle.cli.proofs.CommandLines.{error_read, parsed_fits, met_command, order_asks, order_refuses}
use Rattle.cli.proofs.command.read_command.Goals as goal

pub returns-in-Err-clause-asked : goal.returns-in-Err-clause-asked
returns-in-Err-clause-asked c =
    let words = lent_words c.args.words.now in
    let by : app_of c.in-Ok.command ≡ program_app = search rules in
    (error_read (app_of c.in-Ok.command) words words c.try_get_matches_from.result c.in-Err.error c.read_error.result by refl c.in-Err.is c.try_get_matches_from.ensures.kinds c.read_error.ensures).0

pub returns-in-Err-clause-refused : goal.returns-in-Err-clause-refused
returns-in-Err-clause-refused c =
    let words = lent_words c.args.words.now in
    let by : app_of c.in-Ok.command ≡ program_app = search rules in
    (error_read (app_of c.in-Ok.command) words words c.try_get_matches_from.result c.in-Err.error c.read_error.result by refl c.in-Err.is c.try_get_matches_from.ensures.kinds c.read_error.ensures).1

pub returns-in-Some-clause-asked : goal.returns-in-Some-clause-asked
returns-in-Some-clause-asked c =
    let words = lent_words c.args.words.now in
    let by : app_of c.in-Ok.command ≡ program_app = search rules in
    let parsed = parsed_fits (app_of c.in-Ok.command) words words c.try_get_matches_from.result c.in-Ok-try_get_matches_from.matches by refl c.in-Ok-try_get_matches_from.is c.try_get_matches_from.ensures.matches c.try_get_matches_from.ensures.kinds in
    let name = c.in-Some.name.now in
    let rows = rows_of (found_of c.in-Some.given.now) in
    let met = met_command words c.in-Ok-try_get_matches_from.matches name rows parsed.1 (search rules) (search rules) in
    IfOk-weaker c.read_given.result _ _ (λ o has. order_asks words name rows parsed.0 met o has) c.read_given.ensures.asked

pub returns-in-Some-clause-refused : goal.returns-in-Some-clause-refused
returns-in-Some-clause-refused c =
    let words = lent_words c.args.words.now in
    let by : app_of c.in-Ok.command ≡ program_app = search rules in
    let parsed = parsed_fits (app_of c.in-Ok.command) words words c.try_get_matches_from.result c.in-Ok-try_get_matches_from.matches by refl c.in-Ok-try_get_matches_from.is c.try_get_matches_from.ensures.matches c.try_get_matches_from.ensures.kinds in
    let name = c.in-Some.name.now in
    let rows = rows_of (found_of c.in-Some.given.now) in
    let met = met_command words c.in-Ok-try_get_matches_from.matches name rows parsed.1 (search rules) (search rules) in
    IfErr-weaker c.read_given.result _ _ (λ u unfit. order_refuses words name rows parsed.0 met u unfit) c.read_given.ensures.refused
