use Rattle.std.proofs.Common.{◌≡◌, ◌∙◌, Bool, true, false, None, codes, refl, sym}
use Rattle.clap.specs.Words.{found_of, rows_of}
use Rattle.cli.specs.CommandLine.{Given, GivesAs, HasWords, Password}
use Rattle.cli.specs.PasswordCommand.{verifier_asked}
use Rattle.cli.proofs.GivenWords.{flag_so}
use Rattle.cli.proofs.password_words.read_password.Goals as goal

-- what asks for no verifier has both flags
both_given : (new mock : Bool) (G : Given → Type 0) → verifier_asked new mock ≡ None → G (Password new mock) → G (Password true true)
both_given false false G none gives = cc
both_given true false G none gives = cc
both_given false true G none gives = cc
both_given true true G none gives = gives

pub returns-in-Some-clause-asked : goal.returns-in-Some-clause-asked
returns-in-Some-clause-asked c =
    let found = found_of c.args.given.now in
    let new = flag_so found (codes "new") c.get_flag-new.result c.get_flag-new.ensures.none c.get_flag-new.ensures.value c.get_flag-new.ensures.other in
    let mock = flag_so found (codes "mock") c.get_flag-mock.result c.get_flag-mock.ensures.none c.get_flag-mock.ensures.value c.get_flag-mock.ensures.other in
    (c.get_flag-new.result, c.get_flag-mock.result, record { named = refl; words = (new, mock) }, sym c.verifier_asked.ensures ∙ c.in-Some.is)

pub returns-in-None-clause-refused : goal.returns-in-None-clause-refused
returns-in-None-clause-refused c =
    let found = found_of c.args.given.now in
    let new = flag_so found (codes "new") c.get_flag-new.result c.get_flag-new.ensures.none c.get_flag-new.ensures.value c.get_flag-new.ensures.other in
    let mock = flag_so found (codes "mock") c.get_flag-mock.result c.get_flag-mock.ensures.none c.get_flag-mock.ensures.value c.get_flag-mock.ensures.other in
    let words : HasWords (rows_of found) (Password c.get_flag-new.result c.get_flag-mock.result) = (new, mock) in
    let gives : GivesAs (codes "password") (rows_of found) (Password c.get_flag-new.result c.get_flag-mock.result) = record { named = refl; words = words } in
    both_given c.get_flag-new.result c.get_flag-mock.result (GivesAs (codes "password") (rows_of found)) (sym c.verifier_asked.ensures ∙ c.in-None.is) gives
