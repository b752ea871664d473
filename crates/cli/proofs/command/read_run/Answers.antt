use Rattle.std.proofs.Common.{rules, codes, refl}
use Rattle.clap.specs.Words.{found_of, rows_of}
use Rattle.sql_types.specs.Name.{IsName}
use Rattle.cli.specs.CommandLine.{RunMemory, HasWords}
use Rattle.cli.proofs.GivenWords.{got_word, got_none, no_word, no_gap, some_word, none_word, no_name, no_run}
use Rattle.cli.proofs.command.read_run.Goals as goal

pub returns-in_default-clause-refused : goal.returns-in_default-clause-refused
returns-in_default-clause-refused c = no_run (rows_of (found_of c.args.given.now)) (λ file script stop explain has. no_word (found_of c.args.given.now) (codes "first") c.get_str.result c.get_str.ensures file (search rules) has.1) (λ admin script stop explain has. no_word (found_of c.args.given.now) (codes "first") c.get_str.result c.get_str.ensures script (search rules) has.1)

pub returns-in_default-get_str-2-clause-refused : goal.returns-in_default-get_str-2-clause-refused
returns-in_default-get_str-2-clause-refused c = no_run (rows_of (found_of c.args.given.now)) (λ file script stop explain has. no_word (found_of c.args.given.now) (codes "second") c.get_str-in_default-get_str.result c.get_str-in_default-get_str.ensures script (search rules) has.2) (λ admin script stop explain has. no_word (found_of c.args.given.now) (codes "memory") c.get_str-2.result c.get_str-2.ensures admin (search rules) has.0)

pub returns-in_default-get_str-clause-asked : goal.returns-in_default-get_str-clause-asked
returns-in_default-get_str-clause-asked c =
    let at = c.refusal_flags-on_refusal.ensures in (
      at.0,
      at.1,
      record {
        named = refl;
        words = (got_none (found_of c.args.given.now) (codes "memory") c.get_str-2.result c.get_str-2.ensures (search rules), got_word (found_of c.args.given.now) (codes "first") c.get_str.result c.get_str.ensures c.in-Some.first c.in-Some.is, got_word (found_of c.args.given.now) (codes "second") c.get_str-in_default-get_str.result c.get_str-in_default-get_str.ensures c.in-Some-get_str-2.script c.in-Some-get_str-2.is, at.2);
      },
      at.3,
    )

pub returns-then-is_some-clause-refused : goal.returns-then-is_some-clause-refused
returns-then-is_some-clause-refused c = no_run (rows_of (found_of c.args.given.now))
    (λ file script stop explain has. no_gap (found_of c.args.given.now) (codes "memory") c.get_str-2.result c.get_str-2.ensures c.in-Some-get_str.admin c.in-Some-get_str.is has.0)
    (λ admin script stop explain has. some_word (found_of c.args.given.now) (codes "second") c.get_str-3.result c.get_str-3.ensures (search rules) has.2)

pub returns-then-not-is_name-clause-refused : goal.returns-then-not-is_name-clause-refused
returns-then-not-is_name-clause-refused c =
    let at = c.refusal_flags-on_refusal.ensures in
    let given = RunMemory c.in-Some-get_str.admin.now c.in-Some.first.now at.0 at.1 in
    let words : HasWords (rows_of (found_of c.args.given.now)) given = (got_word (found_of c.args.given.now) (codes "memory") c.get_str-2.result c.get_str-2.ensures c.in-Some-get_str.admin c.in-Some-get_str.is, got_word (found_of c.args.given.now) (codes "first") c.get_str.result c.get_str.ensures c.in-Some.first c.in-Some.is, none_word (found_of c.args.given.now) (codes "second") c.get_str-3.result c.get_str-3.ensures (search rules), at.2) in
    let none = no_name c.in-Some-get_str.admin.now c.is_name.result c.is_name.ensures (search rules) in
    (given, record { named = refl; words = words }, refl, none)

pub returns-clause-asked : goal.returns-clause-asked
returns-clause-asked c =
    let at = c.refusal_flags-on_refusal.ensures in
    let words : HasWords (rows_of (found_of c.args.given.now)) (RunMemory c.in-Some-get_str.admin.now c.in-Some.first.now at.0 at.1) = (got_word (found_of c.args.given.now) (codes "memory") c.get_str-2.result c.get_str-2.ensures c.in-Some-get_str.admin c.in-Some-get_str.is, got_word (found_of c.args.given.now) (codes "first") c.get_str.result c.get_str.ensures c.in-Some.first c.in-Some.is, none_word (found_of c.args.given.now) (codes "second") c.get_str-3.result c.get_str-3.ensures (search rules), at.2) in
    let named : IsName c.in-Some-get_str.admin.now = search rules in
    (at.0, at.1, record { named = refl; words = words }, at.3, named)
