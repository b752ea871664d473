use Rattle.std.proofs.Common.{rules, codes, refl}
use Rattle.std.proofs.lemmas.Result.{IfErr-weaker, IfOk-weaker}
use Rattle.clap.specs.Words.{found_of, rows_of}
use Rattle.cli.specs.CommandLine.{Serve, ServeSocket, HasWords, GivesAs, lent_word}
use Rattle.cli.proofs.GivenSo.{ordered_so, unfit_so}
use Rattle.cli.proofs.GivenWords.{got_none, got_so, got_word, no_gap, no_word, none_word, no_serve, not_both, some_word}
use Rattle.cli.proofs.serve_words.read_each.Goals as goal

pub returns-in_default-clause-refused : goal.returns-in_default-clause-refused
returns-in_default-clause-refused c =
    let found = found_of c.args.given.now in
    no_serve (rows_of found)
    (λ file port connections idle has. no_word found (codes "file") c.get_str.result c.get_str.ensures file (search rules) has.0)
    (λ file socket connections idle has. no_word found (codes "file") c.get_str.result c.get_str.ensures file (search rules) has.0)
    (λ file place counts has. not_both _ counts.clients c.requires.0 has.2.clients)

pub returns-in_default-get_str-clause-refused : goal.returns-in_default-get_str-clause-refused
returns-in_default-get_str-clause-refused c =
    let found = found_of c.args.given.now in
    no_serve (rows_of found)
    (λ file port connections idle has. no_word found (codes "connections") c.get_str-2.result c.get_str-2.ensures connections (search rules) has.3)
    (λ file socket connections idle has. no_word found (codes "connections") c.get_str-2.result c.get_str-2.ensures connections (search rules) has.3)
    (λ file place counts has. not_both _ counts.clients c.requires.0 has.2.clients)

pub returns-in_default-get_str-3-clause-refused : goal.returns-in_default-get_str-3-clause-refused
returns-in_default-get_str-3-clause-refused c =
    let found = found_of c.args.given.now in
    no_serve (rows_of found)
    (λ file port connections idle has. no_word found (codes "port") c.get_str-3.result c.get_str-3.ensures port (search rules) has.1)
    (λ file socket connections idle has. no_word found (codes "socket") c.get_str-in_default-get_str-2.result c.get_str-in_default-get_str-2.ensures socket (search rules) has.2)
    (λ file place counts has. not_both _ counts.clients c.requires.0 has.2.clients)

pub returns-in_default-get_str-2-clause-asked : goal.returns-in_default-get_str-2-clause-asked
returns-in_default-get_str-2-clause-asked c =
    let found = found_of c.args.given.now in
    let given = ServeSocket c.in-Some.file.now c.in-Some-get_str-3.socket.now c.in-Some-get_str.count.now (lent_word c.get_str-limit.result) in
    let words : HasWords (rows_of found) given = (got_word found (codes "file") c.get_str.result c.get_str.ensures c.in-Some.file c.in-Some.is, got_none found (codes "port") c.get_str-3.result c.get_str-3.ensures (search rules), got_word found (codes "socket") c.get_str-in_default-get_str-2.result c.get_str-in_default-get_str-2.ensures c.in-Some-get_str-3.socket c.in-Some-get_str-3.is, got_word found (codes "connections") c.get_str-2.result c.get_str-2.ensures c.in-Some-get_str.count c.in-Some-get_str.is, got_so found (codes "idle") c.get_str-limit.result c.get_str-limit.ensures, c.requires) in
    let gives : GivesAs (codes "serve") (rows_of found) given = record { named = refl; words = words } in
    IfOk-weaker c.serve_on_socket.result _ _ (λ o has. ordered_so (GivesAs (codes "serve") (rows_of found)) given gives o has) c.serve_on_socket.ensures.asked

pub returns-in_default-get_str-2-clause-refused : goal.returns-in_default-get_str-2-clause-refused
returns-in_default-get_str-2-clause-refused c =
    let found = found_of c.args.given.now in
    let given = ServeSocket c.in-Some.file.now c.in-Some-get_str-3.socket.now c.in-Some-get_str.count.now (lent_word c.get_str-limit.result) in
    let words : HasWords (rows_of found) given = (got_word found (codes "file") c.get_str.result c.get_str.ensures c.in-Some.file c.in-Some.is, got_none found (codes "port") c.get_str-3.result c.get_str-3.ensures (search rules), got_word found (codes "socket") c.get_str-in_default-get_str-2.result c.get_str-in_default-get_str-2.ensures c.in-Some-get_str-3.socket c.in-Some-get_str-3.is, got_word found (codes "connections") c.get_str-2.result c.get_str-2.ensures c.in-Some-get_str.count c.in-Some-get_str.is, got_so found (codes "idle") c.get_str-limit.result c.get_str-limit.ensures, c.requires) in
    let gives : GivesAs (codes "serve") (rows_of found) given = record { named = refl; words = words } in
    IfErr-weaker c.serve_on_socket.result _ _ (λ u unfit. unfit_so (GivesAs (codes "serve") (rows_of found)) given gives u unfit) c.serve_on_socket.ensures.refused

pub returns-then-is_some-clause-refused : goal.returns-then-is_some-clause-refused
returns-then-is_some-clause-refused c =
    let found = found_of c.args.given.now in
    no_serve (rows_of found)
    (λ file port connections idle has. some_word found (codes "socket") c.get_str-4.result c.get_str-4.ensures (search rules) has.2)
    (λ file socket connections idle has. no_gap found (codes "port") c.get_str-3.result c.get_str-3.ensures c.in-Some-get_str-2.port c.in-Some-get_str-2.is has.1)
    (λ file place counts has. not_both _ counts.clients c.requires.0 has.2.clients)

pub returns-clause-asked : goal.returns-clause-asked
returns-clause-asked c =
    let found = found_of c.args.given.now in
    let given = Serve c.in-Some.file.now c.in-Some-get_str-2.port.now c.in-Some-get_str.count.now (lent_word c.get_str-limit.result) in
    let words : HasWords (rows_of found) given = (got_word found (codes "file") c.get_str.result c.get_str.ensures c.in-Some.file c.in-Some.is, got_word found (codes "port") c.get_str-3.result c.get_str-3.ensures c.in-Some-get_str-2.port c.in-Some-get_str-2.is, none_word found (codes "socket") c.get_str-4.result c.get_str-4.ensures (search rules), got_word found (codes "connections") c.get_str-2.result c.get_str-2.ensures c.in-Some-get_str.count c.in-Some-get_str.is, got_so found (codes "idle") c.get_str-limit.result c.get_str-limit.ensures, c.requires) in
    let gives : GivesAs (codes "serve") (rows_of found) given = record { named = refl; words = words } in
    IfOk-weaker c.serve_on_port.result _ _ (λ o has. ordered_so (GivesAs (codes "serve") (rows_of found)) given gives o has) c.serve_on_port.ensures.asked

pub returns-clause-refused : goal.returns-clause-refused
returns-clause-refused c =
    let found = found_of c.args.given.now in
    let given = Serve c.in-Some.file.now c.in-Some-get_str-2.port.now c.in-Some-get_str.count.now (lent_word c.get_str-limit.result) in
    let words : HasWords (rows_of found) given = (got_word found (codes "file") c.get_str.result c.get_str.ensures c.in-Some.file c.in-Some.is, got_word found (codes "port") c.get_str-3.result c.get_str-3.ensures c.in-Some-get_str-2.port c.in-Some-get_str-2.is, none_word found (codes "socket") c.get_str-4.result c.get_str-4.ensures (search rules), got_word found (codes "connections") c.get_str-2.result c.get_str-2.ensures c.in-Some-get_str.count c.in-Some-get_str.is, got_so found (codes "idle") c.get_str-limit.result c.get_str-limit.ensures, c.requires) in
    let gives : GivesAs (codes "serve") (rows_of found) given = record { named = refl; words = words } in
    IfErr-weaker c.serve_on_port.result _ _ (λ u unfit. unfit_so (GivesAs (codes "serve") (rows_of found)) given gives u unfit) c.serve_on_port.ensures.refused
