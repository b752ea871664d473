use Rattle.std.proofs.Common.{rules, codes, refl}
use Rattle.std.proofs.lemmas.Result.{IfErr-weaker, IfOk-weaker}
use Rattle.clap.specs.Words.{found_of, rows_of}
use Rattle.cli.specs.CommandLine.{AtPort, AtSocket, GivenCounts, GivesAs, HasCounts, HasPlaceWord, ServeClients, lent_word}
use Rattle.cli.proofs.GivenSo.{ordered_so, unfit_so}
use Rattle.cli.proofs.GivenWords.{got_none, got_so, got_word, no_place, no_serve, no_word, none_word, not_both, some_word, two_places}
use Rattle.cli.proofs.serve_words.read_many.Goals as goal

pub returns-in_default-clause-refused : goal.returns-in_default-clause-refused
returns-in_default-clause-refused c =
    let found = found_of c.args.given.now in
    no_serve (rows_of found)
    (λ file port connections idle has. not_both _ c.args.clients.now has.5.0 c.requires.clients)
    (λ file socket connections idle has. not_both _ c.args.clients.now has.5.0 c.requires.clients)
    (λ file place counts has. no_word found (codes "file") c.get_str.result c.get_str.ensures file (search rules) has.0)

pub returns-in_default-get_str-2-clause-refused : goal.returns-in_default-get_str-2-clause-refused
returns-in_default-get_str-2-clause-refused c =
    let found = found_of c.args.given.now in
    let no_port = got_none found (codes "port") c.get_str-6.result c.get_str-6.ensures (search rules) in
    let no_socket = got_none found (codes "socket") c.get_str-in_default-get_str.result c.get_str-in_default-get_str.ensures (search rules) in
    no_serve (rows_of found)
    (λ file port connections idle has. not_both _ c.args.clients.now has.5.0 c.requires.clients)
    (λ file socket connections idle has. not_both _ c.args.clients.now has.5.0 c.requires.clients)
    (λ file place counts has. no_place (rows_of found) place no_port no_socket c.requires.at has.1)

pub returns-in_default-get_str-clause-asked : goal.returns-in_default-get_str-clause-asked
returns-in_default-get_str-clause-asked c =
    let found = found_of c.args.given.now in
    let counts : GivenCounts = record { clients = c.args.clients.now; connections = lent_word c.get_str-2.result; wait = lent_word c.get_str-3.result; idle = lent_word c.get_str-4.result; block = lent_word c.get_str-5.result } in
    let given = ServeClients c.in-Some.file.now (AtSocket c.in-Some-get_str-2.socket.now) counts in
    let has : HasCounts (rows_of found) counts = record {
      clients = c.requires.clients;
      connections = got_so found (codes "connections") c.get_str-2.result c.get_str-2.ensures;
      wait = got_so found (codes "wait") c.get_str-3.result c.get_str-3.ensures;
      idle = got_so found (codes "idle") c.get_str-4.result c.get_str-4.ensures;
      block = got_so found (codes "block") c.get_str-5.result c.get_str-5.ensures;
    } in
    let at : HasPlaceWord (rows_of found) (AtSocket c.in-Some-get_str-2.socket.now) = (got_none found (codes "port") c.get_str-6.result c.get_str-6.ensures (search rules), got_word found (codes "socket") c.get_str-in_default-get_str.result c.get_str-in_default-get_str.ensures c.in-Some-get_str-2.socket c.in-Some-get_str-2.is, c.requires.at) in
    let gives : GivesAs (codes "serve") (rows_of found) given = record { named = refl; words = (got_word found (codes "file") c.get_str.result c.get_str.ensures c.in-Some.file c.in-Some.is, at, has) } in
    IfOk-weaker c.many_on_socket.result _ _ (λ o has. ordered_so (GivesAs (codes "serve") (rows_of found)) given gives o has) c.many_on_socket.ensures.asked

pub returns-in_default-get_str-clause-refused : goal.returns-in_default-get_str-clause-refused
returns-in_default-get_str-clause-refused c =
    let found = found_of c.args.given.now in
    let counts : GivenCounts = record { clients = c.args.clients.now; connections = lent_word c.get_str-2.result; wait = lent_word c.get_str-3.result; idle = lent_word c.get_str-4.result; block = lent_word c.get_str-5.result } in
    let given = ServeClients c.in-Some.file.now (AtSocket c.in-Some-get_str-2.socket.now) counts in
    let has : HasCounts (rows_of found) counts = record {
      clients = c.requires.clients;
      connections = got_so found (codes "connections") c.get_str-2.result c.get_str-2.ensures;
      wait = got_so found (codes "wait") c.get_str-3.result c.get_str-3.ensures;
      idle = got_so found (codes "idle") c.get_str-4.result c.get_str-4.ensures;
      block = got_so found (codes "block") c.get_str-5.result c.get_str-5.ensures;
    } in
    let at : HasPlaceWord (rows_of found) (AtSocket c.in-Some-get_str-2.socket.now) = (got_none found (codes "port") c.get_str-6.result c.get_str-6.ensures (search rules), got_word found (codes "socket") c.get_str-in_default-get_str.result c.get_str-in_default-get_str.ensures c.in-Some-get_str-2.socket c.in-Some-get_str-2.is, c.requires.at) in
    let gives : GivesAs (codes "serve") (rows_of found) given = record { named = refl; words = (got_word found (codes "file") c.get_str.result c.get_str.ensures c.in-Some.file c.in-Some.is, at, has) } in
    IfErr-weaker c.many_on_socket.result _ _ (λ u unfit. unfit_so (GivesAs (codes "serve") (rows_of found)) given gives u unfit) c.many_on_socket.ensures.refused

pub returns-then-is_some-clause-refused : goal.returns-then-is_some-clause-refused
returns-then-is_some-clause-refused c =
    let found = found_of c.args.given.now in
    let port = got_word found (codes "port") c.get_str-6.result c.get_str-6.ensures c.in-Some-get_str.port c.in-Some-get_str.is in
    no_serve (rows_of found)
    (λ file port connections idle has. not_both _ c.args.clients.now has.5.0 c.requires.clients)
    (λ file socket connections idle has. not_both _ c.args.clients.now has.5.0 c.requires.clients)
    (λ file place counts has. two_places (rows_of found) place c.in-Some-get_str.port.now port (some_word found (codes "socket") c.get_str-7.result c.get_str-7.ensures (search rules)) has.1)

pub returns-clause-asked : goal.returns-clause-asked
returns-clause-asked c =
    let found = found_of c.args.given.now in
    let counts : GivenCounts = record { clients = c.args.clients.now; connections = lent_word c.get_str-2.result; wait = lent_word c.get_str-3.result; idle = lent_word c.get_str-4.result; block = lent_word c.get_str-5.result } in
    let given = ServeClients c.in-Some.file.now (AtPort c.in-Some-get_str.port.now) counts in
    let has : HasCounts (rows_of found) counts = record {
      clients = c.requires.clients;
      connections = got_so found (codes "connections") c.get_str-2.result c.get_str-2.ensures;
      wait = got_so found (codes "wait") c.get_str-3.result c.get_str-3.ensures;
      idle = got_so found (codes "idle") c.get_str-4.result c.get_str-4.ensures;
      block = got_so found (codes "block") c.get_str-5.result c.get_str-5.ensures;
    } in
    let at : HasPlaceWord (rows_of found) (AtPort c.in-Some-get_str.port.now) = (got_word found (codes "port") c.get_str-6.result c.get_str-6.ensures c.in-Some-get_str.port c.in-Some-get_str.is, none_word found (codes "socket") c.get_str-7.result c.get_str-7.ensures (search rules), c.requires.at) in
    let gives : GivesAs (codes "serve") (rows_of found) given = record { named = refl; words = (got_word found (codes "file") c.get_str.result c.get_str.ensures c.in-Some.file c.in-Some.is, at, has) } in
    IfOk-weaker c.many_on_port.result _ _ (λ o has. ordered_so (GivesAs (codes "serve") (rows_of found)) given gives o has) c.many_on_port.ensures.asked

pub returns-clause-refused : goal.returns-clause-refused
returns-clause-refused c =
    let found = found_of c.args.given.now in
    let counts : GivenCounts = record { clients = c.args.clients.now; connections = lent_word c.get_str-2.result; wait = lent_word c.get_str-3.result; idle = lent_word c.get_str-4.result; block = lent_word c.get_str-5.result } in
    let given = ServeClients c.in-Some.file.now (AtPort c.in-Some-get_str.port.now) counts in
    let has : HasCounts (rows_of found) counts = record {
      clients = c.requires.clients;
      connections = got_so found (codes "connections") c.get_str-2.result c.get_str-2.ensures;
      wait = got_so found (codes "wait") c.get_str-3.result c.get_str-3.ensures;
      idle = got_so found (codes "idle") c.get_str-4.result c.get_str-4.ensures;
      block = got_so found (codes "block") c.get_str-5.result c.get_str-5.ensures;
    } in
    let at : HasPlaceWord (rows_of found) (AtPort c.in-Some-get_str.port.now) = (got_word found (codes "port") c.get_str-6.result c.get_str-6.ensures c.in-Some-get_str.port c.in-Some-get_str.is, none_word found (codes "socket") c.get_str-7.result c.get_str-7.ensures (search rules), c.requires.at) in
    let gives : GivesAs (codes "serve") (rows_of found) given = record { named = refl; words = (got_word found (codes "file") c.get_str.result c.get_str.ensures c.in-Some.file c.in-Some.is, at, has) } in
    IfErr-weaker c.many_on_port.result _ _ (λ u unfit. unfit_so (GivesAs (codes "serve") (rows_of found)) given gives u unfit) c.many_on_port.ensures.refused
