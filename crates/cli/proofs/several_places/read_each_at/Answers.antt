use Rattle.std.proofs.Common.{arith, rules, ◌≡◌, ◌≤◌, ◌∙◌, ◌∷◌, ap, codes, length, List, refl, subst, sym, Some}
use Rattle.clap.specs.Words.{all_of, first_of, found_of, rows_of}
use Rattle.cli.specs.declared.command.UsageFault.{UsageFault}
use Rattle.cli.specs.CommandLine.{ArePlacesNamed, AtEach, GivenCounts, GivesAs, HasCounts, HasPlaceWord, IsSeveral, IsUnfit, ServeClients, TheWord, lent_word, lent_words}
use Rattle.cli.proofs.GivenSo.{handed_on}
use Rattle.cli.proofs.GivenWords.{first_given, got_so, got_word, no_port_beside, no_serve, no_socket_beside, no_word, none_word, not_both, some_word, too_many}
use Rattle.cli.proofs.SeveralWords.{lent_length, no_count_each_so, no_place_of_so, several_parts}
use Rattle.cli.proofs.several_places.read_each_at.Goals as goal

pub returns-in_default-clause-refused : goal.returns-in_default-clause-refused
returns-in_default-clause-refused c =
    let found = found_of c.args.given.now in
    let parts = several_parts (lent_words c.args.words.now) c.requires.several in
    let has_at = first_given (codes "at") (rows_of found) parts.0 parts.1 (c.requires.given ∙ ap Some parts.2) in
    no_serve (rows_of found)
    (λ file port connections idle has. not_both _ parts.0 has.5.3 has_at)
    (λ file socket connections idle has. not_both _ parts.0 has.5.3 has_at)
    (λ file place counts has. no_word found (codes "file") c.get_str.result c.get_str.ensures file (search rules) has.0)

pub returns-in_default-get_str-clause-refused : goal.returns-in_default-get_str-clause-refused
returns-in_default-get_str-clause-refused c =
    let found = found_of c.args.given.now in
    let parts = several_parts (lent_words c.args.words.now) c.requires.several in
    let has_at = first_given (codes "at") (rows_of found) parts.0 parts.1 (c.requires.given ∙ ap Some parts.2) in
    no_serve (rows_of found)
    (λ file port connections idle has. not_both _ parts.0 has.5.3 has_at)
    (λ file socket connections idle has. not_both _ parts.0 has.5.3 has_at)
    (λ file place counts has. no_word found (codes "clients") c.get_str-2.result c.get_str-2.ensures counts.clients (search rules) has.2.clients)

pub returns-then-is_some-clause-refused : goal.returns-then-is_some-clause-refused
returns-then-is_some-clause-refused c =
    let found = found_of c.args.given.now in
    let parts = several_parts (lent_words c.args.words.now) c.requires.several in
    let has_at = first_given (codes "at") (rows_of found) parts.0 parts.1 (c.requires.given ∙ ap Some parts.2) in
    no_serve (rows_of found)
    (λ file port connections idle has. not_both _ parts.0 has.5.3 has_at)
    (λ file socket connections idle has. not_both _ parts.0 has.5.3 has_at)
    (λ file place counts has. no_port_beside (rows_of found) place parts.0 has_at (some_word found (codes "port") c.get_str-3.result c.get_str-3.ensures (search rules)) has.1)

pub returns-then-is_some-2-clause-refused : goal.returns-then-is_some-2-clause-refused
returns-then-is_some-2-clause-refused c =
    let found = found_of c.args.given.now in
    let parts = several_parts (lent_words c.args.words.now) c.requires.several in
    let has_at = first_given (codes "at") (rows_of found) parts.0 parts.1 (c.requires.given ∙ ap Some parts.2) in
    no_serve (rows_of found)
    (λ file port connections idle has. not_both _ parts.0 has.5.3 has_at)
    (λ file socket connections idle has. not_both _ parts.0 has.5.3 has_at)
    (λ file place counts has. no_socket_beside (rows_of found) place parts.0 has_at (some_word found (codes "socket") c.get_str-4.result c.get_str-4.ensures (search rules)) has.1)

pub returns-then-words-gt-MOST_PLACES-clause-refused : goal.returns-then-words-gt-MOST_PLACES-clause-refused
returns-then-words-gt-MOST_PLACES-clause-refused c =
    let found = found_of c.args.given.now in
    let words = lent_words c.args.words.now in
    let parts = several_parts words c.requires.several in
    let has_at = first_given (codes "at") (rows_of found) parts.0 parts.1 (c.requires.given ∙ ap Some parts.2) in
    no_serve (rows_of found)
    (λ file port connections idle has. not_both _ parts.0 has.5.3 has_at)
    (λ file socket connections idle has. not_both _ parts.0 has.5.3 has_at)
    (λ file place counts has. too_many (rows_of found) place parts.0 words has_at c.requires.given c.requires.several
    (λ few. omega (arith, few, lent_length c.args.words.now, c.if-words-gt-MOST_PLACES.true)) has.1)

pub returns-in_err-places-clause-refused : goal.returns-in_err-places-clause-refused
returns-in_err-places-clause-refused c =
    let found = found_of c.args.given.now in
    let words = lent_words c.args.words.now in
    let parts = several_parts words c.requires.several in
    let has_at = first_given (codes "at") (rows_of found) parts.0 parts.1 (c.requires.given ∙ ap Some parts.2) in
    let counts : GivenCounts = record { clients = c.in-Some-get_str.clients.now; connections = lent_word c.get_str-5.result; wait = lent_word c.get_str-6.result; idle = lent_word c.get_str-7.result; block = lent_word c.get_str-8.result } in
    let given = ServeClients c.in-Some.file.now (AtEach parts.0 parts.1) counts in
    let has : HasCounts (rows_of found) counts = record {
      clients = got_word found (codes "clients") c.get_str-2.result c.get_str-2.ensures c.in-Some-get_str.clients c.in-Some-get_str.is;
      connections = got_so found (codes "connections") c.get_str-5.result c.get_str-5.ensures;
      wait = got_so found (codes "wait") c.get_str-6.result c.get_str-6.ensures;
      idle = got_so found (codes "idle") c.get_str-7.result c.get_str-7.ensures;
      block = got_so found (codes "block") c.get_str-8.result c.get_str-8.ensures;
    } in
    let few : length words ≤ 8 = omega (arith, lent_length c.args.words.now, c.if-words-gt-MOST_PLACES.false) in
    let at : HasPlaceWord (rows_of found) (AtEach parts.0 parts.1) = (
      none_word found (codes "port") c.get_str-3.result c.get_str-3.ensures (search rules),
      none_word found (codes "socket") c.get_str-4.result c.get_str-4.ensures (search rules),
      has_at,
      c.requires.given ∙ ap Some parts.2,
      subst IsSeveral parts.2 c.requires.several,
      subst (λ (ws : List TheWord). length ws ≤ 8) parts.2 few,
    ) in
    let gives : GivesAs (codes "serve") (rows_of found) given = record { named = refl; words = (got_word found (codes "file") c.get_str.result c.get_str.ensures c.in-Some.file c.in-Some.is, at, has) } in
    let fault = c.in_err-places.field-0.0 in
    handed_on (IsUnfit (GivesAs (codes "serve") (rows_of found))) c.from_residual.result fault c.from_residual.ensures.1
    (no_place_of_so (GivesAs (codes "serve") (rows_of found)) c.in-Some.file.now parts.0 parts.1 counts gives words parts.2 fault c.in_err-places.ensures.refused)

pub returns-in_err-many-clause-refused : goal.returns-in_err-many-clause-refused
returns-in_err-many-clause-refused c =
    let found = found_of c.args.given.now in
    let words = lent_words c.args.words.now in
    let parts = several_parts words c.requires.several in
    let has_at = first_given (codes "at") (rows_of found) parts.0 parts.1 (c.requires.given ∙ ap Some parts.2) in
    let counts : GivenCounts = record { clients = c.in-Some-get_str.clients.now; connections = lent_word c.get_str-5.result; wait = lent_word c.get_str-6.result; idle = lent_word c.get_str-7.result; block = lent_word c.get_str-8.result } in
    let given = ServeClients c.in-Some.file.now (AtEach parts.0 parts.1) counts in
    let has : HasCounts (rows_of found) counts = record {
      clients = got_word found (codes "clients") c.get_str-2.result c.get_str-2.ensures c.in-Some-get_str.clients c.in-Some-get_str.is;
      connections = got_so found (codes "connections") c.get_str-5.result c.get_str-5.ensures;
      wait = got_so found (codes "wait") c.get_str-6.result c.get_str-6.ensures;
      idle = got_so found (codes "idle") c.get_str-7.result c.get_str-7.ensures;
      block = got_so found (codes "block") c.get_str-8.result c.get_str-8.ensures;
    } in
    let few : length words ≤ 8 = omega (arith, lent_length c.args.words.now, c.if-words-gt-MOST_PLACES.false) in
    let at : HasPlaceWord (rows_of found) (AtEach parts.0 parts.1) = (
      none_word found (codes "port") c.get_str-3.result c.get_str-3.ensures (search rules),
      none_word found (codes "socket") c.get_str-4.result c.get_str-4.ensures (search rules),
      has_at,
      c.requires.given ∙ ap Some parts.2,
      subst IsSeveral parts.2 c.requires.several,
      subst (λ (ws : List TheWord). length ws ≤ 8) parts.2 few,
    ) in
    let gives : GivesAs (codes "serve") (rows_of found) given = record { named = refl; words = (got_word found (codes "file") c.get_str.result c.get_str.ensures c.in-Some.file c.in-Some.is, at, has) } in
    let fault = c.in_err-many.field-0.0 in
    handed_on (IsUnfit (GivesAs (codes "serve") (rows_of found))) c.from_residual-in_err-many.result fault c.from_residual-in_err-many.ensures.1
    (no_count_each_so (GivesAs (codes "serve") (rows_of found)) c.in-Some.file.now parts.0 parts.1 counts gives fault c.in_err-many.ensures.refused)

pub returns-clause-asked : goal.returns-clause-asked
returns-clause-asked c =
    let found = found_of c.args.given.now in
    let words = lent_words c.args.words.now in
    let parts = several_parts words c.requires.several in
    let has_at = first_given (codes "at") (rows_of found) parts.0 parts.1 (c.requires.given ∙ ap Some parts.2) in
    let counts : GivenCounts = record { clients = c.in-Some-get_str.clients.now; connections = lent_word c.get_str-5.result; wait = lent_word c.get_str-6.result; idle = lent_word c.get_str-7.result; block = lent_word c.get_str-8.result } in
    let given = ServeClients c.in-Some.file.now (AtEach parts.0 parts.1) counts in
    let has : HasCounts (rows_of found) counts = record {
      clients = got_word found (codes "clients") c.get_str-2.result c.get_str-2.ensures c.in-Some-get_str.clients c.in-Some-get_str.is;
      connections = got_so found (codes "connections") c.get_str-5.result c.get_str-5.ensures;
      wait = got_so found (codes "wait") c.get_str-6.result c.get_str-6.ensures;
      idle = got_so found (codes "idle") c.get_str-7.result c.get_str-7.ensures;
      block = got_so found (codes "block") c.get_str-8.result c.get_str-8.ensures;
    } in
    let few : length words ≤ 8 = omega (arith, lent_length c.args.words.now, c.if-words-gt-MOST_PLACES.false) in
    let at : HasPlaceWord (rows_of found) (AtEach parts.0 parts.1) = (
      none_word found (codes "port") c.get_str-3.result c.get_str-3.ensures (search rules),
      none_word found (codes "socket") c.get_str-4.result c.get_str-4.ensures (search rules),
      has_at,
      c.requires.given ∙ ap Some parts.2,
      subst IsSeveral parts.2 c.requires.several,
      subst (λ (ws : List TheWord). length ws ≤ 8) parts.2 few,
    ) in
    let gives : GivesAs (codes "serve") (rows_of found) given = record { named = refl; words = (got_word found (codes "file") c.get_str.result c.get_str.ensures c.in-Some.file c.in-Some.is, at, has) } in
    (parts.0, parts.1, counts, gives, subst (λ (ws : List TheWord). ArePlacesNamed ws c.in_ok-places.places.items) parts.2 c.in_ok-places.ensures.read, c.in_ok-many.ensures.read)
