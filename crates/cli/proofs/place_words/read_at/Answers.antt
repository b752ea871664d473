use Rattle.std.proofs.Common.{◌≡◌, ◌∙◌, [], ◌∷◌, ℕ, List, ap, rules, codes, refl, subst, Some}
use Rattle.std.proofs.lemmas.Result.{IfErr-weaker, IfOk-weaker}
use Rattle.clap.specs.Words.{all_of, first_of, found_of, rows_of}
use Rattle.cli.specs.CommandLine.{At, BarsSuperusers, GivenCounts, GivesAs, HasCounts, HasPlaceWord, ServeClients, lent_word}
use Rattle.cli.specs.PlaceWords.{NoPlaceWord, place_word, with_options}
use Rattle.cli.proofs.GivenSo.{ordered_so, unfit_so}
use Rattle.cli.proofs.GivenWords.{got_so, got_word, no_port_beside, no_serve, no_socket_beside, no_word, none_word, not_both, only_at, some_word}
use Rattle.cli.proofs.place_words.read_at.Goals as goal

pub returns-in_default-clause-refused : goal.returns-in_default-clause-refused
returns-in_default-clause-refused c =
    let found = found_of c.args.given.now in
    no_serve (rows_of found)
    (λ file port connections idle has. not_both _ c.args.word.now has.5.3 c.requires.at)
    (λ file socket connections idle has. not_both _ c.args.word.now has.5.3 c.requires.at)
    (λ file place counts has. no_word found (codes "file") c.get_str.result c.get_str.ensures file (search rules) has.0)

pub returns-in_default-get_str-clause-refused : goal.returns-in_default-get_str-clause-refused
returns-in_default-get_str-clause-refused c =
    let found = found_of c.args.given.now in
    no_serve (rows_of found)
    (λ file port connections idle has. not_both _ c.args.word.now has.5.3 c.requires.at)
    (λ file socket connections idle has. not_both _ c.args.word.now has.5.3 c.requires.at)
    (λ file place counts has. no_word found (codes "clients") c.get_str-2.result c.get_str-2.ensures counts.clients (search rules) has.2.clients)

pub returns-then-is_some-clause-refused : goal.returns-then-is_some-clause-refused
returns-then-is_some-clause-refused c =
    let found = found_of c.args.given.now in
    no_serve (rows_of found)
    (λ file port connections idle has. not_both _ c.args.word.now has.5.3 c.requires.at)
    (λ file socket connections idle has. not_both _ c.args.word.now has.5.3 c.requires.at)
    (λ file place counts has. no_port_beside (rows_of found) place c.args.word.now c.requires.at (some_word found (codes "port") c.get_str-3.result c.get_str-3.ensures (search rules)) has.1)

pub returns-then-is_some-2-clause-refused : goal.returns-then-is_some-2-clause-refused
returns-then-is_some-2-clause-refused c =
    let found = found_of c.args.given.now in
    no_serve (rows_of found)
    (λ file port connections idle has. not_both _ c.args.word.now has.5.3 c.requires.at)
    (λ file socket connections idle has. not_both _ c.args.word.now has.5.3 c.requires.at)
    (λ file place counts has. no_socket_beside (rows_of found) place c.args.word.now c.requires.at (some_word found (codes "socket") c.get_str-4.result c.get_str-4.ensures (search rules)) has.1)

pub returns-in_default-split_place-clause-refused : goal.returns-in_default-split_place-clause-refused
returns-in_default-split_place-clause-refused c =
    let found = found_of c.args.given.now in
    let none : NoPlaceWord c.args.word.now = search rules in
    no_serve (rows_of found)
    (λ file port connections idle has. not_both _ c.args.word.now has.5.3 c.requires.at)
    (λ file socket connections idle has. not_both _ c.args.word.now has.5.3 c.requires.at)
    (λ file place counts has. only_at (rows_of found) place c.args.word.now c.requires.at c.requires.alone c.requires.plain none has.1)

pub returns-clause-asked : goal.returns-clause-asked
returns-clause-asked c =
    let found = found_of c.args.given.now in
    let kind = c.in-Some-split_place.place.kind in
    let rest = c.in-Some-split_place.place.rest.now in
    let options = lent_word c.in-Some-split_place.place.options in
    let counts : GivenCounts = record { clients = c.in-Some-get_str.clients.now; connections = lent_word c.get_str-5.result; wait = lent_word c.get_str-6.result; idle = lent_word c.get_str-7.result; block = lent_word c.get_str-8.result } in
    let given = ServeClients c.in-Some.file.now (At kind rest options) counts in
    let has : HasCounts (rows_of found) counts = record {
      clients = got_word found (codes "clients") c.get_str-2.result c.get_str-2.ensures c.in-Some-get_str.clients c.in-Some-get_str.is;
      connections = got_so found (codes "connections") c.get_str-5.result c.get_str-5.ensures;
      wait = got_so found (codes "wait") c.get_str-6.result c.get_str-6.ensures;
      idle = got_so found (codes "idle") c.get_str-7.result c.get_str-7.ensures;
      block = got_so found (codes "block") c.get_str-8.result c.get_str-8.ensures;
    } in
    let word : c.args.word.now ≡ with_options (place_word kind rest) options = c.in-Some-split_place.ensures.0 in
    let named : first_of (codes "at") (rows_of found) ≡ Some (with_options (place_word kind rest) options) = c.requires.at ∙ ap Some word in
    let alone : all_of (codes "at") (rows_of found) ≡ Some (with_options (place_word kind rest) options ∷ []) = c.requires.alone ∙ ap (λ (w : List ℕ). Some (w ∷ [])) word in
    let plain : BarsSuperusers (with_options (place_word kind rest) options) → ⊥ = subst (λ (w : List ℕ). BarsSuperusers w → ⊥) word c.requires.plain in
    let at : HasPlaceWord (rows_of found) (At kind rest options) = (none_word found (codes "port") c.get_str-3.result c.get_str-3.ensures (search rules), none_word found (codes "socket") c.get_str-4.result c.get_str-4.ensures (search rules), named, c.in-Some-split_place.ensures.1, alone, plain) in
    let gives : GivesAs (codes "serve") (rows_of found) given = record { named = refl; words = (got_word found (codes "file") c.get_str.result c.get_str.ensures c.in-Some.file c.in-Some.is, at, has) } in
    IfOk-weaker c.many_at.result _ _ (λ o has. ordered_so (GivesAs (codes "serve") (rows_of found)) given gives o has) c.many_at.ensures.asked

pub returns-clause-refused : goal.returns-clause-refused
returns-clause-refused c =
    let found = found_of c.args.given.now in
    let kind = c.in-Some-split_place.place.kind in
    let rest = c.in-Some-split_place.place.rest.now in
    let options = lent_word c.in-Some-split_place.place.options in
    let counts : GivenCounts = record { clients = c.in-Some-get_str.clients.now; connections = lent_word c.get_str-5.result; wait = lent_word c.get_str-6.result; idle = lent_word c.get_str-7.result; block = lent_word c.get_str-8.result } in
    let given = ServeClients c.in-Some.file.now (At kind rest options) counts in
    let has : HasCounts (rows_of found) counts = record {
      clients = got_word found (codes "clients") c.get_str-2.result c.get_str-2.ensures c.in-Some-get_str.clients c.in-Some-get_str.is;
      connections = got_so found (codes "connections") c.get_str-5.result c.get_str-5.ensures;
      wait = got_so found (codes "wait") c.get_str-6.result c.get_str-6.ensures;
      idle = got_so found (codes "idle") c.get_str-7.result c.get_str-7.ensures;
      block = got_so found (codes "block") c.get_str-8.result c.get_str-8.ensures;
    } in
    let word : c.args.word.now ≡ with_options (place_word kind rest) options = c.in-Some-split_place.ensures.0 in
    let named : first_of (codes "at") (rows_of found) ≡ Some (with_options (place_word kind rest) options) = c.requires.at ∙ ap Some word in
    let alone : all_of (codes "at") (rows_of found) ≡ Some (with_options (place_word kind rest) options ∷ []) = c.requires.alone ∙ ap (λ (w : List ℕ). Some (w ∷ [])) word in
    let plain : BarsSuperusers (with_options (place_word kind rest) options) → ⊥ = subst (λ (w : List ℕ). BarsSuperusers w → ⊥) word c.requires.plain in
    let at : HasPlaceWord (rows_of found) (At kind rest options) = (none_word found (codes "port") c.get_str-3.result c.get_str-3.ensures (search rules), none_word found (codes "socket") c.get_str-4.result c.get_str-4.ensures (search rules), named, c.in-Some-split_place.ensures.1, alone, plain) in
    let gives : GivesAs (codes "serve") (rows_of found) given = record { named = refl; words = (got_word found (codes "file") c.get_str.result c.get_str.ensures c.in-Some.file c.in-Some.is, at, has) } in
    IfErr-weaker c.many_at.result _ _ (λ u unfit. unfit_so (GivesAs (codes "serve") (rows_of found)) given gives u unfit) c.many_at.ensures.refused
