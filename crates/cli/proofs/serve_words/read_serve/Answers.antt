use Rattle.std.proofs.Common.{rules, ◌≡◌, ◌∙◌, ◌-◌, [], ap, codes, drop, length, refl, sym, subst, take, Some}
use Rattle.std.specs.Prelude.{IsTrue}
use Rattle.std.proofs.lemmas.List.{take_rest}
use Rattle.clap.specs.Words.{found_of, rows_of}
use Rattle.cli.specs.CommandLine.{lent_words}
use Rattle.cli.proofs.GivenWords.{empty_given, first_given, got_no_words, got_words, none_given}
use Rattle.cli.proofs.SeveralWords.{alone_words, barred_words, more_words, no_words}
use Rattle.cli.proofs.serve_words.read_serve.Goals as goal
use Rattle.cli.proofs.serve_words.read_serve.Goals.{else-is_empty-via-then-is_empty+else-not-admits_no_superuser, else-is_empty-via-else-is_empty}

pub read_there-requires : goal.read_there-requires
read_there-requires c =
    let found = found_of c.args.given.now in
    none_given (codes "at") (rows_of found) (got_no_words found (codes "at") c.get_strs.result c.get_strs.ensures (search rules))

pub read_there-requires-in_default-places : goal.read_there-requires-in_default-places
read_there-requires-in_default-places c =
    let found = found_of c.args.given.now in
    empty_given (codes "at") (rows_of found) (got_words found (codes "at") c.get_strs.result c.get_strs.ensures c.in-Some.places c.in-Some.is ∙ ap Some (no_words c.in-Some.places.now c.in_default-places.len_below))

pub read_at-requires-clause-at : goal.read_at-requires-clause-at
read_at-requires-clause-at c =
    let found = found_of c.args.given.now in
    let places = c.in-Some.places.now in
    let none : length (take (length places - 1) (drop 1 places)) ≡ 0 = search rules in
    first_given (codes "at") (rows_of found) _ []
    (got_words found (codes "at") c.get_strs.result c.get_strs.ensures c.in-Some.places c.in-Some.is ∙ ap Some (alone_words places _ _ c.in-len1-up.len_at_least (take_rest places 1) none))

pub read_at-requires-clause-alone : goal.read_at-requires-clause-alone
read_at-requires-clause-alone c =
    let found = found_of c.args.given.now in
    let places = c.in-Some.places.now in
    let none : length (take (length places - 1) (drop 1 places)) ≡ 0 = search rules in
    got_words found (codes "at") c.get_strs.result c.get_strs.ensures c.in-Some.places c.in-Some.is ∙ ap Some (alone_words places _ _ c.in-len1-up.len_at_least (take_rest places 1) none)

pub read_each_at-requires-clause-given : goal.read_each_at-requires-clause-given
read_each_at-requires-clause-given c = got_words (found_of c.args.given.now) (codes "at") c.get_strs.result c.get_strs.ensures c.in-Some.places c.in-Some.is

pub read_each_at-requires-clause-several : goal.read_each_at-requires-clause-several
read_each_at-requires-clause-several c =
    let places = c.in-Some.places.now in
    elim c.else-is_empty.branch [
      | else-is_empty-via-then-is_empty+else-not-admits_no_superuser w ↦
          let none : length (take (length places - 1) (drop 1 places)) ≡ 0 = search rules in
          barred_words places _ _ c.in-len1-up.len_at_least (take_rest places 1) none (w.admits_no_superuser.ensures.0 (subst IsTrue (sym w.if-not-admits_no_superuser.false) refl))
      | else-is_empty-via-else-is_empty w ↦ more_words places _ (take_rest places 1) (search rules)
    ]
