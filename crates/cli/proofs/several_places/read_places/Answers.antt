use Rattle.std.proofs.Common.{rules, ◌≡◌, ◌++◌, ◌∷◌, [], List, subst, sym}
use Rattle.std.proofs.lemmas.List.{take_rest}
use Rattle.cli.specs.declared.served_place.NamedPlace.{NamedPlace}
use Rattle.cli.specs.CommandLine.{ArePlacesNamed, lent_words}
use Rattle.cli.proofs.SeveralWords.{all_named, named_more, standing_more}
use Rattle.cli.proofs.several_places.read_places.Goals as goal

pub loop-rest-preserved : goal.loop-rest-preserved
loop-rest-preserved c =
    let all = lent_words c.args.words.now in
    let left = c.loop-rest.rest.now in
    let pushed : c.push.new.self.items ≡ c.loop-rest.places.items ++ c.in-Some.place ∷ [] = search rules in
    record {
      standing = standing_more all left _ c.in-len1-up.len_at_least (take_rest left 1) c.loop-rest.invariant.standing;
      named = λ ps rest.
          subst (λ (done : List NamedPlace). ArePlacesNamed all (done ++ ps)) (sym pushed)
          (named_more all left _ _ c.in-len1-up.len_at_least (take_rest left 1) c.loop-rest.places.items c.in-Some.place c.loop-rest.invariant.named c.in-Some.ensures ps rest);
    }

pub returns-clause-read : goal.returns-clause-read
returns-clause-read c = all_named (lent_words c.args.words.now) c.loop-rest.places.items c.loop-rest.rest.now c.in_default.len_below c.loop-rest.invariant.named
