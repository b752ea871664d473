use Rattle.std.proofs.Common.{◌≡◌, ◌++◌, List, length}
use Rattle.cli.specs.declared.served_place.NamedPlace.{NamedPlace}
use Rattle.cli.specs.CommandLine.{ArePlacesNamed, TheWord, lent_words}
use Rattle.cli.proofs.several_places.read_places.Given as goal

-- the words that are left end all of them, and what names them behind the places that were read names all
abbrev pub invariant-loop-rest : goal.invariant-loop-rest
invariant-loop-rest l = record {
  standing : (before : List TheWord) × (lent_words l.words ≡ before ++ lent_words l.rest);
  named : (ps : List NamedPlace) → ArePlacesNamed (lent_words l.rest) ps → ArePlacesNamed (lent_words l.words) (l.places.items ++ ps);
}

abbrev pub decreases-loop-rest : goal.decreases-loop-rest
decreases-loop-rest l = length l.rest
