use Rattle.cli.specs.CommandLine.{lent_word}
use Rattle.cli.specs.PlaceWords.{NoPlaceWord}
use Rattle.cli.proofs.PlaceCommas.{left_none, no_place_word}
use Rattle.cli.proofs.place_words.split_place.Goals as goal

pub returns-in_err-kind : goal.returns-in_err-kind
returns-in_err-kind c =
    left_none (NoPlaceWord c.args.word.now) _ c.from_residual.result c.from_residual.ensures
    (no_place_word c.args.word.now c.split_at_comma.result.0.now (lent_word c.split_at_comma.result.1) c.split_at_comma.ensures.whole c.split_at_comma.ensures.first c.in_err-kind.ensures)
