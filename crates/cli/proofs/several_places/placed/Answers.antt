use Rattle.cli.specs.CommandLine.{lent_word}
use Rattle.cli.proofs.SeveralWords.{none_placed, not_placed}
use Rattle.cli.proofs.several_places.placed.Goals as goal

pub returns-in_default : goal.returns-in_default
returns-in_default c =
    let place = c.in_ok-split_place.field-0 in
    none_placed c.args.word.now place.kind place.rest.now (lent_word place.options) c.in_ok-split_place.ensures.0 c.in_ok-split_place.ensures.1
    (λ served is fixed. not_placed place.kind place.rest.now (lent_word place.options) c.in_default.field-0 c.in_default.ensures.refused served is)
