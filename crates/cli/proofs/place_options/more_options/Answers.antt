use Rattle.std.proofs.Common.{◌∙◌, ap, None, Some}
use Rattle.cli.specs.CommandLine.{lent_word}
use Rattle.cli.specs.PlaceWords.{with_options}
use Rattle.cli.proofs.PlaceCommas.{more_so}
use Rattle.cli.proofs.place_options.more_options.Goals as goal

pub returns-in-None : goal.returns-in-None
returns-in-None c =
    let first = c.split_at_comma.result.0.now in
    more_so c.args.kind c.args.first.now c.args.rest.now first None (c.split_at_comma.ensures.whole ∙ ap (λ o. with_options first (lent_word o)) c.in-None.is) c.split_at_comma.ensures.first c.two_options.result c.two_options.ensures

pub returns-in-Some : goal.returns-in-Some
returns-in-Some c =
    let first = c.split_at_comma.result.0.now in
    more_so c.args.kind c.args.first.now c.args.rest.now first (Some c.in-Some.third.now) (c.split_at_comma.ensures.whole ∙ ap (λ o. with_options first (lent_word o)) c.in-Some.is) c.split_at_comma.ensures.first c.three_options.result c.three_options.ensures
