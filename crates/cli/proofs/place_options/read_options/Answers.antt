use Rattle.std.proofs.Common.{◌∙◌, ap, None, Some}
use Rattle.cli.specs.CommandLine.{lent_word}
use Rattle.cli.specs.PlaceWords.{with_options}
use Rattle.cli.proofs.PlaceCommas.{says_so}
use Rattle.cli.proofs.place_options.read_options.Goals as goal

pub returns-in-None : goal.returns-in-None
returns-in-None c =
    let first = c.split_at_comma.result.0.now in
    says_so c.args.kind c.args.words.now first None (c.split_at_comma.ensures.whole ∙ ap (λ o. with_options first (lent_word o)) c.in-None.is) c.split_at_comma.ensures.first c.one_option.result c.one_option.ensures

pub returns-in-Some : goal.returns-in-Some
returns-in-Some c =
    let first = c.split_at_comma.result.0.now in
    says_so c.args.kind c.args.words.now first (Some c.in-Some.rest.now) (c.split_at_comma.ensures.whole ∙ ap (λ o. with_options first (lent_word o)) c.in-Some.is) c.split_at_comma.ensures.first c.more_options.result c.more_options.ensures
