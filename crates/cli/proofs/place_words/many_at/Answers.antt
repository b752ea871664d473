use Rattle.std.proofs.Common.{◌≡◌, refl}
use Rattle.cli.specs.CommandLine.{At, IsUnfit, ServeClients, given_counts, lent_word}
use Rattle.cli.proofs.GivenPlaces.{no_count_so, no_place_as_so}
use Rattle.cli.proofs.GivenSo.{handed_on}
use Rattle.cli.proofs.place_words.many_at.Goals as goal

pub returns-in_err-place-clause-refused : goal.returns-in_err-place-clause-refused
returns-in_err-place-clause-refused c =
    let kind = c.args.place.kind in
    let word = c.args.place.rest.now in
    let options = lent_word c.args.place.options in
    let given = ServeClients c.args.file.now (At kind word options) (given_counts c.args.counts) in
    let fault = c.in_err-place.field-0.0 in
    handed_on (IsUnfit (λ g. g ≡ given)) c.from_residual.result fault c.from_residual.ensures.1
    (no_place_as_so word c.args.file.now options (given_counts c.args.counts) kind fault c.in_err-place.ensures.refused)

pub returns-in_err-many-clause-refused : goal.returns-in_err-many-clause-refused
returns-in_err-many-clause-refused c =
    let kind = c.args.place.kind in
    let word = c.args.place.rest.now in
    let options = lent_word c.args.place.options in
    let given = ServeClients c.args.file.now (At kind word options) (given_counts c.args.counts) in
    let fault = c.in_err-many.field-0.0 in
    handed_on (IsUnfit (λ g. g ≡ given)) c.from_residual-in_err-many.result fault c.from_residual-in_err-many.ensures.1
    (no_count_so word c.args.file.now options (given_counts c.args.counts) kind fault c.in_err-many.ensures.refused)

pub returns-clause-asked : goal.returns-clause-asked
returns-clause-asked c =
    (At c.args.place.kind c.args.place.rest.now (lent_word c.args.place.options), given_counts c.args.counts, refl, c.in_ok-place.ensures.read, c.in_ok-many.ensures.read)
