use Rattle.std.proofs.Common.{sym, subst, arith}
use Rattle.cli.specs.PlaceWords.{HasNoComma}
use Rattle.cli.proofs.PlaceCommas.{no_comma_before, no_comma_at_all}
use Rattle.cli.proofs.place_options.split_at_comma.Goals as goal

pub returns-in-Some-clause-first : goal.returns-in-Some-clause-first
returns-in-Some-clause-first c =
    let cut = c.in-Some.ensures.byte (omega arith) (λ w o f. f) in
    subst HasNoComma (sym cut.0) (no_comma_before c.args.word.now)

pub returns-in-None-clause-first : goal.returns-in-None-clause-first
returns-in-None-clause-first c = no_comma_at_all c.args.word.now (c.in-None.ensures.byte (omega arith) (λ w o f. f))
