use Rattle.std.proofs.Common.{◌++◌}
use Rattle.std.proofs.lemmas.List.Elements.{All-more}
use Rattle.sql_parser.specs.Places.{IsSpelled, rest_of}
use Rattle.sql_parser.proofs.Loops.{all_done}
use Rattle.sql_parser.proofs.beginnings.goes_on.Goals as goal

pub loop-words-preserved : goal.loop-words-preserved
loop-words-preserved c = All-more (λ w. IsSpelled (c.args.text.now ++ rest_of c.args.opened (w.0.now, w.1.now)) → ⊥) c.args.completions.now c.loop-words.words-index _ c.loop-words-test.true c.loop-words.invariant (c.in_ok-completes.ensures.no c.if-branch.false)

pub returns-clause-no : goal.returns-clause-no
returns-clause-no c = λ _. all_done (λ w. IsSpelled (c.args.text.now ++ rest_of c.args.opened (w.0.now, w.1.now)) → ⊥) c.args.completions.now c.loop-words.words-index c.loop-words-test.false c.loop-words.invariant
