use Rattle.std.proofs.Common.{◌∙◌, [], sym}
use Rattle.std.proofs.lemmas.List.{append-nil}
use Rattle.talks_tests.proofs.Steps.{ends_none, continues, heard_bad, heard_broken}
use Rattle.talks_tests.proofs.line.MemoryClient.reject.Goals as goal

pub returns-in-Ok-clause-goes_on : goal.returns-in-Ok-clause-goes_on
returns-in-Ok-clause-goes_on g c =
    let it = c.in-Ok.ensures.ok in
    continues g.T.Talk _ _ _ _ _ _ it.0 _ _ _ (heard_bad g.T.Talk c.args.self.now.talk c.reject.new.self c.args.self.now.held.items it.0 c.requires.wants c.requires.bad it.1) it.2 (ends_none c.args.self.now.end_cause _ [] c.requires.end_cause)

pub returns-in-Err-clause-goes_on : goal.returns-in-Err-clause-goes_on
returns-in-Err-clause-goes_on g c =
    let it = c.in-Err.ensures.err in
    continues g.T.Talk _ _ _ _ _ _ [] _ _ _ (heard_broken g.T.Talk c.args.self.now.talk c.reject.new.self c.args.self.now.held.items it.0) (it.1 ∙ sym (append-nil c.args.self.now.said.items)) (ends_none c.args.self.now.end_cause _ [] c.requires.end_cause)
