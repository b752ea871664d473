use Rattle.std.proofs.Common.{◌∙◌, [], ◌∷◌, sym, subst}
use Rattle.std.proofs.lemmas.List.{append-nil}
use Rattle.talks.specs.Wants.{learnt, FitsWant}
use Rattle.talks.specs.declared.want.Want.{Want}
use Rattle.talks_tests.proofs.Steps.{ends_none, continues, heard_reply, heard_lost, passes_there, who_wants}
use Rattle.talks_tests.proofs.line.MemoryClient.learn.Goals as goal

pub returns-in-Ok-clause-passed : goal.returns-in-Ok-clause-passed
returns-in-Ok-clause-passed g c = λ w wants.
    let it = who_wants g.T.Talk c.args.self.now w wants in
    let first = who_wants g.T.Talk c.args.self.now c.requires.0 c.requires.1 in
    let fits = subst (λ (v : Want). FitsWant v c.args.reply) (sym first.2 ∙ it.2) c.requires.2 in
    let said = c.in-Ok.ensures.ok in
    passes_there g.T.Talk c.args.self.now (record c.args.self.now { talk = c.learn.new.self; said = c.learn.new.out }) (learnt w c.args.reply ∷ []) it.0 it.0
    (continues g.T.Talk _ _ _ _ _ _ said.0 _ _ _ (heard_reply g.T.Talk c.args.self.now.talk c.learn.new.self c.args.self.now.held.items said.0 (learnt w c.args.reply) it.2 fits said.1) said.2 (ends_none _ _ _ it.1))

pub returns-in-Err-clause-passed : goal.returns-in-Err-clause-passed
returns-in-Err-clause-passed g c = λ w wants.
    let it = who_wants g.T.Talk c.args.self.now w wants in
    let first = who_wants g.T.Talk c.args.self.now c.requires.0 c.requires.1 in
    let fits = subst (λ (v : Want). FitsWant v c.args.reply) (sym first.2 ∙ it.2) c.requires.2 in
    let lost = c.in-Err.ensures.err in
    passes_there g.T.Talk c.args.self.now (record c.args.self.now { talk = c.learn.new.self; said = c.learn.new.out }) (learnt w c.args.reply ∷ []) it.0 it.0
    (continues g.T.Talk _ _ _ _ _ _ [] _ _ _ (heard_lost g.T.Talk c.args.self.now.talk c.learn.new.self c.args.self.now.held.items (learnt w c.args.reply) it.2 fits lost.0) (lost.1 ∙ sym (append-nil c.args.self.now.said.items)) (ends_none _ _ _ it.1))
