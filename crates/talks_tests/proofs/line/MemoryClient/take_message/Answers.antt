use Rattle.std.proofs.Common.{◌∙◌, ◌≤◌, ℕ, List, [], take, length, sym, subst}
use Rattle.std.proofs.lemmas.List.{append-nil, length-take-le}
use Rattle.talks_tests.proofs.Steps.{ends_none, continues, heard_message, heard_broken}
use Rattle.talks_tests.proofs.line.MemoryClient.take_message.Goals as goal

pub slice_bounds-hear-end : goal.slice_bounds-hear-end
slice_bounds-hear-end g c =
    let whole = g.met.T.Talk.front_more c.args.self.now.talk c.args.self.now.held.items [] c.args.size c.requires.whole in
    sym (length-take-le c.args.size c.deref.result.now (subst (λ (l : List ℕ). c.args.size ≤ length l) (sym c.deref.ensures.value) whole.0))

pub drop_front-requires : goal.drop_front-requires
drop_front-requires g c = (g.met.T.Talk.front_more c.args.self.now.talk c.args.self.now.held.items [] c.args.size c.requires.whole).0

pub returns-in-Ok-clause-goes_on : goal.returns-in-Ok-clause-goes_on
returns-in-Ok-clause-goes_on g c =
    let it = c.in-Ok.ensures.ok in
    rw (c.drop_front.ensures) (continues g.T.Talk _ _ _ _ _ _ it.0 _ _ _ (heard_message g.T.Talk c.args.self.now.talk c.hear.new.self c.args.self.now.held.items it.0 c.args.size c.requires.wants c.requires.whole (subst (λ (l : List ℕ). g.T.Talk.hears c.args.self.now.talk (take c.args.size l) it.0 c.hear.new.self) c.deref.ensures.value it.1)) it.2 (ends_none c.args.self.now.end_cause _ [] c.requires.end_cause))

pub returns-in-Err-clause-goes_on : goal.returns-in-Err-clause-goes_on
returns-in-Err-clause-goes_on g c =
    let it = c.in-Err.ensures.err in
    continues g.T.Talk _ _ _ _ _ _ [] _ _ _ (heard_broken g.T.Talk c.args.self.now.talk c.hear.new.self c.args.self.now.held.items it.0) (it.1 ∙ sym (append-nil c.args.self.now.said.items)) (ends_none c.args.self.now.end_cause _ [] c.requires.end_cause)
