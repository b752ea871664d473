use Rattle.std.proofs.Common.{◌≡◌, ℕ, Some, sym, subst}
use Rattle.talks.specs.Wants.{learnt, own}
use Rattle.talks.specs.Conversations.{wanted, Passes}
use Rattle.talks_tests.specs.Memory.{any_talk, state_of}
use Rattle.talks_tests.specs.TwoClients.{states}
use Rattle.talks_tests.proofs.Two.{first_learns, second_learns, who}
use Rattle.talks_tests.proofs.clients.TwoClientsServedClients.learn.Goals as goal

pub returns-then-client-eq0-clause-passed : goal.returns-then-client-eq0-clause-passed
returns-then-client-eq0-clause-passed g c = λ w wants.
    let self = c.args.self.now in
    let new = record self { first = c.learn.new.self } in
    let x = learnt w c.args.reply in
    let here = subst (λ (n : ℕ). wanted g.T.Talk (states self n) ≡ Some w) c.if-client-eq0.true wants in
    subst (λ (n : ℕ). (e : ℕ) → Passes g.T.Talk any_talk (states self e) (own n e x) (states new e)) (sym c.if-client-eq0.true)
    (first_learns g.T.Talk g.met.T.Talk.front_more g.met.T.Talk.bad_more (state_of self.first) (state_of self.second) (state_of c.learn.new.self) x (c.learn.ensures.passed w here))

pub returns-else-client-eq0-clause-passed : goal.returns-else-client-eq0-clause-passed
returns-else-client-eq0-clause-passed g c = λ w wants.
    let self = c.args.self.now in
    let new = record self { second = c.learn-else-client-eq0.new.self } in
    let x = learnt w c.args.reply in
    let it = who g.T.Talk (state_of self.first) (state_of self.second) c.args.client w wants (λ is. c.if-client-eq0.false (sym is)) in
    let here = subst (λ (n : ℕ). wanted g.T.Talk (states self n) ≡ Some w) it wants in
    subst (λ (n : ℕ). (e : ℕ) → Passes g.T.Talk any_talk (states self e) (own n e x) (states new e)) (sym it)
    (second_learns g.T.Talk g.met.T.Talk.front_more g.met.T.Talk.bad_more (state_of self.first) (state_of self.second) (state_of c.learn-else-client-eq0.new.self) x (c.learn-else-client-eq0.ensures.passed w here))
