use Rattle.std.proofs.Common.{[], refl}
use Rattle.talks_tests.specs.Memory.{state_of}
use Rattle.talks_tests.proofs.Two.{both_pass, stay}
use Rattle.talks_tests.proofs.clients.TwoClientsServedClients.close.Goals as goal

pub returns-then-client-eq0-clause-passed : goal.returns-then-client-eq0-clause-passed
returns-then-client-eq0-clause-passed g c =
    let first = state_of c.args.self.now.first in
    let second = state_of c.args.self.now.second in
    both_pass g.T.Talk first second (state_of c.close.new.self) second (λ e. []) c.close.ensures.passed (stay g.T.Talk g.met.T.Talk.front_more g.met.T.Talk.bad_more second) (λ e other another. refl)

pub returns-else-client-eq0-clause-passed : goal.returns-else-client-eq0-clause-passed
returns-else-client-eq0-clause-passed g c =
    let first = state_of c.args.self.now.first in
    let second = state_of c.args.self.now.second in
    both_pass g.T.Talk first second first (state_of c.close-else-client-eq0.new.self) (λ e. []) (stay g.T.Talk g.met.T.Talk.front_more g.met.T.Talk.bad_more first) c.close-else-client-eq0.ensures.passed (λ e other another. refl)
