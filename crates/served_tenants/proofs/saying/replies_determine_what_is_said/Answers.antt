use Rattle.served_tenants.proofs.HeardAlike.{said_so, all_said, wanted_so}
use Rattle.served_tenants.proofs.saying.replies_determine_what_is_said.Goals as goal

pub returns-clause-so_far : goal.returns-clause-so_far
returns-clause-so_far g c = said_so _ g.T.Talk g.A.Likeness.Alike g.met.T.Talk.front_more g.met.T.Talk.bad_more

pub returns-clause-at_the_end : goal.returns-clause-at_the_end
returns-clause-at_the_end g c = all_said _ g.T.Talk g.A.Likeness.Alike

pub returns-clause-wanted : goal.returns-clause-wanted
returns-clause-wanted g c = wanted_so _ g.T.Talk g.A.Likeness.Alike g.met.T.Talk.front_more g.met.T.Talk.bad_more
