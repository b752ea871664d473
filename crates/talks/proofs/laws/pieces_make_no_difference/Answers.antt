use Rattle.talks.proofs.Passing.{heard_more, heard_on}
use Rattle.talks.proofs.laws.pieces_make_no_difference.Goals as goal

pub returns-clause-more : goal.returns-clause-more
returns-clause-more g c = λ t u bytes said rest more xs heard. heard_more g.T.Talk g.met.T.Talk.front_more g.met.T.Talk.bad_more more heard

pub returns-clause-on : goal.returns-clause-on
returns-clause-on g c = λ t u v bytes said rest piece also left xs ys heard next.
    heard_on g.T.Talk g.met.T.Talk.front_more g.met.T.Talk.bad_more (heard_more g.T.Talk g.met.T.Talk.front_more g.met.T.Talk.bad_more piece heard) next
