use Rattle.login_laws.proofs.Doing.{learnt_all, made_all}
use Rattle.login_laws.proofs.Opening.{answered}
use Rattle.login_laws.proofs.laws.answers_go_to_who_opened_the_session.Goals as goal

pub returns-clause-made : goal.returns-clause-made
returns-clause-made g c = made_all g.X.EventHandler.Reads g.S.Map.state g.T.Talk g.C.ServedClients

pub returns-clause-learnt : goal.returns-clause-learnt
returns-clause-learnt g c = learnt_all g.X.EventHandler.Reads g.S.Map.state g.T.Talk g.C.ServedClients

pub returns-clause-answers : goal.returns-clause-answers
returns-clause-answers g c = answered g.X.EventHandler.Reads g.S.Map.state g.T.Talk g.C.ServedClients
