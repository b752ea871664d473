use Rattle.postgres_talks.proofs.Hearing.{learnt_so}
use Rattle.postgres_talks.proofs.postgres_talk.learn_reply.Goals as goal

pub returns-clause-ok : goal.returns-clause-ok
returns-clause-ok c = learnt_so _ _ _ _ _ _ _ c.new-said.ensures c.in_ok-say_reply.ensures c.in_ok-take.ensures c.in_ok-send.ensures.ok
