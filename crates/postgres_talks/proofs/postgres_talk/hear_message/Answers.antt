use Rattle.postgres_talks.proofs.Hearing.{heard_so}
use Rattle.postgres_talks.proofs.postgres_talk.hear_message.Goals as goal

pub returns-clause-ok : goal.returns-clause-ok
returns-clause-ok c = heard_so _ _ _ _ _ _ _ _ _ _ c.in_ok-request_of.ensures c.heeded-asked.ensures c.fault_of-fault.ensures c.new-said.ensures c.in_ok-say_request.ensures c.in_ok-take_request.ensures c.in_ok-send.ensures.ok
