use Rattle.postgres_talks.proofs.Hearing.{rejected_so}
use Rattle.postgres_talks.proofs.postgres_talk.reject_bytes.Goals as goal

pub returns-clause-ok : goal.returns-clause-ok
returns-clause-ok c = rejected_so _ _ _ _ _ _ c.new-said.ensures c.in_ok-put_fatal.ensures c.end.ensures c.in_ok-send.ensures.ok
