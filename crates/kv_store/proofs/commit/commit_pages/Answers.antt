use Rattle.kv_store.proofs.SameKind.{kind_committed}
use Rattle.kv_store.proofs.commit.commit_pages.Goals as goal

pub returns-in-IfChanged-clause-kind : goal.returns-in-IfChanged-clause-kind
returns-in-IfChanged-clause-kind g c = kind_committed c.args.format c.commit.result c.args.pages.now c.commit.new.self c.commit.ensures.outcome

pub returns-in-Always-clause-kind : goal.returns-in-Always-clause-kind
returns-in-Always-clause-kind g c = kind_committed c.args.format c.commit_anew.result c.args.pages.now c.commit_anew.new.self c.commit_anew.ensures.outcome
