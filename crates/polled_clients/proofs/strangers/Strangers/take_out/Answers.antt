use Rattle.std.proofs.Common.{rules}
use Rattle.std.proofs.lemmas.Fn.{filter_same}
use Rattle.polled_clients.proofs.strangers.Strangers.take_out.Goals as goal

pub returns-clause-queue : goal.returns-clause-queue
returns-clause-queue c = filter_same _ _ _ (λ x b f' k. search rules) _ _ c.retain.ensures.filtered
