use Rattle.store.proofs.Walking.{span_of_prefix}
use Rattle.store.proofs.cursor.prefix_is_a_span.Goals as goal

pub returns : goal.returns
returns c = span_of_prefix
