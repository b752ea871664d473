use Rattle.std.proofs.Common.{None, Ok}
use Rattle.store.specs.declared.fault.Fault.{Fault}
use Rattle.entry_differences.proofs.AddLemmas.{added}
use Rattle.catalogue_changes.proofs.row_removals.push_key_removal.Goals as goal

pub returns-clause-ok : goal.returns-clause-ok
returns-clause-ok c = added {E = Fault} (Ok tt) c.args.entry.now.0 c.key-key.result.now None c.args.out.now c.remove.new.self c.pieces-in_order.ensures.ordered c.key-key.ensures c.in_ok-remove.ensures.ok
