use Rattle.std.proofs.Common.{◌≡◌, true}
use Rattle.catalogue_loading.proofs.TableLemmas.{looked_up_ordered}
use Rattle.catalogue_loading.proofs.tables.read_table.Goals as goal

pub returns-then-not-are_in_order-clause-found : goal.returns-then-not-are_in_order-clause-found
returns-then-not-are_in_order-clause-found g c = λ s t held.
    let reads = c.in-Ok.ensures.read.only_reads in
    let ordered : c.are_in_order.result ≡ true = c.are_in_order.ensures.1
    (looked_up_ordered (g.M.Map.state c.args.map.now).map (g.M.Map.state c.read_descriptors.new.map).map _ (g.met.M.Map.ordered c.args.map.now s) (reads.unchanged s).map (c.in-Ok.ensures.loaded s)
    (c.in-Ok-read_policies.ensures.found (reads.history.sound s))) in
    let not_ordered = c.if-not-are_in_order.true in
    cc
