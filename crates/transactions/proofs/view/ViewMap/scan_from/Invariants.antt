use Rattle.transactions.specs.Calls.{KeepsLists}
use Rattle.transactions.proofs.Going.{GoesOn}
use Rattle.transactions.proofs.view.ViewMap.scan_from.Given as goal

abbrev pub invariant-loop : goal.invariant-loop
invariant-loop g l = record {
  keeps : KeepsLists l.fn.self l.self;
  preserved : g.M.Map.preserved l.fn.self.map.now l.self.map.now;
  goes : GoesOn l.fn.self.lists.now l.key l.self.from.items (g.M.Map.state l.fn.self.map.now) (g.M.Map.state l.self.map.now);
}
