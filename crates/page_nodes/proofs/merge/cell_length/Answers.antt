use Rattle.std.proofs.Common.{Option, [], length, sym, ap, ◌∙◌}
use Rattle.std.specs.Borrow.{Bor}
use Rattle.std.specs.Prelude.{List, ℕ}
use Rattle.page_nodes.specs.Map.{edited, lent_bytes}
use Rattle.page_nodes.specs.Node.{cells_bytes}
use Rattle.page_nodes.specs.declared.cell.NodeKind.TheVariants.{Leaf}
use Rattle.page_nodes.proofs.Merging.{some_long}
use Rattle.page_nodes.proofs.merge.cell_length.Goals as goal

pub returns-in-Some-clause-bytes : goal.returns-in-Some-clause-bytes
returns-in-Some-clause-bytes c =
    sym (ap (λ (o : Option (Bor (List ℕ))). length (cells_bytes Leaf (edited c.args.key.now (lent_bytes o) []))) c.in-Some.is ∙ some_long c.args.key.now c.in-Some.value.now)
