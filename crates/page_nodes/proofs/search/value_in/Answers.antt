use Rattle.std.proofs.Common.{sym, subst, Option}
use Rattle.page_nodes.specs.declared.cell.CellView.{CellView}
use Rattle.page_nodes.specs.Map.{first_at}
use Rattle.page_nodes.specs.Search.{IsLent}
use Rattle.page_nodes.proofs.Scan.{value_none, value_past, value_here}
use Rattle.page_nodes.proofs.search.value_in.Goals as goal

pub returns-in_default : goal.returns-in_default
returns-in_default c first cells node =
    let none = subst (λ (f : Option CellView). IsLent (first_at c.args.key.now cells) f) c.in_default.is (c.in_ok-found.ensures first cells node) in
    sym (value_none c.args.key.now cells none)

pub returns-then-is_less : goal.returns-then-is_less
returns-then-is_less c first cells node =
    let some = subst (λ (f : Option CellView). IsLent (first_at c.args.key.now cells) f) c.in-Some.is (c.in_ok-found.ensures first cells node) in
    sym (value_past c.args.key.now cells c.in-Some.entry some c.if-is_less.ensures)

pub returns : goal.returns
returns c first cells node =
    let some = subst (λ (f : Option CellView). IsLent (first_at c.args.key.now cells) f) c.in-Some.is (c.in_ok-found.ensures first cells node) in
    value_here c.args.key.now cells c.in-Some.entry some c.if-is_less.ensures
