use Rattle.std.proofs.Common.{List, sym, ap, subst}
use Rattle.page_nodes.specs.Map.{Entry, first_at}
use Rattle.page_tree.specs.Kept.{KeepsPlace}
use Rattle.page_tree.proofs.Descent.{numbered_of}
use Rattle.page_tree.proofs.Depth.{root_at}
use Rattle.page_tree.proofs.Scans.{found_as}
use Rattle.page_tree.proofs.cursor.first_from.Goals as goal

pub returns-in-Ok-clause-found : goal.returns-in-Ok-clause-found
returns-in-Ok-clause-found g c sound map represents =
    let at = root_at (g.P.Pages.state c.args.pages.now).array map c.args.key.now (numbered_of g.P.Pages c.args.pages.now sound) represents in
    found_as _ _ c.in-Ok.found _ _ (ap (λ (es : List Entry). first_at c.args.key.now es) (sym represents.entries_are)) (c.in-Ok.ensures.found sound _ at).0

pub returns-in-Ok-clause-place : goal.returns-in-Ok-clause-place
returns-in-Ok-clause-place g c sound map represents =
    let at = root_at (g.P.Pages.state c.args.pages.now).array map c.args.key.now (numbered_of g.P.Pages c.args.pages.now sound) represents in
    subst (λ (es : List Entry). KeepsPlace es c.entry_below.new.cursor) represents.entries_are (c.in-Ok.ensures.found sound _ at).1

pub returns-in-Err-clause-found : goal.returns-in-Err-clause-found
returns-in-Err-clause-found g c sound map represents =
    c.in-Err.ensures.found sound _ (root_at (g.P.Pages.state c.args.pages.now).array map c.args.key.now (numbered_of g.P.Pages c.args.pages.now sound) represents)

pub returns-in-Err-clause-place : goal.returns-in-Err-clause-place
returns-in-Err-clause-place g c sound map represents = c.reset.ensures map
