use Rattle.std.proofs.Common.{◌≡◌, ℕ, List, sym, ap, ◌∙◌}
use Rattle.page_nodes.specs.Map.{first_at}
use Rattle.page_tree.specs.Search.{first_after}
use Rattle.page_tree.proofs.Faults.{gives_as}
use Rattle.page_tree.proofs.Scans.{found_as, after_is}
use Rattle.page_tree.proofs.After.{up, down}
use Rattle.page_tree.proofs.cursor.next.Goals as goal

pub returns-in-Ok-clause-found : goal.returns-in-Ok-clause-found
returns-in-Ok-clause-found g c sound map represents =
    let key = c.args.cursor.now.key.items in
    let same : first_after key map ≡ first_at c.as_slice.result.now map =
    after_is key (λ b. up key b) (λ b. down key b) map ∙ ap (λ (k : List ℕ). first_at k map) (sym (c.as_slice.ensures.value ∙ c.in-Ok.ensures)) in
    gives_as g.P.Pages c.args.pages.now c.first_from.new.pages c.first_from.result _ _ (λ found is. found_as _ _ found _ _ same is) (c.first_from.ensures.found sound map represents)
