use Rattle.std.proofs.Common.{[], refl}
use Rattle.page_tree.proofs.Faults.{gives_used}
use Rattle.page_tree.proofs.RemovalBelow.{root_cleared}
use Rattle.page_tree.proofs.Taking.{write_takes}
use Rattle.page_tree.proofs.removal.clear_root.Goals as goal

pub returns-clause-cleared : goal.returns-clause-cleared
returns-clause-cleared g c sound used =
    let old = g.P.Pages.state c.args.pages.now in
    let new = g.P.Pages.state c.write.new.self in
    gives_used g.P.Pages c.args.pages.now c.args.pages.now c.write.new.self c.write.result (old.array 0) _ _ (g.P.Pages.preserved_same c.args.pages.now) used (c.write.ensures.malformed sound) (c.write.ensures.cause sound)
    (λ w d f e only. (w.sound, root_cleared old new f d c.write_node.new.page e only (c.write_node.ensures [] tt refl refl) w)) (c.write.ensures.written sound used)

pub returns-clause-takes : goal.returns-clause-takes
returns-clause-takes g c =
    write_takes g.P.Pages c.args.pages.now c.write.new.self 0 c.write.result c.write.ensures.own c.write.ensures.full
