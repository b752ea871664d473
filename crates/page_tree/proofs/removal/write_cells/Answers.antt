use Rattle.page_tree.proofs.Faults.{gives_used}
use Rattle.page_tree.proofs.Taking.{write_takes}
use Rattle.page_tree.proofs.removal.write_cells.Goals as goal

pub returns-clause-written : goal.returns-clause-written
returns-clause-written g c sound used cs d =
    gives_used g.P.Pages c.args.pages.now c.args.pages.now c.write.new.self c.write.result ((g.P.Pages.state c.args.pages.now).array c.args.page) _ _ (g.P.Pages.preserved_same c.args.pages.now) used
    (c.write.ensures.malformed sound) (c.write.ensures.cause sound)
    (λ w. (w.sound, record { bytes = c.write_node.new.page; node = c.write_node.ensures cs d.sizes d.spelled d.count_is; here = w.here; others = w.others })) (c.write.ensures.written sound used)

pub returns-clause-takes : goal.returns-clause-takes
returns-clause-takes g c =
    write_takes g.P.Pages c.args.pages.now c.write.new.self c.args.page c.write.result c.write.ensures.own c.write.ensures.full
