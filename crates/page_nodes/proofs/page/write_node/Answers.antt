use Rattle.page_nodes.proofs.Written.{written}
use Rattle.page_nodes.proofs.page.write_node.Goals as goal

pub returns : goal.returns
returns c cs sizes is count =
    written c.args.kind c.args.count c.tag.result c.args.first.now c.args.cells.now c.args.page.now c.write_u16.new.buf c.copy_from_slice.new.self c.copy_from_slice-2.new.self c.fill.new.self cs
    c.told-page c.tag.ensures c.write_u16.ensures c.copy_from_slice.ensures.after c.copy_from_slice-2.ensures.after (c.fill.ensures.after (λ y e. e))
    c.requires.first_size c.requires.fits sizes is count
