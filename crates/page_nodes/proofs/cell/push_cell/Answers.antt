use Rattle.std.proofs.Common.{◌≡◌, ℕ, ◌++◌, List, length, append_assoc}
use Rattle.page_nodes.specs.declared.cell.NodeKind.{NodeKind}
use Rattle.page_nodes.specs.declared.cell.NodeKind.TheVariants.{Leaf, Inner}
use Rattle.page_nodes.specs.Node.{two_bytes, cell_bytes}
use Rattle.page_nodes.proofs.cell.push_cell.Goals as goal

leaf_pushed : (kind : NodeKind) (out a b c d key value : List ℕ) → a ≡ out ++ two_bytes (length key) → b ≡ a ++ two_bytes (length value) → c ≡ b ++ key → d ≡ c ++ value → kind ≡ Leaf → d ≡ out ++ cell_bytes kind (key, value)
unfolding cell_bytes
leaf_pushed kind out a b c d key value e1 e2 e3 e4 is = rw (e4, e3, e2, e1, is) (simp append_assoc)

inner_pushed : (kind : NodeKind) (out a b c key child : List ℕ) → a ≡ out ++ two_bytes (length key) → b ≡ a ++ child → c ≡ b ++ key → kind ≡ Inner → c ≡ out ++ cell_bytes kind (key, child)
unfolding cell_bytes
inner_pushed kind out a b c key child e1 e2 e3 is = rw (e3, e2, e1, is) (simp append_assoc)

pub returns-in_ok-extend_from_slice-in-Leaf-2 : goal.returns-in_ok-extend_from_slice-in-Leaf-2
returns-in_ok-extend_from_slice-in-Leaf-2 c =
    leaf_pushed c.args.kind c.args.out.now.items c.push_two.new.out.items c.push_two-in-Leaf.new.out.items c.extend_from_slice.new.self.items c.extend_from_slice-in-Leaf.new.self.items
    c.args.key.now c.args.payload.now
    c.in_ok-push_two.ensures c.in_ok-push_two-in-Leaf.ensures c.in_ok-extend_from_slice-in-Leaf.ensures.items c.in_ok-extend_from_slice-in-Leaf-2.ensures.items c.in-Leaf.is

pub returns-in_ok-extend_from_slice-in-Inner-2 : goal.returns-in_ok-extend_from_slice-in-Inner-2
returns-in_ok-extend_from_slice-in-Inner-2 c =
    inner_pushed c.args.kind c.args.out.now.items c.push_two.new.out.items c.extend_from_slice-in-Inner.new.self.items c.extend_from_slice-in-Inner-2.new.self.items
    c.args.key.now c.args.payload.now
    c.in_ok-push_two.ensures c.in_ok-extend_from_slice-in-Inner.ensures.items c.in_ok-extend_from_slice-in-Inner-2.ensures.items c.in-Inner.is
