use Rattle.std.proofs.Common.{◌≡◌, sym, ◌∙◌}
use Rattle.page_nodes.proofs.offsets.IndexedPage.index.Goals as goal

pub invariant_of-self : goal.invariant_of-self
invariant_of-self c =
    let put = c.find_offsets-self.ensures in
    record {
      most = put.most;
      inside = put.inside;
      are_offsets = λ kind first cells node.
          let same : kind ≡ c.in-Some.kind = let is = sym (c.kind_of.ensures.spelled kind first cells node) ∙ c.in-Some.is in cc in
          rw same (put.found first cells (rw same at node));
    }
