use Rattle.std.proofs.Common.{◌≡◌, ◌∙◌, sym, ap, List, Bool, length, replicate, false, rules}
use Rattle.std.specs.List.{list_all}
use Rattle.abstract_database.specs.Privileges.{is_supported}
use Rattle.abstract_database.proofs.ChainLemmas.{found_support, support_found}
use Rattle.grant_graph.specs.Supports.{itself, MarkSupported}
use Rattle.grant_graph.proofs.Whole.{marks_are, all_holds, all_found}
use Rattle.grant_graph.proofs.supports.all_supported.Goals as goal

pub returns-clause-test : goal.returns-clause-test
returns-clause-test c =
    let named : c.in_ok-named.named.items ≡ replicate (length c.args.descriptors.now) false = search rules in
    let are : MarkSupported c.in_ok-named.named.items c.args.descriptors.now c.in_ok-marks.marks.items = rw c.as_slice.ensures.value at c.in_ok-marks.ensures in
    c.are_all.ensures ∙ ap (λ (l : List Bool). list_all itself l) c.as_slice-2.ensures.value ∙ marks_are c.args.descriptors.now c.in_ok-named.named.items c.in_ok-marks.marks.items named are

pub returns-clause-chains : goal.returns-clause-chains
returns-clause-chains c =
    let named : c.in_ok-named.named.items ≡ replicate (length c.args.descriptors.now) false = search rules in
    let are : MarkSupported c.in_ok-named.named.items c.args.descriptors.now c.in_ok-marks.marks.items = rw c.as_slice.ensures.value at c.in_ok-marks.ensures in
    let test : c.are_all.result ≡ list_all (is_supported c.args.descriptors.now) c.args.descriptors.now =
    c.are_all.ensures ∙ ap (λ (l : List Bool). list_all itself l) c.as_slice-2.ensures.value ∙ marks_are c.args.descriptors.now c.in_ok-named.named.items c.in_ok-marks.marks.items named are in (
      λ e d h. found_support c.args.descriptors.now d h (all_found (is_supported c.args.descriptors.now) c.args.descriptors.now (sym test ∙ e) d h),
      λ are_so. test ∙ all_holds (is_supported c.args.descriptors.now) c.args.descriptors.now (λ d h. support_found c.args.descriptors.now d (are_so d h)),
    )
