use Rattle.std.proofs.Common.{rules, ◌∙◌, sym, subst, IsPermutation, List}
use Rattle.std.specs.Ordering.{is_lt}
use Rattle.std.proofs.lemmas.Fn.{always_returns_same}
use Rattle.abstract_database.specs.Lists.{Rising}
use Rattle.catalogue.specs.declared.grants.Granted.{Granted}
use Rattle.catalogue.specs.Grants.{IsIndexOf, granted_cmp}
use Rattle.catalogue.proofs.Granting.{granted_less, sorted_do_not_fall, index_rises, is_index}
use Rattle.catalogue.proofs.grants.GrantIndex.of.Goals as goal

pub invariant_of-result : goal.invariant_of-result
invariant_of-result c =
    let sorted = c.sort_by.new.self.items in
    let order = c.in_ok-sort_by.ensures.sorted (λ x y. is_lt (granted_cmp x y)) granted_less (always_returns_same _ _ _ (λ a r f called. search rules)) in
    subst (Rising granted_cmp) (sym (c.from_vec.ensures ∙ c.in_ok-granted.ensures)) (index_rises sorted (sorted_do_not_fall sorted order))

pub returns : goal.returns
returns c =
    let sorted = c.sort_by.new.self.items in
    subst (IsIndexOf c.args.descriptors.now) (sym (c.from_vec.ensures ∙ c.in_ok-granted.ensures))
    (is_index c.args.descriptors.now sorted c.in_ok-entries.ensures.named (subst (λ (xs : List Granted). IsPermutation xs sorted) c.in_ok-entries.ensures.entries c.in_ok-sort_by.ensures.permutation))
