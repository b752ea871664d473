use Rattle.std.proofs.Common.{rules, ◌∙◌, ap, sym, subst}
use Rattle.std.specs.List.{list_any}
use Rattle.std.proofs.lemmas.Fn.{always_returns_same}
use Rattle.abstract_database.specs.Lists.{Rising, name_cmp}
use Rattle.abstract_database.specs.Database.{grantee_name}
use Rattle.catalogue.specs.declared.grants.Granted.{Granted}
use Rattle.catalogue.specs.Grants.{granted_cmp, is_entry_for}
use Rattle.catalogue.proofs.Granting.{searched_grantee}
use Rattle.catalogue.proofs.DescriptorEdits.{grantees_of}
use Rattle.catalogue.proofs.grants.GrantIndex.names.Goals as goal

pub returns : goal.returns
returns c = λ ds index.
    let g = c.args.grantee.now in
    let facts = c.binary_search_by.ensures in
    let rise = subst (Rising granted_cmp) (sym c.as_slice.ensures) c.self.invariant in
    let position = facts.position (λ (x : Granted). name_cmp (grantee_name x.grantee) g) (always_returns_same _ _ _ (λ a r f called. search rules)) in
    c.is_ok.ensures.value ∙ searched_grantee g c.as_slice.result.now rise c.binary_search_by.result facts.bound position
    ∙ ap (list_any (is_entry_for g)) (c.as_slice.ensures ∙ c.self.view_is) ∙ grantees_of ds c.args.self.now index g
