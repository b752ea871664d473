use Rattle.std.proofs.Common.{rules, ◌∙◌, sym, subst, Ok, Err}
use Rattle.std.proofs.lemmas.Fn.{always_returns_same}
use Rattle.abstract_database.specs.Lists.{Rising}
use Rattle.catalogue.specs.Grants.{cmp_with, granted_cmp}
use Rattle.catalogue.proofs.Searching.{lent_at}
use Rattle.catalogue.proofs.Granting.{searched_entry}
use Rattle.catalogue.proofs.grants.GrantIndex.find.Goals as goal

pub returns-in-Ok-clause-found : goal.returns-in-Ok-clause-found
returns-in-Ok-clause-found c =
    let facts = c.in-Ok.ensures in
    let rise = subst (Rising granted_cmp) (sym c.as_slice-granted.ensures) c.self.invariant in
    let found = searched_entry c.args.grantee.now c.args.action c.as_slice-granted.result.now rise (Ok c.in-Ok.index) facts.bound (facts.position (cmp_with c.args.grantee.now c.args.action) (always_returns_same _ _ _ (λ a r g called. search rules))) in
    rw (← c.self.view_is, ← c.as_slice-granted.ensures) (lent_at c.as_slice-granted.result.now c.in-Ok.index _ c.get.ensures.lookup.3 ∙ found)

pub returns-in-Err-clause-found : goal.returns-in-Err-clause-found
returns-in-Err-clause-found c =
    let facts = c.in-Err.ensures in
    let rise = subst (Rising granted_cmp) (sym c.as_slice-granted.ensures) c.self.invariant in
    let found = searched_entry c.args.grantee.now c.args.action c.as_slice-granted.result.now rise (Err c.in-Err.field-0) facts.bound (facts.position (cmp_with c.args.grantee.now c.args.action) (always_returns_same _ _ _ (λ a r g called. search rules))) in
    rw (← c.self.view_is, ← c.as_slice-granted.ensures) (sym found)
