use Rattle.std.proofs.Common.{rules, ◌∙◌, set, sym, ap, subst, refl}
use Rattle.std.proofs.lemmas.Fn.{always_returns_same}
use Rattle.abstract_database.specs.Lists.{Rising}
use Rattle.catalogue.specs.declared.grants.Granted.{Granted}
use Rattle.catalogue.specs.Grants.{granted_cmp, joined}
use Rattle.catalogue.proofs.Granting.{granted_ordered}
use Rattle.catalogue.proofs.Placing.{inserted_by, replaced_by, put_rises}
use Rattle.catalogue.proofs.descriptor_edit.add.Goals as goal

pub returns-in-Ok-clause-entries : goal.returns-in-Ok-clause-entries
returns-in-Ok-clause-entries c =
    let facts = c.in-Ok.ensures in
    let x = c.args.entry in
    let found = facts.position (λ (y : Granted). granted_cmp y x) (always_returns_same _ _ _ (λ a r g called. search rules)) in
    let order = subst (Rising granted_cmp) (sym c.as_slice.ensures.value) c.requires.order in
    let old = c.index_mut.result.now in
    ap (λ (v : Granted). set c.args.granted.now.items c.in-Ok.index (joined v x)) c.index_mut.ensures.value
    ∙ rw (← c.as_slice.ensures.value) (replaced_by granted_cmp granted_ordered joined x c.as_slice.result.now order c.in-Ok.index facts.bound found old)

pub returns-in-Ok-clause-order : goal.returns-in-Ok-clause-order
returns-in-Ok-clause-order c =
    subst (Rising granted_cmp) (sym (returns-in-Ok-clause-entries c))
    (put_rises granted_cmp granted_ordered joined c.args.entry (λ y e z. refl) c.args.granted.now.items c.requires.order)

pub returns-in-Ok-insert-clause-entries : goal.returns-in-Ok-insert-clause-entries
returns-in-Ok-insert-clause-entries c =
    let facts = c.in-Err.ensures in
    let x = c.args.entry in
    let found = facts.position (λ (y : Granted). granted_cmp y x) (always_returns_same _ _ _ (λ a r g called. search rules)) in
    let order = subst (Rising granted_cmp) (sym c.as_slice.ensures.value) c.requires.order in
    c.in-Ok-insert.ensures.items ∙ rw (← c.as_slice.ensures.value) (inserted_by granted_cmp granted_ordered joined x c.as_slice.result.now c.in-Err.index facts.bound order found)

pub returns-in-Ok-insert-clause-order : goal.returns-in-Ok-insert-clause-order
returns-in-Ok-insert-clause-order c =
    subst (Rising granted_cmp) (sym (returns-in-Ok-insert-clause-entries c))
    (put_rises granted_cmp granted_ordered joined c.args.entry (λ y e z. refl) c.args.granted.now.items c.requires.order)
