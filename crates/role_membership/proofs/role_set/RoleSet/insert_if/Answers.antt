use Rattle.std.proofs.Common.{◌||◌, ⊎_elim, inl, inr, sym, ap, ◌∙◌, bytes_eq}
use Rattle.abstract_database.specs.Lists.{TheName, has_name}
use Rattle.role_membership.proofs.Names.{into_inserted, of_inserted, has_inserted, no_double, names_of, extends_inserted}
use Rattle.role_membership.proofs.role_set.RoleSet.insert_if.Goals as goal

pub returns-in_ok-insert-clause-among : goal.returns-in_ok-insert-clause-among
returns-in_ok-insert-clause-among c = λ s.
    let keys = c.self.inside.names.keys in
    let k = c.as_str.result in
    let text = c.as_str.ensures.text in
    rw (c.in_ok-insert.ensures.keys, ← c.self.view_is) (
      λ h. ⊎_elim (λ was. inl was) (λ is. inr (c.if-condition.true, sym text ∙ is)) (of_inserted keys k s h),
      λ h. into_inserted keys k s (⊎_elim (λ was. inl was) (λ now. inr (text ∙ now.1)) h),
    )

pub returns-in_ok-insert-clause-test : goal.returns-in_ok-insert-clause-test
returns-in_ok-insert-clause-test c = λ s.
    let keys = c.self.inside.names.keys in
    rw (c.in_ok-insert.ensures.keys, ← c.self.view_is, c.if-condition.true)
    (has_inserted keys c.as_str.result s ∙ ap (λ (n : TheName). has_name s (names_of keys) || bytes_eq s n) c.as_str.ensures.text)

pub returns-in_ok-insert-clause-distinct : goal.returns-in_ok-insert-clause-distinct
returns-in_ok-insert-clause-distinct c = λ e. no_double c.insert.new.self.keys c.insert.ensures.unique

pub returns-in_ok-insert-clause-extends : goal.returns-in_ok-insert-clause-extends
returns-in_ok-insert-clause-extends c = λ i s.
    rw (c.in_ok-insert.ensures.keys, ← c.self.view_is) (extends_inserted c.self.inside.names.keys c.as_str.result i s)
