use Rattle.std.proofs.Common.{rules, ◌≡◌, ◌∙◌, Ok, Err, option_map, ap, sym, subst}
use Rattle.std.proofs.lemmas.Fn.{always_returns_same}
use Rattle.sql_ast.specs.declared.policy.Policy.{Policy}
use Rattle.abstract_database.specs.Lists.{Rising, name_cmp}
use Rattle.abstract_database.specs.Database.{policy_cmp}
use Rattle.abstract_database.specs.Whole.{Each}
use Rattle.catalogue.specs.declared.policy.CataloguePolicy.{CataloguePolicy}
use Rattle.catalogue.specs.Tables.{table_scope}
use Rattle.catalogue.specs.Policies.{IsBoundPolicy}
use Rattle.catalogue.proofs.Searching.{lent_at, searched_by_name, each_lent}
use Rattle.catalogue.proofs.Policies.{rise_by_name, find_by_name}
use Rattle.catalogue.proofs.table.TableDefinition.policy.Goals as goal

pub returns-in-Ok-clause-policy : goal.returns-in-Ok-clause-policy
returns-in-Ok-clause-policy c =
    let facts = c.in-Ok.ensures in
    let all = c.policies-policies.ensures in
    let xs = c.policies-policies.result.now in
    let t = c.args.self.now.definition.name in
    let own = subst (Each (λ (p : Policy). p.table ≡ t)) (sym all.policies) all.order.policies in
    let rise = rise_by_name t xs own (subst (Rising policy_cmp) (sym all.policies) all.order.policy_order) in
    let found = searched_by_name (λ (p : CataloguePolicy). p.policy.name) c.args.name.now xs rise (Ok c.in-Ok.index) facts.bound (facts.position (λ (p : CataloguePolicy). name_cmp p.policy.name c.args.name.now) (always_returns_same _ _ _ (λ a r g called. search rules))) in
    rw (← all.policies) (ap (option_map (λ (p : CataloguePolicy). p.policy)) (lent_at c.policies-policies.result.now c.in-Ok.index _ c.get.ensures.lookup.3 ∙ found) ∙ find_by_name t c.args.name.now xs own)

pub returns-in-Ok-clause-bound : goal.returns-in-Ok-clause-bound
returns-in-Ok-clause-bound c = each_lent (IsBoundPolicy (table_scope c.args.self.now.definition)) c.policies-policies.result.now c.in-Ok.index _ (lent_at c.policies-policies.result.now c.in-Ok.index _ c.get.ensures.lookup.3) c.policies-policies.ensures.bound

pub returns-in-Err-clause-policy : goal.returns-in-Err-clause-policy
returns-in-Err-clause-policy c =
    let facts = c.in-Err.ensures in
    let all = c.policies-policies.ensures in
    let xs = c.policies-policies.result.now in
    let t = c.args.self.now.definition.name in
    let own = subst (Each (λ (p : Policy). p.table ≡ t)) (sym all.policies) all.order.policies in
    let rise = rise_by_name t xs own (subst (Rising policy_cmp) (sym all.policies) all.order.policy_order) in
    let found = searched_by_name (λ (p : CataloguePolicy). p.policy.name) c.args.name.now xs rise (Err c.in-Err.field-0) facts.bound (facts.position (λ (p : CataloguePolicy). name_cmp p.policy.name c.args.name.now) (always_returns_same _ _ _ (λ a r g called. search rules))) in
    rw (← all.policies) (ap (option_map (λ (p : CataloguePolicy). p.policy)) (sym found) ∙ find_by_name t c.args.name.now xs own)
