use Rattle.std.proofs.Common.{◌≡◌, ℕ, length, ap, ◌∙◌}
use Rattle.sql_ast.specs.Layout.{Layout}
use Rattle.catalogue_loading.proofs.Granted.{not_granted_at, granted_at}
use Rattle.catalogue_loading.proofs.privilege_checks.has_granted.Goals as goal

many : {a b : Layout} {n : ℕ} → a ≡ b → n ≡ length a.columns → n ≡ length b.columns
many p q = q ∙ ap (λ (l : Layout). length l.columns) p

pub returns-then-not-are_granted : goal.returns-then-not-are_granted
returns-then-not-are_granted c =
    not_granted_at c.args.catalogue.now.roles c.args.table.now c.descriptors-descriptors.ensures.order.descriptors
    c.owner-owner.result.now c.len-count.result c.descriptors-descriptors.result.now c.owner-owner.ensures (many c.columns.ensures c.len-count.ensures)
    c.descriptors-descriptors.ensures.descriptors c.if-not-are_granted.ensures

pub returns : goal.returns
returns c =
    granted_at c.args.catalogue.now.roles c.args.table.now c.descriptors-descriptors.ensures.order.descriptors
    c.owner-owner.result.now c.len-count.result c.descriptors-descriptors.result.now c.owner-owner.ensures (many c.columns.ensures c.len-count.ensures)
    c.descriptors-descriptors.ensures.descriptors c.if-not-are_granted.ensures c.has_all_owners.result c.has_all_owners.ensures
