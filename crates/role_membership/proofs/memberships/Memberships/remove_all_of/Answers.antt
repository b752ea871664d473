use Rattle.std.proofs.Common.{◌||◌, not, bytes_eq}
use Rattle.sql_ast.specs.declared.role.Membership.{Membership}
use Rattle.role_membership.proofs.Runs.{indexed_kept}
use Rattle.role_membership.proofs.memberships.Memberships.remove_all_of.Goals as goal

pub invariant_of-self : goal.invariant_of-self
invariant_of-self c = rw (c.retain_others.ensures, c.retain_others-2.ensures)
    (indexed_kept (λ (m : Membership). not (bytes_eq m.role c.args.name.now || bytes_eq m.member c.args.name.now)) _ _ c.self.invariant)
