use Rattle.std.proofs.Common.{None, Some, inr, sym, ap, ◌∙◌}
use Rattle.std.specs.Option.{option_copied}
use Rattle.schema_statements.proofs.Owning.{owned_is, owner_may, owner_may_not}
use Rattle.schema_statements.proofs.owners.owned_table.Goals as goal

pub returns-in_default-clause-refused : goal.returns-in_default-clause-refused
returns-in_default-clause-refused c =
    inr (owned_is c.args.catalogue.now c.args.current.now c.args.name.now None (sym c.table.ensures ∙ ap option_copied c.in_default.is))

pub returns-then-not-branch-clause-refused : goal.returns-then-not-branch-clause-refused
returns-then-not-branch-clause-refused c =
    inr (owned_is c.args.catalogue.now c.args.current.now c.args.name.now (Some c.in-Some.table.now) (sym c.table.ensures ∙ ap option_copied c.in-Some.is)
    ∙ owner_may_not c.args.catalogue.now c.args.current.now c.in-Some.table.now c.owner.result.now c.in_ok-acts_as_owner.field-0 c.owner.ensures c.in_ok-acts_as_owner.ensures c.if-not-branch.true)

pub returns-clause-allowed : goal.returns-clause-allowed
returns-clause-allowed c =
    owned_is c.args.catalogue.now c.args.current.now c.args.name.now (Some c.in-Some.table.now) (sym c.table.ensures ∙ ap option_copied c.in-Some.is)
    ∙ owner_may c.args.catalogue.now c.args.current.now c.in-Some.table.now c.owner.result.now c.in_ok-acts_as_owner.field-0 c.owner.ensures c.in_ok-acts_as_owner.ensures c.if-not-branch.false
