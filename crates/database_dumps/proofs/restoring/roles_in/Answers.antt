use Rattle.std.proofs.Common.{Err, sym, subst}
use Rattle.database_dumps.specs.Restoring.{FindsRoles, IsReadCause}
use Rattle.database_dumps.specs.declared.fault.RestoreFault.{RestoreFault}
use Rattle.database_dumps.proofs.Restored.{reading_cause, reading_refused, roles_found}
use Rattle.database_dumps.proofs.restoring.roles_in.Goals as goal

pub returns-in-Ok-clause-found : goal.returns-in-Ok-clause-found
returns-in-Ok-clause-found g c = λ sound.
    roles_found (g.S.Map.state c.args.store.now).map c.in-Ok.catalogue c.count_roles.result (c.in-Ok.ensures.found sound) c.count_roles.ensures.superusers c.count_roles.ensures.logins

pub returns-in-Err-clause-found : goal.returns-in-Err-clause-found
returns-in-Err-clause-found g c = λ sound.
    let records = (g.S.Map.state c.args.store.now).map in
    subst (λ (f : RestoreFault). FindsRoles (Err f) records) (sym c.fault_of_records.ensures) (reading_refused c.in-Err.fault records (c.in-Err.ensures.found sound))

pub returns-in-Err-clause-cause : goal.returns-in-Err-clause-cause
returns-in-Err-clause-cause g c =
    let old = g.S.Map.state c.args.store.now in
    let new = g.S.Map.state c.read_under.new.map in
    subst (λ (f : RestoreFault). IsReadCause f old new) (sym c.fault_of_records.ensures) (reading_cause c.in-Err.fault old new c.in-Err.ensures.read.cause)
