use Rattle.catalogue_loading.proofs.PrivilegeRecords.{system_only, role_grants, no_grantor}
use Rattle.catalogue_loading.proofs.descriptor_records.grantor_at.Goals as goal

pub returns-in-Some : goal.returns-in-Some
returns-in-Some c = (record { valid = tt; spelled = c.in-Some.ensures }, system_only c.args.bytes.now c.in-Some.rest.now c.in-Some.ensures)

pub returns-in-Ok : goal.returns-in-Ok
returns-in-Ok c = (
  record { valid = c.in-Ok.ensures.0.valid; spelled = c.in-Ok.ensures.0.spelled },
  role_grants c.args.bytes.now c.in-Ok.name c.in-Ok.rest.now c.in_default.ensures c.in-Ok.ensures.1,
)

pub returns-in-Err : goal.returns-in-Err
returns-in-Err c = no_grantor c.args.bytes.now c.in-Err.fault c.in_default.ensures c.in-Err.ensures
