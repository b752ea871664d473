use Rattle.privilege_laws.proofs.ShownTold.{from_reached, from_apparent, machines_reached, machines_alike}
use Rattle.privilege_laws.proofs.tables.privileges_and_policies_hide.Goals as goal

pub returns-clause-reached : goal.returns-clause-reached
returns-clause-reached c = from_reached

pub returns-clause-apparent : goal.returns-clause-apparent
returns-clause-apparent c = from_apparent

pub returns-clause-reached_machines : goal.returns-clause-reached_machines
returns-clause-reached_machines c = machines_reached

pub returns-clause-alike_machines : goal.returns-clause-alike_machines
returns-clause-alike_machines c = machines_alike
