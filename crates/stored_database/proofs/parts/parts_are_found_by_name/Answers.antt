use Rattle.stored_database.proofs.TableParts.{descriptors_found, policies_found}
use Rattle.stored_database.proofs.parts.parts_are_found_by_name.Goals as goal

pub returns : goal.returns
returns c = record { descriptors = descriptors_found; policies = policies_found }
