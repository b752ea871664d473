use Rattle.entry_differences.proofs.DifferenceLemmas.{lead_to, part_leads_to}
use Rattle.entry_differences.proofs.differences.differences_lead_to_records.Goals as goal

pub returns-clause-all : goal.returns-clause-all
returns-clause-all c = lead_to

pub returns-clause-part : goal.returns-clause-part
returns-clause-part c = part_leads_to
