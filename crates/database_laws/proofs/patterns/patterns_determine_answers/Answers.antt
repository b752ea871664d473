use Rattle.database_laws.proofs.PatternLemmas.{patterns_determine}
use Rattle.database_laws.proofs.DeliveryLemmas.{delivered_determine}
use Rattle.database_laws.proofs.patterns.patterns_determine_answers.Goals as goal

pub returns-clause-acts : goal.returns-clause-acts
returns-clause-acts c = patterns_determine

pub returns-clause-delivered : goal.returns-clause-delivered
returns-clause-delivered c = delivered_determine
