use Rattle.std.proofs.Common.{take}
use Rattle.expressions.specs.Rows.{names_of}
use Rattle.key_ranges.specs.BoxCode.{role_names}
use Rattle.statement_explanations.proofs.Telling.{AreTold}
use Rattle.statement_explanations.proofs.tables.PlanExplainer.tables.Given as goal

abbrev pub invariant-loop-index : goal.invariant-loop-index
invariant-loop-index l = AreTold l.self.catalogue.now (names_of l.self.users.now) (role_names l.self.users.now) l.self.plan.now 0 (take l.index l.ranged) l.told
