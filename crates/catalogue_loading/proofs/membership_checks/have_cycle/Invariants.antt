use Rattle.catalogue_loading.proofs.Cycles.{HaveNone}
use Rattle.catalogue_loading.proofs.membership_checks.have_cycle.Given as goal

abbrev pub invariant-loop-index : goal.invariant-loop-index
invariant-loop-index l = HaveNone l.memberships l.index
