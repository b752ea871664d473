use Rattle.std.proofs.Common.{ℕ, ◌<◌}
use Rattle.std.specs.Prelude.{IsSome}
use Rattle.page_tree.specs.Check.{IsMet}
use Rattle.page_tree.proofs.check.has_met_all.Given as goal

abbrev pub invariant-loop-page : goal.invariant-loop-page
invariant-loop-page g l = (g.P.Pages.state l.pages).sound → (q : ℕ) → q < l.page → IsSome ((g.P.Pages.state l.pages).array q) → IsMet l.met q
