use Rattle.std.proofs.Common.{◌≡◌, ◌<◌, ◌&&◌, ◌||◌, ℕ, not, false, get_or}
use Rattle.grant_graph.proofs.revoking.loses.Given as goal

abbrev pub invariant-loop-index : goal.invariant-loop-index
invariant-loop-index l = (i : ℕ) → i < l.index → (not (get_or l.reached i false) && (l.grant_option_for || not (get_or l.named i false))) ≡ false
