use Rattle.std.proofs.Common.{ℕ, sym, subst, arith}
use Rattle.std.specs.Prelude.{nat_eq, slice_get}
use Rattle.indexmap.specs.IndexMap.{get}
use Rattle.polled_clients.specs.ClientStates.{HasLostItsRole}
use Rattle.polled_clients.proofs.Expelling.{none_first, none_next, none_lost, key_lent, none_lent}
use Rattle.polled_clients.proofs.losing.first_lost.Goals as goal
use Rattle.polled_clients.proofs.losing.first_lost.Goals.{in-Some+else-is_lost, in_default}

pub loop-place-init : goal.loop-place-init
loop-place-init g c =
    none_first (λ d. HasLostItsRole g.T.Talk (g.M.Machine.Has c.args.machine.now) (g.M.Machine.LacksRole c.args.machine.now) c.args.came d (get nat_eq c.args.peers.now d)) c.args.peers.now.entries

pub loop-place-preserved : goal.loop-place-preserved
loop-place-preserved g c =
    let lost : ℕ → Type 0 = λ d. HasLostItsRole g.T.Talk (g.M.Machine.Has c.args.machine.now) (g.M.Machine.LacksRole c.args.machine.now) c.args.came d (get nat_eq c.args.peers.now d) in
    none_next lost c.loop-place.place c.args.peers.now.entries c.loop-place.invariant
    (λ e found is. elim c.match-get_index.branch [
      | in-Some+else-is_lost w ↦
          let key = key_lent c.get_index.result _ (slice_get c.args.peers.now.entries c.loop-place.place) e w.in-Some.is c.get_index.ensures.entry found in
          w.is_lost.ensures.none w.if-is_lost.false (subst lost (sym key) is)
      | in_default w ↦ none_lent c.get_index.result (slice_get c.args.peers.now.entries c.loop-place.place) e w.in_default.is c.get_index.ensures.entry found
    ])

pub returns-clause-none : goal.returns-clause-none
returns-clause-none g c = λ none.
    none_lost g.T.Talk (g.M.Machine.Has c.args.machine.now) (g.M.Machine.LacksRole c.args.machine.now) c.args.came c.args.peers.now.entries c.loop-place.place (omega (arith, c.len-place-end.ensures.len)) c.loop-place.invariant
