use Rattle.std.proofs.Common.{◌≡◌, sym, ◌++◌, [], ◌∷◌}
use Rattle.reachability.proofs.Queues.{queue_added}
use Rattle.reachability.proofs.found.Visited.add.Goals as goal

pub returns-clause-queue : goal.returns-clause-queue
returns-clause-queue c is =
    let queue : c.push.new.self.items ≡ c.args.self.now.queue.items ++ c.args.element ∷ [] = c.in_ok-push.ensures.items in
    rw queue (queue_added c.args.self.now.marks.items c.args.self.now.queue.items c.args.element c.requires (sym (rw c.if-index.false at c.index.ensures)) is)
