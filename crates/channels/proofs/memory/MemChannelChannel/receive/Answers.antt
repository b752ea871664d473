use Rattle.std.proofs.Common.{◌∙◌, ℕ, List, take, drop, ap}
use Rattle.channels.proofs.Going.{came}
use Rattle.channels.proofs.memory.MemChannelChannel.receive.Goals as goal

pub returns-clause-bytes : goal.returns-clause-bytes
returns-clause-bytes c =
    let self = c.args.self.now in
    let count = c.min-count.result in
    came self.input.items self.read count c.copy_front.new.to
    (c.copy_front.ensures.copied ∙ ap (λ (l : List ℕ). take count l) (c.behind-rest.ensures ∙ ap (λ (l : List ℕ). drop self.read l) c.deref.ensures.value))
