use Rattle.durability_laws.proofs.Chains.{all_back}
use Rattle.durability_laws.proofs.commands.eventless_commands_bring_nothing.Goals as goal

pub returns : goal.returns
returns g c = λ commands here next nothing leads db found. all_back commands here next nothing leads db found
