use Rattle.std.proofs.Common.{refl}
use Rattle.talks_tests.proofs.Refusing.{refuses, answer_fits}
use Rattle.talks_tests.proofs.desk.DeskMachine.refuse_for_memory.Goals as goal

pub returns : goal.returns
returns c = record { steps = refuses c.args._client c.args._want.now c.args.self.now c.requires.step; fits = answer_fits c.args._want.now _ c.requires.step; refused = refl }
