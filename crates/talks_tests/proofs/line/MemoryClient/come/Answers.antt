use Rattle.std.proofs.Common.{None, refl}
use Rattle.talks_tests.specs.declared.line.Stage.TheVariants as stage
use Rattle.talks_tests.proofs.Steps.{comes}
use Rattle.talks_tests.proofs.line.MemoryClient.come.Goals as goal

pub returns-clause-passed : goal.returns-clause-passed
returns-clause-passed g c =
    comes g.T.Talk c.args.self.now (record c.args.self.now { talk = c.begin.new.self; said = c.clear.new.self; end_cause = None; stage = stage.There }) c.requires refl c.begin.ensures refl refl c.clear.ensures.items
