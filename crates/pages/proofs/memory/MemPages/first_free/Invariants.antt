use Rattle.pages.specs.Memory.{AreUsed}
use Rattle.pages.proofs.memory.MemPages.first_free.Given as goal

abbrev pub invariant-loop-page : goal.invariant-loop-page
invariant-loop-page l = AreUsed l.self.used l.self.pages.items → AreUsed l.page l.self.pages.items
