use Rattle.std.proofs.Common.{refl, sym, ap}
use Rattle.std.proofs.lemmas.Bool.{eq-eqb, ne_eqb}
use Rattle.channels.specs.Memory.{went_out}
use Rattle.channels.specs.declared.memory.Gone.{Gone}
use Rattle.channels.proofs.memory.MemAttendAttendMemChannel.close.Goals as goal

pub returns-clause-closed : goal.returns-clause-closed
returns-clause-closed c = rw (eq-eqb c.args.client c.args.client refl) refl

pub returns-clause-others : goal.returns-clause-others
returns-clause-others c = λ other apart. rw (ne_eqb c.args.client other (λ same. apart (sym same))) (ap (λ (gone : Gone). went_out gone other) c.replace.ensures.value)
