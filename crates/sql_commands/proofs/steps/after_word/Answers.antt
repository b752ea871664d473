use Rattle.std.proofs.lemmas.Bool.{iff_false}
use Rattle.sql_commands.proofs.Stepwise.{clause_determined, found_here, lost_here, left_out, after_there, after_never}
use Rattle.sql_commands.proofs.steps.after_word.Goals as goal

pub returns-then-not-has : goal.returns-then-not-has
returns-then-not-has g c = found_here c.in_ok-values.was (left_out (iff_false c.has.ensures.value c.if-not-has.true))

pub returns-in_err-value : goal.returns-in_err-value
returns-in_err-value g c = lost_here c.in_ok-values.was (after_never (clause_determined {A = g.row.P-Value.Denot} c.args.word g.P.Readable.phrase g.met.P.Readable.determined) (c.has.ensures.value.0 c.if-not-has.false) c.in_err-value.ensures) c.from_residual-in_err-value.ensures.1

pub returns : goal.returns
returns g c = found_here c.in_ok-values.was (after_there (clause_determined {A = g.row.P-Value.Denot} c.args.word g.P.Readable.phrase g.met.P.Readable.determined) (c.has.ensures.value.0 c.if-not-has.false) c.in_ok-value.ensures)
