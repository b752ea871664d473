-- What `run` does at a refusal.
use Rattle.std.specs.Prelude.{ℕ, Bool, true, false, List, Option, Some, None}
use Rattle.std.specs.Borrow.{Bor}
use Rattle.sql_types.specs.declared.answer.Answer.{Answer}
use Rattle.sql_types.specs.declared.answer.Answer.TheVariants.{Refused}
use Rattle.sql_types.specs.declared.state.SqlState.TheVariants.{IoError}
use Rattle.cli.specs.declared.command.Invocation.{Invocation}
use Rattle.cli.specs.declared.command.Invocation.TheVariants as order
use Rattle.cli.specs.declared.refusals.ExplainedRun.{ExplainedRun}
use Rattle.cli.specs.declared.refusals.OnRefusal.{OnRefusal}
use Rattle.cli.specs.declared.refusals.OnRefusal.TheVariants.{GoOn, Explain, Stop}
use Rattle.cli.specs.declared.refusals.RunOver.{RunOver}
use Rattle.cli.specs.declared.refusals.RunOver.TheVariants as over

-- what the flags `--stop` and `--explain` ask for
abbrev pub at_refusal : Bool → Bool → OnRefusal
at_refusal true explain = Stop
at_refusal false true = Explain
at_refusal false false = GoOn

-- a run of a script, where its refusals are to be told of
abbrev pub explained : RunOver → Bor (List ℕ) → OnRefusal → Option ExplainedRun
explained over script GoOn = None
explained over script Explain = Some (record { over = over; script = script; stops = false })
explained over script Stop = Some (record { over = over; script = script; stops = true })

-- the run that an order asks for, where its refusals are to be told of
abbrev pub explained_run : Invocation → Option ExplainedRun
explained_run (order.Run file script on) = explained (over.File file) script on
explained_run (order.RunMemory admin script on) = explained (over.Memory admin) script on
explained_run order = None

-- a script that ends at the first refusal, or does not, ends at this answer; where the server has stopped it ends by itself
abbrev pub ends_at : Bool → Answer → Bool
ends_at stops (Refused IoError) = false
ends_at stops (Refused s) = stops
ends_at stops answer = false
