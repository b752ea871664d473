-- Steps that are refused for memory.
use Rattle.std.proofs.Common.{ℕ, refl}
use Rattle.sql_types.specs.declared.answer.Answer.{Answer}
use Rattle.sql_types.specs.declared.answer.Answer.TheVariants.{Refused}
use Rattle.sql_types.specs.declared.event.Event.TheVariants as event
use Rattle.sql_types.specs.declared.state.SqlState.TheVariants.{OutOfMemory}
use Rattle.talks.specs.declared.want.Want.{Want}
use Rattle.talks.specs.declared.want.Want.TheVariants as want
use Rattle.talks.specs.declared.want.Reply.TheVariants as reply
use Rattle.talks.specs.Wants.{WantsStep, FitsWant}
use Rattle.talks_tests.specs.declared.desk.Desk.{Desk}
use Rattle.talks_tests.specs.Desks.{MakesStep}

pub refuses : (c : ℕ) (w : Want) (desk : Desk) → WantsStep w → MakesStep c w (reply.Answer (Refused OutOfMemory)) desk desk
refuses c (want.Event (event.Statement n text)) desk step = ((refl, refl), refl)
refuses c (want.Event (event.Close n)) desk step = ((refl, refl), refl)
refuses c (want.Event (event.Open n login)) desk step = absurd step
refuses c (want.Open n login entry) desk step = ((refl, refl), refl)
refuses c want.Message desk step = absurd step
refuses c (want.Standing n) desk step = absurd step
refuses c (want.Description n text) desk step = absurd step
refuses c (want.Verifier table role) desk step = absurd step
refuses c (want.End late) desk step = absurd step
refuses c want.OutOfMemory desk step = absurd step

-- an answer fits each step
pub answer_fits : (w : Want) (a : Answer) → WantsStep w → FitsWant w (reply.Answer a)
answer_fits (want.Event e) a step = tt
answer_fits (want.Open n login entry) a step = tt
answer_fits want.Message a step = absurd step
answer_fits (want.Standing n) a step = absurd step
answer_fits (want.Description n text) a step = absurd step
answer_fits (want.Verifier table role) a step = absurd step
answer_fits (want.End late) a step = absurd step
answer_fits want.OutOfMemory a step = absurd step
