use Rattle.std.proofs.Common.{◌≡◌, ℕ, List, refl}
use Rattle.std.proofs.lemmas.Result.{on_ok_weaker}
use Rattle.sql_types.specs.declared.answer.Answer.{Answer}
use Rattle.sql_types.specs.declared.answer.Answer.TheVariants as answer
use Rattle.sql_types.specs.declared.state.SqlState.{SqlState}
use Rattle.postgres_talks.specs.Moments.{greeting, said_opened}
use Rattle.postgres_talks.specs.Sayings.{Puts}
use Rattle.postgres_talks.proofs.telling.say_opened.Goals as goal

greeted : (process : ℕ) (a : Answer) (old new : List ℕ) → ((s : SqlState) → a ≡ answer.Refused s → ⊥) → Puts (greeting process) old new → Puts (said_opened process a) old new
greeted process (answer.Refused s) old new other puts = absurd (other s refl)
greeted process (answer.Rows rows) old new other puts = puts
greeted process (answer.Done t n w) old new other puts = puts

pub returns-in_default : goal.returns-in_default
returns-in_default c = on_ok_weaker c.greet.result (greeted c.args.process c.args.answer.now _ _ c.in_default.not-Refused) c.greet.ensures
