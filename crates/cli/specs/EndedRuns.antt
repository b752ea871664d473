-- Scripts that a refusal has ended.
use Rattle.std.specs.Prelude.{◌≡◌, ◌++◌, ℕ, Bool, true, false, List, [], ◌∷◌}
use Rattle.sql_types.specs.declared.answer.Answer.{Answer}
use Rattle.store.specs.Store.{StoreState}
use Rattle.abstract_database.specs.Runs.{ReadingRelation}
use Rattle.server.specs.declared.server.Server.{Server}
use Rattle.wire.specs.declared.script_run.ScriptEnd.{ScriptEnd}
use Rattle.wire.specs.declared.script_run.ScriptEnd.TheVariants as end
use Rattle.wire.specs.declared.sink.Sink.{Ghosts as SinkGhosts}
use Rattle.wire.specs.ScriptRun.{IsScriptRun, Known}
use Rattle.cli.specs.declared.explainer.Explainer.{Explainer}
use Rattle.cli.specs.Explaining.{explaining}
use Rattle.cli.specs.Refusals.{ends_at}

-- a script goes on after each of these answers
abbrev pub GoesOnAfter : Bool → List Answer → Type 0
GoesOnAfter stops [] = Unit {0}
GoesOnAfter stops (answer ∷ answers) = (ends_at stops answer ≡ false) × GoesOnAfter stops answers

-- of these answers the last alone is one at which a script is to end
pub record EndAtRefusal (stops : Bool) (answers : List Answer) : Type 0 where
  pub first : List Answer
  pub last : Answer
  pub answers_are : answers ≡ first ++ last ∷ []
  pub goes_on : GoesOnAfter stops first
  pub ends : ends_at stops last ≡ true

-- where the sink says after a run that the script has ended at a refusal, its last answer was the first such
abbrev pub RefusalsEndRuns : (X : Type 0) {S K E : Type 0} → (S → StoreState) → SinkGhosts K → (E → Known) → ReadingRelation → Type 0
RefusalsEndRuns X {S} {K} {E} state k contents Reads =
    (old new : Server S X) (lines : List (List ℕ)) (before after : Explainer K E) (e : ScriptEnd) (run : IsScriptRun Reads state (explaining k contents) old lines before e new after)
    → before.refused ≡ false → after.refused ≡ true → (e ≡ end.Writer) × EndAtRefusal before.stops run.ran.answers
