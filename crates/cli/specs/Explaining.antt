-- A sink of a script's answers that also tells of each refusal.
use Rattle.std.specs.Prelude.{◌≡◌, ◌+◌, ◌-◌, ◌==◌, ◌||◌, ◌⊎◌, ℕ, suc, Bool, true, false, List, [], ◌∷◌, length, drop, codes, nat_eq, if◌then◌else◌, Option, Some, None}
use Rattle.std.specs.Borrow.{Bor}
use Rattle.std.specs.List.{starts_with, slice_get}
use Rattle.std.specs.Option.{option_map}
use Rattle.std.specs.Io.KnownBytes.{Appends}
use Rattle.sql_types.specs.declared.answer.Answer.{Answer}
use Rattle.store.specs.Store.{StoreState}
use Rattle.diagnostics.specs.Events.{IsEventTold, TellsOf}
use Rattle.wire.specs.declared.sink.Sink.{Ghosts as SinkGhosts}
use Rattle.wire.specs.ScriptLine.{Spells, asks}
use Rattle.wire.specs.ScriptRun.{Known}
use Rattle.wire.specs.SessionNames.{texts_of}
use Rattle.cli.specs.declared.explainer.Explainer.{Explainer}
use Rattle.cli.specs.Refusals.{ends_at}

-- ---- the line of an event

-- an empty line, or a comment
abbrev pub is_skipped : List ℕ → Bool
is_skipped line = (length line == 0) || starts_with nat_eq line (codes "#")

-- how many lines there are up to the first that requests an event, and with it
abbrev pub through_event : List (List ℕ) → ℕ
through_event [] = 0
through_event (line ∷ lines) = (if is_skipped line then suc (through_event lines) else 1)

abbrev pub line_or_none : Option (List ℕ) → List ℕ
line_or_none None = []
line_or_none (Some line) = line

-- the line with this number, counted from 1
abbrev pub line_at : ℕ → List (List ℕ) → List ℕ
line_at number lines = (if number == 0 then [] else line_or_none (slice_get lines (number - 1)))

abbrev pub lent_text : Option (Bor (List ℕ)) → Option (List ℕ)
lent_text text = option_map (λ t. t.now) text

-- the statement that a line asks for, if it does
abbrev pub IsStatementOf : List ℕ → Option (List ℕ) → Type 0
IsStatementOf line None = (name text : List ℕ) → Spells line (asks name text) → ⊥
IsStatementOf line (Some text) = (name : List ℕ) × Spells line (asks name text)

-- ---- the sink

-- its script is the same
pub record KeepsScript {K E : Type 0} (before after : Explainer K E) : Type 0 where
  pub script : after.script ≡ before.script
  pub lines : after.lines ≡ before.lines
  pub stops : after.stops ≡ before.stops

-- and nothing more was told
pub record TellsNothing {K E : Type 0} (before after : Explainer K E) : Type 0 where
  pub keeps : KeepsScript before after
  pub err : after.err ≡ before.err
  pub read : after.read ≡ before.read
  pub told : after.told ≡ before.told

-- nothing but why it ended, and how often it failed, has changed
pub record IsSameButEnded {K E : Type 0} (before after : Explainer K E) : Type 0 where
  pub out : after.out ≡ before.out
  pub silent : TellsNothing before after

-- what there is to tell of an event with this answer, as of the line that was read last, was told
pub record TellsOfLine {K E : Type 0} (contents : E → Known) (before : Explainer K E) (answer : Answer) (after : Explainer K E) : Type 0 where
  pub statement : Option (List ℕ)
  pub is_statement : IsStatementOf (line_at after.read (texts_of after.lines.now)) statement
  pub told_first : after.told ≡ true → before.told ≡ true
  pub tells : TellsOf (IsEventTold (record { script = after.script.now; number = after.read }) statement answer) after.told (contents before.err) (contents after.err)

-- it was told, and nothing else was done
pub record SaysOf {K E : Type 0} (contents : E → Known) (before : Explainer K E) (answer : Answer) (after : Explainer K E) : Type 0 where
  pub keeps : KeepsScript before after
  pub out : after.out ≡ before.out
  pub read : after.read ≡ before.read
  pub refused : after.refused ≡ before.refused
  pub failures : after.failures ≡ before.failures
  pub tells : TellsOfLine contents before answer after

module _ {K E : Type 0} (k : SinkGhosts K) (contents : E → Known) where
  -- the answer was taken, and then what there is to tell of it was told, as of the next line that requests an event
  pub record HandsOn (before : Explainer K E) (s : StoreState) (session : ℕ) (answer : Answer) (after : Explainer K E) : Type 0 where
    pub keeps : KeepsScript before after
    pub told : k.tells before.out s session answer after.out
    pub taken : Appends (k.held before.out) (k.held after.out) (k.spelled session answer)
    pub read : after.read ≡ before.read + through_event (drop before.read (texts_of before.lines.now))
    pub tells : TellsOfLine contents before answer after

  -- and the script goes on
  pub record Explains (before : Explainer K E) (s : StoreState) (session : ℕ) (answer : Answer) (after : Explainer K E) : Type 0 where
    pub handed : HandsOn before s session answer after
    pub goes_on : ends_at before.stops answer ≡ false
    pub refused : after.refused ≡ before.refused

  -- the answer was not taken, and nothing was told of it
  pub record IsNotTaken (before : Explainer K E) (s : StoreState) (session : ℕ) (answer : Answer) (after : Explainer K E) : Type 0 where
    pub broken : k.breaks before.out s session answer after.out
    pub silent : TellsNothing before after
    pub refused : after.refused ≡ false

  -- it is the first refusal, at which the script is to end
  pub record IsFirstRefusal (before : Explainer K E) (s : StoreState) (session : ℕ) (answer : Answer) (after : Explainer K E) : Type 0 where
    pub handed : HandsOn before s session answer after
    pub ends : ends_at before.stops answer ≡ true
    pub refused : after.refused ≡ true

  -- the script ends
  abbrev pub BreaksOff : Explainer K E → StoreState → ℕ → Answer → Explainer K E → Type 0
  BreaksOff before s session answer after = IsNotTaken before s session answer after ⊎ IsFirstRefusal before s session answer after

  -- a call that tells no answer has used what takes the answers alone
  pub record Stays (before after : Explainer K E) : Type 0 where
    pub out : k.stays before.out after.out
    pub silent : TellsNothing before after
    pub refused : after.refused ≡ before.refused

  -- what takes the answers failed then, and this is why the script ended
  pub record EndsByOut (before after : Explainer K E) : Type 0 where
    pub out : k.fails before.out after.out
    pub silent : TellsNothing before after
    pub refused : after.refused ≡ false

  -- what is said of it as a sink
  abbrev pub explaining : SinkGhosts (Explainer K E)
  explaining = record {
    tells = Explains;
    breaks = BreaksOff;
    held = λ x. k.held x.out;
    spelled = k.spelled;
    failures = λ x. x.failures;
    stays = Stays;
    fails = EndsByOut;
  }
