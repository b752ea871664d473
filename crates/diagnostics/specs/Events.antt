-- What standard error is told of an event of a script, beside its answer.
use Rattle.std.specs.Prelude.{◌≡◌, ◌++◌, ℕ, Bool, true, List, [], codes, decimal, Option, Some, None, Ok, Err}
use Rattle.std.specs.Borrow.{Bor}
use Rattle.std.specs.Io.KnownBytes.{Appends}
use Rattle.std.specs.Option.{option_map}
use Rattle.sql_types.specs.declared.answer.Answer.{Answer}
use Rattle.sql_types.specs.declared.answer.Answer.TheVariants.{Refused}
use Rattle.sql_types.specs.declared.state.SqlState.{SqlState}
use Rattle.sql_types.specs.declared.state.SqlState.TheVariants.{SyntaxError}
use Rattle.sql_types.specs.State.{state_code}
use Rattle.sql_lexer.specs.Lexeme.{Lexeme}
use Rattle.sql_lexer.specs.Lexing.{Lexes}
use Rattle.expr_parser.specs.Stages.{Parses, refusal}
use Rattle.sql_parser.specs.Forms.{Means, IsStatementWithinDepth}
use Rattle.sql_parser.specs.Places.{GoesWrongAt}
use Rattle.diagnostics.specs.declared.events.EventLine.{EventLine}
use Rattle.diagnostics.specs.Aliases.{first_alias}
use Rattle.diagnostics.specs.LeftOut.{left_out}
use Rattle.diagnostics.specs.Marks.{marked}
use Rattle.diagnostics.specs.Meanings.{refusal_meaning}

-- where an event stands: the script, and the number of the line
pub record ScriptPlace : Type 0 where
  pub script : List ℕ
  pub number : ℕ

abbrev pub place_of : EventLine → ScriptPlace
place_of event = record { script = event.script.now; number = event.number }

-- its statement, if it is one
abbrev pub statement_of : EventLine → Option (List ℕ)
statement_of event = option_map (λ text. text.now) event.statement

-- a line that is told of an event
abbrev pub told_at : ScriptPlace → List ℕ → List ℕ
told_at at text = codes "guarddb: " ++ (at.script ++ (codes ": line " ++ (decimal at.number ++ (codes ": " ++ (text ++ codes "\n")))))

-- and that line, where there is something to tell
abbrev pub told_if : ScriptPlace → Option (List ℕ) → List ℕ
told_if at None = []
told_if at (Some text) = told_at at text

-- a refusal, by its code and what that means
abbrev pub refused_text : SqlState → List ℕ
refused_text s = codes "refused " ++ (state_code s ++ (codes ": " ++ refusal_meaning s))

abbrev pub left_out_text : List ℕ → List ℕ
left_out_text line = codes "left out: " ++ line

-- the tokens of a text, or none, where it has a fault
pub data HasTokens (text : List ℕ) : List Lexeme → Type 0 where
  lexed : {ts : List Lexeme} → Lexes text (Ok ts) → HasTokens text ts
  faulty : {s : SqlState} → Lexes text (Err s) → HasTokens text []

-- the text is refused for its syntax
abbrev pub HasWrongSyntax : List ℕ → Type 0
HasWrongSyntax text = Parses (Means text) IsStatementWithinDepth text (Err (refusal SyntaxError))

-- a statement that goes wrong, with a mark below the place, and what is left out by a word there
pub record ShowsPlace (at : ScriptPlace) (text : List ℕ) (told : List ℕ) : Type 0 where
  pub place : ℕ
  pub tokens : List Lexeme
  pub goes_wrong : GoesWrongAt text place
  pub reads : HasTokens text tokens
  pub is : told ≡ marked text place ++ told_if at (option_map left_out_text (left_out place tokens))

-- a statement that was refused for its syntax goes wrong somewhere, or has another number of values than there are columns
pub data IsSyntaxTold (at : ScriptPlace) (text : List ℕ) (told : List ℕ) : Type 0 where
  wrong : HasWrongSyntax text → ShowsPlace at text told → IsSyntaxTold at text told
  right : (HasWrongSyntax text → ⊥) → told ≡ [] → IsSyntaxTold at text told

-- the first word of a statement that is taken for an alias
pub record IsAliasTold (at : ScriptPlace) (text : List ℕ) (told : List ℕ) : Type 0 where
  pub tokens : List Lexeme
  pub reads : HasTokens text tokens
  pub is : told ≡ told_if at (first_alias tokens)

-- of an event that is no statement nothing is told
abbrev pub OfStatement : (List ℕ → List ℕ → Type 0) → Option (List ℕ) → List ℕ → Type 0
OfStatement IsTold None told = told ≡ []
OfStatement IsTold (Some text) told = IsTold text told

-- of a statement with wrong syntax where it goes wrong, and of any other the first word that is taken for an alias
abbrev pub IsCauseTold : ScriptPlace → Option (List ℕ) → SqlState → List ℕ → Type 0
IsCauseTold at statement SyntaxError told = OfStatement (IsSyntaxTold at) statement told
IsCauseTold at statement s told = OfStatement (IsAliasTold at) statement told

-- of a refusal also its code and what that means
pub record IsRefusalTold (at : ScriptPlace) (statement : Option (List ℕ)) (s : SqlState) (told : List ℕ) : Type 0 where
  pub cause : List ℕ
  pub is_cause : IsCauseTold at statement s cause
  pub is : told ≡ told_at at (refused_text s) ++ cause

-- what is told of an event with this answer
abbrev pub IsEventTold : ScriptPlace → Option (List ℕ) → Answer → List ℕ → Type 0
IsEventTold at statement (Refused s) told = IsRefusalTold at statement s told
IsEventTold at statement answer told = OfStatement (IsAliasTold at) statement told

-- the bytes that a writer holds, where its contract names them
abbrev pub KnownContents : Type 0
KnownContents = Option (List ℕ)

-- such a text was written, unless the writer failed or memory was refused
pub record TellsText (IsTold : List ℕ → Type 0) (before after : KnownContents) : Type 0 where
  pub text : List ℕ
  pub is : IsTold text
  pub written : Appends before after text

abbrev pub TellsOf : (List ℕ → Type 0) → Bool → KnownContents → KnownContents → Type 0
TellsOf IsTold told before after = told ≡ true → TellsText IsTold before after
