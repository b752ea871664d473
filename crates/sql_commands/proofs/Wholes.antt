-- Whole statements.
use Rattle.std.proofs.Common.{◌≡◌, ℕ, ◌+◌, ◌<◌, ◌≤◌, List, length, take, get_or, refl, subst, arith}
use Rattle.std.proofs.lemmas.List.{take_all}
use Rattle.std.proofs.lemmas.List.Elements.{All-more}
use Rattle.std.specs.Prelude.{All}
use Rattle.sql_lexer.specs.Lexeme.{Lexeme}
use Rattle.sql_ast.specs.declared.statement.Statement.{Statement}
use Rattle.expr_parser.specs.declared.parse_error.ParseError.{ParseError}
use Rattle.expr_parser.specs.declared.parse_error.ParseError.TheVariants.{Syntax}
use Rattle.expr_parser.specs.Stages.{MeansNothing}
use Rattle.sql_grammar.specs.LookAhead.{IsReading, HasNoReading}
use Rattle.sql_commands.specs.declared.command.Command.{Command}
use Rattle.sql_commands.specs.declared.command.Command.TheVariants as production
use Rattle.sql_commands.specs.declared.command.TheConstants.{COMMANDS}
use Rattle.sql_commands.specs.Commands.{phrase_of}
use Rattle.sql_commands.specs.Statements.{EndsAt, SpellsAs, SpellsStatement}
use Rattle.sql_commands.proofs.Table.{place, command_ends}
use Rattle.sql_commands.proofs.OneCommand.{ends_there}

-- As one command

pub read_whole : {source : List ℕ} {ts : List Lexeme} {command : Command} {end : ℕ} {s : Statement} → IsReading (phrase_of source command) ts 0 end s → EndsAt ts end → SpellsAs source command ts s
read_whole {end = end} r e = record { end = end; spelled = r.spelled; ends = e }

pub not_whole : {source : List ℕ} {ts : List Lexeme} {command : Command} {end : ℕ} {s : Statement} {e : ParseError} → IsReading (phrase_of source command) ts 0 end s → (EndsAt ts end → ⊥) → MeansNothing (SpellsAs source command) ts e
not_whole {source} {ts} {command} r never = record {
  never = λ p y d. never (subst (EndsAt ts) (r.only d.end y d.spelled (command_ends source command ts d.end (ends_there ts d.end d.ends))).0 d.ends);
}

pub none_whole : {source : List ℕ} {ts : List Lexeme} {command : Command} {e : ParseError} → HasNoReading (phrase_of source command) ts 0 e → MeansNothing (SpellsAs source command) ts e
none_whole {source} {ts} {command} r = record {
  never = λ p y d. r.never p d.end y d.spelled (command_ends source command ts d.end (ends_there ts d.end d.ends));
}

-- As any command

-- the tokens spell no statement as this command
abbrev pub IsNotSpelled : List ℕ → List Lexeme → Command → Type 0
IsNotSpelled source ts command = (s : Statement) → SpellsAs source command ts s → ⊥

pub one_more : (source : List ℕ) (ts : List Lexeme) (cs : List Command) (i : ℕ) (c : Command) {e : ParseError} → i < length cs → All (IsNotSpelled source ts) (take i cs) → e ≡ Syntax → MeansNothing (SpellsAs source (get_or cs i c)) ts e → All (IsNotSpelled source ts) (take (i + 1) cs)
one_more source ts cs i c lt a h m = All-more (IsNotSpelled source ts) cs i c lt a (m.never h)

at_place : (c : Command) → get_or COMMANDS (place c) c ≡ c
at_place production.CreateRole = refl
at_place _ = refl

below : (c : Command) → place c < length COMMANDS
below production.CreateRole = omega arith
below _ = omega arith

pub none_left : (source : List ℕ) (ts : List Lexeme) (i : ℕ) → length COMMANDS ≤ i → All (IsNotSpelled source ts) (take i COMMANDS) → (s : Statement) → SpellsStatement source ts s → ⊥
none_left source ts i le a s d =
    let all : All (IsNotSpelled source ts) COMMANDS = subst (All (IsNotSpelled source ts)) (take_all i COMMANDS le) a in
    subst (IsNotSpelled source ts) (at_place d.0) (all (place d.0) d.0 (below d.0)) s d.1
