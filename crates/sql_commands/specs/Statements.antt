-- Statements: one command, up to the end of the tokens or to a ";" that is the last of them.
use Rattle.std.specs.Prelude.{◌≡◌, ℕ, suc, List, length, Some, None, ◌⊎◌}
use Rattle.sql_lexer.specs.Lexeme.{Lexeme, kind_at}
use Rattle.sql_lexer.specs.declared.token.TokenKind.TheVariants.{Punctuation}
use Rattle.sql_lexer.specs.declared.token.Punctuation.TheVariants.{Semicolon}
use Rattle.sql_ast.specs.declared.statement.Statement.{Statement}
use Rattle.sql_grammar.specs.Phrases.{Spells}
use Rattle.sql_commands.specs.Commands.{phrase_of}
use Rattle.sql_commands.specs.declared.command.Command.{Command}

-- no token stands at n, or a ";"
abbrev pub IsEnd : List Lexeme → ℕ → Type 0
IsEnd ts n = (kind_at ts n ≡ None) ⊎ (kind_at ts n ≡ Some (Punctuation Semicolon))

-- the tokens end at n, or with a ";" there
abbrev pub EndsAt : List Lexeme → ℕ → Type 0
EndsAt ts n = (n ≡ length ts) ⊎ ((kind_at ts n ≡ Some (Punctuation Semicolon)) × (suc n ≡ length ts))

-- statement = command [";"]: the tokens of a source, all of them, spell the statement as this command
pub record SpellsAs (source : List ℕ) (command : Command) (ts : List Lexeme) (s : Statement) : Type 0 where
  pub end : ℕ
  pub spelled : Spells ts (phrase_of source command) 0 end s
  pub ends : EndsAt ts end

-- and as some command
abbrev pub SpellsStatement : List ℕ → List Lexeme → Statement → Type 0
SpellsStatement source ts s = (command : Command) × SpellsAs source command ts s
