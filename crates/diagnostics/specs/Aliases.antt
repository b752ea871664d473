-- Words that are taken for the alias of a table, and are keywords in other databases.
use Rattle.std.specs.Prelude.{ℕ, Bool, true, false, List, [], ◌∷◌, ◌++◌, ◌&&◌, codes, if◌then◌else◌, Option, Some, None}
use Rattle.std.specs.Option.{option_map}
use Rattle.sql_lexer.specs.declared.token.Punctuation.TheVariants.{Comma}
use Rattle.sql_lexer.specs.declared.token.Reserved.TheVariants.{From, Join}
use Rattle.sql_lexer.specs.declared.token.TokenKind.{TokenKind}
use Rattle.sql_lexer.specs.declared.token.TokenKind.TheVariants as kind
use Rattle.sql_lexer.specs.Lexeme.{Lexeme}
use Rattle.diagnostics.specs.declared.aliases.TakenAlias.{TakenAlias}
use Rattle.diagnostics.specs.LeftOut.{first_of}
use Rattle.diagnostics.specs.Words.{KeywordHint, said_of}

-- the words, and what is not done of what they mean elsewhere
abbrev pub aliases : List KeywordHint
aliases =
    (codes "LEFT" ∷ codes "RIGHT" ∷ codes "FULL" ∷ [], codes "there are no outer joins, and this one is an inner join") ∷
    (codes "NATURAL" ∷ [], codes "there are no natural joins") ∷
    (codes "OFFSET" ∷ [], codes "no rows are skipped") ∷
    (codes "FETCH" ∷ [], codes "LIMIT alone bounds the number of rows") ∷
    (codes "HAVING" ∷ [], codes "there are no groups") ∷
    (codes "TABLESAMPLE" ∷ [], codes "all rows are read") ∷
    []

-- a table may follow this token
abbrev pub is_before_table : TokenKind → Bool
is_before_table (kind.Reserved From) = true
is_before_table (kind.Reserved Join) = true
is_before_table (kind.Punctuation Comma) = true
is_before_table k = false

-- this token is a name
abbrev pub is_name : TokenKind → Bool
is_name (kind.Unreserved _) = true
is_name kind.Word = true
is_name kind.QuotedIdentifier = true
is_name k = false

-- what is said of a word behind the name of a table
abbrev pub alias_text : List ℕ → List ℕ → List ℕ → List ℕ
alias_text word table meaning = word ++ (codes " is taken for an alias of the table " ++ (table ++ (codes ": " ++ meaning)))

abbrev pub taken_text : TakenAlias → List ℕ
taken_text taken = alias_text taken.word.now taken.table.now taken.meaning.now

abbrev pub alias_of : Lexeme → Lexeme → Option (List ℕ)
alias_of table word = option_map (alias_text word.bytes table.bytes) (said_of aliases word.bytes)

-- the word behind the name that follows this token, where that may be the name of a table
abbrev pub alias_at : Lexeme → List Lexeme → Option (List ℕ)
alias_at before (table ∷ word ∷ rest) = (if is_before_table before.kind && is_name table.kind then alias_of table word else None)
alias_at before rest = None

-- the first word that is taken for the alias of a table
abbrev pub first_alias : List Lexeme → Option (List ℕ)
first_alias [] = None
first_alias (t ∷ ts) = first_of (alias_at t ts) (first_alias ts)
