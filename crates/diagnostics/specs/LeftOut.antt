-- What is left out of the language: the lines of docs/sql.md that have words of their own, each with these words.
use Rattle.std.specs.Prelude.{ℕ, Bool, true, false, List, [], ◌∷◌, codes, nat_le, if◌then◌else◌, Option, Some, None}
use Rattle.sql_lexer.specs.declared.token.Reserved.TheVariants.{Select}
use Rattle.sql_lexer.specs.declared.token.TokenKind.{TokenKind}
use Rattle.sql_lexer.specs.declared.token.TokenKind.TheVariants.{Reserved}
use Rattle.sql_lexer.specs.Lexeme.{Lexeme}
use Rattle.diagnostics.specs.Words.{KeywordHint, said_of}

-- of expressions, in every statement
abbrev pub expressions : List KeywordHint
expressions =
    (codes "IN" ∷ codes "BETWEEN" ∷ codes "LIKE" ∷ codes "ILIKE" ∷ [], codes "IN, BETWEEN, LIKE, ILIKE, regular expressions") ∷
    (codes "CAST" ∷ [], codes "casts") ∷
    (codes "CASE" ∷ codes "COALESCE" ∷ codes "NULLIF" ∷ [], codes "CASE, COALESCE, NULLIF, every function") ∷
    []

-- of SELECT
abbrev pub queries : List KeywordHint
queries =
    (codes "DISTINCT" ∷ codes "GROUP" ∷ codes "HAVING" ∷ [], codes "DISTINCT, GROUP BY, HAVING, windows") ∷
    (codes "SUM" ∷ codes "AVG" ∷ codes "MIN" ∷ codes "MAX" ∷ [], codes "aggregates, but for count(*) as the whole list") ∷
    (codes "OFFSET" ∷ codes "FETCH" ∷ [], codes "OFFSET, FETCH, LIMIT with anything but a number") ∷
    (codes "EXISTS" ∷ [], codes "sub-queries, EXISTS, WITH") ∷
    (codes "UNION" ∷ codes "INTERSECT" ∷ codes "EXCEPT" ∷ [], codes "UNION, INTERSECT, EXCEPT; VALUES and TABLE as queries") ∷
    (codes "OUTER" ∷ codes "LEFT" ∷ codes "RIGHT" ∷ codes "FULL" ∷ [], codes "outer joins") ∷
    (codes "NATURAL" ∷ [], codes "NATURAL and USING joins, a comma beside JOIN, parentheses in FROM") ∷
    []

-- of the other statements
abbrev pub other_statements : List KeywordHint
other_statements =
    (codes "DEFAULT" ∷ [], codes "DEFAULT") ∷
    (codes "CONFLICT" ∷ codes "RETURNING" ∷ [], codes "INSERT of a query, ON CONFLICT, RETURNING") ∷
    (codes "TRUNCATE" ∷ codes "MERGE" ∷ codes "COPY" ∷ [], codes "TRUNCATE, MERGE, COPY") ∷
    (codes "INT" ∷ codes "INTEGER" ∷ codes "SMALLINT" ∷ codes "SERIAL" ∷ codes "NUMERIC" ∷ codes "DECIMAL" ∷ codes "REAL" ∷ codes "DOUBLE" ∷ codes "FLOAT" ∷ codes "VARCHAR" ∷ codes "CHAR" ∷ codes "DATE" ∷ codes "TIME" ∷ codes "TIMESTAMP" ∷ codes "BYTEA" ∷ codes "UUID" ∷ codes "JSON" ∷ codes "JSONB" ∷ [], codes "other types") ∷
    (codes "UNIQUE" ∷ codes "REFERENCES" ∷ codes "GENERATED" ∷ codes "COLLATE" ∷ codes "CONSTRAINT" ∷ [], codes "other constraints, and names for them") ∷
    (codes "TEMP" ∷ codes "TEMPORARY" ∷ codes "INHERITS" ∷ [], codes "other ways to make a table") ∷
    (codes "ADD" ∷ codes "RENAME" ∷ codes "OWNER" ∷ [], codes "every change of a table but row security") ∷
    (codes "IF" ∷ codes "EXISTS" ∷ [], codes "IF EXISTS, IF NOT EXISTS, CASCADE and RESTRICT of a DROP, two names in one") ∷
    (codes "INDEX" ∷ codes "VIEW" ∷ codes "SCHEMA" ∷ codes "DATABASE" ∷ codes "SEQUENCE" ∷ codes "TYPE" ∷ codes "FUNCTION" ∷ codes "TRIGGER" ∷ codes "EXTENSION" ∷ codes "COMMENT" ∷ [], codes "everything but tables") ∷
    (codes "PASSWORD" ∷ codes "CREATEROLE" ∷ codes "CREATEDB" ∷ codes "INHERIT" ∷ codes "VALID" ∷ [], codes "other attributes, and memberships in CREATE ROLE") ∷
    (codes "USER" ∷ codes "GROUP" ∷ [], codes "USER and GROUP") ∷
    (codes "GRANTED" ∷ [], codes "GRANTED BY, CURRENT_USER as a grantee") ∷
    (codes "SESSION" ∷ codes "AUTHORIZATION" ∷ codes "LOCAL" ∷ codes "SHOW" ∷ [], codes "SET SESSION AUTHORIZATION, SET LOCAL ROLE, settings") ∷
    (codes "REASSIGN" ∷ codes "OWNED" ∷ [], codes "REASSIGN OWNED, DROP OWNED, ALTER DEFAULT PRIVILEGES") ∷
    (codes "ISOLATION" ∷ codes "READ" ∷ [], codes "isolation levels, READ ONLY") ∷
    (codes "SAVEPOINT" ∷ codes "RELEASE" ∷ [], codes "SAVEPOINT, RELEASE, ROLLBACK TO") ∷
    (codes "END" ∷ codes "ABORT" ∷ codes "CHAIN" ∷ codes "LOCK" ∷ [], codes "END, ABORT, AND CHAIN, two-phase commit, LOCK") ∷
    (codes "PREPARE" ∷ codes "EXPLAIN" ∷ codes "VACUUM" ∷ codes "LISTEN" ∷ codes "DO" ∷ codes "CALL" ∷ [], codes "prepared statements, cursors, EXPLAIN, VACUUM, LISTEN, DO, CALL") ∷
    []

abbrev pub left_out_of : Bool → List KeywordHint
left_out_of true = queries
left_out_of false = other_statements

abbrev pub is_select : TokenKind → Bool
is_select (Reserved Select) = true
is_select kind = false

-- these are the tokens of a SELECT
abbrev pub is_query : List Lexeme → Bool
is_query [] = false
is_query (t ∷ ts) = is_select t.kind

abbrev pub first_of : Option (List ℕ) → Option (List ℕ) → Option (List ℕ)
first_of (Some text) other = Some text
first_of None other = other

-- what is left out by this word
abbrev pub left_out_by : Bool → List ℕ → Option (List ℕ)
left_out_by query word = first_of (said_of expressions word) (said_of (left_out_of query) word)

-- the last token that begins before a place, or else this text
abbrev pub text_before : List ℕ → ℕ → List Lexeme → List ℕ
text_before text place [] = text
text_before text place (t ∷ ts) = (if nat_le place t.start then text else text_before t.bytes place ts)

-- the first token that begins at a place or after it, or nothing
abbrev pub text_from : ℕ → List Lexeme → List ℕ
text_from place [] = []
text_from place (t ∷ ts) = (if nat_le place t.start then t.bytes else text_from place ts)

-- what is left out by the word before a place, or else by the word there
abbrev pub left_out : ℕ → List Lexeme → Option (List ℕ)
left_out place ts = first_of (left_out_by (is_query ts) (text_before [] place ts)) (left_out_by (is_query ts) (text_from place ts))
