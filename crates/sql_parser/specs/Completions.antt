-- What makes statements of their beginnings.
use Rattle.std.specs.Prelude.{ℕ, List, [], ◌∷◌, Option, Some, codes}
use Rattle.sql_lexer.specs.declared.token.TokenKind.{TokenKind}
use Rattle.sql_lexer.specs.declared.token.TokenKind.TheVariants.{Reserved, Unreserved}
use Rattle.sql_lexer.specs.declared.token.Reserved.TheVariants as reserved
use Rattle.sql_lexer.specs.declared.token.Unreserved.TheVariants as unreserved

-- words inside the parentheses that a beginning leaves open, and words after those
abbrev pub Words : Type 0
Words = List ℕ × List ℕ

abbrev pub of_select : List Words
of_select =
    ([], []) ∷
    (codes "a", []) ∷
    (codes "NULL", []) ∷
    (codes "*", []) ∷
    (codes "1", []) ∷
    (codes "+ a", []) ∷
    (codes "BY a", []) ∷
    (codes "ON a", []) ∷
    (codes "a ON a", []) ∷
    (codes "JOIN a", []) ∷
    (codes "JOIN a ON a", []) ∷
    []

abbrev pub of_insert : List Words
of_insert =
    ([], []) ∷
    (codes "a", []) ∷
    (codes "NULL", []) ∷
    (codes "( a )", []) ∷
    ([], codes "VALUES ( a )") ∷
    (codes "a", codes "VALUES ( a )") ∷
    (codes "INTO a", codes "VALUES ( a )") ∷
    []

abbrev pub of_update : List Words
of_update =
    ([], []) ∷
    (codes "a", []) ∷
    (codes "NULL", []) ∷
    (codes "= a", []) ∷
    (codes "a = a", []) ∷
    (codes "SET a = a", []) ∷
    (codes "a SET a = a", []) ∷
    []

abbrev pub of_delete : List Words
of_delete =
    ([], []) ∷
    (codes "a", []) ∷
    (codes "NULL", []) ∷
    (codes "FROM a", []) ∷
    []

abbrev pub of_create : List Words
of_create =
    ([], []) ∷
    (codes "a", []) ∷
    (codes "NULL", []) ∷
    (codes "ROLE a", []) ∷
    (codes "a ( a TEXT )", []) ∷
    (codes "( a TEXT )", []) ∷
    (codes "a TEXT", []) ∷
    (codes "TEXT", []) ∷
    (codes "KEY", []) ∷
    (codes "KEY ( a )", []) ∷
    (codes "( a )", []) ∷
    (codes "a ON a", []) ∷
    (codes "ON a", []) ∷
    (codes "PERMISSIVE", []) ∷
    (codes "ALL", []) ∷
    (codes "CHECK ( a )", []) ∷
    []

abbrev pub of_drop : List Words
of_drop =
    ([], []) ∷
    (codes "a", []) ∷
    (codes "ON a", []) ∷
    (codes "a ON a", []) ∷
    (codes "ROLE a", []) ∷
    []

abbrev pub of_alter : List Words
of_alter =
    ([], []) ∷
    (codes "SECURITY", []) ∷
    (codes "LEVEL SECURITY", []) ∷
    (codes "ROW LEVEL SECURITY", []) ∷
    (codes "FORCE ROW LEVEL SECURITY", []) ∷
    (codes "a FORCE ROW LEVEL SECURITY", []) ∷
    (codes "TABLE a FORCE ROW LEVEL SECURITY", []) ∷
    []

abbrev pub of_grant : List Words
of_grant =
    ([], []) ∷
    (codes "a", []) ∷
    (codes "TO a", []) ∷
    (codes "a TO a", []) ∷
    ([], codes "ON a TO a") ∷
    (codes "a", codes "ON a TO a") ∷
    (codes "SELECT", codes "ON a TO a") ∷
    (codes "OPTION", []) ∷
    (codes "ADMIN OPTION", []) ∷
    (codes "GRANT OPTION", []) ∷
    []

abbrev pub of_revoke : List Words
of_revoke =
    ([], []) ∷
    (codes "a", []) ∷
    (codes "FROM a", []) ∷
    (codes "a FROM a", []) ∷
    ([], codes "ON a FROM a") ∷
    (codes "a", codes "ON a FROM a") ∷
    (codes "SELECT", codes "ON a FROM a") ∷
    (codes "FOR a FROM a", []) ∷
    (codes "FOR SELECT", codes "ON a FROM a") ∷
    (codes "OPTION FOR SELECT", codes "ON a FROM a") ∷
    []

abbrev pub of_others : List Words
of_others =
    ([], []) ∷
    (codes "a", []) ∷
    (codes "ROLE", []) ∷
    (codes "ROLE a", []) ∷
    (codes "TRANSACTION", []) ∷
    (codes "BEGIN", []) ∷
    []

-- for the commands that begin with a token
abbrev pub completions : Option TokenKind → List Words
completions (Some (Reserved reserved.Select)) = of_select
completions (Some (Unreserved unreserved.Insert)) = of_insert
completions (Some (Unreserved unreserved.Update)) = of_update
completions (Some (Unreserved unreserved.Delete)) = of_delete
completions (Some (Reserved reserved.Create)) = of_create
completions (Some (Unreserved unreserved.Drop)) = of_drop
completions (Some (Unreserved unreserved.Alter)) = of_alter
completions (Some (Reserved reserved.Grant)) = of_grant
completions (Some (Unreserved unreserved.Revoke)) = of_revoke
completions _ = of_others
