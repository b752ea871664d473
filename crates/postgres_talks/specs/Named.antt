-- Statements under names.
use Rattle.std.specs.Prelude.{ℕ, suc, not, if◌then◌else◌, List, [], ◌∷◌, ◌++◌, filter, bytes_eq, Option, Some, None, Result, Ok}
use Rattle.postgres_messages.specs.declared.backend.ValueFormat.{ValueFormat}
use Rattle.sql_ast.specs.declared.description.ResultColumn.{ResultColumn}
use Rattle.postgres_talks.specs.declared.fault.TalkFault.{TalkFault}
use Rattle.postgres_talks.specs.declared.named_pieces.NamedPiece.{NamedPiece}
use Rattle.postgres_talks.specs.declared.piece.StatementPiece.{StatementPiece}

-- the first of a name
abbrev pub find : List ℕ → List NamedPiece → Option NamedPiece
find name [] = None
find name (n ∷ ns) = if bytes_eq n.name name then Some n else find name ns

-- its index, or how many there are
abbrev pub place_of : List ℕ → List NamedPiece → ℕ
place_of name [] = 0
place_of name (n ∷ ns) = if bytes_eq n.name name then 0 else suc (place_of name ns)

abbrev pub without : List ℕ → List NamedPiece → List NamedPiece
without name ns = filter (λ n. not (bytes_eq n.name name)) ns

abbrev pub put : NamedPiece → List NamedPiece → List NamedPiece
put n ns = without n.name ns ++ n ∷ []

-- with these columns, which its client is told
abbrev pub tell_found : Option NamedPiece → Option (List ResultColumn) → List NamedPiece → List NamedPiece
tell_found None columns ns = ns
tell_found (Some n) columns ns = put (record n { columns = columns }) ns

abbrev pub tell : List ℕ → Option (List ResultColumn) → List NamedPiece → List NamedPiece
tell name columns ns = tell_found (find name ns) columns ns

-- what values make of it, under another name, with these formats
abbrev pub put_bound : List ℕ → List ValueFormat → Result StatementPiece TalkFault → Option NamedPiece → List NamedPiece → List NamedPiece
put_bound name fs (Ok p) (Some n) ns = put (record n { name = name; piece = p; formats = fs; parameters = None; rest = None }) ns
put_bound name fs r found ns = ns
