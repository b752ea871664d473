-- What portals keep of an answer: the rows behind those that Execute asked for.
use Rattle.std.specs.Prelude.{ℕ, ◌+◌, ◌-◌, ◌==◌, ◌||◌, ◌&&◌, not, nat_lt, nat_le, is_some, Bool, true, false, if◌then◌else◌, List, [], ◌∷◌, length, Option, Some, None, option_and_then}
use Rattle.sql_types.specs.declared.value.Value.{Value}
use Rattle.sql_types.specs.declared.value.Value.TheVariants as value
use Rattle.sql_types.specs.declared.state.SqlState.TheVariants.{ProgramLimitExceeded}
use Rattle.sql_types.specs.declared.tag.Tag.{Tag}
use Rattle.sql_types.specs.declared.tag.Tag.TheVariants as tag
use Rattle.postgres_talks.specs.declared.fault.TalkFault.TheVariants as fault
use Rattle.postgres_talks.specs.declared.moment.Mode.{Mode}
use Rattle.postgres_talks.specs.declared.moment.Mode.TheVariants as mode
use Rattle.postgres_talks.specs.declared.moment.TalkBlock.{TalkBlock}
use Rattle.postgres_talks.specs.declared.moment.TalkBlock.TheVariants as block
use Rattle.postgres_talks.specs.declared.named_pieces.NamedPiece.{NamedPiece}
use Rattle.postgres_talks.specs.declared.outcome.Outcome.{Outcome}
use Rattle.postgres_talks.specs.declared.outcome.Outcome.TheVariants as outcome
use Rattle.postgres_talks.specs.declared.piece.StatementPiece.{StatementPiece}
use Rattle.postgres_talks.specs.declared.piece.StatementPiece.TheVariants as piece
use Rattle.postgres_talks.specs.Named.{put}

-- ---- how much is kept

-- each value counts 64 bytes, and a text its own besides
abbrev pub value_size : Value → ℕ
value_size (value.Text text) = 64 + length text
value_size v = 64

-- what is left of so many bytes behind the values of a row, if there are as many
abbrev pub room_behind_row : ℕ → List Value → Option ℕ
room_behind_row room [] = Some room
room_behind_row room (v ∷ vs) = if nat_le (value_size v) room then room_behind_row (room - value_size v) vs else None

abbrev pub room_behind_rows : ℕ → List (List Value) → Option ℕ
room_behind_rows room [] = Some room
room_behind_rows room (row ∷ rows) = option_and_then (λ left. room_behind_rows left rows) (room_behind_row room row)

abbrev pub room_behind_rest : ℕ → Option (List (List Value)) → Option ℕ
room_behind_rest room None = Some room
room_behind_rest room (Some rows) = room_behind_rows room rows

-- behind what these portals keep
abbrev pub room_behind : ℕ → List NamedPiece → Option ℕ
room_behind room [] = Some room
room_behind room (n ∷ ns) = option_and_then (λ left. room_behind left ns) (room_behind_rest room n.rest)

-- all that the portals of a connection keep is at most 4 MiB, with these rows
abbrev pub has_room : List NamedPiece → List (List Value) → Bool
has_room ns rows = is_some (option_and_then (λ left. room_behind_rows left rows) (room_behind 4194304 ns))

-- ---- when it is kept

-- there are as many rows as Execute asks for at most, or more; 0 asks for all
abbrev pub is_limited : Mode → ℕ → ℕ → Bool
is_limited mode.Query most n = false
is_limited t most n = not (most == 0 || nat_lt n most)

-- a block has portals up to its end
abbrev pub holds : TalkBlock → Bool
holds block.Implicit = true
holds block.Open = true
holds b = false

abbrev pub held_in : TalkBlock → List NamedPiece → List NamedPiece
held_in b ns = if holds b then ns else []

-- a statement that ends a block ends its portals
abbrev pub held_behind : Tag → List NamedPiece → List NamedPiece
held_behind tag.Commit ns = []
held_behind tag.Rollback ns = []
held_behind t ns = ns

abbrev pub is_kept : TalkBlock → Mode → ℕ → ℕ → Bool
is_kept b t most n = holds b && is_limited t most n

-- what is to be kept has its place
abbrev pub kept_outcome : Bool → List NamedPiece → List (List Value) → Outcome
kept_outcome false ns rest = outcome.Done
kept_outcome true ns rest = if has_room ns rest then outcome.Done else outcome.Refused (fault.Refused ProgramLimitExceeded)

-- ---- what is kept

-- the rows that are left of the answer to a portal, where it was carried out before
abbrev pub rest_of : Option NamedPiece → Option (List (List Value))
rest_of None = None
rest_of (Some n) = n.rest

abbrev pub is_discarding : StatementPiece → Bool
is_discarding piece.DiscardAll = true
is_discarding p = false

abbrev pub is_discard : Option NamedPiece → Bool
is_discard None = false
is_discard (Some n) = is_discarding n.piece

abbrev pub rows_left : Option (List (List Value)) → List (List Value)
rows_left None = []
rows_left (Some rows) = rows

abbrev pub rows_in : Option NamedPiece → List (List Value)
rows_in found = rows_left (rest_of found)

-- without them
abbrev pub emptied : Option NamedPiece → Option NamedPiece
emptied None = None
emptied (Some n) = Some (record n { rest = None })

-- a portal with these rows is there under its name
abbrev pub suspend : Option NamedPiece → List (List Value) → List NamedPiece → List NamedPiece
suspend None rest ns = ns
suspend (Some n) rest ns = put (record n { rest = Some rest }) ns

-- its statement is carried out once
abbrev pub left_by : Option (List (List Value)) → StatementPiece → List StatementPiece
left_by None p = p ∷ []
left_by (Some rows) p = []
