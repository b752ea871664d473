-- What is told of a portal that is carried out in pieces.
use Rattle.std.specs.Prelude.{◌≡◌, ℕ, Bool, true, false, List, [], ◌∷◌, ◌++◌, length, drop, Some}
use Rattle.sql_types.specs.declared.value.Value.{Value}
use Rattle.talks.specs.declared.want.BlockStanding.TheVariants as standing
use Rattle.talks.specs.declared.want.Reply.TheVariants as reply
use Rattle.postgres_messages.specs.Backend.{data_row}
use Rattle.postgres_messages.specs.declared.backend.ValueFormat.{ValueFormat}
use Rattle.postgres_talks.specs.declared.moment.Mode.TheVariants as mode
use Rattle.postgres_talks.specs.declared.requests.Request.TheVariants as request
use Rattle.postgres_talks.specs.Played.{Input, asked, told}
use Rattle.postgres_talks.specs.Portals.{is_limited}
use Rattle.postgres_talks.specs.Rows.{limited_said}
use Rattle.postgres_talks.specs.Sayings.{Saying, message}

-- Execute asks for so many rows of a portal, once for each of these numbers; its block is open
abbrev pub fetches : List ℕ → List ℕ → List Input
fetches name [] = []
fetches name (k ∷ ks) = asked (request.Execute name k) ∷ told (reply.Standing (Some standing.Inside)) ∷ fetches name ks

-- all of these pieces but the last have as many rows as were asked for
abbrev pub ArePieces : List (List Value) → List ℕ → Type 0
ArePieces rows [] = Unit {0}
ArePieces rows (k ∷ []) = Unit {0}
ArePieces rows (k ∷ j ∷ ks) = (is_limited mode.Batch k (length rows) ≡ true) × ArePieces (drop k rows) (j ∷ ks)

-- each behind the one before
abbrev pub pieces_said : List ValueFormat → List (List Value) → List ℕ → List Saying
pieces_said fs rows [] = []
pieces_said fs rows (k ∷ ks) = limited_said k fs rows ++ pieces_said fs (drop k rows) ks

-- what they leave: nothing, where the last is no piece
abbrev pub left_by_piece : Bool → ℕ → List (List Value) → List (List Value)
left_by_piece true k rows = drop k rows
left_by_piece false k rows = []

abbrev pub left_behind : List (List Value) → List ℕ → List (List Value)
left_behind rows [] = rows
left_behind rows (k ∷ []) = left_by_piece (is_limited mode.Batch k (length rows)) k rows
left_behind rows (k ∷ ks) = left_behind (drop k rows) ks

-- the rows of what is said
abbrev pub is_row : Saying → Bool
is_row (message (data_row values)) = true
is_row s = false
