-- What a client sees of its block in rows and in warnings: nothing.
use Rattle.std.specs.Prelude.{◌==◌, ◌||◌, nat_lt, take, if◌then◌else◌}
use Rattle.postgres_messages.specs.Backend.{portal_suspended}
use Rattle.std.proofs.Common.{◌≡◌, ◌∙◌, ℕ, Bool, true, false, List, [], ◌∷◌, ◌++◌, map, length, Option, Some, None, option_and_then, refl, ap}
use Rattle.sql_ast.specs.declared.description.ResultColumn.{ResultColumn}
use Rattle.sql_types.specs.declared.value.Value.{Value}
use Rattle.sql_types.specs.declared.warning.Warning.{Warning}
use Rattle.postgres_messages.specs.declared.backend.ValueFormat.{ValueFormat}
use Rattle.postgres_talks.specs.declared.moment.Mode.{Mode}
use Rattle.postgres_talks.specs.declared.moment.Mode.TheVariants as mode
use Rattle.postgres_talks.specs.Blocks.{Seen, seen, seen_all}
use Rattle.postgres_talks.specs.Moments.{headed_said, table_said, warnings_said}
use Rattle.postgres_talks.specs.Rows.{row_said, rows_said, select_tag}
use Rattle.postgres_talks.specs.Sayings.{Saying, complete_said, message}

seen_behind : (xs ys : List Saying) → ((c : Seen) → seen_all c (xs ++ ys) ≡ option_and_then (λ d. seen_all d ys) (seen_all c xs))
    → (o : Option Seen) → option_and_then (λ c. seen_all c (xs ++ ys)) o ≡ option_and_then (λ c. seen_all c ys) (option_and_then (λ c. seen_all c xs) o)
seen_behind xs ys later None = refl
seen_behind xs ys later (Some c) = later c

pub seen_on : (b : Seen) (xs ys : List Saying) → seen_all b (xs ++ ys) ≡ option_and_then (λ c. seen_all c ys) (seen_all b xs)
seen_on b [] ys = refl
seen_on b (x ∷ xs) ys = seen_behind xs ys (λ (c : Seen). seen_on c xs ys) (seen b x)

rows_seen : (fs : List ValueFormat) (b : Seen) (rows : List (List Value)) → seen_all b (map (row_said fs) rows) ≡ Some b
rows_seen fs b [] = refl
rows_seen fs b (row ∷ rows) = rows_seen fs b rows

all_rows_seen : (fs : List ValueFormat) (b : Seen) (rows : List (List Value)) → seen_all b (rows_said fs rows) ≡ Some b
all_rows_seen fs b rows = seen_on b (map (row_said fs) rows) (complete_said (select_tag (length rows)) ∷ []) ∙ ap (option_and_then (λ c. seen_all c (complete_said (select_tag (length rows)) ∷ []))) (rows_seen fs b rows)

headed_seen : (b : Seen) (columns : Option (List ResultColumn)) (rows : List (List Value)) → seen_all b (headed_said columns rows) ≡ Some b
headed_seen b None rows = refl
headed_seen b (Some columns) rows = all_rows_seen [] b rows

seen_by : (all : Bool) (most : ℕ) (fs : List ValueFormat) (b : Seen) (rows : List (List Value))
    → seen_all b (if all then rows_said fs rows else map (row_said fs) (take most rows) ++ message portal_suspended ∷ []) ≡ Some b
seen_by true most fs b rows = all_rows_seen fs b rows
seen_by false most fs b rows = seen_on b (map (row_said fs) (take most rows)) (message portal_suspended ∷ []) ∙ ap (option_and_then (λ c. seen_all c (message portal_suspended ∷ []))) (rows_seen fs b (take most rows))

pub table_seen : (t : Mode) (most : ℕ) (fs : List ValueFormat) (columns : Option (List ResultColumn)) (b : Seen) (rows : List (List Value)) → seen_all b (table_said t most fs columns rows) ≡ Some b
table_seen mode.Query most fs columns b rows = headed_seen b columns rows
table_seen mode.Batch most fs columns b rows = seen_by (most == 0 || nat_lt (length rows) most) most fs b rows
table_seen mode.Skipping most fs columns b rows = seen_by (most == 0 || nat_lt (length rows) most) most fs b rows

pub warnings_seen : (b : Seen) (w : Option Warning) (ys : List Saying) → seen_all b (warnings_said w ++ ys) ≡ seen_all b ys
warnings_seen b None ys = refl
warnings_seen b (Some w) ys = refl
