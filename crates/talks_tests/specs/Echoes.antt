-- The small protocol.
use Rattle.std.specs.Prelude.{◌≡◌, ◌==◌, ◌⊎◌, ◌+◌, ◌%◌, ℕ, false, List, [], ◌∷◌, length, drop, Option, Some, None, nat_lt, slice_index, if◌then◌else◌}
use Rattle.std.specs.List.{slice_get}
use Rattle.sql_ast.specs.declared.description.StatementDescription.{StatementDescription}
use Rattle.sql_ast.specs.declared.description.StatementDescription.TheVariants as described
use Rattle.sql_types.specs.declared.answer.Answer.TheVariants as answer
use Rattle.sql_types.specs.declared.event.Event.TheVariants as event
use Rattle.sql_types.specs.declared.tag.Tag.{Tag}
use Rattle.sql_types.specs.declared.tag.Tag.TheVariants as tag
use Rattle.talks.specs.declared.talk.MessageFront.{MessageFront}
use Rattle.talks.specs.declared.talk.MessageFront.TheVariants.{Nothing, Whole, Bad}
use Rattle.talks.specs.declared.want.Want.{Want}
use Rattle.talks.specs.declared.want.Want.TheVariants as want
use Rattle.talks.specs.declared.want.Reply.{Reply}
use Rattle.talks.specs.declared.want.Reply.TheVariants as reply

-- a message: its length, which is not 0, and so many bytes
abbrev pub front_by : Option ℕ → ℕ → MessageFront
front_by None size = Nothing
front_by (Some n) size = if n == 0 then Bad else if nat_lt n size then Whole (n + 1) else Nothing

abbrev pub front_of : List ℕ → MessageFront
front_of bytes = front_by (slice_get bytes 0) (length bytes)

-- a text asks for this, by its first letter: 'o' for a session, 'c' for its end, '?' for how it stands, 'd' for what a statement would answer; else it is a statement
abbrev pub IsAsked : List ℕ → Want → Type 0
IsAsked text (want.Open n login entry) = (slice_index text 0 ≡ 111) × (n ≡ 1) × (login ≡ text)
IsAsked text (want.Event (event.Close n)) = (slice_index text 0 ≡ 99) × (n ≡ 1)
IsAsked text (want.Standing n) = (slice_index text 0 ≡ 63) × (n ≡ 1)
IsAsked text (want.Description n it) = (slice_index text 0 ≡ 100) × (n ≡ 1) × (it ≡ text)
IsAsked text (want.Event (event.Statement n it)) = (n ≡ 1) × (it ≡ text)
IsAsked text _ = ⊥

-- a message is asked, or is no text, and then the conversation ends
abbrev pub HearsText : List ℕ → List ℕ → Want → Type 0
HearsText message said w = ((said ≡ []) × IsAsked (drop 1 message) w) ⊎ ((said ≡ 33 ∷ []) × (w ≡ want.End false))

abbrev pub tag_letter : Tag → ℕ
tag_letter tag.Open = 111
tag_letter tag.Close = 99
tag_letter tag.Begin = 98
tag_letter tag.Commit = 109
tag_letter _ = 115

abbrev pub description_letter : StatementDescription → ℕ
description_letter (described.Rows columns) = 61
description_letter described.NoRows = 110
description_letter (described.Refused state) = 33

abbrev pub letter_of : Reply → ℕ
letter_of (reply.Answer (answer.Done t count warning)) = tag_letter t
letter_of (reply.Answer (answer.Rows rows)) = 61
letter_of (reply.Answer (answer.Refused state)) = 33
letter_of (reply.Standing None) = 45
letter_of (reply.Standing (Some b)) = 43
letter_of (reply.Description d) = description_letter d
letter_of (reply.Verifier v) = 118

abbrev pub count_digit : Option ℕ → ℕ
count_digit None = 46
count_digit (Some n) = 48 + n % 10

abbrev pub digit_of : Reply → ℕ
digit_of (reply.Answer (answer.Done t count warning)) = count_digit count
digit_of _ = 46

-- what is said of an answer: a letter and a digit
abbrev pub said_of : Reply → List ℕ
said_of r = letter_of r ∷ digit_of r ∷ []
