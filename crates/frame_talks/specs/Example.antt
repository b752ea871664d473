-- A conversation by the byte, as docs/protocol.md has it: session 7 is opened for root and closed, and then a frame is bad.
use Rattle.std.specs.Prelude.{ℕ, List, [], ◌∷◌, ◌++◌, None, codes}
use Rattle.sql_types.specs.declared.answer.Answer.TheVariants as answer
use Rattle.sql_types.specs.declared.event.Event.TheVariants as event
use Rattle.sql_types.specs.declared.tag.Tag.TheVariants as tag
use Rattle.talks.specs.Wants.{Learnt}
use Rattle.frame_talks.specs.Served.{learnt_of}

-- what is left: a frame of length 4
abbrev pub bad_length : List ℕ
bad_length = 0 ∷ 0 ∷ 0 ∷ 4 ∷ []

abbrev pub sent : List ℕ
sent = 0 ∷ 0 ∷ 0 ∷ 9 ∷ 1 ∷ 0 ∷ 0 ∷ 0 ∷ 7 ∷ 114 ∷ 111 ∷ 111 ∷ 116 ∷ 0 ∷ 0 ∷ 0 ∷ 5 ∷ 3 ∷ 0 ∷ 0 ∷ 0 ∷ 7 ∷ bad_length

abbrev pub was_learnt : List Learnt
was_learnt = learnt_of (event.Open 7 (codes "root") ∷ event.Close 7 ∷ []) (answer.Done tag.Open None None ∷ answer.Done tag.Close None None ∷ [])

abbrev pub was_said : List ℕ
was_said = 0 ∷ 0 ∷ 0 ∷ 13 ∷ 4 ∷ 0 ∷ 0 ∷ 0 ∷ 7 ∷ codes "ok OPEN\n"
    ++ 0 ∷ 0 ∷ 0 ∷ 14 ∷ 4 ∷ 0 ∷ 0 ∷ 0 ∷ 7 ∷ codes "ok CLOSE\n"
    ++ 0 ∷ 0 ∷ 0 ∷ 19 ∷ 4 ∷ 0 ∷ 0 ∷ 0 ∷ 0 ∷ codes "refused 08P01\n"
