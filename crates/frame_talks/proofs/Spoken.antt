-- A conversation by the byte.
use Rattle.std.proofs.Common.{◌≡◌, ℕ, false, List, [], ◌∷◌, ◌++◌, take, drop, None, codes, refl, ap, sym, ◌∙◌, subst}
use Rattle.std.specs.Str.{chars, is_utf8}
use Rattle.sql_types.specs.declared.answer.Answer.TheVariants as answer
use Rattle.sql_types.specs.declared.event.Event.{Event}
use Rattle.sql_types.specs.declared.event.Event.TheVariants as event
use Rattle.sql_types.specs.declared.tag.Tag.TheVariants as tag
use Rattle.wire.specs.AnswerFrames.{answer_frames}
use Rattle.wire.specs.Answers.{frames_of}
use Rattle.wire.specs.Frame.{NextFrame, bad, whole, next_frame}
use Rattle.talks.specs.Wants.{learnt}
use Rattle.talks.specs.Conversations.{Heard, stays, hears, rejects, learns}
use Rattle.talks.specs.declared.talk.Talk.{Ghosts}
use Rattle.talks.specs.declared.want.Want.{Want}
use Rattle.talks.specs.declared.want.Want.TheVariants as want
use Rattle.talks.specs.declared.want.Reply.{Reply}
use Rattle.talks.specs.declared.want.Reply.TheVariants as reply
use Rattle.frame_talks.specs.declared.frame_talk.FrameTalk.{FrameTalk}
use Rattle.frame_talks.specs.FrameTalks.{front_of, wanted_for, HearsFrame, RefusesFrame, asked_session, said_to, bad_frame_said}
use Rattle.frame_talks.specs.Example.{sent, was_learnt, was_said, bad_length}

open_7 : Event
open_7 = event.Open 7 (codes "root")

close_7 : Event
close_7 = event.Close 7

after_open : List ℕ
after_open = drop 13 sent

-- ---- what stands at the front, and what is said

first_frame : next_frame sent ≡ whole open_7 13
unfolding next_frame is_utf8 chars open_7 lib.Utf8.encode
first_frame = refl

first_alone : next_frame (take 13 sent) ≡ whole open_7 13
unfolding next_frame is_utf8 chars open_7 lib.Utf8.encode
first_alone = refl

second_frame : next_frame after_open ≡ whole close_7 9
unfolding next_frame close_7 after_open
second_frame = refl

second_alone : next_frame (take 9 after_open) ≡ whole close_7 9
unfolding next_frame close_7 after_open
second_alone = refl

third_frame : next_frame bad_length ≡ bad
unfolding next_frame
third_frame = refl

all_said : frames_of open_7 (answer.Done tag.Open None None) ++ (frames_of close_7 (answer.Done tag.Close None None) ++ (bad_frame_said ++ [])) ≡ was_said
unfolding answer_frames open_7 close_7
all_said = refl

-- ---- the conversation

module _ (k : Ghosts FrameTalk)
    (wants_is : (t : FrameTalk) → k.wants t ≡ t.want)
    (front_is : (t : FrameTalk) (bytes : List ℕ) → k.front t bytes ≡ front_of (next_frame bytes))
    (hears_is : (t u : FrameTalk) (message said : List ℕ) → HearsFrame (next_frame message) said u.want → k.hears t message said u)
    (rejects_is : (t u : FrameTalk) (said : List ℕ) → RefusesFrame said u.want → k.rejects t said u)
    (learns_is : (t u : FrameTalk) (r : Reply) (said : List ℕ) → said ≡ said_to (asked_session t.want) r → u.want ≡ want.Message → k.learns t r said u) where
  abbrev wanting : FrameTalk → Want → FrameTalk
  wanting t w = record t { want = w }

  one_event : (t : FrameTalk) (bytes : List ℕ) (e : Event) (n : ℕ) → t.want ≡ want.Message → next_frame bytes ≡ whole e n → next_frame (take n bytes) ≡ whole e n
      → k.hears t (take n bytes) [] (wanting t (wanted_for e))
  one_event t bytes e n wants at alone = hears_is t (wanting t (wanted_for e)) (take n bytes) [] (subst (λ (f : NextFrame). HearsFrame f [] (wanted_for e)) (sym alone) (refl, refl))

  pub example : (t : FrameTalk) → t.want ≡ want.Message → (u : FrameTalk) × (k.wants u ≡ want.End false) × Heard k t sent was_learnt was_said bad_length u
  unfolding open_7 close_7 after_open
  example t starts =
      let opening : FrameTalk = wanting t (wanted_for open_7) in
      let idle : FrameTalk = wanting t want.Message in
      let closing : FrameTalk = wanting t (wanted_for close_7) in
      let ended : FrameTalk = wanting t (want.End false) in
      let fourth : Heard k idle bad_length [] (bad_frame_said ++ []) bad_length ended =
      rejects (wants_is idle) (front_is idle bad_length ∙ ap front_of third_frame) (rejects_is idle ended bad_frame_said (refl, refl)) stays in
      let third : Heard k closing bad_length (learnt (wanted_for close_7) (reply.Answer (answer.Done tag.Close None None)) ∷ []) (frames_of close_7 (answer.Done tag.Close None None) ++ (bad_frame_said ++ [])) bad_length ended =
      learns (learnt (wanted_for close_7) (reply.Answer (answer.Done tag.Close None None))) (wants_is closing) tt (learns_is closing idle (reply.Answer (answer.Done tag.Close None None)) _ refl refl) fourth in
      let second : Heard k idle after_open (learnt (wanted_for close_7) (reply.Answer (answer.Done tag.Close None None)) ∷ []) (frames_of close_7 (answer.Done tag.Close None None) ++ (bad_frame_said ++ [])) bad_length ended =
      hears 9 (wants_is idle) (front_is idle after_open ∙ ap front_of second_frame) (one_event idle after_open close_7 9 refl second_frame second_alone) third in
      let first : Heard k opening after_open was_learnt (frames_of open_7 (answer.Done tag.Open None None) ++ (frames_of close_7 (answer.Done tag.Close None None) ++ (bad_frame_said ++ []))) bad_length ended =
      learns (learnt (wanted_for open_7) (reply.Answer (answer.Done tag.Open None None))) (wants_is opening) tt (learns_is opening idle (reply.Answer (answer.Done tag.Open None None)) _ refl refl) second in
      let all : Heard k t sent was_learnt (frames_of open_7 (answer.Done tag.Open None None) ++ (frames_of close_7 (answer.Done tag.Close None None) ++ (bad_frame_said ++ []))) bad_length ended =
      hears 13 (wants_is t ∙ starts) (front_is t sent ∙ ap front_of first_frame) (one_event t sent open_7 13 starts first_frame first_alone) first in
      (ended, wants_is ended, subst (λ (l : List ℕ). Heard k t sent was_learnt l bad_length ended) all_said all)
