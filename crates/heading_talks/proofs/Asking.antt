-- A frame that asks, and its answer.
use Rattle.std.proofs.Common.{◌≡◌, ◌∙◌, ℕ, Bool, true, List, [], ◌∷◌, ◌++◌, take, drop, refl, ap, sym, subst}
use Rattle.std.proofs.lemmas.List.{append-nil}
use Rattle.sql_ast.specs.declared.description.StatementDescription.{StatementDescription}
use Rattle.talks.specs.Wants.{learnt}
use Rattle.talks.specs.Conversations.{Heard, stays, hears, learns}
use Rattle.talks.specs.declared.talk.MessageFront.TheVariants.{Whole}
use Rattle.talks.specs.declared.talk.Talk.{Ghosts}
use Rattle.talks.specs.declared.want.Want.{Want}
use Rattle.talks.specs.declared.want.Want.TheVariants as want
use Rattle.talks.specs.declared.want.Reply.{Reply}
use Rattle.talks.specs.declared.want.Reply.TheVariants as reply
use Rattle.wire.specs.AnswerFrames.{answer_frames}
use Rattle.wire.specs.AnswerText.{answer_text}
use Rattle.heading_talks.specs.FrontLaws.{asks_alone}
use Rattle.heading_talks.specs.HeadingFrames.{NextHeading, asks, next_heading, taken_if}
use Rattle.heading_talks.specs.Headings.{heading_answer}
use Rattle.heading_talks.specs.HeadingTalks.{HearsMessage, LearnsReply, asked_by, asked_session, front_over, wanted}
use Rattle.heading_talks.specs.declared.heading_talk.HeadingTalk.{HeadingTalk}

module _ {T : Type 0} (k : Ghosts T) (outer : Ghosts (HeadingTalk T))
    (wants_is : (t : HeadingTalk T) → outer.wants t ≡ wanted (asked_session t.question) t.question (k.wants t.talk))
    (front_is : (t : HeadingTalk T) (bytes : List ℕ) → outer.front t bytes ≡ front_over (taken_if t.may_ask (next_heading bytes)) (k.front t.talk bytes))
    (hears_is : (t u : HeadingTalk T) (message said : List ℕ) → HearsMessage k (asked_by (taken_if t.may_ask (next_heading message))) t message said u → outer.hears t message said u)
    (learns_is : (t u : HeadingTalk T) (r : Reply) (said : List ℕ) → LearnsReply k (asked_session t.question) t r said u → outer.learns t r said u) where
  abbrev asking : HeadingTalk T → Want → HeadingTalk T
  asking t q = record t { question = q }

  idle : (t : HeadingTalk T) → t.question ≡ want.Message → k.wants t.talk ≡ want.Message → outer.wants t ≡ want.Message
  idle t none wants = wants_is t ∙ ap (λ (q : Want). wanted (asked_session q) q (k.wants t.talk)) none ∙ wants

  pub answered : (t : HeadingTalk T) (bytes text : List ℕ) (session size : ℕ) (d : StatementDescription) → t.question ≡ want.Message → t.may_ask ≡ true → k.wants t.talk ≡ want.Message → next_heading bytes ≡ asks session text size
      → (u : HeadingTalk T) × (u.question ≡ want.Message) × (u.talk ≡ t.talk)
      × Heard outer t bytes (learnt (want.Description session text) (reply.Description d) ∷ []) (answer_frames session (answer_text (heading_answer d))) (drop size bytes) u
  answered t bytes text session size d none may wants at =
      let question : Want = want.Description session text in
      let asked : HeadingTalk T = asking t question in
      let after : HeadingTalk T = asking t want.Message in
      let said : List ℕ = answer_frames session (answer_text (heading_answer d)) in
      let taken : (l : List ℕ) → next_heading l ≡ asks session text size → taken_if t.may_ask (next_heading l) ≡ asks session text size =
      λ l is. ap (λ (b : Bool). taken_if b (next_heading l)) may ∙ is in
      let front : outer.front t bytes ≡ Whole size = front_is t bytes ∙ ap (λ (h : NextHeading). front_over h (k.front t.talk bytes)) (taken bytes at) in
      let heard : outer.hears t (take size bytes) [] asked = hears_is t asked (take size bytes) []
      (subst (λ (h : NextHeading). HearsMessage k (asked_by h) t (take size bytes) [] asked) (sym (taken (take size bytes) (asks_alone bytes session text size at))) (refl, refl, refl, refl)) in
      let learning : outer.learns asked (reply.Description d) said after = learns_is asked after (reply.Description d) said (refl, refl, refl, refl) in
      let last : Heard outer asked (drop size bytes) (learnt question (reply.Description d) ∷ []) (said ++ []) (drop size bytes) after =
      learns (learnt question (reply.Description d)) (wants_is asked) tt learning stays in
      let all : Heard outer t bytes (learnt question (reply.Description d) ∷ []) ([] ++ (said ++ [])) (drop size bytes) after =
      hears size (idle t none wants) front heard last in
      (after, refl, refl, subst (λ (l : List ℕ). Heard outer t bytes (learnt question (reply.Description d) ∷ []) l (drop size bytes) after) (append-nil said) all)
