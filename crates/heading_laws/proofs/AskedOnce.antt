-- Conversations that go alike where a client may ask.
use Rattle.std.proofs.Common.{◌≡◌, ◌∙◌, ℕ, Bool, List, Option, Some, None, sym, ap, subst}
use Rattle.talks.specs.declared.talk.MessageFront.{MessageFront}
use Rattle.talks.specs.declared.talk.Talk.{Ghosts}
use Rattle.talks.specs.declared.want.Want.{Want}
use Rattle.talks.specs.declared.want.Reply.{Reply}
use Rattle.heading_talks.specs.HeadingFrames.{next_heading, taken_if}
use Rattle.heading_talks.specs.HeadingTalks.{HearsMessage, LearnsReply, RejectsMessage, asked_by, asked_session, front_over, wanted}
use Rattle.heading_talks.specs.declared.heading_talk.HeadingTalk.{HeadingTalk}
use Rattle.served_tenants.specs.Saying.{SpeaksOnce}

module _ {T : Type 0} (k : Ghosts T) (Alike : T → T → Type 0) (speaks : SpeaksOnce k Alike) where
  abbrev AskAlike : HeadingTalk T → HeadingTalk T → Type 0
  AskAlike t u = (t.may_ask ≡ u.may_ask) × (t.question ≡ u.question) × Alike t.talk u.talk

  -- the conversations inside stand as before
  inside_stays : (t u v w : T) → Alike t u → v ≡ t → w ≡ u → Alike v w
  inside_stays t u v w alike here there = subst (λ (x : T). Alike x w) (sym here) (subst (λ (x : T). Alike t x) (sym there) alike)

  heard_once : (o : Option Want) (t u v w : HeadingTalk T) (message said also : List ℕ) → AskAlike t u → HearsMessage k o t message said v → HearsMessage k o u message also w → (said ≡ also) × AskAlike v w
  heard_once (Some question) t u v w message said also alike one other =
      (one.0 ∙ sym other.0, (one.3 ∙ alike.0 ∙ sym other.3, one.1 ∙ sym other.1, inside_stays t.talk u.talk v.talk w.talk alike.2 one.2 other.2))
  heard_once None t u v w message said also alike one other =
      let both = speaks.hears t.talk u.talk v.talk w.talk message said also alike.2 one.0 other.0 in
      (both.0, (one.2 ∙ alike.0 ∙ sym other.2, one.1 ∙ sym other.1, both.1))

  learnt_once : (o : Option ℕ) (t u v w : HeadingTalk T) (r : Reply) (said also : List ℕ) → AskAlike t u → LearnsReply k o t r said v → LearnsReply k o u r also w → (said ≡ also) × AskAlike v w
  learnt_once (Some session) t u v w r said also alike one other =
      (one.0 ∙ sym other.0, (one.3 ∙ alike.0 ∙ sym other.3, one.1 ∙ sym other.1, inside_stays t.talk u.talk v.talk w.talk alike.2 one.2 other.2))
  learnt_once None t u v w r said also alike one other =
      let both = speaks.learns t.talk u.talk v.talk w.talk r said also alike.2 one.0 other.0 in
      (both.0, (one.2 ∙ alike.0 ∙ sym other.2, one.1 ∙ sym other.1, both.1))

  rejected_once : (t u v w : HeadingTalk T) (said also : List ℕ) → AskAlike t u → RejectsMessage k t said v → RejectsMessage k u also w → (said ≡ also) × AskAlike v w
  rejected_once t u v w said also alike one other =
      let both = speaks.rejects t.talk u.talk v.talk w.talk said also alike.2 one.0 other.0 in
      (both.0, (one.2 ∙ alike.0 ∙ sym other.2, one.1 ∙ sym other.1, both.1))

  module _ (outer : Ghosts (HeadingTalk T))
      (wants_is : (t : HeadingTalk T) → outer.wants t ≡ wanted (asked_session t.question) t.question (k.wants t.talk))
      (front_is : (t : HeadingTalk T) (bytes : List ℕ) → outer.front t bytes ≡ front_over (taken_if t.may_ask (next_heading bytes)) (k.front t.talk bytes))
      (hears_is : (t u : HeadingTalk T) (message said : List ℕ) → outer.hears t message said u → HearsMessage k (asked_by (taken_if t.may_ask (next_heading message))) t message said u)
      (rejects_is : (t u : HeadingTalk T) (said : List ℕ) → outer.rejects t said u → RejectsMessage k t said u)
      (learns_is : (t u : HeadingTalk T) (r : Reply) (said : List ℕ) → outer.learns t r said u → LearnsReply k (asked_session t.question) t r said u) where
    pub asked_once : SpeaksOnce outer AskAlike
    asked_once = record {
      wants = λ t u alike. wants_is t ∙ ap (λ (q : Want). wanted (asked_session q) q (k.wants t.talk)) alike.1
          ∙ ap (λ (x : Want). wanted (asked_session u.question) u.question x) (speaks.wants t.talk u.talk alike.2) ∙ sym (wants_is u);
      front = λ t u bytes alike. front_is t bytes ∙ ap (λ (b : Bool). front_over (taken_if b (next_heading bytes)) (k.front t.talk bytes)) alike.0
          ∙ ap (λ (x : MessageFront). front_over (taken_if u.may_ask (next_heading bytes)) x) (speaks.front t.talk u.talk bytes alike.2) ∙ sym (front_is u bytes);
      hears = λ t u v w message said also alike one other.
          heard_once (asked_by (taken_if t.may_ask (next_heading message))) t u v w message said also alike (hears_is t v message said one)
          (subst (λ (b : Bool). HearsMessage k (asked_by (taken_if b (next_heading message))) u message also w) (sym alike.0) (hears_is u w message also other));
      rejects = λ t u v w said also alike one other. rejected_once t u v w said also alike (rejects_is t v said one) (rejects_is u w also other);
      learns = λ t u v w r said also alike one other.
          learnt_once (asked_session t.question) t u v w r said also alike (learns_is t v r said one)
          (subst (λ (q : Want). LearnsReply k (asked_session q) u r also w) (sym alike.1) (learns_is u w r also other));
    }
