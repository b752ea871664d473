-- What a client hears that asks nothing.
use Rattle.std.proofs.Common.{◌≡◌, ◌⊎◌, ◌∙◌, ℕ, Bool, true, false, List, [], ◌∷◌, ◌++◌, take, drop, Option, None, inl, inr, refl, ap, sym, subst}
use Rattle.std.proofs.lemmas.List.{take-append-drop}
use Rattle.talks.specs.Wants.{Learnt, FitsWant}
use Rattle.talks.specs.Conversations.{Heard, stays, hears, rejects, learns, loses, breaks}
use Rattle.talks.specs.declared.talk.MessageFront.{MessageFront}
use Rattle.talks.specs.declared.talk.MessageFront.TheVariants.{Nothing, Whole, Bad}
use Rattle.talks.specs.declared.talk.Talk.{Ghosts}
use Rattle.talks.specs.declared.want.Want.{Want}
use Rattle.talks.specs.declared.want.Want.TheVariants as want
use Rattle.talks.specs.declared.want.Reply.{Reply}
use Rattle.heading_talks.specs.Courses.{ReachesQuestion}
use Rattle.heading_talks.specs.FrontLaws.{more_asks}
use Rattle.heading_talks.specs.HeadingFrames.{NextHeading, part, asks, other, next_heading, taken_if}
use Rattle.heading_talks.specs.HeadingTalks.{HearsMessage, LearnsReply, RejectsMessage, asked_by, asked_session, front_over, wanted}
use Rattle.heading_talks.specs.declared.heading_talk.HeadingTalk.{HeadingTalk}
use Rattle.heading_talks.proofs.Wanting.{inner_lost}

-- ---- one step

-- what is wanted where nothing was asked
idle_wants : (q w v : Want) → q ≡ want.Message → wanted (asked_session q) q w ≡ v → w ≡ v
idle_wants q w v none is = sym (ap (λ (p : Want). wanted (asked_session p) p w) none) ∙ is

-- a message that is at the front of bytes that ask nothing asks nothing
asks_none : (bytes : List ℕ) (n : ℕ) (f : NextHeading) → next_heading bytes ≡ other → next_heading (take n bytes) ≡ f → asked_by f ≡ None
asks_none bytes n part at is = refl
asks_none bytes n other at is = refl
asks_none bytes n (asks session text size) at is =
    let more : next_heading (take n bytes ++ drop n bytes) ≡ asks session text size = more_asks (take n bytes) (drop n bytes) session text size is in
    let wrong : other ≡ asks session text size = sym at ∙ ap next_heading (sym (take-append-drop n bytes)) ∙ more in cc

asks_none_if : (b : Bool) (bytes : List ℕ) (n : ℕ) → taken_if b (next_heading bytes) ≡ other → asked_by (taken_if b (next_heading (take n bytes))) ≡ None
asks_none_if true bytes n at = asks_none bytes n (next_heading (take n bytes)) at refl
asks_none_if false bytes n at = refl

-- where a client may ask, what is taken stands there
taken_there : (b : Bool) (h : NextHeading) (session : ℕ) (text : List ℕ) (size : ℕ) → taken_if b h ≡ asks session text size → (b ≡ true) × (h ≡ asks session text size)
taken_there true h session text size is = (refl, is)
taken_there false h session text size is = let wrong : other ≡ asks session text size = is in cc

module _ {T : Type 0} (k : Ghosts T) where
  -- one thing more that the conversation inside has heard, before it comes to a frame that asks
  after_hearing : {t u : T} {bytes said : List ℕ} (n : ℕ) → k.wants t ≡ want.Message → k.front t bytes ≡ Whole n → k.hears t (take n bytes) said u → ReachesQuestion k u (drop n bytes) → ReachesQuestion k t bytes
  after_hearing {said = said} n wants front says later = record {
    learnt_before = later.learnt_before;
    said_before = said ++ later.said_before;
    front = later.front;
    stands = later.stands;
    heard = hears n wants front says later.heard;
    wants = later.wants;
    session = later.session;
    text = later.text;
    size = later.size;
    asked = later.asked;
  }

  after_rejecting : {t u : T} {bytes said : List ℕ} → k.wants t ≡ want.Message → k.front t bytes ≡ Bad → k.rejects t said u → ReachesQuestion k u bytes → ReachesQuestion k t bytes
  after_rejecting {said = said} wants front says later = record {
    learnt_before = later.learnt_before;
    said_before = said ++ later.said_before;
    front = later.front;
    stands = later.stands;
    heard = rejects wants front says later.heard;
    wants = later.wants;
    session = later.session;
    text = later.text;
    size = later.size;
    asked = later.asked;
  }

  after_learning : {t u : T} {bytes said : List ℕ} (x : Learnt) → k.wants t ≡ x.want → FitsWant x.want x.reply → k.learns t x.reply said u → ReachesQuestion k u bytes → ReachesQuestion k t bytes
  after_learning {said = said} x wants fits says later = record {
    learnt_before = x ∷ later.learnt_before;
    said_before = said ++ later.said_before;
    front = later.front;
    stands = later.stands;
    heard = learns x wants fits says later.heard;
    wants = later.wants;
    session = later.session;
    text = later.text;
    size = later.size;
    asked = later.asked;
  }

  asks_here : {t : T} {bytes : List ℕ} (session : ℕ) (text : List ℕ) (size : ℕ) → k.wants t ≡ want.Message → next_heading bytes ≡ asks session text size → ReachesQuestion k t bytes
  asks_here {t} {bytes} session text size wants at = record {
    learnt_before = [];
    said_before = [];
    front = bytes;
    stands = t;
    heard = stays;
    wants = wants;
    session = session;
    text = text;
    size = size;
    asked = at;
  }

  -- ---- all that is heard

  module _ (outer : Ghosts (HeadingTalk T))
      (wants_is : (t : HeadingTalk T) → outer.wants t ≡ wanted (asked_session t.question) t.question (k.wants t.talk))
      (front_is : (t : HeadingTalk T) (bytes : List ℕ) → outer.front t bytes ≡ front_over (taken_if t.may_ask (next_heading bytes)) (k.front t.talk bytes))
      (hears_is : (t u : HeadingTalk T) (message said : List ℕ) → outer.hears t message said u → HearsMessage k (asked_by (taken_if t.may_ask (next_heading message))) t message said u)
      (rejects_is : (t u : HeadingTalk T) (said : List ℕ) → outer.rejects t said u → RejectsMessage k t said u)
      (learns_is : (t u : HeadingTalk T) (r : Reply) (said : List ℕ) → outer.learns t r said u → LearnsReply k (asked_session t.question) t r said u) where
    -- once memory was refused nothing is heard, learnt or said
    silent : {t u : HeadingTalk T} {bytes said rest : List ℕ} {xs : List Learnt} → Heard outer t bytes xs said rest u → outer.wants t ≡ want.OutOfMemory
        → (xs ≡ []) × (said ≡ []) × (rest ≡ bytes) × (outer.wants u ≡ want.OutOfMemory)
    silent stays lost = (refl, refl, refl, lost)
    silent (hears n wants front says later) lost = let wrong : want.Message ≡ want.OutOfMemory = sym wants ∙ lost in cc
    silent (rejects wants front says later) lost = let wrong : want.Message ≡ want.OutOfMemory = sym wants ∙ lost in cc
    silent (learns x wants fits says later) lost = absurd (subst (λ (w : Want). FitsWant w x.reply) (sym wants ∙ lost) fits)
    silent (loses x wants fits end later) lost = absurd (subst (λ (w : Want). FitsWant w x.reply) (sym wants ∙ lost) fits)
    silent (breaks end later) lost = silent later end

    own_wants : (t : HeadingTalk T) (w : Want) → t.question ≡ want.Message → outer.wants t ≡ w → k.wants t.talk ≡ w
    own_wants t w none is = idle_wants t.question (k.wants t.talk) w none (sym (wants_is t) ∙ is)

    own_front : (t : HeadingTalk T) (bytes : List ℕ) (f : MessageFront) → taken_if t.may_ask (next_heading bytes) ≡ other → outer.front t bytes ≡ f → k.front t.talk bytes ≡ f
    own_front t bytes f at is = sym (ap (λ (h : NextHeading). front_over h (k.front t.talk bytes)) at) ∙ sym (front_is t bytes) ∙ is

    own_hears : (t u : HeadingTalk T) (bytes said : List ℕ) (n : ℕ) → taken_if t.may_ask (next_heading bytes) ≡ other → outer.hears t (take n bytes) said u
        → k.hears t.talk (take n bytes) said u.talk × (u.question ≡ want.Message) × (u.may_ask ≡ t.may_ask)
    own_hears t u bytes said n at says =
        subst (λ (o : Option Want). HearsMessage k o t (take n bytes) said u) (asks_none_if t.may_ask bytes n at) (hears_is t u (take n bytes) said says)

    own_learns : (t u : HeadingTalk T) (r : Reply) (said : List ℕ) → t.question ≡ want.Message → outer.learns t r said u
        → k.learns t.talk r said u.talk × (u.question ≡ want.Message) × (u.may_ask ≡ t.may_ask)
    own_learns t u r said none says = subst (λ (o : Option ℕ). LearnsReply k o t r said u) (ap asked_session none) (learns_is t u r said says)

    -- memory was refused, and nothing more was heard
    lost_there : {u v : HeadingTalk T} {bytes also rest : List ℕ} {ys : List Learnt} → Heard outer u bytes ys also rest v → outer.wants u ≡ want.OutOfMemory
        → (k.wants v.talk ≡ want.OutOfMemory) × (ys ≡ []) × (also ≡ []) × (rest ≡ bytes)
    lost_there {v = v} later end =
        let none = silent later end in
        (inner_lost v.question (k.wants v.talk) (sym (wants_is v) ∙ none.3), none.0, none.1, none.2)

    -- what a front is: none, a frame that asks, or what the conversation inside sees
    data FrontCase (t : HeadingTalk T) (bytes : List ℕ) : Type 0 where
      no_front : outer.front t bytes ≡ Nothing → FrontCase t bytes
      asks_so : (session : ℕ) (text : List ℕ) (size : ℕ) → t.may_ask ≡ true → next_heading bytes ≡ asks session text size → FrontCase t bytes
      own : taken_if t.may_ask (next_heading bytes) ≡ other → FrontCase t bytes

    front_case_of : (t : HeadingTalk T) (bytes : List ℕ) (h : NextHeading) → taken_if t.may_ask (next_heading bytes) ≡ h → FrontCase t bytes
    front_case_of t bytes part at = no_front (front_is t bytes ∙ ap (λ (h : NextHeading). front_over h (k.front t.talk bytes)) at)
    front_case_of t bytes (asks session text size) at =
        let it = taken_there t.may_ask (next_heading bytes) session text size at in
        asks_so session text size it.0 it.1
    front_case_of t bytes other at = own at

    nothing_whole : (f : MessageFront) (n : ℕ) {X : Type 0} → f ≡ Nothing → f ≡ Whole n → X
    nothing_whole f n is front = let wrong : Nothing ≡ Whole n = sym is ∙ front in cc

    nothing_bad : (f : MessageFront) {X : Type 0} → f ≡ Nothing → f ≡ Bad → X
    nothing_bad f is front = let wrong : Nothing ≡ Bad = sym is ∙ front in cc

    heard_alone : {t u : HeadingTalk T} {bytes said rest : List ℕ} {xs : List Learnt} → Heard outer t bytes xs said rest u → t.question ≡ want.Message
        → Heard k t.talk bytes xs said rest u.talk ⊎ ((t.may_ask ≡ true) × ReachesQuestion k t.talk bytes)
    heard_alone stays none = inl stays
    heard_alone {t = t} (hears {u = u} {bytes = bytes} {said = saying} n wants front says later) none = elim (front_case_of t bytes (taken_if t.may_ask (next_heading bytes)) refl) [
      | no_front is ↦ nothing_whole (outer.front t bytes) n is front
      | asks_so session text size may at ↦ inr (may, asks_here session text size (own_wants t want.Message none wants) at)
      | own at ↦
          let it = own_hears t u bytes saying n at says in
          let wants_one = own_wants t want.Message none wants in
          let there = own_front t bytes (Whole n) at front in
          elim (heard_alone later it.1) [
            | inl alone ↦ inl (hears n wants_one there it.0 alone)
            | inr asked ↦ inr (sym it.2 ∙ asked.0, after_hearing n wants_one there it.0 asked.1)
          ]
    ]
    heard_alone {t = t} (rejects {u = u} {bytes = bytes} {said = saying} wants front says later) none = elim (front_case_of t bytes (taken_if t.may_ask (next_heading bytes)) refl) [
      | no_front is ↦ nothing_bad (outer.front t bytes) is front
      | asks_so session text size may at ↦ inr (may, asks_here session text size (own_wants t want.Message none wants) at)
      | own at ↦
          let it = rejects_is t u saying says in
          let wants_one = own_wants t want.Message none wants in
          let there = own_front t bytes Bad at front in
          elim (heard_alone later it.1) [
            | inl alone ↦ inl (rejects wants_one there it.0 alone)
            | inr asked ↦ inr (sym it.2 ∙ asked.0, after_rejecting wants_one there it.0 asked.1)
          ]
    ]
    heard_alone {t = t} (learns {u = u} {said = saying} x wants fits says later) none =
        let it = own_learns t u x.reply saying none says in
        let wanted_it = own_wants t x.want none wants in
        elim (heard_alone later it.1) [
          | inl alone ↦ inl (learns x wanted_it fits it.0 alone)
          | inr asked ↦ inr (sym it.2 ∙ asked.0, after_learning x wanted_it fits it.0 asked.1)
        ]
    heard_alone {t = t} {u = v} {rest = rest} (loses {bytes = bytes} {also = also} {xs = ys} x wants fits end later) none =
        let lost = lost_there later end in
        rw (lost.1, lost.2, lost.3) (inl (loses x (own_wants t x.want none wants) fits lost.0 stays))
    heard_alone {t = t} {u = v} {rest = rest} (breaks {bytes = bytes} {also = also} {xs = ys} end later) none =
        let lost = lost_there later end in
        rw (lost.1, lost.2, lost.3) (inl (breaks lost.0 stays))

    pub heard_same : {t u : HeadingTalk T} {bytes said rest : List ℕ} {xs : List Learnt} → Heard outer t bytes xs said rest u → t.question ≡ want.Message → t.may_ask ≡ false
        → Heard k t.talk bytes xs said rest u.talk
    heard_same {t = t} heard none may_not = elim (heard_alone heard none) [
      | inl alone ↦ alone
      | inr asked ↦ let wrong : true ≡ false = sym asked.0 ∙ may_not in cc
    ]

    pub heard_or_asked : {t u : HeadingTalk T} {bytes said rest : List ℕ} {xs : List Learnt} → Heard outer t bytes xs said rest u → t.question ≡ want.Message
        → Heard k t.talk bytes xs said rest u.talk ⊎ ReachesQuestion k t.talk bytes
    heard_or_asked heard none = elim (heard_alone heard none) [
      | inl alone ↦ inl alone
      | inr asked ↦ inr asked.1
    ]
