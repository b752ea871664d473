-- What is heard of the bytes of a client that sends frames.
use Rattle.std.proofs.Common.{◌≡◌, ◌⊎◌, ◌∙◌, ℕ, Bool, true, false, List, [], ◌∷◌, ◌++◌, length, take, drop, inl, inr, refl, ap, sym, subst, arith}
use Rattle.std.proofs.lemmas.List.{append-nil, append_assoc, length-append}
use Rattle.sql_types.specs.declared.answer.Answer.{Answer}
use Rattle.sql_types.specs.declared.event.Event.{Event}
use Rattle.sql_types.specs.declared.event.Event.TheVariants as event
use Rattle.wire.specs.Answers.{frames_of, all_frames}
use Rattle.wire.specs.Frame.{NextFrame, incomplete, bad, whole, next_frame}
use Rattle.wire.specs.Stream.{ending, Spells}
use Rattle.wire.proofs.NextFrames.{whole_alone}
use Rattle.talks.specs.Wants.{Learnt, learnt, FitsWant}
use Rattle.talks.specs.Conversations.{Heard, stays, hears, rejects, learns, loses, breaks}
use Rattle.talks.specs.declared.talk.Talk.{Ghosts}
use Rattle.talks.specs.declared.talk.MessageFront.TheVariants.{Nothing, Whole, Bad}
use Rattle.talks.specs.declared.want.Want.{Want}
use Rattle.talks.specs.declared.want.Want.TheVariants as want
use Rattle.talks.specs.declared.want.Reply.{Reply}
use Rattle.talks.specs.declared.want.Reply.TheVariants as reply
use Rattle.frame_talks.specs.FrameTalks.{front_of, wanted_for, RefusesFrame, HearsFrame, asked_session, said_to}
use Rattle.frame_talks.specs.Served.{learnt_of, AnswersFrames, BeginsWithFrames, HasAnswered, FrameTalkStands, listens, asks, ends, StandsOrGaveUp}

-- ---- lists

learnt_on : (es : List Event) (bs : List Answer) (e : Event) (a : Answer) → length bs ≡ length es → learnt_of es bs ++ learnt (wanted_for e) (reply.Answer a) ∷ [] ≡ learnt_of (es ++ e ∷ []) (bs ++ a ∷ [])
learnt_on [] [] e a n = refl
learnt_on [] (b ∷ bs) e a n = cc
learnt_on (d ∷ es) [] e a n = cc
learnt_on (d ∷ es) (b ∷ bs) e a n = ap (λ (l : List Learnt). learnt (wanted_for d) (reply.Answer b) ∷ l) (learnt_on es bs e a (omega (arith, n)))

frames_on : (es : List Event) (bs : List Answer) (e : Event) (a : Answer) → length bs ≡ length es → all_frames es bs ++ frames_of e a ≡ all_frames (es ++ e ∷ []) (bs ++ a ∷ [])
frames_on [] [] e a n = sym (append-nil (frames_of e a))
frames_on [] (b ∷ bs) e a n = cc
frames_on (d ∷ es) [] e a n = cc
frames_on (d ∷ es) (b ∷ bs) e a n = append_assoc (frames_of d b) (all_frames es bs) (frames_of e a) ∙ ap (λ (l : List ℕ). frames_of d b ++ l) (frames_on es bs e a (omega (arith, n)))

-- one event more at the front
begins_on : (bytes : List ℕ) (es : List Event) (rest : List ℕ) (e : Event) (n : ℕ) → BeginsWithFrames bytes es rest → next_frame rest ≡ whole e n → BeginsWithFrames bytes (es ++ e ∷ []) (drop n rest)
begins_on bytes [] rest e n is at = (n, ap next_frame (sym is) ∙ at, ap (drop n) is)
begins_on bytes (d ∷ es) rest e n is at = (is.0, is.1, begins_on (drop is.0 bytes) es rest e n is.2 at)

spells_of : (bytes : List ℕ) (es : List Event) (rest : List ℕ) (b : Bool) → BeginsWithFrames bytes es rest → next_frame rest ≡ ending b → Spells bytes es b rest
spells_of bytes [] rest b is at = (ap next_frame (sym is) ∙ at, is)
spells_of bytes (e ∷ es) rest b is at = (is.0, is.1, spells_of (drop is.0 bytes) es rest b is.2 at)

-- ---- what is wanted

is_message : (e : Event) {X : Type 0} → want.Message ≡ wanted_for e → X
is_message (event.Open n login) h = cc
is_message (event.Statement n text) h = cc
is_message (event.Close n) h = cc

is_end : (e : Event) (late : Bool) {X : Type 0} → want.End late ≡ wanted_for e → X
is_end (event.Open n login) late h = cc
is_end (event.Statement n text) late h = cc
is_end (event.Close n) late h = cc

is_lost : (e : Event) {X : Type 0} → want.OutOfMemory ≡ wanted_for e → X
is_lost (event.Open n login) h = cc
is_lost (event.Statement n text) h = cc
is_lost (event.Close n) h = cc

-- a reply to an event is its answer, whose frames are said
pub record IsAnswer (e : Event) (r : Reply) : Type 0 where
  pub answer : Answer
  pub is : r ≡ reply.Answer answer
  pub said : said_to (asked_session (wanted_for e)) r ≡ frames_of e answer

is_answer : (e : Event) (r : Reply) → FitsWant (wanted_for e) r → IsAnswer e r
is_answer (event.Open n login) (reply.Answer a) fits = record { answer = a; is = refl; said = refl }
is_answer (event.Statement n text) (reply.Answer a) fits = record { answer = a; is = refl; said = refl }
is_answer (event.Close n) (reply.Answer a) fits = record { answer = a; is = refl; said = refl }
is_answer (event.Open n login) (reply.Standing b) fits = absurd fits
is_answer (event.Statement n text) (reply.Standing b) fits = absurd fits
is_answer (event.Close n) (reply.Standing b) fits = absurd fits
is_answer (event.Open n login) (reply.Description d) fits = absurd fits
is_answer (event.Statement n text) (reply.Description d) fits = absurd fits
is_answer (event.Close n) (reply.Description d) fits = absurd fits
is_answer (event.Open n login) (reply.Verifier v) fits = absurd fits
is_answer (event.Statement n text) (reply.Verifier v) fits = absurd fits
is_answer (event.Close n) (reply.Verifier v) fits = absurd fits

whole_of : (f : NextFrame) (n : ℕ) → front_of f ≡ Whole n → (e : Event) × (f ≡ whole e n)
whole_of incomplete n h = cc
whole_of bad n h = cc
whole_of (whole e size) n h = (e, cc)

bad_of : (f : NextFrame) → front_of f ≡ Bad → f ≡ bad
bad_of incomplete h = cc
bad_of bad h = refl
bad_of (whole e size) h = cc

incomplete_of : (f : NextFrame) → front_of f ≡ Nothing → f ≡ incomplete
incomplete_of incomplete h = refl
incomplete_of bad h = cc
incomplete_of (whole e size) h = cc

-- ---- one step

step_hears : (A : List ℕ) (xs : List Learnt) (said bytes : List ℕ) (w v : Want) (e : Event) (n : ℕ) (saying : List ℕ) → FrameTalkStands A xs said bytes w → w ≡ want.Message → next_frame bytes ≡ whole e n
    → saying ≡ [] → v ≡ wanted_for e → FrameTalkStands A xs (said ++ saying) (drop n bytes) v
step_hears A xs said bytes w v e n saying (listens is it) wants at none then = asks e then (record {
  events = it.events;
  answers = it.answers;
  one_each = it.one_each;
  begins = begins_on A it.events bytes e n (rw (append-nil it.events) at it.begins) at;
  learnt_is = it.learnt_is;
  said_is = rw (none, append-nil said) it.said_is;
})
step_hears A xs said bytes w v e n saying (asks d is it) wants at none then = is_message d (sym wants ∙ is)
step_hears A xs said bytes w v e n saying (ends is front it) wants at none then = let wrong : want.Message ≡ want.End false = sym wants ∙ is in cc

step_rejects : (A : List ℕ) (xs : List Learnt) (said bytes : List ℕ) (w v : Want) (saying : List ℕ) → FrameTalkStands A xs said bytes w → w ≡ want.Message → next_frame bytes ≡ bad
    → RefusesFrame saying v → FrameTalkStands A xs (said ++ saying) bytes v
step_rejects A xs said bytes w v saying (listens is it) wants at refuses = ends refuses.1 at (record {
  events = it.events;
  answers = it.answers;
  one_each = it.one_each;
  begins = it.begins;
  learnt_is = it.learnt_is;
  said_is = ap (λ (l : List ℕ). l ++ saying) (it.said_is ∙ append-nil (all_frames it.events it.answers)) ∙ ap (λ (l : List ℕ). all_frames it.events it.answers ++ l) refuses.0;
})
step_rejects A xs said bytes w v saying (asks d is it) wants at refuses = is_message d (sym wants ∙ is)
step_rejects A xs said bytes w v saying (ends is front it) wants at refuses = let wrong : want.Message ≡ want.End false = sym wants ∙ is in cc

answered : (A : List ℕ) (xs : List Learnt) (said bytes : List ℕ) (e : Event) (r : Reply) (saying : List ℕ) → HasAnswered A xs said bytes (e ∷ []) [] → IsAnswer e r
    → saying ≡ said_to (asked_session (wanted_for e)) r → HasAnswered A (xs ++ learnt (wanted_for e) r ∷ []) (said ++ saying) bytes [] []
answered A xs said bytes e r saying it answer says = record {
  events = it.events ++ e ∷ [];
  answers = it.answers ++ answer.answer ∷ [];
  one_each = omega (arith, length-append it.events (e ∷ []), length-append it.answers (answer.answer ∷ []), it.one_each);
  begins = rw (append-nil (it.events ++ e ∷ [])) it.begins;
  learnt_is = ap (λ (l : List Learnt). l ++ learnt (wanted_for e) r ∷ []) it.learnt_is
      ∙ ap (λ (s : Reply). learnt_of it.events it.answers ++ learnt (wanted_for e) s ∷ []) answer.is ∙ learnt_on it.events it.answers e answer.answer it.one_each;
  said_is = ap (λ (l : List ℕ). l ++ saying) (it.said_is ∙ append-nil (all_frames it.events it.answers))
      ∙ ap (λ (l : List ℕ). all_frames it.events it.answers ++ l) (says ∙ answer.said)
      ∙ frames_on it.events it.answers e answer.answer it.one_each ∙ sym (append-nil (all_frames (it.events ++ e ∷ []) (it.answers ++ answer.answer ∷ [])));
}

step_learns : (A : List ℕ) (xs : List Learnt) (said bytes : List ℕ) (w v : Want) (r : Reply) (saying : List ℕ) → FrameTalkStands A xs said bytes w → FitsWant w r
    → saying ≡ said_to (asked_session w) r → v ≡ want.Message → FrameTalkStands A (xs ++ learnt w r ∷ []) (said ++ saying) bytes v
step_learns A xs said bytes w v r saying (listens is it) fits says then = absurd (subst (λ (u : Want). FitsWant u r) is fits)
step_learns A xs said bytes w v r saying (ends is front it) fits says then = absurd (subst (λ (u : Want). FitsWant u r) is fits)
step_learns A xs said bytes w v r saying (asks e is it) fits says then =
    let answer = is_answer e r (subst (λ (u : Want). FitsWant u r) is fits) in
    listens then (subst (λ (u : Want). HasAnswered A (xs ++ learnt u r ∷ []) (said ++ saying) bytes [] []) (sym is)
    (answered A xs said bytes e r saying it answer (says ∙ ap (λ (u : Want). said_to (asked_session u) r) is)))

-- ---- all steps

module _ {T : Type 0} (k : Ghosts T)
    (front_is : (t : T) (bytes : List ℕ) → k.front t bytes ≡ front_of (next_frame bytes))
    (hears_is : (t u : T) (message said : List ℕ) → k.hears t message said u → HearsFrame (next_frame message) said (k.wants u))
    (rejects_is : (t u : T) (said : List ℕ) → k.rejects t said u → RefusesFrame said (k.wants u))
    (learns_is : (t u : T) (r : Reply) (said : List ℕ) → k.learns t r said u → (said ≡ said_to (asked_session (k.wants t)) r) × (k.wants u ≡ want.Message)) where
  -- once memory was refused nothing is heard, learnt or said
  silent : {t u : T} {bytes said rest : List ℕ} {xs : List Learnt} → Heard k t bytes xs said rest u → k.wants t ≡ want.OutOfMemory
      → (xs ≡ []) × (said ≡ []) × (rest ≡ bytes) × (k.wants u ≡ want.OutOfMemory)
  silent stays lost = (refl, refl, refl, lost)
  silent (hears n wants front says later) lost = let wrong : want.Message ≡ want.OutOfMemory = sym wants ∙ lost in cc
  silent (rejects wants front says later) lost = let wrong : want.Message ≡ want.OutOfMemory = sym wants ∙ lost in cc
  silent (learns x wants fits says later) lost = absurd (subst (λ (w : Want). FitsWant w x.reply) (sym wants ∙ lost) fits)
  silent (loses x wants fits end later) lost = absurd (subst (λ (w : Want). FitsWant w x.reply) (sym wants ∙ lost) fits)
  silent (breaks end later) lost = silent later end

  gave_up : (A : List ℕ) (before xs : List Learnt) (said : List ℕ) (w : Want) {u v : T} {bytes also rest : List ℕ} {ys : List Learnt} → FrameTalkStands A before said bytes w
      → (xs ≡ before) ⊎ ((r : Reply) × FitsWant w r × (xs ≡ before ++ learnt w r ∷ [])) → Heard k u bytes ys also rest v → k.wants u ≡ want.OutOfMemory
      → StandsOrGaveUp A (xs ++ ys) (said ++ also) rest (k.wants v)
  gave_up A before xs said w {u = u} {v = v} {bytes = bytes} {also = also} {rest = rest} {ys = ys} stood lost later end =
      let none = silent later end in
      inr (none.3, rw (none.0, none.1, none.2, append-nil xs, append-nil said) (record { wanted = w; before = before; stood = stood; lost = lost }))

  pub stands_on : (A : List ℕ) (xs : List Learnt) (said : List ℕ) {t u : T} {bytes also rest : List ℕ} {ys : List Learnt} → FrameTalkStands A xs said bytes (k.wants t) → Heard k t bytes ys also rest u
      → StandsOrGaveUp A (xs ++ ys) (said ++ also) rest (k.wants u)
  stands_on A xs said {t = t} {rest = rest} stood stays = inl (rw (append-nil xs, append-nil said) stood)
  stands_on A xs said {u = v} {rest = rest} stood (hears {t = t} {u = u} {bytes = bytes} {said = saying} {also = also} {xs = ys} n wants front says later) =
      let at = whole_of (next_frame bytes) n (sym (front_is t bytes) ∙ front) in
      let heard : HearsFrame (whole at.0 n) saying (k.wants u) = subst (λ (f : NextFrame). HearsFrame f saying (k.wants u)) (whole_alone bytes at.0 n at.1) (hears_is t u (take n bytes) saying says) in
      subst (λ (l : List ℕ). StandsOrGaveUp A (xs ++ ys) l rest (k.wants v)) (append_assoc said saying also)
      (stands_on A xs (said ++ saying) (step_hears A xs said bytes (k.wants t) (k.wants u) at.0 n saying stood wants at.1 heard.0 heard.1) later)
  stands_on A xs said {u = v} {rest = rest} stood (rejects {t = t} {u = u} {bytes = bytes} {said = saying} {also = also} {xs = ys} wants front says later) =
      let at = bad_of (next_frame bytes) (sym (front_is t bytes) ∙ front) in
      subst (λ (l : List ℕ). StandsOrGaveUp A (xs ++ ys) l rest (k.wants v)) (append_assoc said saying also)
      (stands_on A xs (said ++ saying) (step_rejects A xs said bytes (k.wants t) (k.wants u) saying stood wants at (rejects_is t u saying says)) later)
  stands_on A xs said {u = v} {rest = rest} stood (learns {t = t} {u = u} {bytes = bytes} {said = saying} {also = also} {xs = ys} x wants fits says later) =
      let it = learns_is t u x.reply saying says in
      let next : FrameTalkStands A (xs ++ x ∷ []) (said ++ saying) bytes (k.wants u) =
      subst (λ (w : Want). FrameTalkStands A (xs ++ learnt w x.reply ∷ []) (said ++ saying) bytes (k.wants u)) wants
      (step_learns A xs said bytes (k.wants t) (k.wants u) x.reply saying stood (subst (λ (w : Want). FitsWant w x.reply) (sym wants) fits) it.0 it.1) in
      subst (λ (l : List Learnt). StandsOrGaveUp A l (said ++ (saying ++ also)) rest (k.wants v)) (append_assoc xs (x ∷ []) ys)
      (subst (λ (l : List ℕ). StandsOrGaveUp A ((xs ++ x ∷ []) ++ ys) l rest (k.wants v)) (append_assoc said saying also) (stands_on A (xs ++ x ∷ []) (said ++ saying) next later))
  stands_on A xs said {u = v} {rest = rest} stood (loses {t = t} {u = u} {bytes = bytes} {also = also} {xs = ys} x wants fits end later) =
      subst (λ (l : List Learnt). StandsOrGaveUp A l (said ++ also) rest (k.wants v)) (append_assoc xs (x ∷ []) ys)
      (gave_up A xs (xs ++ x ∷ []) said (k.wants t) stood (inr (x.reply, subst (λ (w : Want). FitsWant w x.reply) (sym wants) fits, ap (λ (w : Want). xs ++ learnt w x.reply ∷ []) (sym wants))) later end)
  stands_on A xs said {u = v} {rest = rest} stood (breaks {t = t} {u = u} {bytes = bytes} {also = also} {xs = ys} end later) = gave_up A xs xs said (k.wants t) stood (inl refl) later end

  begun : (t : T) (bytes : List ℕ) → k.wants t ≡ want.Message → FrameTalkStands bytes [] [] bytes (k.wants t)
  begun t bytes starts = listens starts (record { events = []; answers = []; one_each = refl; begins = refl; learnt_is = refl; said_is = refl })

  pub stands_now : {t u : T} {bytes said rest : List ℕ} {xs : List Learnt} → k.wants t ≡ want.Message → Heard k t bytes xs said rest u → StandsOrGaveUp bytes xs said rest (k.wants u)
  stands_now {t = t} {bytes = bytes} starts heard = stands_on bytes [] [] (begun t bytes starts) heard

-- ---- at the end

pub served_all : (bytes : List ℕ) (xs : List Learnt) (said rest : List ℕ) (w : Want) → StandsOrGaveUp bytes xs said rest w → w ≡ want.Message → front_of (next_frame rest) ≡ Nothing
    → AnswersFrames bytes xs said false rest
served_all bytes xs said rest w (inl (listens is it)) wants front = record {
  events = it.events;
  answers = it.answers;
  one_each = it.one_each;
  spelled = spells_of bytes it.events rest false (rw (append-nil it.events) at it.begins) (incomplete_of (next_frame rest) front);
  learnt_is = it.learnt_is;
  said_is = it.said_is;
}
served_all bytes xs said rest w (inl (asks e is it)) wants front = is_message e (sym wants ∙ is)
served_all bytes xs said rest w (inl (ends is at it)) wants front = let wrong : want.Message ≡ want.End false = sym wants ∙ is in cc
served_all bytes xs said rest w (inr lost) wants front = let wrong : want.Message ≡ want.OutOfMemory = sym wants ∙ lost.0 in cc

pub served_bad : (bytes : List ℕ) (xs : List Learnt) (said rest : List ℕ) (w : Want) (late : Bool) → StandsOrGaveUp bytes xs said rest w → w ≡ want.End late → AnswersFrames bytes xs said true rest
served_bad bytes xs said rest w late (inl (ends is at it)) wants = record {
  events = it.events;
  answers = it.answers;
  one_each = it.one_each;
  spelled = spells_of bytes it.events rest true (rw (append-nil it.events) at it.begins) at;
  learnt_is = it.learnt_is;
  said_is = it.said_is;
}
served_bad bytes xs said rest w late (inl (asks e is it)) wants = is_end e late (sym wants ∙ is)
served_bad bytes xs said rest w late (inl (listens is it)) wants = let wrong : want.Message ≡ want.End late = sym is ∙ wants in cc
served_bad bytes xs said rest w late (inr lost) wants = let wrong : want.End late ≡ want.OutOfMemory = sym wants ∙ lost.0 in cc
