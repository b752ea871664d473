-- Laws of steps, questions and ends of sessions.
use Rattle.std.specs.Prelude.{◌<◌, ◌^◌}
use Rattle.std.proofs.Common.{◌≡◌, ◌⊎◌, ◌∙◌, inl, inr, ℕ, Bool, true, false, List, None, sym, ap, subst, arith}
use Rattle.sql_types.specs.declared.answer.Answer.{Answer}
use Rattle.sql_types.specs.declared.answer.Answer.TheVariants as answer
use Rattle.sql_types.specs.declared.event.Event.{Event}
use Rattle.sql_types.specs.declared.event.Event.TheVariants as event
use Rattle.sql_types.specs.declared.tag.Tag.TheVariants as tag
use Rattle.store.specs.Store.{StoreState}
use Rattle.abstract_database.specs.Lists.{TheName}
use Rattle.abstract_database.specs.Machine.{Event as MachineEvent, opens, executes, closes, Session, number_in}
use Rattle.abstract_database.specs.Runs.{TheText, ReadingRelation}
use Rattle.server.specs.declared.server.Server.{Server}
use Rattle.server.specs.Standing.{event_of}
use Rattle.server.specs.Runs.{Steps}
use Rattle.server.specs.LookUps.{Found}
use Rattle.talks.specs.declared.want.Want.{Want}
use Rattle.talks.specs.declared.want.Want.TheVariants as want
use Rattle.talks.specs.declared.want.Reply.{Reply}
use Rattle.talks.specs.declared.want.Reply.TheVariants as reply
use Rattle.talks.specs.declared.want.SessionEntry.{SessionEntry}
use Rattle.talks.specs.Wants.{OpensSession, TellsOpened}
use Rattle.served_machine.specs.Sessions.{HasSession, HasOwnSession, IsSoundServer}
use Rattle.served_machine.specs.Served.{TakesEvent, OpensFor, has_stopped, turns_away, lacks_memory, takes, TakesStep, LooksUpKept, TellsClient, ClosesOne}
use Rattle.served_machine.specs.LookUpLaws.{looked_sound, looked_open}
use Rattle.served_machine.specs.SessionLaws.{by_step}

false_is_not_true : (b : Bool) → b ≡ false → b ≡ true → ⊥
false_is_not_true b p q = let wrong : false ≡ true = sym p ∙ q in cc

-- the numbers of two clients' sessions are apart
client_apart : (c d n k : ℕ) → n < 2 ^ 32 → k < 2 ^ 32 → number_in c k ≡ number_in d n → c ≡ d
client_apart c d n k small less same = omega (arith, small, less, same)

session_apart : (c d n k : ℕ) → n < 2 ^ 32 → k < 2 ^ 32 → number_in c k ≡ number_in d n → k ≡ n
session_apart c d n k small less same = omega (arith, small, less, same)

number_inside : (k n : ℕ) (login l : TheName) → ◌≡◌ {A = MachineEvent TheText} (opens k login) (opens n l) → k ≡ n
number_inside k n login l same = cc

name_inside : (k n : ℕ) (login l : TheName) → ◌≡◌ {A = MachineEvent TheText} (opens k login) (opens n l) → login ≡ l
name_inside k n login l same = cc

module _ {S X : Type 0} (Reads : ReadingRelation) (state : S → StoreState) (old new : Server S X) where
  -- what it rests on holds after an event
  event_sound : (c : ℕ) (e : Event) (a : Answer) → TakesEvent Reads state c e a old new → IsSoundServer state old → IsSoundServer state new
  event_sound c e a made sound = let next = made.steps sound.0 sound.1.0 sound.1.1 in (made.history.sound sound.0, (next.0, next.1))

  pub event_stays : (c : ℕ) (e : Event) (a : Answer) → TakesEvent Reads state c e a old new → old.stopped ≡ true → new.stopped ≡ true
  event_stays c e a made was = ap (λ (s : Server S X). s.stopped) (made.stopped was).1 ∙ was

  -- where one more session is open, the event opens it, where it was not there, and is answered so
  event_open : (c : ℕ) (e : Event) (a : Answer) → (old.stopped ≡ true → new.stopped ≡ true) → Steps Reads state c old e a new → (d n : ℕ) (login : TheName) → IsSoundServer state old → HasOwnSession state new d n login
      → HasOwnSession state old d n login ⊎ ((event_of c e ≡ opens (number_in d n) login) × (a ≡ answer.Done tag.Open None None) × (HasOwnSession state old d n login → ⊥))
  event_open c e a stays steps d n login sound has =
      let w = sound.1.0 in
      let next = steps sound.0 w sound.1.1 in
      let sessions : has.0.standing.machine.sessions ≡ next.0.standing.machine.sessions = has.1.sessions ∙ sym next.1.sessions in
      elim (by_step w.standing.machine (number_in d n) login Reads w.counts next.0.counts (event_of c e) a next.0.standing.machine next.2.step
      (subst (λ (es : List (ℕ × Session)). HasSession es (number_in d n) login) sessions has.3)) [
        | inl before ↦ inl (w, sound.1.1, has.2, before, λ was. has.4 (stays was))
        | inr opened ↦ inr (
          opened.0,
          opened.1,
          λ was. opened.2 (subst (λ (es : List (ℕ × Session)). HasSession es (number_in d n) login) (was.1.sessions ∙ sym sound.1.1.sessions) was.3),
        )
      ]

  pub statement_open : (c k : ℕ) (text : TheText) (a : Answer) → (old.stopped ≡ true → new.stopped ≡ true) → Steps Reads state c old (event.Statement k text) a new → (d n : ℕ) (login : TheName) → IsSoundServer state old → HasOwnSession state new d n login → HasOwnSession state old d n login
  statement_open c k text a stays steps d n login sound has = elim (event_open c (event.Statement k text) a stays steps d n login sound has) [
    | inl before ↦ before
    | inr opened ↦ let never : ◌≡◌ {A = MachineEvent TheText} (executes (number_in c k) text) (opens (number_in d n) login) = opened.0 in cc
  ]

  pub close_open : (c k : ℕ) (a : Answer) → (old.stopped ≡ true → new.stopped ≡ true) → Steps Reads state c old (event.Close k) a new → (d n : ℕ) (login : TheName) → IsSoundServer state old → HasOwnSession state new d n login → HasOwnSession state old d n login
  close_open c k a stays steps d n login sound has = elim (event_open c (event.Close k) a stays steps d n login sound has) [
    | inl before ↦ before
    | inr opened ↦ let never : ◌≡◌ {A = MachineEvent TheText} (closes (number_in c k)) (opens (number_in d n) login) = opened.0 in cc
  ]

  pub same_own : new ≡ old → (d n : ℕ) (login : TheName) → HasOwnSession state new d n login → HasOwnSession state old d n login
  same_own is d n login has = subst (λ (server : Server S X). HasOwnSession state server d n login) is has

  -- ---- openings

  opens_sound : (c k : ℕ) (role : TheName) (entry : SessionEntry) (a : Answer) → OpensFor Reads state c k role entry a old new → IsSoundServer state old → IsSoundServer state new
  opens_sound c k role entry a (has_stopped stopped refused is) sound = subst (IsSoundServer state) (sym is) sound
  opens_sound c k role entry a (turns_away runs away refused is) sound = subst (IsSoundServer state) (sym is) sound
  opens_sound c k role entry a (lacks_memory runs admitted refused is) sound = subst (IsSoundServer state) (sym is) sound
  opens_sound c k role entry a (takes runs admitted small made) sound = event_sound c (event.Open k role) a made sound

  pub opens_open : (c k : ℕ) (role : TheName) (entry : SessionEntry) (a : Answer) → OpensFor Reads state c k role entry a old new → (d n : ℕ) (login : TheName) → IsSoundServer state old → HasOwnSession state new d n login
      → HasOwnSession state old d n login ⊎ ((c ≡ d) × ((k ≡ n) × (role ≡ login)) × TellsOpened (reply.Answer a) × (HasOwnSession state old d n login → ⊥))
  opens_open c k role entry a (has_stopped stopped refused is) d n login sound has = inl (same_own is d n login has)
  opens_open c k role entry a (turns_away runs away refused is) d n login sound has = inl (same_own is d n login has)
  opens_open c k role entry a (lacks_memory runs admitted refused is) d n login sound has = inl (same_own is d n login has)
  opens_open c k role entry a (takes runs admitted small made) d n login sound has = elim (event_open c (event.Open k role) a (event_stays c (event.Open k role) a made) made.steps d n login sound has) [
    | inl before ↦ inl before
    | inr opened ↦
        let same = number_inside (number_in c k) (number_in d n) role login opened.0 in
        inr (
          client_apart c d n k has.2 small same,
          (session_apart c d n k has.2 small same, name_inside (number_in c k) (number_in d n) role login opened.0),
          ap (λ (b : Answer). reply.Answer b) opened.1,
          opened.2,
        )
  ]

  opens_stopped : (c k : ℕ) (role : TheName) (entry : SessionEntry) (a : Answer) → OpensFor Reads state c k role entry a old new → old.stopped ≡ true → new.stopped ≡ true
  opens_stopped c k role entry a (has_stopped stopped refused is) was = ap (λ (s : Server S X). s.stopped) is ∙ was
  opens_stopped c k role entry a (turns_away runs away refused is) was = ap (λ (s : Server S X). s.stopped) is ∙ was
  opens_stopped c k role entry a (lacks_memory runs admitted refused is) was = ap (λ (s : Server S X). s.stopped) is ∙ was
  opens_stopped c k role entry a (takes runs admitted small made) was = absurd (false_is_not_true old.stopped runs was)

  -- ---- steps

  pub steps_sound : (c : ℕ) (w : Want) (r : Reply) → TakesStep Reads state c w r old new → IsSoundServer state old → IsSoundServer state new
  steps_sound c (want.Event (event.Statement n text)) (reply.Answer a) made sound = event_sound c (event.Statement n text) a made sound
  steps_sound c (want.Event (event.Close n)) (reply.Answer a) made sound = event_sound c (event.Close n) a made sound
  steps_sound c (want.Open n login entry) (reply.Answer a) made sound = opens_sound c n login entry a made sound
  steps_sound c (want.Event (event.Open n login)) r made sound = absurd made
  steps_sound c (want.Event (event.Statement n text)) (reply.Standing b) made sound = absurd made
  steps_sound c (want.Event (event.Close n)) (reply.Standing b) made sound = absurd made
  steps_sound c (want.Open n login entry) (reply.Standing b) made sound = absurd made
  steps_sound c (want.Event (event.Statement n text)) (reply.Description x) made sound = absurd made
  steps_sound c (want.Event (event.Close n)) (reply.Description x) made sound = absurd made
  steps_sound c (want.Open n login entry) (reply.Description x) made sound = absurd made
  steps_sound c (want.Event (event.Statement n text)) (reply.Verifier v) made sound = absurd made
  steps_sound c (want.Event (event.Close n)) (reply.Verifier v) made sound = absurd made
  steps_sound c (want.Open n login entry) (reply.Verifier v) made sound = absurd made
  steps_sound c want.Message r made sound = absurd made
  steps_sound c (want.Standing n) r made sound = absurd made
  steps_sound c (want.Description n text) r made sound = absurd made
  steps_sound c (want.Verifier table role) r made sound = absurd made
  steps_sound c (want.End late) r made sound = absurd made
  steps_sound c want.OutOfMemory r made sound = absurd made

  pub steps_open : (c : ℕ) (w : Want) (r : Reply) (d n : ℕ) (login : TheName) → IsSoundServer state old → TakesStep Reads state c w r old new → HasOwnSession state new d n login
      → HasOwnSession state old d n login ⊎ ((c ≡ d) × OpensSession w n login × TellsOpened r × (HasOwnSession state old d n login → ⊥))
  steps_open c (want.Event (event.Statement k text)) (reply.Answer a) d n login sound made has = inl (statement_open c k text a (event_stays c (event.Statement k text) a made) made.steps d n login sound has)
  steps_open c (want.Event (event.Close k)) (reply.Answer a) d n login sound made has = inl (close_open c k a (event_stays c (event.Close k) a made) made.steps d n login sound has)
  steps_open c (want.Open k role entry) (reply.Answer a) d n login sound made has = opens_open c k role entry a made d n login sound has
  steps_open c (want.Event (event.Open k role)) r d n login sound made has = absurd made
  steps_open c (want.Event (event.Statement k text)) (reply.Standing b) d n login sound made has = absurd made
  steps_open c (want.Event (event.Close k)) (reply.Standing b) d n login sound made has = absurd made
  steps_open c (want.Open k role entry) (reply.Standing b) d n login sound made has = absurd made
  steps_open c (want.Event (event.Statement k text)) (reply.Description x) d n login sound made has = absurd made
  steps_open c (want.Event (event.Close k)) (reply.Description x) d n login sound made has = absurd made
  steps_open c (want.Open k role entry) (reply.Description x) d n login sound made has = absurd made
  steps_open c (want.Event (event.Statement k text)) (reply.Verifier v) d n login sound made has = absurd made
  steps_open c (want.Event (event.Close k)) (reply.Verifier v) d n login sound made has = absurd made
  steps_open c (want.Open k role entry) (reply.Verifier v) d n login sound made has = absurd made
  steps_open c want.Message r d n login sound made has = absurd made
  steps_open c (want.Standing k) r d n login sound made has = absurd made
  steps_open c (want.Description k text) r d n login sound made has = absurd made
  steps_open c (want.Verifier table role) r d n login sound made has = absurd made
  steps_open c (want.End late) r d n login sound made has = absurd made
  steps_open c want.OutOfMemory r d n login sound made has = absurd made

  pub steps_stopped : (c : ℕ) (w : Want) (r : Reply) → TakesStep Reads state c w r old new → old.stopped ≡ true → new.stopped ≡ true
  steps_stopped c (want.Event (event.Statement n text)) (reply.Answer a) made was = event_stays c (event.Statement n text) a made was
  steps_stopped c (want.Event (event.Close n)) (reply.Answer a) made was = event_stays c (event.Close n) a made was
  steps_stopped c (want.Open n login entry) (reply.Answer a) made was = opens_stopped c n login entry a made was
  steps_stopped c (want.Event (event.Open n login)) r made was = absurd made
  steps_stopped c (want.Event (event.Statement n text)) (reply.Standing b) made was = absurd made
  steps_stopped c (want.Event (event.Close n)) (reply.Standing b) made was = absurd made
  steps_stopped c (want.Open n login entry) (reply.Standing b) made was = absurd made
  steps_stopped c (want.Event (event.Statement n text)) (reply.Description x) made was = absurd made
  steps_stopped c (want.Event (event.Close n)) (reply.Description x) made was = absurd made
  steps_stopped c (want.Open n login entry) (reply.Description x) made was = absurd made
  steps_stopped c (want.Event (event.Statement n text)) (reply.Verifier v) made was = absurd made
  steps_stopped c (want.Event (event.Close n)) (reply.Verifier v) made was = absurd made
  steps_stopped c (want.Open n login entry) (reply.Verifier v) made was = absurd made
  steps_stopped c want.Message r made was = absurd made
  steps_stopped c (want.Standing n) r made was = absurd made
  steps_stopped c (want.Description n text) r made was = absurd made
  steps_stopped c (want.Verifier table role) r made was = absurd made
  steps_stopped c (want.End late) r made was = absurd made
  steps_stopped c want.OutOfMemory r made was = absurd made

  -- ---- questions

  -- a question leaves the server as it was, but for a look-up
  abbrev pub IsLookUp : Want → Reply → Type 0
  IsLookUp (want.Verifier table role) (reply.Verifier r) = LooksUpKept Reads state table role r old new
  IsLookUp w r = ⊥

  pub told : (c : ℕ) (w : Want) (r : Reply) → TellsClient Reads state c w r old new → (new ≡ old) ⊎ IsLookUp w r
  told c (want.Standing n) (reply.Standing b) tells = inl tells.1
  told c (want.Description n text) (reply.Description x) tells = inl tells.1
  told c (want.Verifier table role) (reply.Verifier r) tells = inr tells
  told c (want.Standing n) (reply.Answer a) tells = absurd tells
  told c (want.Standing n) (reply.Description x) tells = absurd tells
  told c (want.Standing n) (reply.Verifier v) tells = absurd tells
  told c (want.Description n text) (reply.Answer a) tells = absurd tells
  told c (want.Description n text) (reply.Standing b) tells = absurd tells
  told c (want.Description n text) (reply.Verifier v) tells = absurd tells
  told c (want.Verifier table role) (reply.Answer a) tells = absurd tells
  told c (want.Verifier table role) (reply.Standing b) tells = absurd tells
  told c (want.Verifier table role) (reply.Description x) tells = absurd tells
  told c (want.Event e) r tells = absurd tells
  told c (want.Open n login entry) r tells = absurd tells
  told c want.Message r tells = absurd tells
  told c (want.End late) r tells = absurd tells
  told c want.OutOfMemory r tells = absurd tells

  -- what holds where nothing changes, and after a look-up
  by_telling : (P : Type 0) → (new ≡ old → P) → ((table role : TheName) (r : Found) → LooksUpKept Reads state table role r old new → P) → (w : Want) (r : Reply) → (new ≡ old) ⊎ IsLookUp w r → P
  by_telling P same looked w r (inl is) = same is
  by_telling P same looked (want.Verifier table role) (reply.Verifier r) (inr it) = looked table role r it
  by_telling P same looked (want.Verifier table role) (reply.Answer a) (inr it) = absurd it
  by_telling P same looked (want.Verifier table role) (reply.Standing b) (inr it) = absurd it
  by_telling P same looked (want.Verifier table role) (reply.Description x) (inr it) = absurd it
  by_telling P same looked (want.Standing n) r (inr it) = absurd it
  by_telling P same looked (want.Description n text) r (inr it) = absurd it
  by_telling P same looked (want.Event e) r (inr it) = absurd it
  by_telling P same looked (want.Open n login entry) r (inr it) = absurd it
  by_telling P same looked want.Message r (inr it) = absurd it
  by_telling P same looked (want.End late) r (inr it) = absurd it
  by_telling P same looked want.OutOfMemory r (inr it) = absurd it

  pub tells_sound : (c : ℕ) (w : Want) (r : Reply) → TellsClient Reads state c w r old new → IsSoundServer state old → IsSoundServer state new
  tells_sound c w r tells sound =
      by_telling (IsSoundServer state new) (λ is. subst (IsSoundServer state) (sym is) sound) (λ table role found looks. looked_sound Reads state table role found old new looks sound) w r (told c w r tells)

  pub tells_open : (c : ℕ) (w : Want) (r : Reply) (d n : ℕ) (login : TheName) → IsSoundServer state old → TellsClient Reads state c w r old new → HasOwnSession state new d n login → HasOwnSession state old d n login
  tells_open c w r d n login sound tells has =
      by_telling (HasOwnSession state old d n login) (λ is. same_own is d n login has) (λ table role found looks. looked_open Reads state table role found old new looks sound d n login has) w r (told c w r tells)

  -- one that has stopped stays as it is
  pub tells_nothing : (c : ℕ) (w : Want) (r : Reply) → TellsClient Reads state c w r old new → old.stopped ≡ true → new ≡ old
  tells_nothing c w r tells was = by_telling (new ≡ old) (λ is. is) (λ table role found looks. (looks.stopped was).1) w r (told c w r tells)

  pub tells_stopped : (c : ℕ) (w : Want) (r : Reply) → TellsClient Reads state c w r old new → old.stopped ≡ true → new.stopped ≡ true
  tells_stopped c w r tells was = ap (λ (s : Server S X). s.stopped) (tells_nothing c w r tells was) ∙ was

  -- ---- ends of sessions

  pub closes_sound : (c : ℕ) → ClosesOne Reads state c old new → IsSoundServer state old → IsSoundServer state new
  closes_sound c made sound = let next = made.closes.steps sound.0 sound.1.0 sound.1.1 in (made.history.sound sound.0, (next.0, next.1))

  pub closes_open : (c d n : ℕ) (login : TheName) → IsSoundServer state old → ClosesOne Reads state c old new → HasOwnSession state new d n login → HasOwnSession state old d n login
  closes_open c d n login sound made has = close_open c made.closes.session made.closes.answer (λ was. absurd (false_is_not_true old.stopped made.closes.running was)) made.closes.steps d n login sound has

  pub closes_stopped : (c : ℕ) → ClosesOne Reads state c old new → old.stopped ≡ true → new.stopped ≡ true
  closes_stopped c made was = absurd (false_is_not_true old.stopped made.closes.running was)
