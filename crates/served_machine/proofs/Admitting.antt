-- Sessions come only for whom the place admitted.
use Rattle.std.proofs.Common.{◌≡◌, ◌⊎◌, ℕ, List, [], ◌∷◌, inl, inr, sym, subst}
use Rattle.sql_types.specs.declared.answer.Answer.{Answer}
use Rattle.sql_types.specs.declared.event.Event.TheVariants as event
use Rattle.store.specs.Store.{StoreState}
use Rattle.abstract_database.specs.Lists.{TheName}
use Rattle.abstract_database.specs.Runs.{ReadingRelation}
use Rattle.server.specs.declared.server.Server.{Server}
use Rattle.talks.specs.declared.want.Want.{Want}
use Rattle.talks.specs.declared.want.Want.TheVariants as want
use Rattle.talks.specs.declared.want.Reply.{Reply}
use Rattle.talks.specs.declared.want.Reply.TheVariants as reply
use Rattle.talks.specs.declared.want.SessionEntry.{SessionEntry}
use Rattle.talks.specs.Wants.{TellsOpened}
use Rattle.talks.specs.declared.talk.Talk.{Ghosts as TalkGhosts}
use Rattle.talks.specs.declared.clients.ServedClients.{Ghosts as ClientsGhosts}
use Rattle.talks.specs.Turns.{Exchange, Turn, steps, asks, waits, leaves, ends, Steps, TakesTurn, TakesTurns, StaysOpenInSteps, StaysOpenInTurn, StaysOpenInTurns}
use Rattle.served_machine.specs.declared.machine.ServedMachine.{ServedMachine}
use Rattle.served_machine.specs.Sessions.{HasOwnSession, IsSoundServer}
use Rattle.served_machine.specs.Served.{IsLetIn, OpensFor, has_stopped, turns_away, lacks_memory, takes, TakesStep}
use Rattle.served_machine.specs.ServedLaws.{event_stays, statement_open, close_open, same_own, opens_open, steps_sound, tells_sound, closes_sound, tells_open, closes_open}
use Rattle.served_machine.specs.Machines.{machine_of}
use Rattle.served_machine.specs.Admitted.{WantsAdmitted, AdmittedBySteps, AdmittedHere, AdmittedIn}

module _ {S X : Type 0} (Reads : ReadingRelation) (state : S → StoreState) (old new : Server S X) where
  opens_admit : (c k : ℕ) (role : TheName) (entry : SessionEntry) (a : Answer) → OpensFor Reads state c k role entry a old new → (d n : ℕ) (login : TheName) → IsSoundServer state old → HasOwnSession state new d n login
      → HasOwnSession state old d n login ⊎ ((c ≡ d) × ((k ≡ n) × (role ≡ login) × IsLetIn state old entry login) × TellsOpened (reply.Answer a) × (HasOwnSession state old d n login → ⊥))
  opens_admit c k role entry a (has_stopped stopped refused is) d n login sound has = inl (same_own Reads state old new is d n login has)
  opens_admit c k role entry a (turns_away runs away refused is) d n login sound has = inl (same_own Reads state old new is d n login has)
  opens_admit c k role entry a (lacks_memory runs admitted refused is) d n login sound has = inl (same_own Reads state old new is d n login has)
  opens_admit c k role entry a (takes runs admitted small made) d n login sound has = elim (opens_open Reads state old new c k role entry a (takes runs admitted small made) d n login sound has) [
    | inl before ↦ inl before
    | inr it ↦ inr (it.0, (it.1.0, it.1.1, subst (λ (r : TheName). IsLetIn state old entry r) it.1.1 admitted), it.2, it.3)
  ]

  -- one more session is one that was admitted
  steps_admit : (c : ℕ) (w : Want) (r : Reply) (d n : ℕ) (login : TheName) → IsSoundServer state old → TakesStep Reads state c w r old new → HasOwnSession state new d n login
      → HasOwnSession state old d n login ⊎ ((c ≡ d) × WantsAdmitted state old w n login × TellsOpened r × (HasOwnSession state old d n login → ⊥))
  steps_admit c (want.Event (event.Statement k text)) (reply.Answer a) d n login sound made has = inl (statement_open Reads state old new c k text a (event_stays Reads state old new c (event.Statement k text) a made) made.steps d n login sound has)
  steps_admit c (want.Event (event.Close k)) (reply.Answer a) d n login sound made has = inl (close_open Reads state old new c k a (event_stays Reads state old new c (event.Close k) a made) made.steps d n login sound has)
  steps_admit c (want.Open k role entry) (reply.Answer a) d n login sound made has = opens_admit c k role entry a made d n login sound has
  steps_admit c (want.Event (event.Open k role)) r d n login sound made has = absurd made
  steps_admit c (want.Event (event.Statement k text)) (reply.Standing b) d n login sound made has = absurd made
  steps_admit c (want.Event (event.Close k)) (reply.Standing b) d n login sound made has = absurd made
  steps_admit c (want.Open k role entry) (reply.Standing b) d n login sound made has = absurd made
  steps_admit c (want.Event (event.Statement k text)) (reply.Description x) d n login sound made has = absurd made
  steps_admit c (want.Event (event.Close k)) (reply.Description x) d n login sound made has = absurd made
  steps_admit c (want.Open k role entry) (reply.Description x) d n login sound made has = absurd made
  steps_admit c (want.Event (event.Statement k text)) (reply.Verifier v) d n login sound made has = absurd made
  steps_admit c (want.Event (event.Close k)) (reply.Verifier v) d n login sound made has = absurd made
  steps_admit c (want.Open k role entry) (reply.Verifier v) d n login sound made has = absurd made
  steps_admit c want.Message r d n login sound made has = absurd made
  steps_admit c (want.Standing k) r d n login sound made has = absurd made
  steps_admit c (want.Description k text) r d n login sound made has = absurd made
  steps_admit c (want.Verifier table role) r d n login sound made has = absurd made
  steps_admit c (want.End late) r d n login sound made has = absurd made
  steps_admit c want.OutOfMemory r d n login sound made has = absurd made

module _ {S X T C : Type 0} (Reads : ReadingRelation) (state : S → StoreState) (t : TalkGhosts T) (k : ClientsGhosts C T) where
  abbrev Sound : ServedMachine S X → Type 0
  Sound m = IsSoundServer state m.server

  abbrev Has : ServedMachine S X → ℕ → ℕ → TheName → Type 0
  Has m c n login = HasOwnSession state m.server c n login

  sound_after_steps : (clients : C) (old : ServedMachine S X) (ds : List Exchange) (new : ServedMachine S X) → Steps (machine_of Reads state) t k clients old ds new → Sound old → Sound new
  sound_after_steps clients old [] new made sound = subst Sound (sym made) sound
  sound_after_steps clients old (d ∷ ds) new made sound = sound_after_steps clients made.0 ds new made.5 (steps_sound Reads state old.server made.0.server d.client d.want d.reply made.4 sound)

  sound_after : (old : ServedMachine S X) (before : C) (turn : Turn) (new : ServedMachine S X) (after : C) → TakesTurn (machine_of Reads state) t k old before turn new after → Sound old → Sound new
  sound_after old before (steps d ds) new after took sound = sound_after_steps before old (d ∷ ds) new took.0 sound
  sound_after old before (asks d) new after took sound = tells_sound Reads state old.server new.server d.client d.want d.reply took.2 sound
  sound_after old before (waits client w) new after took sound = subst Sound (sym took.2) sound
  sound_after old before (leaves client) new after took sound = closes_sound Reads state old.server new.server client took.1 sound
  sound_after old before (ends client w) new after took sound = subst Sound (sym took.4) sound

  -- a session that is open after some steps was so in each state that they go through, or one of them opened it for whom its place admitted
  by_steps : (clients : C) (old : ServedMachine S X) (ds : List Exchange) (new : ServedMachine S X) → Sound old → (made : Steps (machine_of Reads state) t k clients old ds new) (c n : ℕ) (login : TheName) → Has new c n login
      → (Has old c n login × StaysOpenInSteps (machine_of Reads state) t k clients old ds new made c n login) ⊎ AdmittedBySteps Reads state t k clients old ds new made c n login
  by_steps clients old [] new sound made c n login has = inl (subst (λ (m : ServedMachine S X). Has m c n login) made has, has)
  by_steps clients old (d ∷ ds) new sound made c n login has =
      elim (by_steps clients made.0 ds new (steps_sound Reads state old.server made.0.server d.client d.want d.reply made.4 sound) made.5 c n login has) [
        | inl later ↦ elim (steps_admit Reads state old.server made.0.server d.client d.want d.reply c n login sound made.4 later.0) [
          | inl before ↦ inl (before, (before, later.1))
          | inr is ↦ inr (inl ((is.0, is.1, is.2, is.3, later.0), later.1))
        ]
        | inr later ↦ inr (inr later)
      ]

  here : (old : ServedMachine S X) (before : C) (turn : Turn) (new : ServedMachine S X) (after : C) → Sound old → (took : TakesTurn (machine_of Reads state) t k old before turn new after) (c n : ℕ) (login : TheName) → Has new c n login
      → (Has old c n login × StaysOpenInTurn (machine_of Reads state) t k old before turn new after took c n login) ⊎ AdmittedHere Reads state t k old before turn new after took c n login
  here old before (steps d ds) new after sound took c n login has = by_steps before old (d ∷ ds) new sound took.0 c n login has
  here old before (asks d) new after sound took c n login has = let was = tells_open Reads state old.server new.server d.client d.want d.reply c n login sound took.2 has in inl (was, (was, has))
  here old before (waits client w) new after sound took c n login has = let was = subst (λ (m : ServedMachine S X). Has m c n login) took.2 has in inl (was, (was, has))
  here old before (leaves client) new after sound took c n login has = let was = closes_open Reads state old.server new.server client c n login sound took.1 has in inl (was, (was, has))
  here old before (ends client w) new after sound took c n login has = let was = subst (λ (m : ServedMachine S X). Has m c n login) took.4 has in inl (was, (was, has))

  pub admitted : (old : ServedMachine S X) (before : C) (turns : List Turn) (new : ServedMachine S X) (after : C) → Sound old → (took : TakesTurns (machine_of Reads state) t k old before turns new after)
      (c n : ℕ) (login : TheName) → Has new c n login
      → (Has old c n login × StaysOpenInTurns (machine_of Reads state) t k old before turns new after took c n login) ⊎ AdmittedIn Reads state t k old before turns new after took c n login
  admitted old before [] new after sound took c n login has = inl (subst (λ (m : ServedMachine S X). Has m c n login) took.0 has, has)
  admitted old before (u ∷ turns) new after sound took c n login has = elim (admitted took.1 took.2 turns new after (sound_after old took.0 u took.1 took.2 took.4 sound) took.6 c n login has) [
    | inl later ↦ elim (here old took.0 u took.1 took.2 sound took.4 c n login later.0) [
      | inl stays ↦ inl (stays.0, (stays.1, later.1))
      | inr now ↦ inr (inl (now, later.1))
    ]
    | inr later ↦ inr (inr later)
  ]
