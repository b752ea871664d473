-- Turns as exchanges.
use Rattle.std.proofs.Common.{◌≡◌, ◌∙◌, ℕ, Bool, true, false, List, [], ◌∷◌, ◌++◌, Option, refl, sym, ap, subst}
use Rattle.sql_types.specs.declared.answer.Answer.{Answer}
use Rattle.sql_types.specs.declared.event.Event.{Event}
use Rattle.sql_types.specs.declared.event.Event.TheVariants as event
use Rattle.store.specs.Store.{StoreState, KeepsHistory}
use Rattle.abstract_database.specs.Lists.{TheName}
use Rattle.abstract_database.specs.Machine.{Event as MachineEvent}
use Rattle.abstract_database.specs.Runs.{TheText, ReadingRelation, Stops, At, Happens}
use Rattle.server.specs.declared.server.Server.{Server}
use Rattle.server.specs.Standing.{event_of, Represents}
use Rattle.server.specs.Runs.{Steps as ServerSteps}
use Rattle.server.specs.LookUps.{Found}
use Rattle.server.specs.LookUps as look_up
use Rattle.talks.specs.declared.want.Want.{Want}
use Rattle.talks.specs.declared.want.Want.TheVariants as want
use Rattle.talks.specs.declared.want.Reply.{Reply}
use Rattle.talks.specs.declared.want.Reply.TheVariants as reply
use Rattle.talks.specs.declared.want.SessionEntry.{SessionEntry}
use Rattle.talks.specs.declared.want.BlockStanding.{BlockStanding}
use Rattle.talks.specs.declared.talk.Talk.{Ghosts as TalkGhosts}
use Rattle.talks.specs.declared.clients.ServedClients.{Ghosts as ClientsGhosts}
use Rattle.talks.specs.Turns.{Exchange, Turn, steps, asks, waits, leaves, ends, Steps, TakesTurn, TakesTurns}
use Rattle.served_machine.specs.declared.machine.ServedMachine.{ServedMachine}
use Rattle.served_machine.specs.Served.{TakesEvent, OpensFor, TakesStep, LooksUpKept, TellsClient}
use Rattle.served_machine.specs.Served as opening
use Rattle.served_machine.specs.Machines.{machine_of}
use Rattle.served_tenants.specs.Exchanges.{unsaid, CarriesOutAt, has_stopped, turns_away, lacks_memory, takes, Replies, Exchanges, exchanges_in, exchanges_of, turns_are_exchanges}
use Rattle.served_tenants.proofs.LookingUp.{stops_where_it_fails}

-- without what a stop leaves
forget : (Reads : ReadingRelation) (Leave : Stops) (w next : At) (e : MachineEvent TheText) (a : Answer) → Happens Reads Leave w e a next → Happens Reads unsaid w e a next
forget Reads Leave w next e a it = record { counts = it.counts; step = it.step; under_way = it.under_way; later = it.later; during = tt; now = tt }

-- one exchange after the other, and then more
pub joined : (Reads : ReadingRelation) (w mid end : At) (xs ys : List Exchange) → Exchanges Reads w xs mid → Exchanges Reads mid ys end → Exchanges Reads w (xs ++ ys) end
joined Reads w mid end [] ys made more = subst (λ (x : At). Exchanges Reads x ys end) made more
joined Reads w mid end (x ∷ xs) ys made more = (made.0, made.1, joined Reads made.0 mid end xs ys made.2 more)

module _ {S X : Type 0} (Reads : ReadingRelation) (state : S → StoreState) where
  -- a server stands where these have led
  abbrev Leads : Server S X → At → List Exchange → Type 0
  Leads new w xs = (next : At) × Represents state new next × (state new.store).sound × Exchanges Reads w xs next

  -- and where one reply has led
  abbrev LeadsOn : Server S X → At → ℕ → Want → Reply → Type 0
  LeadsOn new w c x r = (next : At) × Represents state new next × (state new.store).sound × Replies Reads w c x r next

  alone : (new : Server S X) (w : At) (x : Exchange) → LeadsOn new w x.client x.want x.reply → Leads new w (x ∷ [])
  alone new w x (next, here, sound, it) = (next, here, sound, (next, it, refl))

  -- the server stands as before
  stays : (old new : Server S X) (w : At) (c : ℕ) (x : Want) (r : Reply) → new ≡ old → (state old.store).sound → Represents state old w → Replies Reads w c x r w → LeadsOn new w c x r
  stays old new w c x r is sound here it =
      (w, subst (λ (s : Server S X). Represents state s w) (sym is) here, subst (λ (s : Server S X). (state s.store).sound) (sym is) sound, it)

  carried : (c : ℕ) (e : Event) (a : Answer) (old new : Server S X) (w : At) → KeepsHistory (state old.store) (state new.store) → ServerSteps Reads state c old e a new → (state old.store).sound → Represents state old w →
      (next : At) × Represents state new next × (state new.store).sound × CarriesOutAt Reads w c e a next
  carried c e a old new w history made sound here =
      let led = made sound w here in
      (led.0, led.1, history.sound sound, forget Reads _ w led.0 (event_of c e) a led.2)

  opens : (c n : ℕ) (login : TheName) (entry : SessionEntry) (a : Answer) (old new : Server S X) (w : At) → OpensFor Reads state c n login entry a old new → (state old.store).sound → Represents state old w →
      LeadsOn new w c (want.Open n login entry) (reply.Answer a)
  opens c n login entry a old new w (opening.has_stopped was refused is) sound here =
      stays old new w c (want.Open n login entry) (reply.Answer a) is sound here (a, refl, has_stopped (here.stopped ∙ was) refused refl)
  opens c n login entry a old new w (opening.turns_away runs away refused is) sound here =
      stays old new w c (want.Open n login entry) (reply.Answer a) is sound here (a, refl, turns_away (here.stopped ∙ runs) (away w here) refused refl)
  opens c n login entry a old new w (opening.lacks_memory runs admitted refused is) sound here =
      stays old new w c (want.Open n login entry) (reply.Answer a) is sound here (a, refl, lacks_memory (here.stopped ∙ runs) admitted refused refl)
  opens c n login entry a old new w (opening.takes runs admitted small made) sound here =
      let led = carried c (event.Open n login) a old new w made.history made.steps sound here in
      (led.0, led.1, led.2, (a, refl, takes (here.stopped ∙ runs) (admitted w here) led.3))

  taken : (c : ℕ) (e : Event) (a : Answer) (old new : Server S X) (w : At) → TakesEvent Reads state c e a old new → (state old.store).sound → Represents state old w →
      (next : At) × Represents state new next × (state new.store).sound × CarriesOutAt Reads w c e a next
  taken c e a old new w made sound here = carried c e a old new w made.history made.steps sound here

  step : (c : ℕ) (x : Want) (r : Reply) (old new : Server S X) (w : At) → TakesStep Reads state c x r old new → (state old.store).sound → Represents state old w → LeadsOn new w c x r
  step c (want.Event (event.Statement n text)) (reply.Answer a) old new w made sound here =
      let led = taken c (event.Statement n text) a old new w made sound here in (led.0, led.1, led.2, (a, refl, led.3))
  step c (want.Event (event.Close n)) (reply.Answer a) old new w made sound here =
      let led = taken c (event.Close n) a old new w made sound here in (led.0, led.1, led.2, (a, refl, led.3))
  step c (want.Open n login entry) (reply.Answer a) old new w made sound here = opens c n login entry a old new w made sound here
  step c (want.Event (event.Open n login)) r old new w made sound here = absurd made
  step c (want.Event (event.Statement n text)) (reply.Standing b) old new w made sound here = absurd made
  step c (want.Event (event.Close n)) (reply.Standing b) old new w made sound here = absurd made
  step c (want.Open n login entry) (reply.Standing b) old new w made sound here = absurd made
  step c (want.Event (event.Statement n text)) (reply.Description x) old new w made sound here = absurd made
  step c (want.Event (event.Close n)) (reply.Description x) old new w made sound here = absurd made
  step c (want.Open n login entry) (reply.Description x) old new w made sound here = absurd made
  step c (want.Event (event.Statement n text)) (reply.Verifier v) old new w made sound here = absurd made
  step c (want.Event (event.Close n)) (reply.Verifier v) old new w made sound here = absurd made
  step c (want.Open n login entry) (reply.Verifier v) old new w made sound here = absurd made
  step c want.Message r old new w made sound here = absurd made
  step c (want.Standing n) r old new w made sound here = absurd made
  step c (want.Description n text) r old new w made sound here = absurd made
  step c (want.Verifier table role) r old new w made sound here = absurd made
  step c (want.End late) r old new w made sound here = absurd made
  step c want.OutOfMemory r old new w made sound here = absurd made

  looked : (c : ℕ) (table role : TheName) (f : Found) (old new : Server S X) (w : At) → LooksUpKept Reads state table role f old new → (state old.store).sound → Represents state old w → (b : Bool) → old.stopped ≡ b →
      LeadsOn new w c (want.Verifier table role) (reply.Verifier f)
  looked c table role f old new w tells sound here true was =
      stays old new w c (want.Verifier table role) (reply.Verifier f) (tells.stopped was).1 sound here (
        f,
        refl,
        look_up.as_it_was refl,
        tells.finds sound w here,
        record {
          fails = λ io. here.stopped ∙ was;
          stopped = λ stops. ((tells.stopped was).0, refl);
        },
      )
  looked c table role f old new w tells sound here false runs =
      let led = tells.leaves sound w here in (
        led.0,
        led.1,
        tells.history.sound sound,
        (
          f,
          refl,
          led.2,
          tells.finds sound w here,
          record {
            fails = λ io. led.1.stopped ∙ stops_where_it_fails Reads state role f old new tells.looks sound w here io;
            stopped = λ stops. let contrary : true ≡ false = sym stops ∙ here.stopped ∙ runs in cc;
          },
        ),
      )

  question : (c : ℕ) (x : Want) (r : Reply) (old new : Server S X) (w : At) → TellsClient Reads state c x r old new → (state old.store).sound → Represents state old w → LeadsOn new w c x r
  question c (want.Standing n) (reply.Standing b) old new w tells sound here =
      stays old new w c (want.Standing n) (reply.Standing b) tells.1 sound here (ap (λ (o : Option BlockStanding). reply.Standing o) (tells.0 w here), refl)
  question c (want.Description n text) (reply.Description d) old new w tells sound here =
      stays old new w c (want.Description n text) (reply.Description d) tells.1 sound here (d, refl, tells.0.1 w here, refl)
  question c (want.Verifier table role) (reply.Verifier f) old new w tells sound here = looked c table role f old new w tells sound here old.stopped refl
  question c (want.Standing n) (reply.Answer a) old new w tells sound here = absurd tells
  question c (want.Standing n) (reply.Description x) old new w tells sound here = absurd tells
  question c (want.Standing n) (reply.Verifier v) old new w tells sound here = absurd tells
  question c (want.Description n text) (reply.Answer a) old new w tells sound here = absurd tells
  question c (want.Description n text) (reply.Standing b) old new w tells sound here = absurd tells
  question c (want.Description n text) (reply.Verifier v) old new w tells sound here = absurd tells
  question c (want.Verifier table role) (reply.Answer a) old new w tells sound here = absurd tells
  question c (want.Verifier table role) (reply.Standing b) old new w tells sound here = absurd tells
  question c (want.Verifier table role) (reply.Description x) old new w tells sound here = absurd tells
  question c (want.Event e) r old new w tells sound here = absurd tells
  question c (want.Open n login entry) r old new w tells sound here = absurd tells
  question c want.Message r old new w tells sound here = absurd tells
  question c (want.End late) r old new w tells sound here = absurd tells
  question c want.OutOfMemory r old new w tells sound here = absurd tells

  then_more : (mid new : Server S X) (w : At) (xs ys : List Exchange) → Leads mid w xs → ((at : At) → Represents state mid at → (state mid.store).sound → Leads new at ys) → Leads new w (xs ++ ys)
  then_more mid new w xs ys (at, here, sound, made) more =
      let led = more at here sound in
      (led.0, led.1, led.2, joined Reads w at led.0 xs ys made led.3)

  as_it_was : (old new : Server S X) (w : At) → new ≡ old → (state old.store).sound → Represents state old w → Leads new w []
  as_it_was old new w is sound here = (w, subst (λ (s : Server S X). Represents state s w) (sym is) here, subst (λ (s : Server S X). (state s.store).sound) (sym is) sound, refl)

  module _ {T C : Type 0} (t : TalkGhosts T) (k : ClientsGhosts C T) where
    pub all_steps : (clients : C) (old : ServedMachine S X) (ds : List Exchange) (new : ServedMachine S X) → Steps (machine_of Reads state) t k clients old ds new → (w : At) → (state old.server.store).sound → Represents state old.server w →
        Leads new.server w ds
    all_steps clients old [] new made w sound here = as_it_was old.server new.server w (ap (λ (m : ServedMachine S X). m.server) made) sound here
    all_steps clients old (d ∷ ds) new made w sound here =
        then_more made.0.server new.server w (d ∷ []) ds (alone made.0.server w d (step d.client d.want d.reply old.server made.0.server w made.4 sound here))
        (λ at there on. all_steps clients made.0 ds new made.5 at on there)

    one_turn : (old : ServedMachine S X) (before : C) (u : Turn) (new : ServedMachine S X) (after : C) (took : TakesTurn (machine_of Reads state) t k old before u new after) → (w : At) → (state old.server.store).sound → Represents state old.server w →
        Leads new.server w (exchanges_in Reads state t k old before u new after took)
    one_turn old before (steps d ds) new after took w sound here = all_steps before old (d ∷ ds) new took.0 w sound here
    one_turn old before (asks d) new after took w sound here = alone new.server w d (question d.client d.want d.reply old.server new.server w took.2 sound here)
    one_turn old before (waits c x) new after took w sound here = as_it_was old.server new.server w (ap (λ (m : ServedMachine S X). m.server) took.2) sound here
    one_turn old before (leaves c) new after took w sound here =
        let led = carried c (event.Close took.1.closes.session) took.1.closes.answer old.server new.server w took.1.history took.1.closes.steps sound here in
        (led.0, led.1, led.2, (led.0, (took.1.closes.answer, refl, led.3), refl))
    one_turn old before (ends c why) new after took w sound here = as_it_was old.server new.server w (ap (λ (m : ServedMachine S X). m.server) took.4) sound here

    pub all_turns : (old : ServedMachine S X) (before : C) (us : List Turn) (new : ServedMachine S X) (after : C) (took : TakesTurns (machine_of Reads state) t k old before us new after) → (w : At) → (state old.server.store).sound → Represents state old.server w →
        Leads new.server w (exchanges_of Reads state t k old before us new after took)
    all_turns old before [] new after took w sound here = as_it_was old.server new.server w (ap (λ (m : ServedMachine S X). m.server) took.0) sound here
    all_turns old before (u ∷ us) new after took w sound here =
        then_more took.1.server new.server w (exchanges_in Reads state t k old took.0 u took.1 took.2 took.4) (exchanges_of Reads state t k took.1 took.2 us new after took.6)
        (one_turn old took.0 u took.1 took.2 took.4 w sound here)
        (λ at there on. all_turns took.1 took.2 us new after took.6 at on there)

    pub made_so : turns_are_exchanges S X T C Reads state t k
    made_so w old before us new after took sound here works =
        let led = all_turns old before us new after took w sound here in
        record { sound = sound; stood = here; works = works; end = led.0; stands = led.1; made = led.3 }
