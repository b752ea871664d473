-- Answers that were told stand at their places.
use Rattle.std.proofs.Common.{◌≡◌, ◌≤◌, ◌+◌, ℕ, zero, suc, inl, inr, List, [], ◌∷◌, ◌++◌, length, Some, None, refl, sym, ap, subst, arith}
use Rattle.std.specs.Prelude.{slice_get}
use Rattle.sql_types.specs.declared.answer.Answer.{Answer}
use Rattle.sql_types.specs.declared.event.Event.TheVariants as event
use Rattle.store.specs.Store.{StoreState}
use Rattle.abstract_database.specs.Lists.{TheName}
use Rattle.abstract_database.specs.Runs.{ReadingRelation, Stops, At}
use Rattle.server.specs.declared.server.Server.{Server}
use Rattle.server.specs.Standing.{stops_of, Represents}
use Rattle.talks.specs.declared.want.Want.{Want}
use Rattle.talks.specs.declared.want.Want.TheVariants as want
use Rattle.talks.specs.declared.want.Reply.{Reply}
use Rattle.talks.specs.declared.want.Reply.TheVariants as reply
use Rattle.talks.specs.declared.want.SessionEntry.{SessionEntry}
use Rattle.talks.specs.declared.talk.Talk.{Ghosts as TalkGhosts}
use Rattle.talks.specs.declared.clients.ServedClients.{Ghosts as ClientsGhosts}
use Rattle.talks.specs.Turns.{Exchange, Turn, steps, asks, waits, leaves, ends, Steps, TakesTurn, TakesTurns}
use Rattle.served_machine.specs.declared.machine.ServedMachine.{ServedMachine}
use Rattle.served_machine.specs.Served.{OpensFor, has_stopped, turns_away, lacks_memory, takes, TakesStep}
use Rattle.served_machine.specs.Machines.{machine_of}
use Rattle.served_clients.specs.Taken.{Taken, TakesEach, RanEach}
use Rattle.served_clients.specs.Spelled.{of_opening, of_step, of_steps, of_turn, of_turns}
use Rattle.served_clients.specs.Told.{IsDoneAt, IsToldHere, IsTold, IsPlacedAt}
use Rattle.served_clients.proofs.Stepping.{step, all_steps, turn}
use Rattle.served_clients.proofs.Running.{runs}

-- ---- lists

with_more : (xs ys : List Taken) (place : ℕ) (x : Taken) → slice_get xs place ≡ Some x → slice_get (xs ++ ys) place ≡ Some x
with_more [] ys place x is = let bad : None ≡ Some x = is in absurd (let no : ⊥ = cc in no)
with_more (y ∷ xs) ys zero x is = is
with_more (y ∷ xs) ys (suc place) x is = with_more xs ys place x is

behind : (xs ys : List Taken) (place : ℕ) (x : Taken) → slice_get ys place ≡ Some x → slice_get (xs ++ ys) (length xs + place) ≡ Some x
behind [] ys place x is = let same : place ≡ 0 + place = omega arith in subst (λ (n : ℕ). slice_get ys n ≡ Some x) same is
behind (y ∷ xs) ys place x is =
    let next : length (y ∷ xs) + place ≡ suc (length xs + place) = omega arith in
    subst (λ (n : ℕ). slice_get (y ∷ (xs ++ ys)) n ≡ Some x) (sym next) (behind xs ys place x is)

-- with more behind it
stands_before : (xs ys : List Taken) (told : Exchange) (moment place : ℕ) → IsPlacedAt xs told moment place → IsPlacedAt (xs ++ ys) told moment place
stands_before xs ys told moment place is = record {
  taken = is.taken;
  there = with_more xs ys place is.taken is.there;
  client = is.client;
  answer = is.answer;
  in_time = is.in_time;
}

-- and with more before it further on
stands_behind : (xs ys : List Taken) (told : Exchange) (moment place further : ℕ) → place ≡ length xs + further → IsPlacedAt ys told moment further → IsPlacedAt (xs ++ ys) told moment place
stands_behind xs ys told moment place further at is = record {
  taken = is.taken;
  there = subst (λ (n : ℕ). slice_get (xs ++ ys) n ≡ Some is.taken) (sym at) (behind xs ys further is.taken is.there);
  client = is.client;
  answer = is.answer;
  in_time = is.in_time;
}

-- by a later moment, too
stands_later : (ts : List Taken) (told : Exchange) (moment late place : ℕ) → moment ≤ late → IsPlacedAt ts told moment place → IsPlacedAt ts told late place
stands_later ts told moment late place le is = let by = is.in_time in record {
  taken = is.taken;
  there = is.there;
  client = is.client;
  answer = is.answer;
  in_time = omega (arith, by, le);
}

-- moments do not go back
ran_later : (Reads : ReadingRelation) (Leave : Stops) (w end : At) (ts : List Taken) → RanEach Reads Leave w ts end → w.moment ≤ end.moment
ran_later Reads Leave w end [] ran = let same : end.moment ≡ w.moment = ap (λ (z : At). z.moment) ran in omega (arith, same)
ran_later Reads Leave w end (t ∷ ts) ran =
    let first = ran.2.later in
    let rest = ran_later Reads Leave ran.0 end ts ran.3 in
    omega (arith, first, rest)

module _ {S X : Type 0} (Reads : ReadingRelation) (state : S → StoreState) where
  sound_then : (first last : Server S X) (ts : List Taken) → TakesEach Reads state first ts last → (state first.store).sound → (state last.store).sound
  sound_then first last [] each sound = subst (λ (s : Server S X). (state s.store).sound) (sym each) sound
  sound_then first last (t ∷ ts) each sound = sound_then each.0 last ts each.2 (each.1.history.sound sound)

  -- where a server stands after some steps, and when
  stands_then : (first last : Server S X) (ts : List Taken) (w : At) → TakesEach Reads state first ts last → (state first.store).sound → Represents state first w
      → (state last.store).sound × ((end : At) × Represents state last end × ((state first.store).time.moment ≤ (state last.store).time.moment))
  stands_then first last ts w each sound here =
      let ran = runs Reads state first last ts w each sound here in
      let since = ran_later Reads (stops_of (state last.store).time) w ran.0 ts ran.2 in
      let began = here.moment in
      let ends = ran.1.moment in
      (sound_then first last ts each sound, (ran.0, ran.1, omega (arith, since, began, ends)))

  -- a step that is one event of the server: it stands there alone
  alone_opening : (c n : ℕ) (login : TheName) (entry : SessionEntry) (a : Answer) (old new : Server S X) (made : OpensFor Reads state c n login entry a old new)
      → length (of_opening Reads state c n login entry a old new made) ≡ 1
      → IsPlacedAt (of_opening Reads state c n login entry a old new made) (record { client = c; want = want.Open n login entry; reply = reply.Answer a }) (state new.store).time.moment 0
  alone_opening c n login entry a old new (has_stopped was refused is) one = absurd (omega (arith, one))
  alone_opening c n login entry a old new (turns_away running away refused is) one = absurd (omega (arith, one))
  alone_opening c n login entry a old new (lacks_memory running admitted refused is) one = absurd (omega (arith, one))
  alone_opening c n login entry a old new (takes running admitted small made) one = record { taken = _; there = refl; client = refl; answer = refl; in_time = omega arith }

  alone : (c : ℕ) (w : Want) (r : Reply) (old new : Server S X) (made : TakesStep Reads state c w r old new) → length (of_step Reads state c w r old new made) ≡ 1
      → IsPlacedAt (of_step Reads state c w r old new made) (record { client = c; want = w; reply = r }) (state new.store).time.moment 0
  alone c (want.Event (event.Statement n text)) (reply.Answer a) old new made one = record { taken = _; there = refl; client = refl; answer = refl; in_time = omega arith }
  alone c (want.Event (event.Close n)) (reply.Answer a) old new made one = record { taken = _; there = refl; client = refl; answer = refl; in_time = omega arith }
  alone c (want.Open n login entry) (reply.Answer a) old new made one = alone_opening c n login entry a old new made one
  alone c (want.Event (event.Open n login)) r old new made one = absurd made
  alone c (want.Event (event.Statement n text)) (reply.Standing b) old new made one = absurd made
  alone c (want.Event (event.Close n)) (reply.Standing b) old new made one = absurd made
  alone c (want.Open n login entry) (reply.Standing b) old new made one = absurd made
  alone c (want.Event (event.Statement n text)) (reply.Description x) old new made one = absurd made
  alone c (want.Event (event.Close n)) (reply.Description x) old new made one = absurd made
  alone c (want.Open n login entry) (reply.Description x) old new made one = absurd made
  alone c (want.Event (event.Statement n text)) (reply.Verifier v) old new made one = absurd made
  alone c (want.Event (event.Close n)) (reply.Verifier v) old new made one = absurd made
  alone c (want.Open n login entry) (reply.Verifier v) old new made one = absurd made
  alone c want.Message r old new made one = absurd made
  alone c (want.Standing n) r old new made one = absurd made
  alone c (want.Description n text) r old new made one = absurd made
  alone c (want.Verifier table role) r old new made one = absurd made
  alone c (want.End late) r old new made one = absurd made
  alone c want.OutOfMemory r old new made one = absurd made

  module _ {T C : Type 0} (t : TalkGhosts T) (k : ClientsGhosts C T) where
    done : (clients : C) (old : ServedMachine S X) (ds : List Exchange) (new : ServedMachine S X) (made : Steps (machine_of Reads state) t k clients old ds new) (w : At)
        → (state old.server.store).sound → Represents state old.server w → (told : Exchange) (place : ℕ) → IsDoneAt Reads state t k clients old ds new made told place
        → IsPlacedAt (of_steps Reads state t k clients old ds new made) told (state new.server.store).time.moment place
    done clients old [] new made w sound here told place is = absurd is
    done clients old (d ∷ ds) new made w sound here told place (inl is) =
        let mid = made.0 in
        let first = of_step Reads state d.client d.want d.reply old.server mid.server made.4 in
        let next = stands_then old.server mid.server first w (step Reads state d.client d.want d.reply old.server mid.server made.4) sound here in
        let then = stands_then mid.server new.server (of_steps Reads state t k clients mid ds new made.5) next.1.0 (all_steps Reads state t k clients mid ds new made.5) next.0 next.1.1 in
        let it : IsPlacedAt first told (state mid.server.store).time.moment place =
        subst (λ (e : Exchange). IsPlacedAt first e (state mid.server.store).time.moment place) (sym is.0)
        (subst (λ (n : ℕ). IsPlacedAt first d (state mid.server.store).time.moment n) (sym is.2) (alone d.client d.want d.reply old.server mid.server made.4 is.1)) in
        stands_before first (of_steps Reads state t k clients mid ds new made.5) told (state new.server.store).time.moment place
        (stands_later first told (state mid.server.store).time.moment (state new.server.store).time.moment place then.1.2 it)
    done clients old (d ∷ ds) new made w sound here told place (inr is) =
        let mid = made.0 in
        let first = of_step Reads state d.client d.want d.reply old.server mid.server made.4 in
        let next = stands_then old.server mid.server first w (step Reads state d.client d.want d.reply old.server mid.server made.4) sound here in
        stands_behind first (of_steps Reads state t k clients mid ds new made.5) told (state new.server.store).time.moment place is.0 is.1
        (done clients mid ds new made.5 next.1.0 next.0 next.1.1 told is.0 is.2)

    told_here : (old : ServedMachine S X) (before : C) (u : Turn) (new : ServedMachine S X) (after : C) (took : TakesTurn (machine_of Reads state) t k old before u new after) (w : At)
        → (state old.server.store).sound → Represents state old.server w → (told : Exchange) (place : ℕ) → IsToldHere Reads state t k old before u new after took told place
        → IsPlacedAt (of_turn Reads state t k old before u new after took) told (state new.server.store).time.moment place
    told_here old before (steps d ds) new after took w sound here told place is = done before old (d ∷ ds) new took.0 w sound here told place is
    told_here old before (asks d) new after took w sound here told place is = absurd is
    told_here old before (waits c v) new after took w sound here told place is = absurd is
    told_here old before (leaves c) new after took w sound here told place is = absurd is
    told_here old before (ends c why) new after took w sound here told place is = absurd is

    pub placed : (old : ServedMachine S X) (before : C) (us : List Turn) (new : ServedMachine S X) (after : C) (w : At) (took : TakesTurns (machine_of Reads state) t k old before us new after)
        → (state old.server.store).sound → Represents state old.server w → (told : Exchange) (moment place : ℕ) → IsTold Reads state t k old before us new after took told moment place
        → IsPlacedAt (of_turns Reads state t k old before us new after took) told moment place
    placed old before [] new after w took sound here told moment place is = absurd is
    placed old before (u ∷ us) new after w took sound here told moment place (inl is) =
        stands_before (of_turn Reads state t k old took.0 u took.1 took.2 took.4) (of_turns Reads state t k took.1 took.2 us new after took.6) told moment place
        (subst (λ (n : ℕ). IsPlacedAt (of_turn Reads state t k old took.0 u took.1 took.2 took.4) told n place) (sym is.1) (told_here old took.0 u took.1 took.2 took.4 w sound here told place is.0))
    placed old before (u ∷ us) new after w took sound here told moment place (inr is) =
        let next = stands_then old.server took.1.server (of_turn Reads state t k old took.0 u took.1 took.2 took.4) w (turn Reads state t k old took.0 u took.1 took.2 took.4) sound here in
        stands_behind (of_turn Reads state t k old took.0 u took.1 took.2 took.4) (of_turns Reads state t k took.1 took.2 us new after took.6) told moment place is.0 is.1
        (placed took.1 took.2 us new after next.1.0 took.6 next.0 next.1.1 told moment is.0 is.2)
