-- What was done for clients: by whom, and what they learnt of it.
use Rattle.std.proofs.Common.{◌≡◌, ◌∙◌, ℕ, nat_eq, Bool, true, false, cond, List, [], ◌∷◌, ◌++◌, Some, Ok, refl, sym, ap, subst, inl, inr}
use Rattle.std.specs.List.{AllByRecursion}
use Rattle.store.specs.Store.{StoreState}
use Rattle.abstract_database.specs.Lists.{TheName}
use Rattle.abstract_database.specs.Runs.{ReadingRelation}
use Rattle.server.specs.declared.server.Server.{Server}
use Rattle.talks.specs.declared.want.Want.{Want}
use Rattle.talks.specs.declared.want.Want.TheVariants as want
use Rattle.talks.specs.declared.want.Reply.{Reply}
use Rattle.talks.specs.declared.want.Reply.TheVariants as reply
use Rattle.talks.specs.declared.talk.Talk.{Ghosts as TalkGhosts}
use Rattle.talks.specs.declared.clients.ServedClients.{Ghosts as ClientsGhosts}
use Rattle.talks.specs.Wants.{Learnt, learnt}
use Rattle.talks.specs.Turns.{Exchange, Turn, steps, asks, waits, leaves, ends, learnt_of_all, learnt_in, own_learnt, Steps, TakesTurn, TakesTurns}
use Rattle.served_machine.specs.declared.machine.ServedMachine.{ServedMachine}
use Rattle.served_machine.specs.Machines.{machine_of}
use Rattle.served_machine.specs.Served.{TakesStep, TellsClient}
use Rattle.served_machine.specs.Sessions.{IsSoundServer}
use Rattle.served_machine.specs.ServedLaws.{steps_sound, tells_sound, closes_sound}
use Rattle.login_laws.specs.Done.{Done, WasDone, done_for, told_in, done_by_steps, done_in, all_done}
use Rattle.login_laws.specs.Shown.{FoundAsKept}

-- ---- lists

pub all_on : {A : Type 0} (P : A → Type 0) (xs ys : List A) → AllByRecursion P xs → AllByRecursion P ys → AllByRecursion P (xs ++ ys)
all_on P [] ys first next = next
all_on P (x ∷ xs) ys first next = (first.0, all_on P xs ys first.1 next)

kept_if : {A : Type 0} (P : A → Type 0) (b : Bool) (x : A) (xs : List A) → P x → AllByRecursion P xs → AllByRecursion P (cond b (x ∷ xs) xs)
kept_if P true x xs is all = (is, all)
kept_if P false x xs is all = all

module _ {S X : Type 0} where
  pub all_for : (P : Done S X → Type 0) (c : ℕ) (xs : List (Done S X)) → AllByRecursion P xs → AllByRecursion P (done_for c xs)
  all_for P c [] all = tt
  all_for P c (x ∷ xs) all = kept_if P (nat_eq x.exchange.client c) x (done_for c xs) all.0 (all_for P c xs all.1)

  kept_on : (b : Bool) (x : Done S X) (xs ys zs : List (Done S X)) → zs ≡ xs ++ ys → cond b (x ∷ zs) zs ≡ cond b (x ∷ xs) xs ++ ys
  kept_on true x xs ys zs is = ap (λ (l : List (Done S X)). x ∷ l) is
  kept_on false x xs ys zs is = is

  pub for_on : (c : ℕ) (xs ys : List (Done S X)) → done_for c (xs ++ ys) ≡ done_for c xs ++ done_for c ys
  for_on c [] ys = refl
  for_on c (x ∷ xs) ys = kept_on (nat_eq x.exchange.client c) x (done_for c xs) (done_for c ys) (done_for c (xs ++ ys)) (for_on c xs ys)

  pub told_on : (xs ys : List (Done S X)) → told_in (xs ++ ys) ≡ told_in xs ++ told_in ys
  told_on [] ys = refl
  told_on (x ∷ xs) ys = ap (λ (l : List Learnt). learnt x.exchange.want x.exchange.reply ∷ l) (told_on xs ys)

  one_told : (b : Bool) (x : Done S X) (xs : List (Done S X)) (ls : List Learnt) → ls ≡ told_in xs
      → cond b (learnt x.exchange.want x.exchange.reply ∷ []) [] ++ ls ≡ told_in (cond b (x ∷ xs) xs)
  one_told true x xs ls same = ap (λ (l : List Learnt). learnt x.exchange.want x.exchange.reply ∷ l) same
  one_told false x xs ls same = same

  alone_told : (b : Bool) (x : Done S X) → cond b (learnt x.exchange.want x.exchange.reply ∷ []) [] ≡ told_in (cond b (x ∷ []) [])
  alone_told true x = refl
  alone_told false x = refl

-- ---- what was done

-- the server stood soundly before it
abbrev pub StoodSoundly : {S X : Type 0} → (S → StoreState) → Done S X → Type 0
StoodSoundly state x = IsSoundServer state x.server

-- whatever text was found in it is the one that was kept
abbrev pub FindsKeptText : {S X : Type 0} → (S → StoreState) → Done S X → Type 0
FindsKeptText state x = (table role : TheName) (text : List ℕ) → x.exchange.want ≡ want.Verifier table role → x.exchange.reply ≡ reply.Verifier (Ok (Some text)) → FoundAsKept state table role text x

module _ {S X T C : Type 0} (Reads : ReadingRelation) (state : S → StoreState) (t : TalkGhosts T) (k : ClientsGhosts C T) where
  learnt_by_steps : (clients : C) (old : ServedMachine S X) (ds : List Exchange) (new : ServedMachine S X) (made : Steps (machine_of Reads state) t k clients old ds new) (c : ℕ)
      → learnt_of_all c ds ≡ told_in (done_for c (done_by_steps Reads state t k clients old ds new made))
  learnt_by_steps clients old [] new made c = refl
  learnt_by_steps clients old (d ∷ ds) new made c =
      let rest = done_by_steps Reads state t k clients made.0 ds new made.5 in
      one_told (nat_eq d.client c) (record { server = old.server; exchange = d }) (done_for c rest) (learnt_of_all c ds) (learnt_by_steps clients made.0 ds new made.5 c)

  learnt_here : (old : ServedMachine S X) (before : C) (turn : Turn) (new : ServedMachine S X) (after : C) (took : TakesTurn (machine_of Reads state) t k old before turn new after) (c : ℕ)
      → learnt_in c turn ≡ told_in (done_for c (done_in Reads state t k old before turn new after took))
  learnt_here old before (steps d ds) new after took c = learnt_by_steps before old (d ∷ ds) new took.0 c
  learnt_here old before (asks d) new after took c = alone_told (nat_eq d.client c) (record { server = old.server; exchange = d })
  learnt_here old before (waits client w) new after took c = refl
  learnt_here old before (leaves client) new after took c = refl
  learnt_here old before (ends client w) new after took c = refl

  pub learnt_all : (old : ServedMachine S X) (before : C) (turns : List Turn) (new : ServedMachine S X) (after : C) (took : TakesTurns (machine_of Reads state) t k old before turns new after) (c : ℕ)
      → own_learnt c turns ≡ told_in (done_for c (all_done Reads state t k old before turns new after took))
  learnt_all old before [] new after took c = refl
  learnt_all old before (turn ∷ turns) new after took c =
      let here = done_in Reads state t k old took.0 turn took.1 took.2 took.4 in
      let rest = all_done Reads state t k took.1 took.2 turns new after took.6 in
      ap (λ (l : List Learnt). l ++ own_learnt c turns) (learnt_here old took.0 turn took.1 took.2 took.4 c)
      ∙ (ap (λ (l : List Learnt). told_in (done_for c here) ++ l) (learnt_all took.1 took.2 turns new after took.6 c)
      ∙ (sym (told_on (done_for c here) (done_for c rest)) ∙ ap (λ (l : List (Done S X)). told_in l) (sym (for_on c here rest))))

  -- ---- by the server, from where it stood

  made_by_steps : (clients : C) (old : ServedMachine S X) (ds : List Exchange) (new : ServedMachine S X) (made : Steps (machine_of Reads state) t k clients old ds new)
      → AllByRecursion (WasDone Reads state) (done_by_steps Reads state t k clients old ds new made)
  made_by_steps clients old [] new made = tt
  made_by_steps clients old (d ∷ ds) new made = ((made.0.server, inl made.4), made_by_steps clients made.0 ds new made.5)

  made_here : (old : ServedMachine S X) (before : C) (turn : Turn) (new : ServedMachine S X) (after : C) (took : TakesTurn (machine_of Reads state) t k old before turn new after)
      → AllByRecursion (WasDone Reads state) (done_in Reads state t k old before turn new after took)
  made_here old before (steps d ds) new after took = made_by_steps before old (d ∷ ds) new took.0
  made_here old before (asks d) new after took = ((new.server, inr took.2), tt)
  made_here old before (waits client w) new after took = tt
  made_here old before (leaves client) new after took = tt
  made_here old before (ends client w) new after took = tt

  pub made_all : (old : ServedMachine S X) (before : C) (turns : List Turn) (new : ServedMachine S X) (after : C) (took : TakesTurns (machine_of Reads state) t k old before turns new after)
      → AllByRecursion (WasDone Reads state) (all_done Reads state t k old before turns new after took)
  made_all old before [] new after took = tt
  made_all old before (turn ∷ turns) new after took =
      all_on (WasDone Reads state) (done_in Reads state t k old took.0 turn took.1 took.2 took.4) (all_done Reads state t k took.1 took.2 turns new after took.6)
      (made_here old took.0 turn took.1 took.2 took.4) (made_all took.1 took.2 turns new after took.6)

  -- ---- and it stood soundly

  steps_keep : (clients : C) (old : ServedMachine S X) (ds : List Exchange) (new : ServedMachine S X) → Steps (machine_of Reads state) t k clients old ds new → IsSoundServer state old.server → IsSoundServer state new.server
  steps_keep clients old [] new made sound = subst (λ (m : ServedMachine S X). IsSoundServer state m.server) (sym made) sound
  steps_keep clients old (d ∷ ds) new made sound = steps_keep clients made.0 ds new made.5 (steps_sound Reads state old.server made.0.server d.client d.want d.reply made.4 sound)

  pub turn_keeps : (old : ServedMachine S X) (before : C) (turn : Turn) (new : ServedMachine S X) (after : C) → TakesTurn (machine_of Reads state) t k old before turn new after → IsSoundServer state old.server → IsSoundServer state new.server
  turn_keeps old before (steps d ds) new after took sound = steps_keep before old (d ∷ ds) new took.0 sound
  turn_keeps old before (asks d) new after took sound = tells_sound Reads state old.server new.server d.client d.want d.reply took.2 sound
  turn_keeps old before (waits client w) new after took sound = subst (λ (m : ServedMachine S X). IsSoundServer state m.server) (sym took.2) sound
  turn_keeps old before (leaves client) new after took sound = closes_sound Reads state old.server new.server client took.1 sound
  turn_keeps old before (ends client w) new after took sound = subst (λ (m : ServedMachine S X). IsSoundServer state m.server) (sym took.4) sound

  sound_by_steps : (clients : C) (old : ServedMachine S X) (ds : List Exchange) (new : ServedMachine S X) (made : Steps (machine_of Reads state) t k clients old ds new) → IsSoundServer state old.server
      → AllByRecursion (StoodSoundly state) (done_by_steps Reads state t k clients old ds new made)
  sound_by_steps clients old [] new made sound = tt
  sound_by_steps clients old (d ∷ ds) new made sound = (sound, sound_by_steps clients made.0 ds new made.5 (steps_sound Reads state old.server made.0.server d.client d.want d.reply made.4 sound))

  sound_here : (old : ServedMachine S X) (before : C) (turn : Turn) (new : ServedMachine S X) (after : C) (took : TakesTurn (machine_of Reads state) t k old before turn new after) → IsSoundServer state old.server
      → AllByRecursion (StoodSoundly state) (done_in Reads state t k old before turn new after took)
  sound_here old before (steps d ds) new after took sound = sound_by_steps before old (d ∷ ds) new took.0 sound
  sound_here old before (asks d) new after took sound = (sound, tt)
  sound_here old before (waits client w) new after took sound = tt
  sound_here old before (leaves client) new after took sound = tt
  sound_here old before (ends client w) new after took sound = tt

  sound_all : (old : ServedMachine S X) (before : C) (turns : List Turn) (new : ServedMachine S X) (after : C) (took : TakesTurns (machine_of Reads state) t k old before turns new after) → IsSoundServer state old.server
      → AllByRecursion (StoodSoundly state) (all_done Reads state t k old before turns new after took)
  sound_all old before [] new after took sound = tt
  sound_all old before (turn ∷ turns) new after took sound =
      all_on (StoodSoundly state) (done_in Reads state t k old took.0 turn took.1 took.2 took.4) (all_done Reads state t k took.1 took.2 turns new after took.6)
      (sound_here old took.0 turn took.1 took.2 took.4 sound) (sound_all took.1 took.2 turns new after took.6 (turn_keeps old took.0 turn took.1 took.2 took.4 sound))

  -- ---- look-ups

  no_step : (c : ℕ) (w : Want) (r : Reply) (old new : Server S X) (table role : TheName) → w ≡ want.Verifier table role → TakesStep Reads state c w r old new → ⊥
  no_step c w r old new table role is made = subst (λ (v : Want). TakesStep Reads state c v r old new) is made

  finds : (x : Done S X) → WasDone Reads state x → IsSoundServer state x.server → FindsKeptText state x
  finds x (next, inl made) sound table role text is told = absurd (no_step x.exchange.client x.exchange.want x.exchange.reply x.server next table role is made)
  finds x (next, inr tells) sound table role text is told =
      let looks = subst (λ (r : Reply). TellsClient Reads state x.exchange.client (want.Verifier table role) r x.server next) told
      (subst (λ (w : Want). TellsClient Reads state x.exchange.client w x.exchange.reply x.server next) is tells) in
      record { wanted = is; told = told; sound = sound; kept = λ w stands. sym (looks.finds sound.0 w stands) }

  all_find : (xs : List (Done S X)) → AllByRecursion (WasDone Reads state) xs → AllByRecursion (StoodSoundly state) xs → AllByRecursion (FindsKeptText state) xs
  all_find [] made sound = tt
  all_find (x ∷ xs) made sound = (finds x made.0 sound.0, all_find xs made.1 sound.1)

  pub each_finds : (old : ServedMachine S X) (before : C) (turns : List Turn) (new : ServedMachine S X) (after : C) (took : TakesTurns (machine_of Reads state) t k old before turns new after) → IsSoundServer state old.server
      → AllByRecursion (FindsKeptText state) (all_done Reads state t k old before turns new after took)
  each_finds old before turns new after took sound = all_find (all_done Reads state t k old before turns new after took) (made_all old before turns new after took) (sound_all old before turns new after took sound)
