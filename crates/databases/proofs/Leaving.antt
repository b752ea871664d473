-- No session is open of a server once nobody is there any more.
use Rattle.std.proofs.Common.{◌≡◌, ◌∙◌, ◌⊎◌, if◌then◌else◌, ◌<◌, ◌+◌, ◌*◌, ◌^◌, ℕ, inl, inr, ⊎_elim, Bool, true, false, List, [], ◌∷◌, ◌++◌, Option, Some, None, refl, sym, ap, subst, eq-eqb, arith}
use Rattle.std.proofs.lemmas.Bool.{cases_lt}
use Rattle.std.proofs.lemmas.Nat.{div-add-mod'}
use Rattle.std.proofs.Math.Nat.{mod-lt, mod-eq_of_lt}
use Rattle.store.specs.Store.{StoreState}
use Rattle.abstract_database.specs.Lists.{TheName}
use Rattle.abstract_database.specs.Machine.{Machine, Holder, Session, client_of, own_number, number_in, machine_over}
use Rattle.abstract_database.specs.Runs.{ReadingRelation, At}
use Rattle.server.specs.declared.server.Server.{Server}
use Rattle.server.specs.Standing.{HoldsInBlock, Represents}
use Rattle.talks.specs.declared.talk.Talk.{Ghosts as TalkGhosts}
use Rattle.talks.specs.declared.clients.ServedClients.{Ghosts as ClientsGhosts}
use Rattle.talks.specs.declared.clients.Finish.TheVariants as finish
use Rattle.talks.specs.declared.serving.ServeEnd.{ServeEnd}
use Rattle.talks.specs.declared.serving.ServeEnd.TheVariants as served
use Rattle.talks.specs.Wants.{Learnt, learnt, own}
use Rattle.talks.specs.Conversations.{ClientState, awaited, there, gone, IsAwaited, IsGone, Passes}
use Rattle.talks.specs.Turns.{Exchange, Turn, steps, asks, waits, leaves, ends, WasLetGo, learnt_of, learnt_of_all, learnt_in, own_learnt, Steps, TakesTurn, TakesTurns}
use Rattle.talks.specs.Serving.{EndedAs, ServesClients}
use Rattle.served_machine.specs.declared.machine.ServedMachine.{ServedMachine}
use Rattle.served_machine.specs.Sessions.{HasSession, HasOwnSession}
use Rattle.served_machine.specs.Machines.{machine_of}
use Rattle.served_machine.specs.Admitted.{AdmittedBySteps, AdmittedHere, AdmittedIn}
use Rattle.served_machine.proofs.Admitting.{admitted}
use Rattle.databases.specs.Clients.{EndsWithNobody}
use Rattle.databases.proofs.Serving.{turns_stay}
use Rattle.wire.specs.Closing.{LeavesNoSession}

-- ---- who learnt nothing opened nothing

some_is_none : {A : Type 0} (x : A) (xs ys : List A) → (x ∷ xs) ++ ys ≡ [] → ⊥
some_is_none x xs ys is = cc

none_before : {A : Type 0} (xs ys : List A) → xs ++ ys ≡ [] → xs ≡ []
none_before [] ys is = refl
none_before (x ∷ xs) ys is = absurd (some_is_none x xs ys is)

none_after : {A : Type 0} (xs ys : List A) → xs ++ ys ≡ [] → ys ≡ []
none_after [] ys is = is
none_after (x ∷ xs) ys is = absurd (some_is_none x xs ys is)

-- a client learns of its own exchange
own_is_learnt : (c : ℕ) (x : Learnt) → own c c x ≡ [] → ⊥
own_is_learnt c x is =
    let all : own c c x ≡ x ∷ [] = ap (λ (b : Bool). if b then x ∷ [] else []) (eq-eqb c c refl) in
    let wrong : x ∷ [] ≡ [] = sym all ∙ is in absurd (let no : ⊥ = cc in no)

-- ---- who is not there

awaited_learnt_none : {T : Type 0} (t : TalkGhosts T) (made : T → Type 0) (a b : ClientState T) (xs : List Learnt) → Passes t made a xs b → IsAwaited b → xs ≡ []
awaited_learnt_none t made (awaited bytes) (awaited left) xs passes is = passes.0
awaited_learnt_none t made (there x) (awaited left) xs passes is = absurd passes
awaited_learnt_none t made (gone sent) (awaited left) xs passes is = absurd passes
awaited_learnt_none t made a (there y) xs passes is = absurd is
awaited_learnt_none t made a (gone sent) xs passes is = absurd is

gone_learnt_none : {T : Type 0} (t : TalkGhosts T) (made : T → Type 0) (a b : ClientState T) (xs : List Learnt) → Passes t made a xs b → IsGone a → xs ≡ []
gone_learnt_none t made (gone old) (awaited left) xs passes is = absurd passes
gone_learnt_none t made (gone old) (there y) xs passes is = absurd passes
gone_learnt_none t made (gone old) (gone sent) xs passes is = passes.0
gone_learnt_none t made (awaited bytes) b xs passes is = absurd is
gone_learnt_none t made (there x) b xs passes is = absurd is

module _ {S X T C : Type 0} (Reads : ReadingRelation) (state : S → StoreState) (t : TalkGhosts T) (k : ClientsGhosts C T) where
  learnt_by_steps : (clients : C) (old : ServedMachine S X) (ds : List Exchange) (new : ServedMachine S X) (made : Steps (machine_of Reads state) t k clients old ds new) (c n : ℕ) (login : TheName)
      → AdmittedBySteps Reads state t k clients old ds new made c n login → learnt_of_all c ds ≡ [] → ⊥
  learnt_by_steps clients old [] new made c n login is none = absurd is
  learnt_by_steps clients old (d ∷ ds) new made c n login (inl is) none =
      own_is_learnt c (learnt d.want d.reply) (subst (λ (e : ℕ). own e c (learnt d.want d.reply) ≡ []) is.0.0 (none_before (learnt_of c d) (learnt_of_all c ds) none))
  learnt_by_steps clients old (d ∷ ds) new made c n login (inr is) none =
      learnt_by_steps clients made.0 ds new made.5 c n login is (none_after (learnt_of c d) (learnt_of_all c ds) none)

  learnt_here : (old : ServedMachine S X) (before : C) (u : Turn) (new : ServedMachine S X) (after : C) (took : TakesTurn (machine_of Reads state) t k old before u new after) (c n : ℕ) (login : TheName)
      → AdmittedHere Reads state t k old before u new after took c n login → learnt_in c u ≡ [] → ⊥
  learnt_here old before (steps d ds) new after took c n login is none = learnt_by_steps before old (d ∷ ds) new took.0 c n login is none
  learnt_here old before (asks d) new after took c n login is none = is
  learnt_here old before (waits d w) new after took c n login is none = is
  learnt_here old before (leaves d) new after took c n login is none = is
  learnt_here old before (ends d w) new after took c n login is none = is

  learnt_somewhere : (old : ServedMachine S X) (before : C) (us : List Turn) (new : ServedMachine S X) (after : C) (took : TakesTurns (machine_of Reads state) t k old before us new after) (c n : ℕ) (login : TheName)
      → AdmittedIn Reads state t k old before us new after took c n login → own_learnt c us ≡ [] → ⊥
  learnt_somewhere old before [] new after took c n login is none = absurd is
  learnt_somewhere old before (u ∷ us) new after took c n login (inl is) none =
      learnt_here old took.0 u took.1 took.2 took.4 c n login is.0 (none_before (learnt_in c u) (own_learnt c us) none)
  learnt_somewhere old before (u ∷ us) new after took c n login (inr is) none =
      learnt_somewhere took.1 took.2 us new after took.6 c n login is (none_after (learnt_in c u) (own_learnt c us) none)

  -- nobody is there where the ending says so
  nobody : (most : ℕ) (turns : List Turn) (end : ServeEnd) (machine : ServedMachine S X) (clients : C) → EndedAs (machine_of Reads state) t k most turns end machine clients → EndsWithNobody end
      → (c : ℕ) → IsAwaited (k.at clients c) ⊎ IsGone (k.at clients c)
  nobody most turns (served.Ended finish.Done) machine clients ended is c =
      let all = ended.0.2 in
      ⊎_elim (λ lt. inr ((all c).0 lt)) (λ le. inl ((all c).1 le)) (cases_lt c ended.0.0)
  nobody most turns (served.Ended finish.Stopped) machine clients ended is c = ended.0.1 c
  nobody most turns (served.Ended finish.Net) machine clients ended is c = ended.0.1 c
  nobody most turns (served.Ended finish.LookLimit) machine clients ended is c = absurd is
  nobody most turns served.TurnLimit machine clients ended is c = absurd is

  -- then a server that works has a session open that was open before, or none
  none_open_more : (most : ℕ) (old : ServedMachine S X) (before : C) (end : ServeEnd) (new : ServedMachine S X) (after : C) → (serves : ServesClients (machine_of Reads state) t k most old before end new after)
      → (w : At) → (state old.server.store).sound → Represents state old.server w → new.server.stopped ≡ false → EndsWithNobody end
      → (c n : ℕ) (login : TheName) → (HasOwnSession state old.server c n login → ⊥) → HasOwnSession state new.server c n login → ⊥
  none_open_more most old before end new after serves w sound here works is c n login none has =
      let from = admitted Reads state t k old before serves.turns new after (sound, (w, here)) serves.took c n login has in
      let nothing : own_learnt c serves.turns ≡ [] → ⊥ =
      λ empty. ⊎_elim (λ was. none was.0) (λ it. learnt_somewhere old before serves.turns new after serves.took c n login it empty) from in
      let let_go : WasLetGo c serves.turns → ⊥ =
      λ went. ⊎_elim (λ stopped. let wrong : false ≡ true = sym works ∙ stopped in absurd (let no : ⊥ = cc in no)) (λ nobody_has. nobody_has n login has) (serves.closed (sound, (w, here)) c went) in
      ⊎_elim
      (λ waits_still. nothing (awaited_learnt_none t (k.makes (k.maker before)) (k.at before c) (k.at after c) (own_learnt c serves.turns) (serves.talked c) waits_still))
      (λ has_gone. ⊎_elim
      (λ was. nothing (gone_learnt_none t (k.makes (k.maker before)) (k.at before c) (k.at after c) (own_learnt c serves.turns) (serves.talked c) was))
      let_go
      (serves.went c has_gone))
      (nobody most serves.turns end new after serves.ended is c)

-- ---- a machine with no session

below : 0 < 4294967296
below = omega arith

-- each number is that of a client's own session
number_back : (number : ℕ) → number_in (client_of number) (own_number number) ≡ number
number_back number =
    ap (λ (r : ℕ). client_of number * 4294967296 + r) (mod-eq_of_lt (mod-lt number below)) ∙ div-add-mod' number 4294967296

own_small : (number : ℕ) → own_number number < 2 ^ 32
own_small number = mod-lt number below

-- where no client has a session, none is open
none_of_all : (sessions : List (ℕ × Session)) → ((c n : ℕ) (login : TheName) → n < 2 ^ 32 → HasSession sessions (number_in c n) login → ⊥) → sessions ≡ []
none_of_all [] none = refl
none_of_all (s ∷ sessions) none = absurd (none (client_of s.0) (own_number s.0) s.1.login (own_small s.0) (inl (sym (number_back s.0), refl)))

-- and where none is open, no client has one
none_has : (sessions : List (ℕ × Session)) (number : ℕ) (login : TheName) → sessions ≡ [] → HasSession sessions number login → ⊥
none_has sessions number login is has = subst (λ (l : List (ℕ × Session)). HasSession l number login) is has

holder_none : (h : Option Holder) (sessions : List (ℕ × Session)) → sessions ≡ [] → HoldsInBlock h sessions → h ≡ None
holder_none None sessions is held = refl
holder_none (Some h) [] is held = cc
holder_none (Some h) (s ∷ sessions) is held = cc

over_committed : (m : Machine) → m.holder ≡ None → m.sessions ≡ [] → m.stopped ≡ false → m ≡ machine_over m.committed
over_committed m holder sessions works =
    ap (λ (z : Option Holder). record m { holder = z }) holder
    ∙ ap (λ (z : List (ℕ × Session)). record { committed = m.committed; holder = None; sessions = z; stopped = m.stopped }) sessions
    ∙ ap (λ (z : Bool). record { committed = m.committed; holder = None; sessions = []; stopped = z }) works

-- a server that works, and of which no client has a session
no_session : {S X : Type 0} (state : S → StoreState) (server : Server S X) (w : At) → Represents state server w → server.stopped ≡ false
    → ((c n : ℕ) (login : TheName) → HasOwnSession state server c n login → ⊥) → w.standing.machine ≡ machine_over w.standing.machine.committed
no_session state server w here works none =
    let m = w.standing.machine in
    let sessions = none_of_all m.sessions (λ c n login small has. none c n login (w, here, small, has, λ stopped. absurd (let wrong : false ≡ true = sym works ∙ stopped in let no : ⊥ = cc in no))) in
    over_committed m (holder_none m.holder server.sessions.entries (sym here.sessions ∙ sessions) (here.works works).1.in_block) sessions (here.stopped ∙ works)

-- ---- what is left of the server

module _ {S X T C : Type 0} (Reads : ReadingRelation) (state : S → StoreState) (t : TalkGhosts T) (k : ClientsGhosts C T) where
  works_before : (old new : Server S X) → (old.stopped ≡ true → new ≡ old) → new.stopped ≡ false → (stopped : Bool) → old.stopped ≡ stopped → old.stopped ≡ false
  works_before old new stays works false is = is
  works_before old new stays works true is = let wrong : true ≡ false = sym is ∙ ap (λ (s : Server S X). s.stopped) (sym (stays is)) ∙ works in absurd (let no : ⊥ = cc in no)

  pub leaves_none : (most : ℕ) (old : ServedMachine S X) (before : C) (end : ServeEnd) (new : ServedMachine S X) (after : C) → ServesClients (machine_of Reads state) t k most old before end new after
      → (state old.server.store).sound → LeavesNoSession state old.server → EndsWithNobody end → (last : At) → Represents state new.server last → LeavesNoSession state new.server
  leaves_none most old before end new after serves sound left is last here = (
    last,
    here,
    λ works.
        let began = works_before old.server new.server (turns_stay Reads state t k old before serves.turns new after serves.took) works old.server.stopped refl in
        let empty : left.0.standing.machine.sessions ≡ [] = ap (λ (m : Machine). m.sessions) (left.2 began) in
        let none : (c n : ℕ) (login : TheName) → HasOwnSession state old.server c n login → ⊥ =
        λ c n login has. none_has has.0.standing.machine.sessions (number_in c n) login (has.1.sessions ∙ sym left.1.sessions ∙ empty) has.3 in
        no_session state new.server last here works (λ c n login has.
        none_open_more Reads state t k most old before end new after serves left.0 sound left.1 works is c n login (none c n login) has),
  )
