-- No session of a server outlives its role.
use Rattle.std.proofs.Common.{◌≡◌, ◌⊎◌, ◌∙◌, ℕ, Bool, true, false, List, ◌∷◌, refl, sym, inl}
use Rattle.store.specs.Store.{StoreState}
use Rattle.abstract_database.specs.Lists.{TheName}
use Rattle.abstract_database.specs.Runs.{ReadingRelation}
use Rattle.server.specs.declared.server.Server.{Server}
use Rattle.server.specs.Dropped.{lacks_role}
use Rattle.talks.specs.declared.talk.Talk.{Ghosts as TalkGhosts}
use Rattle.talks.specs.declared.clients.ServedClients.{Ghosts as ClientsGhosts}
use Rattle.talks.specs.Turns.{Exchange, Turn, steps, TakesTurns, ServesSomebody, OpenedIn, AreOfClients}
use Rattle.talks.proofs.Sessions.{sound_after_steps}
use Rattle.talks.proofs.Dropping.{stays_stopped, outlived_by_none}
use Rattle.served_machine.specs.declared.machine.ServedMachine.{ServedMachine}
use Rattle.served_machine.specs.Sessions.{HasOwnSession, IsSoundServer}
use Rattle.served_machine.specs.Roles.{IsCommittedRole, IsNoCommittedRole}
use Rattle.served_machine.specs.Machines.{machine_of}
use Rattle.served_machine.specs.ServedLaws.{steps_sound, tells_sound, closes_sound, steps_open, tells_open, closes_open, steps_stopped, tells_stopped, closes_stopped}
use Rattle.served_machine.specs.RoleLaws.{lacks_running, lacks_told, lacks_if, same_roles, steps_roles, closes_roles}

module _ {S X T C : Type 0} (Reads : ReadingRelation) (state : S → StoreState) (t : TalkGhosts T) (k : ClientsGhosts C T) (role : TheName) where
  -- a role of the committed database is not lacked
  is_not_lacked : (server : Server S X) → IsSoundServer state server → IsCommittedRole state server role → lacks_role server role ≡ true → ⊥
  is_not_lacked server sound is lacks =
      let wrong : true ≡ false = sym (is sound.1.0 sound.1.1) ∙ same_roles state server role sound.1.0 sound.1.1 (lacks_running state server role lacks) ∙ lacks_told state server role lacks in
      cc

  abbrev IsOpenedSince : (old : ServedMachine S X) (before : C) (d : Exchange) (ds : List Exchange) (turns : List Turn) (new : ServedMachine S X) (after : C)
      → TakesTurns (machine_of Reads state) t k old before (steps d ds ∷ turns) new after → ℕ → ℕ → Type 0
  IsOpenedSince old before d ds turns new after took c n = (new.server.stopped ≡ true) ⊎ OpenedIn (machine_of Reads state) t k took.1 took.2 turns new after took.6 c n role

  since : (old : ServedMachine S X) (before : C) (d : Exchange) (ds : List Exchange) (turns : List Turn) (new : ServedMachine S X) (after : C) → IsSoundServer state old.server → AreOfClients (machine_of Reads state) t k old before
      → (took : TakesTurns (machine_of Reads state) t k old before (steps d ds ∷ turns) new after) → IsCommittedRole state old.server role → lacks_role took.1.server role ≡ true → ServesSomebody turns
      → (c n : ℕ) → HasOwnSession state new.server c n role → IsOpenedSince old before d ds turns new after took c n
  since old before d ds turns new after sound are took is lacks serves c n has =
      outlived_by_none (machine_of Reads state) t k
      (λ a b e w r made it. steps_sound Reads state a.server b.server e w r made it) (λ a b e w r told it. tells_sound Reads state a.server b.server e w r told it) (λ a b e made it. closes_sound Reads state a.server b.server e made it)
      (λ a b e w r d n login it made has. steps_open Reads state a.server b.server e w r d n login it made has) (λ a b e w r d n login it told has. tells_open Reads state a.server b.server e w r d n login it told has)
      (λ a b e d n login it made has. closes_open Reads state a.server b.server e d n login it made has)
      (λ a b e w r made was. steps_stopped Reads state a.server b.server e w r made was) (λ a b e w r told was. tells_stopped Reads state a.server b.server e w r told was) (λ a b e made was. closes_stopped Reads state a.server b.server e made was)
      (λ a name lacked. lacks_running state a.server name lacked) (λ a b e w r name it made lacked. steps_roles Reads state a.server b.server name e w r made lacked)
      (λ a b e name it made lacked told. closes_roles Reads state a.server b.server name e it made lacked told)
      role old before d ds turns new after sound are took (is_not_lacked old.server sound is) lacks serves c n has

  by_stopping : (stopped : Bool) (old : ServedMachine S X) (before : C) (d : Exchange) (ds : List Exchange) (turns : List Turn) (new : ServedMachine S X) (after : C) → IsSoundServer state old.server → AreOfClients (machine_of Reads state) t k old before
      → (took : TakesTurns (machine_of Reads state) t k old before (steps d ds ∷ turns) new after) → took.1.server.stopped ≡ stopped → IsSoundServer state took.1.server → IsCommittedRole state old.server role → IsNoCommittedRole state took.1.server role → ServesSomebody turns
      → (c n : ℕ) → HasOwnSession state new.server c n role → IsOpenedSince old before d ds turns new after took c n
  by_stopping true old before d ds turns new after sound are took runs there is none serves c n has =
      inl (stays_stopped (machine_of Reads state) t k
      (λ a b e w r made it. steps_sound Reads state a.server b.server e w r made it) (λ a b e w r told it. tells_sound Reads state a.server b.server e w r told it) (λ a b e made it. closes_sound Reads state a.server b.server e made it)
      (λ a b e w r d n login it made has. steps_open Reads state a.server b.server e w r d n login it made has) (λ a b e w r d n login it told has. tells_open Reads state a.server b.server e w r d n login it told has)
      (λ a b e d n login it made has. closes_open Reads state a.server b.server e d n login it made has)
      (λ a b e w r made was. steps_stopped Reads state a.server b.server e w r made was) (λ a b e w r told was. tells_stopped Reads state a.server b.server e w r told was) (λ a b e made was. closes_stopped Reads state a.server b.server e made was)
      took.1 took.2 turns new after took.6 runs)
  by_stopping false old before d ds turns new after sound are took runs there is none serves c n has =
      since old before d ds turns new after sound are took is
      (lacks_if state took.1.server role runs (sym (same_roles state took.1.server role there.1.0 there.1.1 runs) ∙ none there.1.0 there.1.1)) serves c n has

  pub outlived : (old : ServedMachine S X) (before : C) (d : Exchange) (ds : List Exchange) (turns : List Turn) (new : ServedMachine S X) (after : C) → IsSoundServer state old.server → AreOfClients (machine_of Reads state) t k old before
      → (took : TakesTurns (machine_of Reads state) t k old before (steps d ds ∷ turns) new after) → IsCommittedRole state old.server role → IsNoCommittedRole state took.1.server role → ServesSomebody turns
      → (c n : ℕ) → HasOwnSession state new.server c n role → IsOpenedSince old before d ds turns new after took c n
  outlived old before d ds turns new after sound are took is none serves c n has =
      by_stopping took.1.server.stopped old before d ds turns new after sound are took refl
      (sound_after_steps (machine_of Reads state) t k
      (λ a b e w r made it. steps_sound Reads state a.server b.server e w r made it) (λ a b e w r told it. tells_sound Reads state a.server b.server e w r told it) (λ a b e made it. closes_sound Reads state a.server b.server e made it)
      (λ a b e w r d n login it made has. steps_open Reads state a.server b.server e w r d n login it made has) (λ a b e w r d n login it told has. tells_open Reads state a.server b.server e w r d n login it told has)
      (λ a b e d n login it made has. closes_open Reads state a.server b.server e d n login it made has)
      took.0 old (d ∷ ds) took.1 took.4.0 sound) is none serves c n has
