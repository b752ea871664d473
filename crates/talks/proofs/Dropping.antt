-- A role that is dropped takes its sessions with it.
use Rattle.std.proofs.Common.{◌≡◌, ◌⊎◌, ◌∙◌, ℕ, List, [], ◌∷◌, true, false, Some, sym, subst, inl, inr}
use Rattle.talks.specs.declared.talk.Talk.{Ghosts as TalkGhosts}
use Rattle.talks.specs.declared.machine.Machine.{Ghosts as MachineGhosts}
use Rattle.talks.specs.declared.clients.ServedClients.{Ghosts as ClientsGhosts}
use Rattle.talks.specs.declared.want.Want.{Want}
use Rattle.talks.specs.declared.want.Reply.{Reply}
use Rattle.talks.specs.Wants.{Learnt, OpensSession, TellsOpened}
use Rattle.talks.specs.Conversations.{ClientState, awaited, there, gone, IsGone, IsThere, wanted, Passes}
use Rattle.talks.specs.Turns.{Turn, Exchange, steps, asks, waits, leaves, ends, LetsGo, ServesSomebody, learnt_in, Steps, Goes, Moves, TakesTurn, TakesTurns, HaveTheirRoles, OpenedIn, AreOfClients}
use Rattle.talks.proofs.Sessions.{sound_after_steps, sound_after, opened}

-- who is there stays so, unless it goes, and wants something
there_stays : {T : Type 0} (t : TalkGhosts T) (made : T → Type 0) (a b : ClientState T) (xs : List Learnt) → Passes t made a xs b → (IsGone b → IsGone a) → IsThere a → IsThere b
there_stays t made (awaited bytes) b xs passes stays is = absurd is
there_stays t made (there x) (awaited bytes) xs passes stays is = absurd passes
there_stays t made (there x) (there y) xs passes stays is = tt
there_stays t made (there x) (gone told) xs passes stays is = absurd (stays tt)
there_stays t made (gone told) b xs passes stays is = absurd is

wants_there : {T : Type 0} (t : TalkGhosts T) (a : ClientState T) (w : Want) → wanted t a ≡ Some w → IsThere a
wants_there t (awaited bytes) w wants = absurd (cc)
wants_there t (there x) w wants = tt
wants_there t (gone told) w wants = absurd (cc)

module _ {M T C : Type 0} (m : MachineGhosts M) (t : TalkGhosts T) (k : ClientsGhosts C T)
    (steps_sound : (old new : M) (c : ℕ) (w : Want) (r : Reply) → m.Steps old c w r new → m.IsSound old → m.IsSound new)
    (tells_sound : (old new : M) (c : ℕ) (w : Want) (r : Reply) → m.Tells old c w r new → m.IsSound old → m.IsSound new)
    (closes_sound : (old new : M) (c : ℕ) → m.Closes old c new → m.IsSound old → m.IsSound new)
    (steps_open : (old new : M) (c : ℕ) (w : Want) (r : Reply) (d n : ℕ) (login : List ℕ) → m.IsSound old → m.Steps old c w r new → m.Has new d n login → m.Has old d n login ⊎ ((c ≡ d) × OpensSession w n login × TellsOpened r × (m.Has old d n login → ⊥)))
    (tells_open : (old new : M) (c : ℕ) (w : Want) (r : Reply) (d n : ℕ) (login : List ℕ) → m.IsSound old → m.Tells old c w r new → m.Has new d n login → m.Has old d n login)
    (closes_open : (old new : M) (c d n : ℕ) (login : List ℕ) → m.IsSound old → m.Closes old c new → m.Has new d n login → m.Has old d n login)
    (steps_stopped : (old new : M) (c : ℕ) (w : Want) (r : Reply) → m.Steps old c w r new → m.stopped old ≡ true → m.stopped new ≡ true)
    (tells_stopped : (old new : M) (c : ℕ) (w : Want) (r : Reply) → m.Tells old c w r new → m.stopped old ≡ true → m.stopped new ≡ true)
    (closes_stopped : (old new : M) (c : ℕ) → m.Closes old c new → m.stopped old ≡ true → m.stopped new ≡ true) where
  -- ---- sessions are of clients that are there

  moved_on : (machine : M) (before after : C) (made : ℕ → T → Type 0) (xs : ℕ → List Learnt) → ((c : ℕ) → Passes t (made c) (k.at before c) (xs c) (k.at after c)) → ((c : ℕ) → IsGone (k.at after c) → IsGone (k.at before c))
      → AreOfClients m t k machine before → AreOfClients m t k machine after
  moved_on machine before after made xs passes stays are = elim are [
    | inl stopped ↦ inl stopped
    | inr all ↦ inr (λ c n login has. there_stays t (made c) (k.at before c) (k.at after c) (xs c) (passes c) (stays c) (all c n login has))
  ]

  gone_on : (machine : M) (before after : C) → Goes m t k before after → AreOfClients m t k machine before → AreOfClients m t k machine after
  gone_on machine before after goes are = moved_on machine before after (λ c. k.makes (k.maker before)) (λ c. []) goes.moved.passed goes.moved.gone are

  by_steps : (clients : C) (old : M) (ds : List Exchange) (new : M) → Steps m t k clients old ds new → m.IsSound old → AreOfClients m t k old clients → AreOfClients m t k new clients
  by_steps clients old [] new made sound are = subst (λ (s : M). AreOfClients m t k s clients) (sym made) are
  by_steps clients old (d ∷ ds) new made sound are =
      by_steps clients made.0 ds new made.5 (steps_sound old made.0 d.client d.want d.reply made.4 sound) (elim are [
        | inl stopped ↦ inl (steps_stopped old made.0 d.client d.want d.reply made.4 stopped)
        | inr all ↦ inr (λ c n login has. elim (steps_open old made.0 d.client d.want d.reply c n login sound made.4 has) [
          | inl earlier ↦ all c n login earlier
          | inr it ↦ subst (λ (e : ℕ). IsThere (k.at clients e)) it.0 (wants_there t (k.at clients d.client) d.want made.1)
        ])
      ])

  -- nobody goes in this turn
  none_goes : (machine : M) (turn : Turn) (before after : C) → Moves m t k machine turn before after → ((c : ℕ) → LetsGo c turn → ⊥) → AreOfClients m t k machine before → AreOfClients m t k machine after
  none_goes machine turn before after moves stay are =
      moved_on machine before after (λ c. k.makes (k.maker before)) (λ c. learnt_in c turn) moves.passed (λ c is. elim (moves.alone c is) [ inl was ↦ was | inr goes ↦ absurd (stay c goes) ]) are

  after_turn : (old : M) (before : C) (turn : Turn) (new : M) (after : C) → TakesTurn m t k old before turn new after → Moves m t k new turn before after → m.IsSound old → AreOfClients m t k old before → AreOfClients m t k new after
  after_turn old before (steps d ds) new after took moves sound are = none_goes new (steps d ds) before after moves (λ c is. is) (by_steps before old (d ∷ ds) new took.0 sound are)
  after_turn old before (asks d) new after took moves sound are =
      none_goes new (asks d) before after moves (λ c is. is) (elim are [
        | inl stopped ↦ inl (tells_stopped old new d.client d.want d.reply took.2 stopped)
        | inr all ↦ inr (λ c n login has. all c n login (tells_open old new d.client d.want d.reply c n login sound took.2 has))
      ])
  after_turn old before (waits client w) new after took moves sound are = none_goes new (waits client w) before after moves (λ c is. is) (subst (λ (s : M). AreOfClients m t k s before) (sym took.2) are)
  after_turn old before (leaves client) new after took moves sound are =
      none_goes new (leaves client) before after moves (λ c is. is) (elim are [
        | inl stopped ↦ inl (closes_stopped old new client took.1 stopped)
        | inr all ↦ inr (λ c n login has. all c n login (closes_open old new client c n login sound took.1 has))
      ])
  after_turn old before (ends client w) new after took moves sound are = subst (λ (s : M). AreOfClients m t k s after) (sym took.4) (elim took.3 [
    | inl stopped ↦ inl stopped
    | inr none ↦ elim are [
      | inl stopped ↦ inl stopped
      | inr all ↦ inr (λ c n login has. there_stays t (k.makes (k.maker before)) (k.at before c) (k.at after c) [] (moves.passed c)
          (λ is. elim (moves.alone c is) [ inl was ↦ was | inr same ↦ absurd (none n login (subst (λ (e : ℕ). m.Has old e n login) (sym same) has)) ]) (all c n login has))
    ]
  ])

  pub are_of_clients : (old : M) (before : C) (turns : List Turn) (new : M) (after : C) → m.IsSound old → TakesTurns m t k old before turns new after → AreOfClients m t k old before → AreOfClients m t k new after
  are_of_clients old before [] new after sound took are = subst (λ (s : M). AreOfClients m t k s after) (sym took.0) (gone_on old before after took.1 are)
  are_of_clients old before (u ∷ turns) new after sound took are =
      are_of_clients took.1 took.2 turns new after (sound_after m t k steps_sound tells_sound closes_sound steps_open tells_open closes_open old took.0 u took.1 took.2 took.4 sound) took.6
      (after_turn old took.0 u took.1 took.2 took.4 took.5 sound (gone_on old before took.0 took.3 are))

  -- ---- one that has stopped stays so

  stopped_by_steps : (clients : C) (old : M) (ds : List Exchange) (new : M) → Steps m t k clients old ds new → m.stopped old ≡ true → m.stopped new ≡ true
  stopped_by_steps clients old [] new made stopped = subst (λ (s : M). m.stopped s ≡ true) (sym made) stopped
  stopped_by_steps clients old (d ∷ ds) new made stopped = stopped_by_steps clients made.0 ds new made.5 (steps_stopped old made.0 d.client d.want d.reply made.4 stopped)

  stopped_here : (old : M) (before : C) (turn : Turn) (new : M) (after : C) → TakesTurn m t k old before turn new after → m.stopped old ≡ true → m.stopped new ≡ true
  stopped_here old before (steps d ds) new after took stopped = stopped_by_steps before old (d ∷ ds) new took.0 stopped
  stopped_here old before (asks d) new after took stopped = tells_stopped old new d.client d.want d.reply took.2 stopped
  stopped_here old before (waits client w) new after took stopped = subst (λ (s : M). m.stopped s ≡ true) (sym took.2) stopped
  stopped_here old before (leaves client) new after took stopped = closes_stopped old new client took.1 stopped
  stopped_here old before (ends client w) new after took stopped = subst (λ (s : M). m.stopped s ≡ true) (sym took.4) stopped

  pub stays_stopped : (old : M) (before : C) (turns : List Turn) (new : M) (after : C) → TakesTurns m t k old before turns new after → m.stopped old ≡ true → m.stopped new ≡ true
  stays_stopped old before [] new after took stopped = subst (λ (s : M). m.stopped s ≡ true) (sym took.0) stopped
  stays_stopped old before (u ∷ turns) new after took stopped = stays_stopped took.1 took.2 turns new after took.6 (stopped_here old took.0 u took.1 took.2 took.4 stopped)

  -- ---- a role that is lacked

  module _ (lacks_running : (machine : M) (role : List ℕ) → m.LacksRole machine role → m.stopped machine ≡ false)
      (steps_roles : (old new : M) (c : ℕ) (w : Want) (r : Reply) (role : List ℕ) → m.IsSound old → m.Steps old c w r new → m.LacksRole new role → m.LacksRole old role ⊎ m.MayHaveDropped new)
      (closes_roles : (old new : M) (c : ℕ) (role : List ℕ) → m.IsSound old → m.Closes old c new → m.LacksRole old role → m.MayHaveDropped old → (m.stopped new ≡ true) ⊎ (m.LacksRole new role × m.MayHaveDropped new))
      (role : List ℕ) where
    last_step : (clients : C) (old : M) (ds : List Exchange) (new : M) → ds ≡ [] → Steps m t k clients old ds new → new ≡ old
    last_step clients old [] new is made = made
    last_step clients old (d ∷ ds) new is made = absurd (cc)

    -- a step that dropped it is the last
    dropped_by_steps : (clients : C) (old : M) (ds : List Exchange) (new : M) → m.IsSound old → Steps m t k clients old ds new → m.LacksRole new role → m.LacksRole old role ⊎ m.MayHaveDropped new
    dropped_by_steps clients old [] new sound made lacks = inl (subst (λ (s : M). m.LacksRole s role) made lacks)
    dropped_by_steps clients old (d ∷ ds) new sound made lacks =
        elim (dropped_by_steps clients made.0 ds new (steps_sound old made.0 d.client d.want d.reply made.4 sound) made.5 lacks) [
          | inl mid ↦ elim (steps_roles old made.0 d.client d.want d.reply role sound made.4 mid) [
            | inl earlier ↦ inl earlier
            | inr dropped ↦ inr (subst m.MayHaveDropped (sym (last_step clients made.0 ds new (made.6 dropped) made.5)) dropped)
          ]
          | inr dropped ↦ inr dropped
        ]

    -- no session is open for it where somebody is served
    none_open : (machine : M) (clients : C) → AreOfClients m t k machine clients → m.LacksRole machine role → m.MayHaveDropped machine → HaveTheirRoles m t k machine clients → (c n : ℕ) → m.Has machine c n role → ⊥
    none_open machine clients are lacks dropped have c n has = elim are [
      | inl stopped ↦ let wrong : true ≡ false = sym stopped ∙ lacks_running machine role lacks in cc
      | inr all ↦ have dropped c (all c n role has) (inl (n, (role, has, lacks)))
    ]

    opened_here : (old : M) (before : C) (turns : List Turn) (new : M) (after : C) → m.IsSound old → (took : TakesTurns m t k old before turns new after) → ((c n : ℕ) → m.Has old c n role → ⊥)
        → (c n : ℕ) → m.Has new c n role → (m.stopped new ≡ true) ⊎ OpenedIn m t k old before turns new after took c n role
    opened_here old before turns new after sound took none c n has = elim (opened m t k steps_sound tells_sound closes_sound steps_open tells_open closes_open old before turns new after sound took c n role has) [
      | inl was ↦ absurd (none c n was.0)
      | inr is ↦ inr is
    ]

    -- each session that is open for it once somebody was served was opened since
    pub opened_since : (old : M) (before : C) (turns : List Turn) (new : M) (after : C) → m.IsSound old → AreOfClients m t k old before → m.LacksRole old role → m.MayHaveDropped old
        → (took : TakesTurns m t k old before turns new after) → ServesSomebody turns → (c n : ℕ) → m.Has new c n role → (m.stopped new ≡ true) ⊎ OpenedIn m t k old before turns new after took c n role
    opened_since old before [] new after sound are lacks dropped took serves c n has = absurd serves
    opened_since old before (steps d ds ∷ turns) new after sound are lacks dropped took serves c n has =
        opened_here old before (steps d ds ∷ turns) new after sound took (none_open old took.0 (gone_on old before took.0 took.3 are) lacks dropped took.4.4) c n has
    opened_since old before (asks d ∷ turns) new after sound are lacks dropped took serves c n has =
        opened_here old before (asks d ∷ turns) new after sound took (none_open old took.0 (gone_on old before took.0 took.3 are) lacks dropped took.4.6) c n has
    opened_since old before (waits client w ∷ turns) new after sound are lacks dropped took serves c n has =
        opened_here old before (waits client w ∷ turns) new after sound took (none_open old took.0 (gone_on old before took.0 took.3 are) lacks dropped took.4.5) c n has
    opened_since old before (leaves client ∷ turns) new after sound are lacks dropped took serves c n has = elim (closes_roles old took.1 client role sound took.4.1 lacks dropped) [
      | inl stopped ↦ inl (stays_stopped took.1 took.2 turns new after took.6 stopped)
      | inr still ↦ elim serves [
        | inl never ↦ absurd never
        | inr later ↦ elim (opened_since took.1 took.2 turns new after (closes_sound old took.1 client took.4.1 sound) (after_turn old took.0 (leaves client) took.1 took.2 took.4 took.5 sound (gone_on old before took.0 took.3 are)) still.0 still.1 took.6 later c n has) [
          | inl stopped ↦ inl stopped
          | inr is ↦ inr (inr is)
        ]
      ]
    ]
    opened_since old before (ends client w ∷ turns) new after sound are lacks dropped took serves c n has = elim serves [
      | inl never ↦ absurd never
      | inr later ↦ elim (opened_since took.1 took.2 turns new after (subst m.IsSound (sym took.4.4) sound) (after_turn old took.0 (ends client w) took.1 took.2 took.4 took.5 sound (gone_on old before took.0 took.3 are))
          (subst (λ (s : M). m.LacksRole s role) (sym took.4.4) lacks) (subst m.MayHaveDropped (sym took.4.4) dropped) took.6 later c n has) [
            | inl stopped ↦ inl stopped
            | inr is ↦ inr (inr is)
          ]
    ]

    -- the same from the step on that dropped it
    pub outlived_by_none : (old : M) (before : C) (d : Exchange) (ds : List Exchange) (turns : List Turn) (new : M) (after : C) → m.IsSound old → AreOfClients m t k old before
        → (took : TakesTurns m t k old before (steps d ds ∷ turns) new after) → (m.LacksRole old role → ⊥) → m.LacksRole took.1 role → ServesSomebody turns
        → (c n : ℕ) → m.Has new c n role → (m.stopped new ≡ true) ⊎ OpenedIn m t k took.1 took.2 turns new after took.6 c n role
    outlived_by_none old before d ds turns new after sound are took was lacks serves c n has = elim (dropped_by_steps took.0 old (d ∷ ds) took.1 sound took.4.0 lacks) [
      | inl earlier ↦ absurd (was earlier)
      | inr dropped ↦
          opened_since took.1 took.2 turns new after (sound_after_steps m t k steps_sound tells_sound closes_sound steps_open tells_open closes_open took.0 old (d ∷ ds) took.1 took.4.0 sound)
          (after_turn old took.0 (steps d ds) took.1 took.2 took.4 took.5 sound (gone_on old before took.0 took.3 are)) lacks dropped took.6 serves c n has
    ]
