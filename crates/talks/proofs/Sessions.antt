-- Sessions come by the steps that open them, and none is left of a client that was let go.
use Rattle.std.proofs.Common.{◌≡◌, ◌⊎◌, ℕ, List, [], ◌∷◌, true, Some, sym, subst, inl, inr}
use Rattle.talks.specs.declared.talk.Talk.{Ghosts as TalkGhosts}
use Rattle.talks.specs.declared.machine.Machine.{Ghosts as MachineGhosts}
use Rattle.talks.specs.declared.clients.ServedClients.{Ghosts as ClientsGhosts}
use Rattle.talks.specs.declared.want.Want.{Want}
use Rattle.talks.specs.declared.want.Reply.{Reply}
use Rattle.talks.specs.Wants.{Learnt, OpensSession, TellsOpened}
use Rattle.talks.specs.Conversations.{ClientState, awaited, there, gone, IsGone, wanted, Passes}
use Rattle.talks.specs.Turns.{Turn, Exchange, steps, asks, waits, leaves, ends, LetsGo, WasLetGo, learnt_in, Steps, TakesTurn, TakesTurns, HasNone, StaysOpenInSteps, StaysOpenInTurn, StaysOpenInTurns, OpenedBySteps, OpenedHere, OpenedIn}

-- who has gone stays so, and wants nothing
pub stays_gone : {T : Type 0} (t : TalkGhosts T) (made : T → Type 0) (a b : ClientState T) (xs : List Learnt) → Passes t made a xs b → IsGone a → IsGone b
stays_gone t made (awaited bytes) b xs passes is = absurd is
stays_gone t made (there x) b xs passes is = absurd is
stays_gone t made (gone told) (awaited bytes) xs passes is = absurd passes
stays_gone t made (gone told) (there y) xs passes is = absurd passes
stays_gone t made (gone told) (gone more) xs passes is = tt

gone_wants_none : {T : Type 0} (t : TalkGhosts T) (a : ClientState T) (w : Want) → IsGone a → wanted t a ≡ Some w → ⊥
gone_wants_none t (awaited bytes) w is wants = is
gone_wants_none t (there x) w is wants = is
gone_wants_none t (gone told) w is wants = absurd (cc)

module _ {M T C : Type 0} (m : MachineGhosts M) (t : TalkGhosts T) (k : ClientsGhosts C T)
    (steps_sound : (old new : M) (c : ℕ) (w : Want) (r : Reply) → m.Steps old c w r new → m.IsSound old → m.IsSound new)
    (tells_sound : (old new : M) (c : ℕ) (w : Want) (r : Reply) → m.Tells old c w r new → m.IsSound old → m.IsSound new)
    (closes_sound : (old new : M) (c : ℕ) → m.Closes old c new → m.IsSound old → m.IsSound new)
    (steps_open : (old new : M) (c : ℕ) (w : Want) (r : Reply) (d n : ℕ) (login : List ℕ) → m.IsSound old → m.Steps old c w r new → m.Has new d n login → m.Has old d n login ⊎ ((c ≡ d) × OpensSession w n login × TellsOpened r × (m.Has old d n login → ⊥)))
    (tells_open : (old new : M) (c : ℕ) (w : Want) (r : Reply) (d n : ℕ) (login : List ℕ) → m.IsSound old → m.Tells old c w r new → m.Has new d n login → m.Has old d n login)
    (closes_open : (old new : M) (c d n : ℕ) (login : List ℕ) → m.IsSound old → m.Closes old c new → m.Has new d n login → m.Has old d n login) where
  -- what the machine rests on holds after a turn as before
  pub sound_after_steps : (clients : C) (old : M) (ds : List Exchange) (new : M) → Steps m t k clients old ds new → m.IsSound old → m.IsSound new
  sound_after_steps clients old [] new made sound = subst m.IsSound (sym made) sound
  sound_after_steps clients old (d ∷ ds) new made sound = sound_after_steps clients made.0 ds new made.5 (steps_sound old made.0 d.client d.want d.reply made.4 sound)

  pub sound_after : (old : M) (before : C) (turn : Turn) (new : M) (after : C) → TakesTurn m t k old before turn new after → m.IsSound old → m.IsSound new
  sound_after old before (steps d ds) new after took sound = sound_after_steps before old (d ∷ ds) new took.0 sound
  sound_after old before (asks d) new after took sound = tells_sound old new d.client d.want d.reply took.2 sound
  sound_after old before (waits client w) new after took sound = subst m.IsSound (sym took.2) sound
  sound_after old before (leaves client) new after took sound = closes_sound old new client took.1 sound
  sound_after old before (ends client w) new after took sound = subst m.IsSound (sym took.4) sound

  -- a session that is open after some steps was so in each state that they go through, or one of them opened it
  by_steps : (clients : C) (old : M) (ds : List Exchange) (new : M) → m.IsSound old → (made : Steps m t k clients old ds new) (c n : ℕ) (login : List ℕ) → m.Has new c n login
      → (m.Has old c n login × StaysOpenInSteps m t k clients old ds new made c n login) ⊎ OpenedBySteps m t k clients old ds new made c n login
  by_steps clients old [] new sound made c n login has = inl (subst (λ (s : M). m.Has s c n login) made has, has)
  by_steps clients old (d ∷ ds) new sound made c n login has = elim (by_steps clients made.0 ds new (steps_sound old made.0 d.client d.want d.reply made.4 sound) made.5 c n login has) [
    | inl later ↦ elim (steps_open old made.0 d.client d.want d.reply c n login sound made.4 later.0) [
      | inl before ↦ inl (before, (before, later.1))
      | inr is ↦ inr (inl ((is.0, is.1, is.2, is.3, later.0, made.4), later.1))
    ]
    | inr later ↦ inr (inr later)
  ]

  here : (old : M) (before : C) (turn : Turn) (new : M) (after : C) → m.IsSound old → (took : TakesTurn m t k old before turn new after) (c n : ℕ) (login : List ℕ) → m.Has new c n login
      → (m.Has old c n login × StaysOpenInTurn m t k old before turn new after took c n login) ⊎ OpenedHere m t k old before turn new after took c n login
  here old before (steps d ds) new after sound took c n login has = by_steps before old (d ∷ ds) new sound took.0 c n login has
  here old before (asks d) new after sound took c n login has = let was = tells_open old new d.client d.want d.reply c n login sound took.2 has in inl (was, (was, has))
  here old before (waits client w) new after sound took c n login has = let was = subst (λ (s : M). m.Has s c n login) took.2 has in inl (was, (was, has))
  here old before (leaves client) new after sound took c n login has = let was = closes_open old new client c n login sound took.1 has in inl (was, (was, has))
  here old before (ends client w) new after sound took c n login has = let was = subst (λ (s : M). m.Has s c n login) took.4 has in inl (was, (was, has))

  pub opened : (old : M) (before : C) (turns : List Turn) (new : M) (after : C) → m.IsSound old → (took : TakesTurns m t k old before turns new after) (c n : ℕ) (login : List ℕ) → m.Has new c n login
      → (m.Has old c n login × StaysOpenInTurns m t k old before turns new after took c n login) ⊎ OpenedIn m t k old before turns new after took c n login
  opened old before [] new after sound took c n login has = inl (subst (λ (s : M). m.Has s c n login) took.0 has, has)
  opened old before (u ∷ turns) new after sound took c n login has = elim (opened took.1 took.2 turns new after (sound_after old took.0 u took.1 took.2 took.4 sound) took.6 c n login has) [
    | inl later ↦ elim (here old took.0 u took.1 took.2 sound took.4 c n login later.0) [
      | inl stays ↦ inl (stays.0, (stays.1, later.1))
      | inr now ↦ inr (inl (now, later.1))
    ]
    | inr later ↦ inr (inr later)
  ]

  module _ (steps_stopped : (old new : M) (c : ℕ) (w : Want) (r : Reply) → m.Steps old c w r new → m.stopped old ≡ true → m.stopped new ≡ true)
      (tells_stopped : (old new : M) (c : ℕ) (w : Want) (r : Reply) → m.Tells old c w r new → m.stopped old ≡ true → m.stopped new ≡ true)
      (closes_stopped : (old new : M) (c : ℕ) → m.Closes old c new → m.stopped old ≡ true → m.stopped new ≡ true) where
    none_by_steps : (clients : C) (old : M) (ds : List Exchange) (new : M) → m.IsSound old → Steps m t k clients old ds new → (c : ℕ) → IsGone (k.at clients c) → HasNone m t k old c → HasNone m t k new c
    none_by_steps clients old [] new sound made c is none = subst (λ (s : M). HasNone m t k s c) (sym made) none
    none_by_steps clients old (d ∷ ds) new sound made c is none = none_by_steps clients made.0 ds new (steps_sound old made.0 d.client d.want d.reply made.4 sound) made.5 c is (elim none [
      | inl stopped ↦ inl (steps_stopped old made.0 d.client d.want d.reply made.4 stopped)
      | inr nothing ↦ inr (λ n login has. elim (steps_open old made.0 d.client d.want d.reply c n login sound made.4 has) [
        | inl before ↦ nothing n login before
        | inr it ↦ gone_wants_none t (k.at clients c) d.want is (subst (λ (e : ℕ). wanted t (k.at clients e) ≡ Some d.want) it.0 made.1)
      ])
    ])

    none_here : (old : M) (before : C) (turn : Turn) (new : M) (after : C) → m.IsSound old → TakesTurn m t k old before turn new after → (c : ℕ) → IsGone (k.at before c) → HasNone m t k old c → HasNone m t k new c
    none_here old before (steps d ds) new after sound took c is none = none_by_steps before old (d ∷ ds) new sound took.0 c is none
    none_here old before (asks d) new after sound took c is none = elim none [
      | inl stopped ↦ inl (tells_stopped old new d.client d.want d.reply took.2 stopped)
      | inr nothing ↦ inr (λ n login has. nothing n login (tells_open old new d.client d.want d.reply c n login sound took.2 has))
    ]
    none_here old before (waits client w) new after sound took c is none = subst (λ (s : M). HasNone m t k s c) (sym took.2) none
    none_here old before (leaves client) new after sound took c is none = elim none [
      | inl stopped ↦ inl (closes_stopped old new client took.1 stopped)
      | inr nothing ↦ inr (λ n login has. nothing n login (closes_open old new client c n login sound took.1 has))
    ]
    none_here old before (ends client w) new after sound took c is none = subst (λ (s : M). HasNone m t k s c) (sym took.4) none

    none_stays : (old : M) (before : C) (turns : List Turn) (new : M) (after : C) → m.IsSound old → TakesTurns m t k old before turns new after → (c : ℕ) → IsGone (k.at before c) → HasNone m t k old c → HasNone m t k new c
    none_stays old before [] new after sound took c is none = subst (λ (s : M). HasNone m t k s c) (sym took.0) none
    none_stays old before (u ∷ turns) new after sound took c is none =
        let seen : IsGone (k.at took.0 c) = stays_gone t (k.makes (k.maker before)) (k.at before c) (k.at took.0 c) [] (took.3.moved.passed c) is in
        none_stays took.1 took.2 turns new after (sound_after old took.0 u took.1 took.2 took.4 sound) took.6 c (stays_gone t (k.makes (k.maker took.0)) (k.at took.0 c) (k.at took.2 c) (learnt_in c u) (took.5.passed c) seen)
        (none_here old took.0 u took.1 took.2 sound took.4 c seen none)

    -- it was let go in this turn
    let_go : (old : M) (before : C) (turn : Turn) (new : M) (after : C) → TakesTurn m t k old before turn new after → (c : ℕ) → LetsGo c turn → IsGone (k.at after c) × HasNone m t k new c
    let_go old before (steps d ds) new after took c is = absurd is
    let_go old before (asks d) new after took c is = absurd is
    let_go old before (waits client w) new after took c is = absurd is
    let_go old before (leaves client) new after took c is = absurd is
    let_go old before (ends client w) new after took c is =
        (subst (λ (e : ℕ). IsGone (k.at after e)) is took.5, subst (λ (s : M). HasNone m t k s c) (sym took.4) (subst (λ (e : ℕ). HasNone m t k old e) is took.3))

    pub closed : (old : M) (before : C) (turns : List Turn) (new : M) (after : C) → TakesTurns m t k old before turns new after → m.IsSound old → (c : ℕ) → WasLetGo c turns → HasNone m t k new c
    closed old before [] new after took sound c was = absurd was
    closed old before (u ∷ turns) new after took sound c was =
        let next = sound_after old took.0 u took.1 took.2 took.4 sound in elim was [
          | inl now ↦ let it = let_go old took.0 u took.1 took.2 took.4 c now in none_stays took.1 took.2 turns new after next took.6 c it.0 it.1
          | inr later ↦ closed took.1 took.2 turns new after took.6 next c later
        ]
