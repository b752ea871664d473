-- The course of a client: it is served, then left, then let go.
use Rattle.std.proofs.Common.{◌≡◌, ◌∙◌, ◌⊎◌, ℕ, List, [], ◌∷◌, Option, Some, None, sym, subst, inl, inr}
use Rattle.talks.specs.declared.talk.Talk.{Ghosts as TalkGhosts}
use Rattle.talks.specs.declared.machine.Machine.{Ghosts as MachineGhosts}
use Rattle.talks.specs.declared.clients.ServedClients.{Ghosts as ClientsGhosts}
use Rattle.talks.specs.declared.clients.EndCause.{EndCause}
use Rattle.talks.specs.declared.want.Want.{Want}
use Rattle.talks.specs.Wants.{Learnt}
use Rattle.talks.specs.Conversations.{ClientState, awaited, there, gone, IsGone, EndsOnce, unless_ended, wanted, Passes}
use Rattle.talks.specs.Clients.{IsLeaving}
use Rattle.talks.specs.Turns.{Turn, Exchange, steps, asks, waits, leaves, ends, LetsGo, IsAmong, IsTurnOf, ClosesLeft, NoneIs, IsCourse, learnt_in, Steps, TakesTurn, TakesTurns}
use Rattle.talks.proofs.Sessions.{stays_gone}

-- the connection of a client has ended
abbrev HasLeft : {T : Type 0} → ClientState T → Type 0
HasLeft (awaited bytes) = ⊥
HasLeft (there x) = (w : EndCause) × (x.end_cause ≡ Some w)
HasLeft (gone told) = Unit {0}

gone_has_left : {T : Type 0} (a : ClientState T) → IsGone a → HasLeft a
gone_has_left (awaited bytes) is = is
gone_has_left (there x) is = absurd is
gone_has_left (gone told) is = tt

leaving_has_left : {T : Type 0} (t : TalkGhosts T) (a : ClientState T) → IsLeaving t a → HasLeft a
leaving_has_left t (awaited bytes) is = is
leaving_has_left t (there x) is = (is.0, is.1)
leaving_has_left t (gone told) is = tt

gone_is_no_leaving : {T : Type 0} (t : TalkGhosts T) (a : ClientState T) → IsGone a → IsLeaving t a → ⊥
gone_is_no_leaving t (awaited bytes) is leaving = is
gone_is_no_leaving t (there x) is leaving = is
gone_is_no_leaving t (gone told) is leaving = leaving

ended_once : (w : EndCause) (a b : Option EndCause) (xs : List Learnt) → a ≡ Some w → EndsOnce a xs b → b ≡ Some w
ended_once w None b xs is once = absurd (cc)
ended_once w (Some v) b xs is once = once.1 ∙ is

left_stays : {T : Type 0} (t : TalkGhosts T) (made : T → Type 0) (a b : ClientState T) (xs : List Learnt) → Passes t made a xs b → HasLeft a → HasLeft b
left_stays t made (awaited bytes) b xs passes left = absurd left
left_stays t made (there x) (awaited bytes) xs passes left = absurd passes
left_stays t made (there x) (there y) xs passes left = (left.0, ended_once left.0 x.end_cause y.end_cause xs left.1 passes.6)
left_stays t made (there x) (gone told) xs passes left = tt
left_stays t made (gone told) (awaited bytes) xs passes left = absurd passes
left_stays t made (gone told) (there y) xs passes left = absurd passes
left_stays t made (gone told) (gone more) xs passes left = tt

none_wanted : (o : Option EndCause) (w : EndCause) (v u : Want) → o ≡ Some w → unless_ended o v ≡ Some u → ⊥
none_wanted None w v u is wants = absurd (cc)
none_wanted (Some x) w v u is wants = absurd (cc)

left_wants_none : {T : Type 0} (t : TalkGhosts T) (a : ClientState T) (u : Want) → HasLeft a → wanted t a ≡ Some u → ⊥
left_wants_none t (awaited bytes) u left wants = left
left_wants_none t (there x) u left wants = none_wanted x.end_cause left.0 (t.wants x.talk) u left.1 wants
left_wants_none t (gone told) u left wants = absurd (cc)

module _ {M T C : Type 0} (m : MachineGhosts M) (t : TalkGhosts T) (k : ClientsGhosts C T) where
  no_step : (clients : C) (old : M) (ds : List Exchange) (new : M) → Steps m t k clients old ds new → (c : ℕ) → HasLeft (k.at clients c) → IsAmong c ds → ⊥
  no_step clients old [] new made c left among = among
  no_step clients old (d ∷ ds) new made c left among = elim among [
    | inl is ↦ left_wants_none t (k.at clients c) d.want left (subst (λ (e : ℕ). wanted t (k.at clients e) ≡ Some d.want) is made.1)
    | inr later ↦ no_step clients made.0 ds new made.5 c left later
  ]

  no_service : (old : M) (before : C) (turn : Turn) (new : M) (after : C) → TakesTurn m t k old before turn new after → (c : ℕ) → HasLeft (k.at before c) → IsTurnOf c turn → ⊥
  no_service old before (steps d ds) new after took c left serves = no_step before old (d ∷ ds) new took.0 c left serves
  no_service old before (asks d) new after took c left serves = left_wants_none t (k.at before c) d.want left (subst (λ (e : ℕ). wanted t (k.at before e) ≡ Some d.want) serves took.0)
  no_service old before (waits client w) new after took c left serves = left_wants_none t (k.at before c) w left (subst (λ (e : ℕ). wanted t (k.at before e) ≡ Some w) serves took.0)
  no_service old before (leaves client) new after took c left serves = serves
  no_service old before (ends client w) new after took c left serves = serves

  no_leaving : (old : M) (before : C) (turn : Turn) (new : M) (after : C) → TakesTurn m t k old before turn new after → (c : ℕ) → IsGone (k.at before c) → ClosesLeft c turn ⊎ LetsGo c turn → ⊥
  no_leaving old before (steps d ds) new after took c is it = elim it [ inl x ↦ x | inr y ↦ y ]
  no_leaving old before (asks d) new after took c is it = elim it [ inl x ↦ x | inr y ↦ y ]
  no_leaving old before (waits client w) new after took c is it = elim it [ inl x ↦ x | inr y ↦ y ]
  no_leaving old before (leaves client) new after took c is it = elim it [
    | inl same ↦ gone_is_no_leaving t (k.at before c) is (subst (λ (e : ℕ). IsLeaving t (k.at before e)) same took.0)
    | inr y ↦ y
  ]
  no_leaving old before (ends client w) new after took c is it = elim it [
    | inl x ↦ x
    | inr same ↦ gone_is_no_leaving t (k.at before c) is (subst (λ (e : ℕ). IsLeaving t (k.at before e)) same took.1)
  ]

  -- who has left is not served, and who has gone has no turn
  none_serves : (old : M) (before : C) (turns : List Turn) (new : M) (after : C) → TakesTurns m t k old before turns new after → (c : ℕ) → HasLeft (k.at before c) → NoneIs (IsTurnOf c) turns
  none_serves old before [] new after took c left = tt
  none_serves old before (u ∷ turns) new after took c left =
      let seen : HasLeft (k.at took.0 c) = left_stays t (k.makes (k.maker before)) (k.at before c) (k.at took.0 c) [] (took.3.moved.passed c) left in (
        no_service old took.0 u took.1 took.2 took.4 c seen,
        none_serves took.1 took.2 turns new after took.6 c (left_stays t (k.makes (k.maker took.0)) (k.at took.0 c) (k.at took.2 c) (learnt_in c u) (took.5.passed c) seen),
      )

  none_is : (old : M) (before : C) (turns : List Turn) (new : M) (after : C) → TakesTurns m t k old before turns new after → (c : ℕ) → IsGone (k.at before c) → NoneIs (λ u. IsTurnOf c u ⊎ ClosesLeft c u ⊎ LetsGo c u) turns
  none_is old before [] new after took c is = tt
  none_is old before (u ∷ turns) new after took c is =
      let seen : IsGone (k.at took.0 c) = stays_gone t (k.makes (k.maker before)) (k.at before c) (k.at took.0 c) [] (took.3.moved.passed c) is in (
        λ it. elim it [
          | inl serves ↦ no_service old took.0 u took.1 took.2 took.4 c (gone_has_left (k.at took.0 c) seen) serves
          | inr ends_it ↦ no_leaving old took.0 u took.1 took.2 took.4 c seen ends_it
        ],
        none_is took.1 took.2 turns new after took.6 c (stays_gone t (k.makes (k.maker took.0)) (k.at took.0 c) (k.at took.2 c) (learnt_in c u) (took.5.passed c) seen),
      )

  left_here : (old : M) (before : C) (turn : Turn) (new : M) (after : C) → TakesTurn m t k old before turn new after → (c : ℕ) → ClosesLeft c turn → HasLeft (k.at after c)
  left_here old before (steps d ds) new after took c is = absurd is
  left_here old before (asks d) new after took c is = absurd is
  left_here old before (waits client w) new after took c is = absurd is
  left_here old before (leaves client) new after took c is =
      subst (λ (s : C). HasLeft (k.at s c)) (sym took.2) (subst (λ (e : ℕ). HasLeft (k.at before e)) is (leaving_has_left t (k.at before client) took.0))
  left_here old before (ends client w) new after took c is = absurd is

  gone_here : (old : M) (before : C) (turn : Turn) (new : M) (after : C) → TakesTurn m t k old before turn new after → (c : ℕ) → LetsGo c turn → IsGone (k.at after c)
  gone_here old before (steps d ds) new after took c is = absurd is
  gone_here old before (asks d) new after took c is = absurd is
  gone_here old before (waits client w) new after took c is = absurd is
  gone_here old before (leaves client) new after took c is = absurd is
  gone_here old before (ends client w) new after took c is = subst (λ (e : ℕ). IsGone (k.at after e)) is took.5

  pub course : (old : M) (before : C) (turns : List Turn) (new : M) (after : C) → TakesTurns m t k old before turns new after → (c : ℕ) → IsCourse c turns
  course old before [] new after took c = tt
  course old before (u ∷ turns) new after took c = (
    λ is. none_serves took.1 took.2 turns new after took.6 c (left_here old took.0 u took.1 took.2 took.4 c is),
    λ is. none_is took.1 took.2 turns new after took.6 c (gone_here old took.0 u took.1 took.2 took.4 c is),
    course took.1 took.2 turns new after took.6 c,
  )
