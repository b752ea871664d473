-- Who is let go since it held the writer lock was cut off while it held it, and another wanted it.
use Rattle.std.proofs.Common.{◌≡◌, ◌≢◌, ◌⊎◌, ◌∙◌, ◌==◌, ◌&&◌, ◌||◌, ℕ, Bool, true, false, List, [], ◌∷◌, Option, Some, None, not, if◌then◌else◌, refl, ap, sym, subst, inl, inr}
use Rattle.std.proofs.lemmas.Bool.{eqb-true, eqb-false}
use Rattle.talks.specs.declared.talk.Talk.{Ghosts as TalkGhosts}
use Rattle.talks.specs.declared.machine.Machine.{Ghosts as MachineGhosts}
use Rattle.talks.specs.declared.clients.ServedClients.{Ghosts as ClientsGhosts}
use Rattle.talks.specs.Wants.{refuses_lock}
use Rattle.talks.specs.Clients.{Contention, CutsOffOrExpels, is_client, contending, unless_client, forgotten}
use Rattle.talks.specs.Turns.{Turn, Exchange, steps, asks, waits, leaves, ends, LetsGoHolder, HolderWasLetGo, TakesTurn, TakesTurns, Contends, ContendsAll, ContendsIn, IsRefusedLock, StillHolds, WasCutOff}

-- ---- who is told of

is_the_client : (c : ℕ) (o : Option ℕ) → is_client c o ≡ true → o ≡ Some c
is_the_client c None is = cc
is_the_client c (Some d) is = ap Some (eqb-true d c is)

not_client : (c : ℕ) (o : Option ℕ) → is_client c o ≡ false → o ≡ Some c → ⊥
not_client c None is same = absurd (cc)
not_client c (Some d) is same = eqb-false d c is (cc)

pub none_is_some : (o : Option ℕ) (c : ℕ) → o ≡ None → o ≡ Some c → ⊥
none_is_some o c none some = let never : None ≡ Some c = sym none ∙ some in absurd (cc)

kept_if : (b : Bool) (o : Option ℕ) (c : ℕ) → (if b then None else o) ≡ Some c → o ≡ Some c
kept_if true o c is = cc
kept_if false o c is = is

-- who is told of once a client was forgotten was told of before
unless_before : (d c : ℕ) (o : Option ℕ) → unless_client d o ≡ Some c → o ≡ Some c
unless_before d c o is = kept_if (is_client d o) o c is

-- the holder that is wanted holds the lock, and was wanted before, or another wants it now
by_another : (e : Bool) (h d c : ℕ) (old : Option ℕ) → (h == d) ≡ e → (if not e then Some h else None) ≡ Some c → (h ≡ c) × ((old ≡ Some c) ⊎ ((true ≡ true) × (d ≢ c)))
by_another true h d c old it found = cc
by_another false h d c old it found = let same : h ≡ c = cc in (same, inr (refl, λ other. eqb-false h d it (same ∙ sym other)))

by_holder : (b w : Bool) (h c d : ℕ) (old : Option ℕ) → is_client h old ≡ b → (if b || (w && not (h == d)) then Some h else None) ≡ Some c → (h ≡ c) × ((old ≡ Some c) ⊎ ((w ≡ true) × (d ≢ c)))
by_holder true w h c d old was is = let same : h ≡ c = cc in (same, inl (is_the_client h old was ∙ ap Some same))
by_holder false true h c d old was is = by_another (h == d) h d c old refl is
by_holder false false h c d old was is = cc

who_contends : (holder : Option ℕ) (d : ℕ) (w : Bool) (old : Option ℕ) (c : ℕ) → contending holder d w old ≡ Some c → (holder ≡ Some c) × ((old ≡ Some c) ⊎ ((w ≡ true) × (d ≢ c)))
who_contends None d w old c is = cc
who_contends (Some h) d w old c is = let it = by_holder (is_client h old) w h c d old refl is in (ap Some it.0, it.1)

-- ---- one call

goes_cut : (a b : Contention) (c : ℕ) → CutsOffOrExpels a b → b.cut_off ≡ Some c → (a.cut_off ≡ Some c) ⊎ ((a.is_limited ≡ true) × (a.holder ≡ Some c))
goes_cut a b c (inl same) is = inl (subst (λ (x : Contention). x.cut_off ≡ Some c) same is)
goes_cut a b c (inr it) is =
    let one : Some it.1.0 ≡ Some c = subst (λ (x : Contention). x.cut_off ≡ Some c) it.1.2 is in
    inr (it.0, it.1.1 ∙ one)

goes_same : (a b : Contention) → CutsOffOrExpels a b → (b.holder ≡ a.holder) × (b.is_limited ≡ a.is_limited)
goes_same a b (inl same) = (ap (λ (x : Contention). x.holder) same, ap (λ (x : Contention). x.is_limited) same)
goes_same a b (inr it) = (ap (λ (x : Contention). x.holder) it.1.2, ap (λ (x : Contention). x.is_limited) it.1.2)

-- nobody comes to be cut off, and it stays limited or not
abbrev Cuts : ℕ → Contention → Contention → Type 0
Cuts c a b = (b.cut_off ≡ Some c → a.cut_off ≡ Some c) × (b.is_limited ≡ a.is_limited)

cuts_on : (c : ℕ) (a b d : Contention) → Cuts c a b → Cuts c b d → Cuts c a d
cuts_on c a b d first next = ((λ is. first.0 (next.0 is)), next.1 ∙ first.1)

same_cuts : (c : ℕ) (a b : Contention) → b ≡ a → Cuts c a b
same_cuts c a b same = ((λ is. subst (λ (x : Contention). x.cut_off ≡ Some c) same is), ap (λ (x : Contention). x.is_limited) same)

forgotten_cuts : (c d : ℕ) (a b : Contention) → b ≡ forgotten d a → Cuts c a b
forgotten_cuts c d a b same =
    ((λ is. unless_before d c a.cut_off (subst (λ (x : Contention). x.cut_off ≡ Some c) same is)), ap (λ (x : Contention). x.is_limited) same)

module _ {M T C : Type 0} (m : MachineGhosts M) (t : TalkGhosts T) (k : ClientsGhosts C T) where
  one_cuts : (machine : M) (c d : ℕ) (w : Bool) (a b : Contention) → Contends m t k machine d w a b → Cuts c a b
  one_cuts machine c d w a b it =
      ((λ is. subst (λ (x : Contention). x.cut_off ≡ Some c) it.2 is), ap (λ (x : Contention). x.is_limited) it.2)

  one_holds : (machine : M) (c d : ℕ) (w : Bool) (a b : Contention) → Contends m t k machine d w a b → b.holder ≡ Some c
      → m.IsHeldBy machine (Some c) × ((a.holder ≡ Some c) ⊎ ((w ≡ true) × (d ≢ c)))
  one_holds machine c d w a b it is =
      let who = who_contends it.0 d w a.holder c (subst (λ (x : Contention). x.holder ≡ Some c) it.2 is) in
      (subst (λ (o : Option ℕ). m.IsHeldBy machine o) who.0 it.1, who.1)

  all_cut : (machine : M) (c : ℕ) (ds : List Exchange) (a b : Contention) → ContendsAll m t k machine ds a b → Cuts c a b
  all_cut machine c [] a b it = same_cuts c a b it
  all_cut machine c (d ∷ ds) a b it = cuts_on c a it.0 b (one_cuts machine c d.client (refuses_lock d.reply) a it.0 it.1) (all_cut machine c ds it.0 b it.2)

  all_hold : (machine : M) (c : ℕ) (d : Exchange) (ds : List Exchange) (a b : Contention) → ContendsAll m t k machine (d ∷ ds) a b → b.holder ≡ Some c → m.IsHeldBy machine (Some c)
  all_hold machine c d [] a b it is = (one_holds machine c d.client (refuses_lock d.reply) a it.0 it.1 (subst (λ (x : Contention). x.holder ≡ Some c) it.2 is)).0
  all_hold machine c d (e ∷ ds) a b it is = all_hold machine c e ds it.0 b it.2 is

  all_want : (machine : M) (c : ℕ) (ds : List Exchange) (a b : Contention) → ContendsAll m t k machine ds a b → b.holder ≡ Some c → (a.holder ≡ Some c) ⊎ IsRefusedLock m t k c ds
  all_want machine c [] a b it is = inl (subst (λ (x : Contention). x.holder ≡ Some c) it is)
  all_want machine c (d ∷ ds) a b it is = elim (all_want machine c ds it.0 b it.2 is) [
    | inl mid ↦ elim (one_holds machine c d.client (refuses_lock d.reply) a it.0 it.1 mid).1 [ inl was ↦ inl was | inr wants ↦ inr (inl wants) ]
    | inr later ↦ inr (inr later)
  ]

  -- ---- one turn

  turn_cuts : (machine : M) (c : ℕ) (turn : Turn) (a b : Contention) → ContendsIn m t k machine turn a b → Cuts c a b
  turn_cuts machine c (steps d ds) a b it = all_cut machine c (d ∷ ds) a b it
  turn_cuts machine c (asks d) a b it = one_cuts machine c d.client (refuses_lock d.reply) a b it
  turn_cuts machine c (waits d w) a b it = one_cuts machine c d true a b it
  turn_cuts machine c (leaves d) a b it = same_cuts c a b it
  turn_cuts machine c (ends d w) a b it = forgotten_cuts c d a b it

  turn_holds : (Holds : Type 0) (machine : M) (c : ℕ) (turn : Turn) (a b : Contention) → ContendsIn m t k machine turn a b → (a.holder ≡ Some c → Holds) → b.holder ≡ Some c → StillHolds m t k Holds c turn machine
  turn_holds Holds machine c (steps d ds) a b it holds is =
      (all_hold machine c d ds a b it is, elim (all_want machine c (d ∷ ds) a b it is) [ inl was ↦ inr (holds was) | inr wants ↦ inl wants ])
  turn_holds Holds machine c (asks d) a b it holds is =
      let one = one_holds machine c d.client (refuses_lock d.reply) a b it is in
      (one.0, elim one.1 [ inl was ↦ inr (holds was) | inr wants ↦ inl (inl wants) ])
  turn_holds Holds machine c (waits d w) a b it holds is =
      let one = one_holds machine c d true a b it is in
      (one.0, elim one.1 [ inl was ↦ inr (holds was) | inr wants ↦ inl wants.1 ])
  turn_holds Holds machine c (leaves d) a b it holds is = holds (subst (λ (x : Contention). x.holder ≡ Some c) it is)
  turn_holds Holds machine c (ends d w) a b it holds is = holds (unless_before d c a.holder (subst (λ (x : Contention). x.holder ≡ Some c) it is))

  was_cut_off : (old : M) (before : C) (turn : Turn) (new : M) (after : C) → TakesTurn m t k old before turn new after → (c : ℕ) → LetsGoHolder c turn → (k.contention before).cut_off ≡ Some c
  was_cut_off old before (steps d ds) new after took c is = absurd is
  was_cut_off old before (asks d) new after took c is = absurd is
  was_cut_off old before (waits d w) new after took c is = absurd is
  was_cut_off old before (leaves d) new after took c is = absurd is
  was_cut_off old before (ends d w) new after took c is = took.7 is.1 ∙ ap Some is.0

  -- ---- all turns

  -- of one turn, and those after it, of which this is known
  cut_off_in : (Holds : Type 0) (c : ℕ) (old : M) (before : C) (u : Turn) (turns : List Turn) (new : M) (after : C) (took : TakesTurns m t k old before (u ∷ turns) new after)
      → ((k.contention before).cut_off ≡ Some c → ⊥) → ((k.contention before).holder ≡ Some c → Holds) → LetsGoHolder c u ⊎ HolderWasLetGo c turns
      → (((k.contention took.2).cut_off ≡ Some c → ⊥) → ((k.contention took.2).holder ≡ Some c → StillHolds m t k Holds c u took.1) → HolderWasLetGo c turns
      → ((k.contention took.2).is_limited ≡ true) × WasCutOff m t k (StillHolds m t k Holds c u took.1) c took.1 took.2 turns new after took.6)
      → (b : Bool) → is_client c (k.contention took.0).cut_off ≡ b → ((k.contention before).is_limited ≡ true) × WasCutOff m t k Holds c old before (u ∷ turns) new after took
  cut_off_in Holds c old before u turns new after took none holds was rest true is =
      let cut = is_the_client c (k.contention took.0).cut_off is in
      elim (goes_cut (k.contention before) (k.contention took.0) c took.3.contention cut) [ inl earlier ↦ absurd (none earlier) | inr it ↦ (it.0, inl (cut, holds it.1)) ]
  cut_off_in Holds c old before u turns new after took none holds was rest false is =
      let uncut : (k.contention took.0).cut_off ≡ Some c → ⊥ = λ cut. not_client c (k.contention took.0).cut_off is cut in
      let same = goes_same (k.contention before) (k.contention took.0) took.3.contention in
      let cuts = turn_cuts took.1 c u (k.contention took.0) (k.contention took.2) took.5.contention in
      elim was [
        | inl now ↦ absurd (uncut (was_cut_off old took.0 u took.1 took.2 took.4 c now))
        | inr later ↦
            let found = rest (λ cut. uncut (cuts.0 cut)) (turn_holds Holds took.1 c u (k.contention took.0) (k.contention took.2) took.5.contention (λ held. holds (sym same.0 ∙ held))) later in
            (sym same.1 ∙ (sym cuts.1 ∙ found.0), inr found.1)
      ]

  -- who is let go in these turns for that, and had not been cut off, was so in them
  pub cut_off_holding : (Holds : Type 0) (c : ℕ) (old : M) (before : C) (turns : List Turn) (new : M) (after : C) (took : TakesTurns m t k old before turns new after)
      → ((k.contention before).cut_off ≡ Some c → ⊥) → ((k.contention before).holder ≡ Some c → Holds) → HolderWasLetGo c turns
      → ((k.contention before).is_limited ≡ true) × WasCutOff m t k Holds c old before turns new after took
  cut_off_holding Holds c old before [] new after took none holds was = absurd was
  cut_off_holding Holds c old before (u ∷ turns) new after took none holds was =
      cut_off_in Holds c old before u turns new after took none holds was (λ uncut held later. cut_off_holding (StillHolds m t k Holds c u took.1) c took.1 took.2 turns new after took.6 uncut held later)
      (is_client c (k.contention took.0).cut_off) refl
