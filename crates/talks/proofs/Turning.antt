-- One turn after the other.
use Rattle.std.proofs.Common.{◌≡◌, ◌∙◌, ◌⊎◌, ◌≤◌, ◌+◌, ℕ, true, zero, suc, List, [], ◌∷◌, ◌++◌, length, Option, Some, None, refl, ap, sym, subst, arith, inl, inr}
use Rattle.talks.specs.declared.talk.Talk.{Ghosts as TalkGhosts}
use Rattle.talks.specs.declared.talk.MessageFront.TheVariants.{Whole, Bad}
use Rattle.talks.specs.declared.machine.Machine.{Ghosts as MachineGhosts}
use Rattle.talks.specs.declared.clients.ServedClients.{Ghosts as ClientsGhosts}
use Rattle.talks.specs.declared.want.Want.{Want}
use Rattle.talks.specs.declared.want.Reply.{Reply}
use Rattle.talks.specs.Conversations.{IsGone, Passes}
use Rattle.talks.specs.Clients.{Contention, CutsOff, CutsOffOrExpels}
use Rattle.talks.specs.Turns.{Turn, leaves, Exchange, own_learnt, learnt_in, WasLetGo, TakesTurn, TakesTurns, Goes, Moves}
use Rattle.talks.proofs.Passing.{passes_stay, passes_on}

-- a turn more is one more
pub one_more : (most : ℕ) (turns : List Turn) (t : Turn) → most ≤ length turns → most + 1 ≤ length (turns ++ t ∷ [])
one_more most [] t less = omega (arith, less)
one_more zero (u ∷ turns) t less = omega arith
one_more (suc most) (u ∷ turns) t less = let rest = one_more most turns t (omega (arith, less)) in omega (arith, rest)

-- one is cut off, and then one
cut_kept : (a b d : Contention) → b ≡ a → CutsOff b d → CutsOff a d
cut_kept a b d same next = subst (λ (x : Contention). CutsOff x d) same next

cut_more : (a d : Contention) (c : ℕ) → CutsOff (record a { cut_off = Some c }) d → (a.is_limited ≡ true) × ((e : ℕ) × (a.holder ≡ Some e) × (record a { cut_off = Some c } ≡ record a { cut_off = Some e })) → CutsOff a d
cut_more a d c (inl same) it = inr (it.0, (it.1.0, it.1.1, same ∙ it.1.2))
cut_more a d c (inr next) it = inr (next.0, (next.1.0, next.1.1, next.1.2))

cut_on : (a b d : Contention) → CutsOff a b → CutsOff b d → CutsOff a d
cut_on a b d (inl same) next = cut_kept a b d same next
cut_on a b d (inr it) next = cut_more a d it.1.0 (subst (λ (x : Contention). CutsOff x d) it.1.2 next) (it.0, (it.1.0, it.1.1, refl))

-- whoever goes
cut_beside : (e : Option ℕ) (a b : Contention) → CutsOff a b → CutsOff (record a { expelled = e }) (record b { expelled = e })
cut_beside e a b (inl same) = inl (ap (λ (x : Contention). record x { expelled = e }) same)
cut_beside e a b (inr it) = inr (it.0, (it.1.0, it.1.1, ap (λ (x : Contention). record x { expelled = e }) it.1.2))

pub cut_or_expelled_on : (a b d : Contention) → CutsOffOrExpels a b → CutsOffOrExpels b d → CutsOffOrExpels a d
cut_or_expelled_on a b d first next =
    cut_on a (record b { expelled = a.expelled }) (record d { expelled = a.expelled }) first (cut_beside a.expelled b (record d { expelled = b.expelled }) next)

module _ {M T C : Type 0} (m : MachineGhosts M) (t : TalkGhosts T) (k : ClientsGhosts C T)
    (front_more : (s : T) (bytes more : List ℕ) (n : ℕ) → t.front s bytes ≡ Whole n → (n ≤ length bytes) × (t.front s (bytes ++ more) ≡ Whole n))
    (bad_more : (s : T) (bytes more : List ℕ) → t.front s bytes ≡ Bad → t.front s (bytes ++ more) ≡ Bad) where
  pub goes_none : (clients : C) → Goes m t k clients clients
  goes_none clients = record { moved = record { passed = λ c. passes_stay t front_more bad_more (k.makes (k.maker clients)) (k.at clients c); gone = λ c is. is }; waiting = refl; contention = inl refl; maker = refl; expected = refl }

  pub goes_on : (a b d : C) → Goes m t k a b → Goes m t k b d → Goes m t k a d
  goes_on a b d first next = record {
    moved = record {
      passed = λ c.
          passes_on t front_more bad_more (k.makes (k.maker a)) (k.at a c) (k.at b c) (k.at d c) [] [] (first.moved.passed c)
          (subst (λ (m : k.Maker). Passes t (k.makes m) (k.at b c) [] (k.at d c)) first.maker (next.moved.passed c));
      gone = λ c is. first.moved.gone c (next.moved.gone c is);
    };
    waiting = next.waiting ∙ first.waiting;
    contention = cut_or_expelled_on (k.contention a) (k.contention b) (k.contention d) first.contention next.contention;
    maker = next.maker ∙ first.maker;
    expected = next.expected ∙ first.expected;
  }

  pub turns_goes : (old new : M) (before between after : C) (turns : List Turn) → TakesTurns m t k old before turns new between → Goes m t k between after → TakesTurns m t k old before turns new after
  turns_goes old new before between after [] past goes = (past.0, goes_on before between after past.1 goes)
  turns_goes old new before between after (u ∷ turns) past goes =
      (past.0, past.1, past.2, past.3, past.4, past.5, turns_goes past.1 new past.2 between after turns past.6 goes)

  pub turns_more : (old mid new : M) (before between after : C) (turns : List Turn) (turn : Turn) → TakesTurns m t k old before turns mid between → TakesTurn m t k mid between turn new after → Moves m t k new turn between after
      → TakesTurns m t k old before (turns ++ turn ∷ []) new after
  turns_more old mid new before between after [] turn past takes moves =
      (between, new, after, past.1, subst (λ (s : M). TakesTurn m t k s between turn new after) past.0 takes, moves, (refl, goes_none after))
  turns_more old mid new before between after (u ∷ turns) turn past takes moves =
      (past.0, past.1, past.2, past.3, past.4, past.5, turns_more past.1 mid new past.2 between after turns turn past.6 takes moves)

  -- a turn in which clients do nothing
  pub stays_as_it_is : (machine : M) (client : ℕ) (clients : C) → Moves m t k machine (leaves client) clients clients
  stays_as_it_is machine client clients = record {
    passed = λ c. passes_stay t front_more bad_more (k.makes (k.maker clients)) (k.at clients c);
    alone = λ c is. inl is;
    contention = refl;
    maker = refl;
    expected = refl;
  }

  -- ---- what follows of the turns, for each client

  pub talked : (old new : M) (before after : C) (turns : List Turn) → TakesTurns m t k old before turns new after → (c : ℕ) → Passes t (k.makes (k.maker before)) (k.at before c) (own_learnt c turns) (k.at after c)
  talked old new before after [] past c = past.1.moved.passed c
  talked old new before after (u ∷ turns) past c =
      let made = k.makes (k.maker before) in
      passes_on t front_more bad_more made (k.at before c) (k.at past.0 c) (k.at after c) [] (learnt_in c u ++ own_learnt c turns) (past.3.moved.passed c)
      (passes_on t front_more bad_more made (k.at past.0 c) (k.at past.2 c) (k.at after c) (learnt_in c u) (own_learnt c turns)
      (subst (λ (m : k.Maker). Passes t (k.makes m) (k.at past.0 c) (learnt_in c u) (k.at past.2 c)) past.3.maker (past.5.passed c))
      (subst (λ (m : k.Maker). Passes t (k.makes m) (k.at past.2 c) (own_learnt c turns) (k.at after c)) (past.5.maker ∙ past.3.maker) (talked past.1 new past.2 after turns past.6 c)))

  pub went : (old new : M) (before after : C) (turns : List Turn) → TakesTurns m t k old before turns new after → (c : ℕ) → IsGone (k.at after c) → IsGone (k.at before c) ⊎ WasLetGo c turns
  went old new before after [] past c is = inl (past.1.moved.gone c is)
  went old new before after (u ∷ turns) past c is = elim (went past.1 new past.2 after turns past.6 c is) [
    | inl there_already ↦ elim (past.5.alone c there_already) [ inl before_it ↦ inl (past.3.moved.gone c before_it) | inr let_go ↦ inr (inl let_go) ]
    | inr later ↦ inr (inr later)
  ]

  pub expected_kept : (old new : M) (before after : C) (turns : List Turn) → TakesTurns m t k old before turns new after → k.expected after ≡ k.expected before
  expected_kept old new before after [] past = past.1.expected
  expected_kept old new before after (u ∷ turns) past = expected_kept past.1 new past.2 after turns past.6 ∙ (past.5.expected ∙ past.3.expected)

-- two wants of one conversation are one
pub same_want : (P : Want → Type 0) (o : Option Want) (a b : Want) → o ≡ Some a → o ≡ Some b → P a → P b
same_want P o a b first second holds = subst (λ (q : Option Want). elim q as (λ _. Type 0) [ None ↦ Unit {0} | Some x ↦ P x ]) (sym first ∙ second) holds

abbrev pub exchange : ℕ → Want → Reply → Exchange
exchange c w r = record { client = c; want = w; reply = r }
