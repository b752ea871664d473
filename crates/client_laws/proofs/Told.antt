-- What a tenant is told whose clients have other numbers in each run.
use Rattle.std.proofs.Common.{◌≡◌, ◌∙◌, ◌+◌, ◌*◌, ℕ, Bool, true, false, cond, List, [], ◌∷◌, map, Option, Some, None, refl, sym, ap, subst, arith}
use Rattle.sql_types.specs.declared.answer.Answer.{Answer}
use Rattle.abstract_database.specs.Machine.{Holder, Event, opens, executes, closes, Reading, Machine, Transition, machine_over}
use Rattle.abstract_database.specs.Runs.{TheText, ReadingRelation, RanBy, Stops, At, Happens}
use Rattle.database_laws.specs.Invariants.{IsSound, HoldsOfHolder}
use Rattle.database_laws.specs.HiddenRuns.{SameApparentRowsForPairs, AreSound, answer_to, after}
use Rattle.database_laws.specs.Sessions.{number_of}
use Rattle.database_laws.specs.Told.{Tenant, Act, happens, declares, restarts, follows, is_of, OpensItsOwn, OthersKeepOutOfSight, noticed}
use Rattle.database_laws.specs.Patterns.{is_listed, pattern, own_answers}
use Rattle.database_laws.specs.ToldStores.{is_text_of, own_texts, OpensAsOwn, KeepOutOfSight}
use Rattle.database_laws.proofs.ToldRuns.{told}
use Rattle.database_laws.proofs.ToldStores.{told_by_stores}
use Rattle.database_laws.proofs.PatternLemmas.{patterns_determine}
use Rattle.client_laws.specs.Renumbered.{IsOneToOne, renumbered, renumbered_holder, renumbered_machine, renumbered_event, renumbered_events, renumbered_at}
use Rattle.client_laws.specs.Clients.{in_run, renumbered_act, renumbered_acts, what_clients_are_told, places_change_no_answer, patterns_determine_clients_answers, what_stores_tell_clients, own_clients_have_places}
use Rattle.client_laws.proofs.Moving.{moves_so}
use Rattle.client_laws.proofs.Stores.{run_so}

-- ---- what is sound

holder_sound : (place : ℕ → ℕ) (o : Option Holder) → HoldsOfHolder IsSound o → HoldsOfHolder IsSound (renumbered_holder place o)
holder_sound place None sound = tt
holder_sound place (Some h) sound = sound

sound_so : (place : ℕ → ℕ) (m : Machine) → AreSound m → AreSound (renumbered_machine place m)
sound_so place m sound = record { committed = sound.committed; holder = holder_sound place m.holder sound.holder }

-- ---- runs of machines

module _ (a : Tenant) (place : ℕ → ℕ) (apart : IsOneToOne place) where
  abbrev b : Tenant
  b = in_run place a

  abbrev rm : Machine → Machine
  rm = renumbered_machine place

  answers_so : (m : Machine) (event : Event Reading) → answer_to (rm m) (renumbered_event place event) ≡ answer_to m event
  answers_so m event = ap (λ (t : Transition). t.answer) (moves_so place apart m event)

  after_so : (m : Machine) (event : Event Reading) → after (rm m) (renumbered_event place event) ≡ rm (after m event)
  after_so m event = ap (λ (t : Transition). t.machine) (moves_so place apart m event)

  follows_so : (m : Machine) (x : Act) → follows (rm m) (renumbered_act place x) ≡ rm (follows m x)
  follows_so m (happens event) = after_so m event
  follows_so m (declares event) = after_so m event
  follows_so m restarts = refl

  number_so : {T : Type 0} (event : Event T) → number_of (renumbered_event place event) ≡ renumbered place (number_of event)
  number_so (opens n login) = refl
  number_so (executes n x) = refl
  number_so (closes n) = refl

  own_so : (x : Act) → is_of a (renumbered_act place x) ≡ is_of b x
  own_so (happens event) = ap a.sessions (number_so event)
  own_so (declares event) = refl
  own_so restarts = refl

  opens_so : (m : Machine) (x : Act) → OpensItsOwn b m x → OpensItsOwn a (rm m) (renumbered_act place x)
  opens_so m (happens (opens n login)) own = own
  opens_so m (happens (executes n reading)) own = tt
  opens_so m (happens (closes n)) own = tt
  opens_so m (declares event) own = tt
  opens_so m restarts own = tt

  hidden_so : (m : Machine) (acts : List Act) → OthersKeepOutOfSight b m acts → OthersKeepOutOfSight a (rm m) (renumbered_acts place acts)
  hidden_so m [] keep = tt
  hidden_so m (x ∷ later) (one, more) = (
    (
      λ own. opens_so m x (one.0 (sym (own_so x) ∙ own)),
      λ foreign. subst (λ (z : Machine). SameApparentRowsForPairs a.pairs m.committed z.committed) (sym (follows_so m x)) (one.1 (sym (own_so x) ∙ foreign)),
    ),
    subst (λ (z : Machine). OthersKeepOutOfSight a z (renumbered_acts place later)) (sym (follows_so m x)) (hidden_so (follows m x) later more),
  )

  chosen : {A B : Type 0} (f : A → B) (c : Bool) (xs ys : List A) → map f (cond c xs ys) ≡ cond c (map f xs) (map f ys)
  chosen f true xs ys = refl
  chosen f false xs ys = refl

  noticed_so : (acts : List Act) → noticed a (renumbered_acts place acts) ≡ renumbered_acts place (noticed b acts)
  noticed_so [] = refl
  noticed_so (x ∷ later) =
      ap (λ (c : Bool). cond c (renumbered_act place x ∷ noticed a (renumbered_acts place later)) (noticed a (renumbered_acts place later))) (own_so x)
      ∙ ap (λ (l : List Act). cond (is_of b x) (renumbered_act place x ∷ l) l) (noticed_so later)
      ∙ sym (chosen (renumbered_act place) (is_of b x) (x ∷ noticed b later) (noticed b later))

  own_answers_so : (m : Machine) (acts : List Act) → own_answers a (rm m) (renumbered_acts place acts) ≡ own_answers b m acts
  own_answers_so m [] = refl
  own_answers_so m (happens event ∷ later) =
      ap (λ (c : Bool). cond c (answer_to (rm m) (renumbered_event place event) ∷ own_answers a (after (rm m) (renumbered_event place event)) (renumbered_acts place later))
      (own_answers a (after (rm m) (renumbered_event place event)) (renumbered_acts place later))) (ap a.sessions (number_so event))
      ∙ ap (λ (x : Answer). cond (b.sessions (number_of event)) (x ∷ own_answers a (after (rm m) (renumbered_event place event)) (renumbered_acts place later))
      (own_answers a (after (rm m) (renumbered_event place event)) (renumbered_acts place later))) (answers_so m event)
      ∙ ap (λ (l : List Answer). cond (b.sessions (number_of event)) (answer_to m event ∷ l) l)
      (ap (λ (z : Machine). own_answers a z (renumbered_acts place later)) (after_so m event) ∙ own_answers_so (after m event) later)
  own_answers_so m (declares event ∷ later) = ap (λ (z : Machine). own_answers a z (renumbered_acts place later)) (after_so m event) ∙ own_answers_so (after m event) later
  own_answers_so m (restarts ∷ later) = own_answers_so (machine_over m.committed) later

  -- ---- runs over stores

  text_so : (event : Event TheText) → is_text_of a (renumbered_event place event) ≡ is_text_of b event
  text_so event = ap a.sessions (number_so event)

  opens_as : (m : Machine) (event : Event TheText) → OpensAsOwn b m event → OpensAsOwn a (rm m) (renumbered_event place event)
  opens_as m (opens n login) own = own
  opens_as m (executes n text) own = tt
  opens_as m (closes n) own = tt

  texts_so : (events : List (Event TheText)) → own_texts a (renumbered_events place events) ≡ renumbered_events place (own_texts b events)
  texts_so [] = refl
  texts_so (x ∷ later) =
      ap (λ (c : Bool). cond c (renumbered_event place x ∷ own_texts a (renumbered_events place later)) (own_texts a (renumbered_events place later))) (text_so x)
      ∙ ap (λ (l : List (Event TheText)). cond (is_text_of b x) (renumbered_event place x ∷ l) l) (texts_so later)
      ∙ sym (chosen (λ (e : Event TheText). renumbered_event place e) (is_text_of b x) (x ∷ own_texts b later) (own_texts b later))

  module _ (Reads : ReadingRelation) (Leave : Stops) where
    keep_so : (w end : At) (events : List (Event TheText)) (answers : List Answer) (ran : RanBy (Happens Reads Leave) w events answers end) → KeepOutOfSight Reads Leave b w end events answers ran →
        KeepOutOfSight Reads Leave a (renumbered_at place w) (renumbered_at place end) (renumbered_events place events) answers (run_so Reads place apart Leave w end events answers ran)
    keep_so w end [] [] ran keep = tt
    keep_so w end (event ∷ events) (x ∷ answers) (next, it, its) (one, more) = (
      (λ own. opens_as w.standing.machine event (one.0 (sym (text_so event) ∙ own)), λ foreign. one.1 (sym (text_so event) ∙ foreign)),
      keep_so next end events answers its more,
    )
    keep_so w end [] (x ∷ answers) ran keep = absurd ran
    keep_so w end (event ∷ events) [] ran keep = absurd ran

-- ---- the laws

pub clients_told : what_clients_are_told
clients_told a place place_there apart apart_there m k acts others st on_m on_k hidden hidden_there same =
    told a (renumbered_machine place m) (renumbered_machine place_there k) (renumbered_acts place acts) (renumbered_acts place_there others) st (sound_so place m on_m) (sound_so place_there k on_k)
    (hidden_so a place apart m acts hidden) (hidden_so a place_there apart_there k others hidden_there)
    (noticed_so a place apart acts ∙ same ∙ sym (noticed_so a place_there apart_there others))

pub answers_placed : places_change_no_answer
answers_placed a place apart m acts = own_answers_so a place apart m acts

pub clients_patterns : patterns_determine_clients_answers
clients_patterns a place place_there apart apart_there m k acts others st on_m on_k hidden hidden_there same alone declared one =
    sym (own_answers_so a place apart m acts)
    ∙ patterns_determine a (renumbered_machine place m) (renumbered_machine place_there k) (renumbered_acts place acts) (renumbered_acts place_there others) st (sound_so place m on_m) (sound_so place_there k on_k)
    (hidden_so a place apart m acts hidden) (hidden_so a place_there apart_there k others hidden_there)
    (noticed_so a place apart acts ∙ same ∙ sym (noticed_so a place_there apart_there others)) alone declared
    (ap (pattern is_listed) (own_answers_so a place apart m acts) ∙ one ∙ sym (ap (pattern is_listed) (own_answers_so a place_there apart_there k others)))
    ∙ own_answers_so a place_there apart_there k others

pub stores_told : (Reads : ReadingRelation) (Leave LeaveOther : Stops) → what_stores_tell_clients Reads Leave LeaveOther
stores_told Reads Leave LeaveOther once a place place_there apart apart_there w v end other_end events others answers answers_there st on_w on_v ran ran_there keep keep_there same =
    told_by_stores Reads Leave LeaveOther once a (renumbered_at place w) (renumbered_at place_there v) (renumbered_at place end) (renumbered_at place_there other_end)
    (renumbered_events place events) (renumbered_events place_there others) answers answers_there st (sound_so place w.standing.machine on_w) (sound_so place_there v.standing.machine on_v)
    (run_so Reads place apart Leave w end events answers ran) (run_so Reads place_there apart_there LeaveOther v other_end others answers_there ran_there)
    (keep_so a place apart Reads Leave w end events answers ran keep) (keep_so a place_there apart_there Reads LeaveOther v other_end others answers_there ran_there keep_there)
    (texts_so a place apart events ∙ same ∙ sym (texts_so a place_there apart_there others))

-- ---- places

module _ (own : ℕ → Bool) (name : ℕ → ℕ) (names : (c d : ℕ) → own c ≡ true → own d ≡ true → name c ≡ name d → c ≡ d) where
  halves : (i j : ℕ) → 2 * i ≡ 2 * j → i ≡ j
  halves i j is = omega (arith, is)

  odd_halves : (i j : ℕ) → 2 * i + 1 ≡ 2 * j + 1 → i ≡ j
  odd_halves i j is = omega (arith, is)

  parity : (i j : ℕ) → 2 * i + 1 ≡ 2 * j → ⊥
  parity i j is = omega (arith, is)

  at_places : (c d : ℕ) (x y : Bool) → own c ≡ x → own d ≡ y → cond x (2 * name c) (2 * c + 1) ≡ cond y (2 * name d) (2 * d + 1) → c ≡ d
  at_places c d true true on too is = names c d on too (halves (name c) (name d) is)
  at_places c d true false on too is = absurd (parity d (name c) (sym is))
  at_places c d false true on too is = absurd (parity c (name d) is)
  at_places c d false false on too is = odd_halves c d is

  beside : (c n : ℕ) (x : Bool) → x ≡ false → cond x (2 * name c) (2 * c + 1) ≡ 2 * n → ⊥
  beside c n true off is = let wrong : true ≡ false = off in cc
  beside c n false off is = parity c n is

pub have_places : own_clients_have_places
have_places own name names = (
  λ c d is. at_places own name names c d (own c) (own d) refl refl is,
  λ c on. ap (λ (x : Bool). cond x (2 * name c) (2 * c + 1)) on,
  λ c n off is. beside own name names c n (own c) off is,
)
