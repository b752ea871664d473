-- What is said to the clients of a tenant in two lives.
use Rattle.std.proofs.Common.{◌≡◌, ◌∙◌, ◌≤◌, ℕ, List, ◌++◌, length, sym, ap}
use Rattle.std.proofs.lemmas.List.{append_assoc}
use Rattle.store.specs.Store.{StoreState}
use Rattle.abstract_database.specs.Runs.{ReadingRelation}
use Rattle.talks.specs.Wants.{Learnt}
use Rattle.talks.specs.declared.talk.MessageFront.TheVariants.{Whole, Bad}
use Rattle.talks.specs.declared.talk.Talk.{Ghosts as TalkGhosts}
use Rattle.talks.specs.declared.clients.ServedClients.{Ghosts as ClientsGhosts}
use Rattle.talks.specs.Turns.{Exchange, Turn, TakesTurns, IsCourse, learnt_of_all, own_learnt}
use Rattle.served_machine.specs.declared.machine.ServedMachine.{ServedMachine}
use Rattle.served_machine.specs.Machines.{machine_of}
use Rattle.served_tenants.specs.Exchanges.{exchanges_of}
use Rattle.served_tenants.proofs.HeardAlike.{shorter}
use Rattle.served_tenants.proofs.SaidAlike.{all_joined, learnt_so, both_learnt, says}
use Rattle.served_lives.specs.SaidLives.{lives_say_the_same}

module _ {S X T C : Type 0} (Reads : ReadingRelation) (state : S → StoreState) (t : TalkGhosts T) (k : ClientsGhosts C T) where
  -- what a client learns of its turns is a front of what it would learn of all that was done
  pub learnt_first : (c : ℕ) (old : ServedMachine S X) (before : C) (us : List Turn) (new : ServedMachine S X) (after : C) (took : TakesTurns (machine_of Reads state) t k old before us new after) → IsCourse c us →
      (untold done : List Exchange) → exchanges_of Reads state t k old before us new after took ++ untold ≡ done → (more : List Learnt) × (own_learnt c us ++ more ≡ learnt_of_all c done)
  learnt_first c old before us new after took course untold done first =
      let mine = learnt_so Reads state t k c old before us new after took course in (
        mine.0 ++ learnt_of_all c untold,
        sym (append_assoc (own_learnt c us) mine.0 (learnt_of_all c untold)) ∙ ap (λ (l : List Learnt). l ++ learnt_of_all c untold) mine.1
            ∙ sym (all_joined c (exchanges_of Reads state t k old before us new after took) untold) ∙ ap (λ (ds : List Exchange). learnt_of_all c ds) first,
      )

module _ (S Z X Y T C D : Type 0) (Reads : ReadingRelation) (state : S → StoreState) (state_there : Z → StoreState) (t : TalkGhosts T) (k : ClientsGhosts C T) (j : ClientsGhosts D T) (Alike : T → T → Type 0)
    (front_more : (x : T) (bytes more : List ℕ) (n : ℕ) → t.front x bytes ≡ Whole n → (n ≤ length bytes) × (t.front x (bytes ++ more) ≡ Whole n))
    (bad_more : (x : T) (bytes more : List ℕ) → t.front x bytes ≡ Bad → t.front x (bytes ++ more) ≡ Bad) where
  pub said_by_lives : lives_say_the_same S Z X Y T C D Reads state state_there t k j Alike
  said_by_lives speaks a d e life other told never old before us new after took old_there before_there us_there new_there after_there took_there of of_there c b at_one own course course_there begin from to from_there to_there is is_there here it =
      let mine = learnt_first Reads state t k c old before us new after took course of.untold life.done of.first in
      let theirs = learnt_first Reads state_there t j b old_there before_there us_there new_there after_there took_there course_there of_there.untold other.done of_there.first in
      says t Alike speaks front_more bad_more (k.makes (k.maker before)) (j.makes (j.maker before_there)) begin (own_learnt c us) (own_learnt b us_there)
      (shorter (own_learnt c us) (own_learnt b us_there) _ _ mine.0 theirs.0 mine.1 theirs.1 (both_learnt Reads a life.place other.place life.apart other.apart c b at_one own told never))
      from to from_there to_there is is_there here it
