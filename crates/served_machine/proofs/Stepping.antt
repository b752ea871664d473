-- Steps of a server as steps for clients, and the sessions that are left.
use Rattle.std.proofs.Common.{◌≡◌, ◌∙◌, ◌⊎◌, ◌<◌, ◌^◌, ℕ, nat_eq, inl, inr, Bool, true, false, cond, List, [], ◌∷◌, refl, sym, subst, arith}
use Rattle.std.proofs.lemmas.Bool.{eq-eqb}
use Rattle.sql_types.specs.declared.answer.Answer.{Answer}
use Rattle.sql_types.specs.declared.event.Event.{Event}
use Rattle.sql_types.specs.declared.event.Event.TheVariants as event
use Rattle.store.specs.Store.{StoreState}
use Rattle.abstract_database.specs.Lists.{TheName}
use Rattle.abstract_database.specs.Machine.{Session, client_of, number_in, own_sessions}
use Rattle.abstract_database.specs.Runs.{ReadingRelation}
use Rattle.server.specs.declared.server.Server.{Server}
use Rattle.server.specs.Clients.{HasNoneOpen}
use Rattle.talks.specs.declared.want.Want.{Want}
use Rattle.talks.specs.declared.want.Want.TheVariants as want
use Rattle.talks.specs.declared.want.Reply.TheVariants as reply
use Rattle.talks.specs.Wants.{WantsStep}
use Rattle.served_machine.specs.Sessions.{HasSession, HasOwnSession}
use Rattle.served_machine.specs.Served.{TakesEvent, TakesStep}

-- ---- steps

module _ {S X : Type 0} (Reads : ReadingRelation) (state : S → StoreState) (c : ℕ) (a : Answer) (old new : Server S X) where
  event_step : (e : Event) → WantsStep (want.Event e) → TakesEvent Reads state c e a old new → TakesStep Reads state c (want.Event e) (reply.Answer a) old new
  event_step (event.Open n login) step made = absurd step
  event_step (event.Statement n text) step made = made
  event_step (event.Close n) step made = made

  -- an event that a client wants
  pub takes_step : (w : Want) (e : Event) → w ≡ want.Event e → WantsStep w → TakesEvent Reads state c e a old new → TakesStep Reads state c w (reply.Answer a) old new
  takes_step w e is step made = subst (λ (v : Want). TakesStep Reads state c v (reply.Answer a) old new) (sym is) (event_step e (subst WantsStep is step) made)

-- ---- no session is left

none_at : (b : Bool) (c n : ℕ) (login : TheName) (e : ℕ × Session) (es : List (ℕ × Session)) → n < 2 ^ 32 → nat_eq c (client_of e.0) ≡ b
    → (own_sessions c es ≡ [] → HasSession es (number_in c n) login → ⊥)
    → cond b (e ∷ own_sessions c es) (own_sessions c es) ≡ [] → HasSession (e ∷ es) (number_in c n) login → ⊥
none_at true c n login e es small is later none has = cc
none_at false c n login e es small is later none (inr has) = later none has
none_at false c n login e es small is later none (inl here) =
    let number = here.0 in
    let same : c ≡ client_of e.0 = omega (arith, number, small) in
    let wrong : false ≡ true = sym is ∙ eq-eqb c (client_of e.0) same in
    cc

none_own : (c n : ℕ) (login : TheName) (es : List (ℕ × Session)) → n < 2 ^ 32 → own_sessions c es ≡ [] → HasSession es (number_in c n) login → ⊥
none_own c n login [] small none has = has
none_own c n login (e ∷ es) small none has = none_at (nat_eq c (client_of e.0)) c n login e es small refl (none_own c n login es small) none has

-- a client has none, or the server has stopped
pub none_left : {S X : Type 0} (state : S → StoreState) (server : Server S X) (c : ℕ) (stopped : Bool) → server.stopped ≡ stopped → (server.stopped ≡ false → HasNoneOpen state c server)
    → (server.stopped ≡ true) ⊎ ((n : ℕ) (login : TheName) → HasOwnSession state server c n login → ⊥)
none_left state server c true is none = inl is
none_left state server c false is none = inr (λ n login has. none_own c n login has.0.standing.machine.sessions has.2 (none is has.0 has.1) has.3)
