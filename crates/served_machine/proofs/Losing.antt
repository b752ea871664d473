-- Sessions that are open for a role that is lacked, as they are looked for.
use Rattle.std.proofs.Common.{◌≡◌, ◌∙◌, ◌<◌, ◌^◌, ◌==◌, ◌&&◌, ◌||◌, ℕ, inl, inr, Bool, true, false, List, [], ◌∷◌, refl, sym, ap, subst, arith}
use Rattle.std.specs.List.{list_any}
use Rattle.std.proofs.lemmas.Bool.{and_parts, eq-eqb, eqb-true}
use Rattle.store.specs.Store.{StoreState}
use Rattle.abstract_database.specs.Lists.{TheName}
use Rattle.abstract_database.specs.Machine.{Session, client_of, own_number, number_in}
use Rattle.server.specs.declared.server.Server.{Server}
use Rattle.server.specs.Dropped.{lacks_role, has_lost_role}
use Rattle.talks.specs.Wants.{HasLostRole}
use Rattle.served_machine.specs.Sessions.{HasSession, HasOwnSession, IsSoundServer}
use Rattle.served_machine.specs.RoleLaws.{lacks_running}

never_both : true ≡ false → ⊥
never_both wrong = cc

or_later : (a b : Bool) → (a || b) ≡ false → b ≡ false
or_later true b is = absurd (cc)
or_later false b is = is

module _ {S X : Type 0} (state : S → StoreState) (server : Server S X) (c : ℕ) where
  abbrev IsLost : (ℕ × Session) → Bool
  IsLost e = (client_of e.0 == c) && lacks_role server e.1.login

  -- one of these is lost
  abbrev LostAmong : List (ℕ × Session) → Type 0
  LostAmong es = (e : ℕ × Session) × (client_of e.0 ≡ c) × (lacks_role server e.1.login ≡ true) × HasSession es e.0 e.1.login

  lost_at : (b : Bool) (e : ℕ × Session) (es : List (ℕ × Session)) → IsLost e ≡ b → (list_any IsLost es ≡ true → LostAmong es) → (IsLost e || list_any IsLost es) ≡ true → LostAmong (e ∷ es)
  lost_at true e es is later any = let parts = and_parts (client_of e.0 == c) (lacks_role server e.1.login) is in (e, eqb-true (client_of e.0) c parts.0, parts.1, inl (refl, refl))
  lost_at false e es is later any = let rest = later (sym (ap (λ (z : Bool). z || list_any IsLost es) is) ∙ any) in (rest.0, rest.1, rest.2, inr rest.3)

  lost_among : (es : List (ℕ × Session)) → list_any IsLost es ≡ true → LostAmong es
  lost_among [] any = absurd (cc)
  lost_among (e ∷ es) any = lost_at (IsLost e) e es refl (lost_among es) any

  own : (number : ℕ) → client_of number ≡ c → number ≡ number_in c (own_number number)
  own number is = omega (arith, is)

  small : (number : ℕ) → own_number number < 2 ^ 32
  small number = omega arith

  pub lost : has_lost_role server c ≡ true → IsSoundServer state server → HasLostRole (λ n login. HasOwnSession state server c n login) (λ role. lacks_role server role ≡ true)
  lost is sound =
      let one = lost_among server.sessions.entries is in
      let n = own_number one.0.0 in
      let login = one.0.1.login in
      let there : HasSession server.sessions.entries (number_in c n) login = subst (λ (k : ℕ). HasSession server.sessions.entries k login) (own one.0.0 one.1) one.3 in
      let has : HasOwnSession state server c n login = (
        sound.1.0,
        sound.1.1,
        small one.0.0,
        subst (λ (es : List (ℕ × Session)). HasSession es (number_in c n) login) (sym sound.1.1.sessions) there,
        λ stopped. absurd (never_both (sym stopped ∙ lacks_running state server login one.2)),
      ) in
      (n, (login, has, one.2))

  none_at : (es : List (ℕ × Session)) (n : ℕ) (login : TheName) → n < 2 ^ 32 → list_any IsLost es ≡ false → HasSession es (number_in c n) login → lacks_role server login ≡ true → ⊥
  none_at [] n login less none has lacks = has
  none_at (e ∷ es) n login less none (inr later) lacks = none_at es n login less (or_later (IsLost e) (list_any IsLost es) none) later lacks
  none_at (e ∷ es) n login less none (inl here) lacks =
      let number = here.0 in
      let same : client_of e.0 ≡ c = omega (arith, number, less) in
      let is : IsLost e ≡ true = ap (λ (b : Bool). b && lacks_role server e.1.login) (eq-eqb (client_of e.0) c same) ∙ ap (λ (l : TheName). lacks_role server l) here.1 ∙ lacks in
      let wrong : true ≡ false = sym (ap (λ (b : Bool). b || list_any IsLost es) is) ∙ none in
      absurd (cc)

  pub none_lost : has_lost_role server c ≡ false → HasLostRole (λ n login. HasOwnSession state server c n login) (λ role. lacks_role server role ≡ true) → ⊥
  none_lost is has =
      let n = has.0 in
      let login = has.1.0 in
      let session = has.1.1 in
      none_at server.sessions.entries n login session.2 is (subst (λ (es : List (ℕ × Session)). HasSession es (number_in c n) login) session.1.sessions session.3) has.1.2
