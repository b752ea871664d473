-- A session that is put in place of another of its number.
use Rattle.std.proofs.Common.{◌≡◌, ◌∙◌, ℕ, nat_eq, is_some, cond, Bool, true, false, List, [], ◌∷◌, Option, Some, None, refl, sym, ap, subst, rules}
use Rattle.std.proofs.lemmas.Bool.{eqb-true}
use Rattle.sql_types.specs.declared.answer.Answer.{Answer}
use Rattle.sql_types.specs.declared.answer.Answer.TheVariants as answer
use Rattle.sql_types.specs.declared.tag.Tag.{Tag}
use Rattle.abstract_database.specs.Lists.{TheName}
use Rattle.abstract_database.specs.Machine.{Holder, Block, Session, session_of, with_session, with_session_changed, succeeds, as_role}
use Rattle.server.specs.declared.decision.Decision.TheVariants as decision
use Rattle.server.specs.declared.decision.SessionChange.TheVariants as change
use Rattle.server.specs.declared.writer.Writer.{Writer}
use Rattle.server.specs.declared.session.Block.{Block as TheBlock}
use Rattle.server.specs.Session.{block_of}
use Rattle.server.specs.Standing.{HoldsInBlock}
use Rattle.sessions.specs.Decisions.{Serves, Always, Never}

-- ---- the sessions of these numbers

there_at : (number : ℕ) (e : ℕ × Session) (es : List (ℕ × Session)) (s : Session) (b : Bool) → nat_eq number e.0 ≡ b → session_of number (with_session es number s) ≡ Some s
    → session_of number (cond b ((e.0, s) ∷ es) (e ∷ with_session es number s)) ≡ Some s
there_at number e es s true is go = ap (λ (b : Bool). cond b (Some s) (session_of number es)) is
there_at number e es s false is go = ap (λ (b : Bool). cond b (Some e.1) (session_of number (with_session es number s))) is ∙ go

same_number : (n : ℕ) → nat_eq n n ≡ true
same_number n = search rules

pub put_there : (number : ℕ) (es : List (ℕ × Session)) (s : Session) → session_of number (with_session es number s) ≡ Some s
put_there number [] s = ap (λ (b : Bool). cond {A = Option Session} b (Some s) None) (same_number number)
put_there number (e ∷ es) s = there_at number e es s (nat_eq number e.0) refl (put_there number es s)

module _ (number other : ℕ) (apart : nat_eq other number ≡ false) where
  not_there : (n : ℕ) → nat_eq number n ≡ true → nat_eq other n ≡ false
  not_there n e = subst (λ k. nat_eq other k ≡ false) (eqb-true number n e) apart

  beside_at : (e : ℕ × Session) (es : List (ℕ × Session)) (s : Session) (b : Bool) → nat_eq number e.0 ≡ b → session_of other (with_session es number s) ≡ session_of other es
      → session_of other (cond b ((e.0, s) ∷ es) (e ∷ with_session es number s)) ≡ session_of other (e ∷ es)
  beside_at e es s true is go =
      ap (λ (b : Bool). cond b (Some s) (session_of other es)) (not_there e.0 is)
      ∙ sym (ap (λ (b : Bool). cond b (Some e.1) (session_of other es)) (not_there e.0 is))
  beside_at e es s false is go = ap (λ (o : Option Session). cond (nat_eq other e.0) (Some e.1) o) go

  pub put_beside : (es : List (ℕ × Session)) (s : Session) → session_of other (with_session es number s) ≡ session_of other es
  put_beside [] s = ap (λ (b : Bool). cond {A = Option Session} b (Some s) None) apart
  put_beside (e ∷ es) s = beside_at e es s (nat_eq number e.0) refl (put_beside es s)

-- ---- the holder of the writer lock

-- still in a block where this is its session
own_at : (h : Holder) (number : ℕ) (es : List (ℕ × Session)) (old s : Session) → h.session ≡ number → session_of number es ≡ Some old → s.block ≡ old.block
    → HoldsInBlock (Some h) es → HoldsInBlock (Some h) (with_session es number s)
own_at h number es old s own is same held =
    let found : session_of h.session es ≡ Some old = ap (λ (n : ℕ). session_of n es) own ∙ is in
    let old_is : held.0 ≡ old = (let e : ◌≡◌ {A = Option Session} (Some held.0) (Some old) = sym held.1 ∙ found in cc) in
    (s, ap (λ (n : ℕ). session_of n (with_session es number s)) own ∙ put_there number es s, λ out. held.2 (ap (λ (z : Session). z.block) old_is ∙ sym same ∙ out))

in_block_at : (h : Holder) (number : ℕ) (es : List (ℕ × Session)) (old s : Session) (b : Bool) → nat_eq h.session number ≡ b → session_of number es ≡ Some old → s.block ≡ old.block
    → HoldsInBlock (Some h) es → HoldsInBlock (Some h) (with_session es number s)
in_block_at h number es old s true own is same held = own_at h number es old s (eqb-true h.session number own) is same held
in_block_at h number es old s false apart is same held = (held.0, put_beside number h.session apart es s ∙ held.1, held.2)

pub put_in_block : (holder : Option Holder) (number : ℕ) (es : List (ℕ × Session)) (old s : Session) → session_of number es ≡ Some old → s.block ≡ old.block
    → HoldsInBlock holder es → HoldsInBlock holder (with_session es number s)
put_in_block None number es old s is same held = tt
put_in_block (Some h) number es old s is same held = in_block_at h number es old s (nat_eq h.session number) refl is same held

none_is_some : (s : Session) → ◌≡◌ {A = Option Session} None (Some s) → ⊥
none_is_some s e = cc

opened_at : (h : Holder) (number : ℕ) (es : List (ℕ × Session)) (s : Session) (b : Bool) → nat_eq h.session number ≡ b → session_of number es ≡ None
    → HoldsInBlock (Some h) es → HoldsInBlock (Some h) (with_session es number s)
opened_at h number es s true own is held = absurd (none_is_some held.0 (sym is ∙ ap (λ (n : ℕ). session_of n es) (sym (eqb-true h.session number own)) ∙ held.1))
opened_at h number es s false apart is held = (held.0, put_beside number h.session apart es s ∙ held.1, held.2)

-- and where a session of a new number is opened
pub opened_in_block : (holder : Option Holder) (number : ℕ) (es : List (ℕ × Session)) (s : Session) → session_of number es ≡ None
    → HoldsInBlock holder es → HoldsInBlock holder (with_session es number s)
opened_in_block None number es s is held = tt
opened_in_block (Some h) number es s is held = opened_at h number es s (nat_eq h.session number) refl is held

-- ---- a session with another role

pub put_makes : (number : ℕ) (s changed : Session) (t : Tag) (a : Answer) (role : TheName) → a ≡ answer.Done t None None → changed ≡ as_role role s → (writer : Option Writer)
    → Serves writer number s Always Never (λ m. succeeds t (with_session_changed m number (as_role role s))) (decision.Answer a (change.Put number changed))
put_makes number s changed t a role answered put writer records d db holder sessions shows held is given =
    (ap is_some is, put_in_block holder number sessions s changed is (ap (λ (z : Session). z.block) put) held, cc)

abbrev session_with : TheName → TheName → Block → Session
session_with login role block = record { login = login; role = role; block = block }

same_session : (l m r q : TheName) (a b : Block) → l ≡ m → r ≡ q → a ≡ b → session_with l r a ≡ session_with m q b
same_session l m r q a b x y z = cc

-- a copy with another role of the session that is seen so
pub copied_as : (s : Session) (login role set there : TheName) (block : TheBlock) (name : TheName) (copy : TheBlock) → session_with login there (block_of block) ≡ s
    → name ≡ login → set ≡ role → copy ≡ block → session_with name set (block_of copy) ≡ as_role role s
copied_as s login role set there block name copy view a b c =
    same_session _ _ _ _ _ _ (a ∙ ap (λ (z : Session). z.login) view) b (ap block_of c ∙ ap (λ (z : Session). z.block) view)
