-- What is proved of each defining statement: it is checks, and then what is done.
use Rattle.std.proofs.Common.{◌≡◌, Bool, true, false, Result, Ok, sym, ap, ◌∙◌}
use Rattle.sql_types.specs.declared.state.SqlState.{SqlState}
use Rattle.sql_types.specs.declared.tag.Tag.{Tag}
use Rattle.sql_types.specs.declared.warning.Warning.{Warning}
use Rattle.sql_ast.specs.declared.statement.DatabaseStatement.TheVariants as on_database
use Rattle.sql_ast.specs.declared.statement.DefiningStatement.{DefiningStatement}
use Rattle.sql_ast.specs.Defining.{IsReadDefining}
use Rattle.expressions.specs.Meaning.{UserNames}
use Rattle.expressions.specs.Stages.{◌>>=◌}
use Rattle.abstract_database.specs.Database.{Database, without_rows}
use Rattle.abstract_database.specs.Statements.{Effect, done, warned, define}
use Rattle.abstract_database.specs.Whole.{IsInOrder, HasWholeRoles, HasWholeTables, HasWholeDescriptors, HasWholePolicies, HasWholeRows, IsWhole, AreRolesOf}
use Rattle.abstract_database.proofs.ResultLemmas.{Every, every_bind, every_ok, bind_ok, ok_inside}
use Rattle.database_laws.specs.Definitions.{MayDefine}
use Rattle.database_laws.proofs.EffectLemmas.{Answers}
use Rattle.database_laws.proofs.TableLemmas.{TablesFrom}
use Rattle.database_laws.proofs.WholeTexts.{AreKnown}
use Rattle.database_laws.proofs.RightLemmas.{Always, at_once}
use Rattle.database_laws.proofs.NotRefusedLemmas.{Spares, spares_bind, spares_ok}
use Rattle.database_laws.proofs.StageLemmas.{bared, effect_same}

-- ---- checks, and then what is done

module _ {A : Type 0} (checks : Result A SqlState) (effect : A → Effect) where
  -- what holds of each effect that is done after checks that end well
  pub each_done : (P : Effect → Type 0) → ((a : A) → checks ≡ Ok a → P (effect a)) → Every P (checks >>= λ a. Ok (effect a))
  each_done P h = every_bind P checks (λ a. Ok (effect a)) (λ a is. every_ok P (effect a) (h a is))

  -- the checks of what was done, and that nothing else was
  pub done_by : (e : Effect) → (checks >>= λ a. Ok (effect a)) ≡ Ok e → (a : A) × (checks ≡ Ok a) × (effect a ≡ e)
  done_by e is = let found = bind_ok checks (λ a. Ok (effect a)) e is in (found.0, found.1, ok_inside (effect found.0) e found.2)

-- ---- a whole database, but for the order of its lists

pub record IsWholeAside (db : Database) : Type 0 where
  pub roles : HasWholeRoles db
  pub tables : HasWholeTables db
  pub descriptors : HasWholeDescriptors db
  pub policies : HasWholePolicies db
  pub rows : HasWholeRows db

-- what a statement leaves, the order aside
abbrev pub WholeAfter : Effect → Type 0
WholeAfter e = IsWholeAside e.database

-- ---- what is proved of a statement

-- of the effect of one that is not refused: its answer is no refusal; the lists stay in their orders; each table was there but for
-- its flags, or is empty; each condition of a policy was there, or is the statement's
pub record IsLawful (db : Database) (x : DefiningStatement) (e : Effect) : Type 0 where
  pub answers : Answers e
  pub ordered : IsInOrder db → IsInOrder e.database
  pub tables : TablesFrom db e
  pub known : AreKnown db (on_database.Defining x) e

-- of the statement: its effect is that; a whole database stays whole; a role that it is not refused to may issue it, and one that
-- may is not refused it for want of a privilege; and it reads no rows
pub record IsDefinition (db : Database) (users : UserNames) (x : DefiningStatement) : Type 0 where
  pub lawful : Every (IsLawful db x) (define db users x)
  pub whole : IsReadDefining x → IsWhole db → AreRolesOf db users → Every WholeAfter (define db users x)
  pub may : Every (λ e. MayDefine db users.current x) (define db users x)
  pub spared : MayDefine db users.current x → Spares (define db users x)
  pub apart : define (without_rows db) users x ≡ (define db users x >>= λ e. Ok (bared e))

-- and of its checks, and of what is done after them, so that this follows
pub record IsDoneAfter {A : Type 0} (db : Database) (users : UserNames) (x : DefiningStatement)
    (checks : Database → Result A SqlState) (effect : Database → A → Effect) : Type 0 where
  pub is : (d : Database) → define d users x ≡ (checks d >>= λ a. Ok (effect d a))
  pub lawful : (a : A) → checks db ≡ Ok a → IsLawful db x (effect db a)
  pub whole : IsReadDefining x → IsWhole db → AreRolesOf db users → Every WholeAfter (define db users x)
  pub may : Always (MayDefine db users.current x) (checks db)
  pub spared : MayDefine db users.current x → Spares (checks db)
  pub same_checks : checks (without_rows db) ≡ checks db
  pub same_effect : (a : A) → effect (without_rows db) a ≡ bared (effect db a)

pub definition : {A : Type 0} (db : Database) (users : UserNames) (x : DefiningStatement)
    (checks : Database → Result A SqlState) (effect : Database → A → Effect) →
    IsDoneAfter db users x checks effect → IsDefinition db users x
definition db users x checks effect d = record {
  lawful = λ e e-is. each_done (checks db) (effect db) (IsLawful db x) d.lawful e (sym (d.is db) ∙ e-is);
  whole = d.whole;
  may = λ e e-is. at_once (MayDefine db users.current x) (checks db) (λ a. Ok (effect db a)) d.may e (sym (d.is db) ∙ e-is);
  spared = λ m e-is.
      spares_bind (checks db) (λ a. Ok (effect db a)) (d.spared m) (λ a a-is. spares_ok (effect db a)) (sym (d.is db) ∙ e-is);
  apart = d.is (without_rows db)
      ∙ effect_same (checks (without_rows db)) (checks db) (effect (without_rows db)) (effect db) d.same_checks d.same_effect
      ∙ ap (λ r. r >>= λ e. Ok (bared e)) (sym (d.is db));
}

-- ---- effects with a warning

pub warned_lawful : (db : Database) (x : DefiningStatement) (t : Tag) (b : Bool) (w : Warning) (after : Database) →
    IsLawful db x (done t after) → IsLawful db x (warned t b w after)
warned_lawful db x t true w after l = record { answers = λ code e. cc; ordered = l.ordered; tables = l.tables; known = l.known }
warned_lawful db x t false w after l = l
