-- What a session sees of the records, and of which database they are.
use Rattle.std.proofs.Common.{◌≡◌, ℕ, nat_eq, cond, Bool, true, false, not, List, Option, Some, None, Result, refl, sym, ◌∙◌, ap, subst}
use Rattle.sql_ast.specs.declared.statement.DatabaseStatement.{DatabaseStatement}
use Rattle.store.specs.Records.{Records, Changes}
use Rattle.store.specs.declared.stop.StatementError.{StatementError}
use Rattle.abstract_database.specs.Database.{Database}
use Rattle.abstract_database.specs.Machine.{Holder, Session, users_of, seen_by, is_held_by_other}
use Rattle.abstract_database.specs.Statements.{UserPair, exec}
use Rattle.stored_database.specs.Definitions.{Definitions}
use Rattle.stored_database.specs.Records.{Shows}
use Rattle.transactions.specs.Views.{applied_all}
use Rattle.server.specs.declared.writer.Writer.{Writer}
use Rattle.server.specs.Writers.{definitions_or, records_under, definitions_under}
use Rattle.server.specs.Standing.{HolderShows}
use Rattle.catalogue.specs.declared.effect.Effect.{Effect}
use Rattle.catalogue.specs.Executed.{Executes}
use Rattle.server.specs.Executed.{MayExecute}
use Rattle.sessions.specs.Writers.{definitions_seen}
use Rattle.sessions.specs.Visible.{lists_seen, records_seen}

-- ---- records and lists

none_is_some : {X : Type 0} (x : X) → ◌≡◌ {A = Option X} None (Some x) → ⊥
none_is_some x e = cc

some_inside : {X : Type 0} (x y : X) → ◌≡◌ {A = Option X} (Some x) (Some y) → x ≡ y
some_inside x y e = cc

under_at : (lists own : List Changes) (records : Records) (b : Bool) → Some lists ≡ cond b (Some own) None → cond b (applied_all own records) records ≡ applied_all lists records
under_at lists own records true e = ap (λ (l : List Changes). applied_all l records) (sym (some_inside lists own e))
under_at lists own records false e = absurd (none_is_some lists (sym e))

-- under these lists
pub under_lists : (number : ℕ) (writer : Option Writer) (lists : List Changes) (records : Records) → Some lists ≡ lists_seen number writer → records_seen number writer records ≡ applied_all lists records
under_lists number None lists records e = absurd (none_is_some lists (sym e))
under_lists number (Some writer) lists records e = under_at lists writer.lists records (nat_eq writer.session number) e

without_at : (own : List Changes) (records : Records) (b : Bool) → None ≡ cond b (Some own) None → cond b (applied_all own records) records ≡ records
without_at own records true e = absurd (none_is_some own e)
without_at own records false e = refl

-- under none
pub without_lists : (number : ℕ) (writer : Option Writer) (records : Records) → None ≡ lists_seen number writer → records_seen number writer records ≡ records
without_lists number None records e = refl
without_lists number (Some writer) records e = without_at writer.lists records (nat_eq writer.session number) e

-- ---- the database

shown_at : (records : Records) (d : Definitions) (writer : Writer) (db own : Database) (b : Bool) → Shows records d db → Shows (applied_all writer.lists records) (definitions_or writer.catalogue d) own
    → Shows (cond b (applied_all writer.lists records) records) (cond b (definitions_or writer.catalogue d) d) (cond b own db)
shown_at records d writer db own true shown held = held
shown_at records d writer db own false shown held = shown

-- what a session sees of the records and the definitions shows the database that it sees
pub seen_shown : (number : ℕ) (records : Records) (d : Definitions) (writer : Option Writer) (db : Database) (holder : Option Holder) → Shows records d db → HolderShows records d writer holder
    → Shows (records_seen number writer records) (definitions_seen number writer d) (seen_by number holder db)
seen_shown number records d None db None shown held = shown
seen_shown number records d None db (Some h) shown held = absurd held
seen_shown number records d (Some writer) db None shown held = absurd held
seen_shown number records d (Some writer) db (Some h) shown held =
    subst (λ (k : ℕ). Shows (records_seen number (Some writer) records) (definitions_seen number (Some writer) d) (cond (nat_eq k number) h.database db)) (sym held.0)
    (shown_at records d writer db h.database (nat_eq writer.session number) shown held.1)

-- ---- the session that may write

pub not_false : (b : Bool) → not b ≡ false → b ≡ true
not_false true e = refl
not_false false e = cc

-- where no other session holds the writer lock, a session sees what is under it
pub seen_under : (number : ℕ) (records : Records) (d : Definitions) (writer : Option Writer) (holder : Option Holder) → HolderShows records d writer holder → is_held_by_other number holder ≡ false
    → (records_seen number writer records ≡ records_under writer records) × (definitions_seen number writer d ≡ definitions_under writer d)
seen_under number records d None holder shows free = (refl, refl)
seen_under number records d (Some writer) None shows free = absurd shows
seen_under number records d (Some writer) (Some h) shows free =
    let own : nat_eq writer.session number ≡ true = ap (λ (k : ℕ). nat_eq k number) (sym shows.0) ∙ not_false (nat_eq h.session number) free in
    rw own (refl, refl)

-- ---- what a statement comes to

-- one that was carried out over these records and definitions, which are those that the session sees, for its users, was carried out over what it sees
pub seen_executes : (number : ℕ) (records : Records) (d : Definitions) (writer : Option Writer) (db : Database) (holder : Option Holder) (s : Session) (x : DatabaseStatement)
    (below : Records) (definitions : Definitions) (users : UserPair) (result : Result Effect StatementError) → records_seen number writer records ≡ below → definitions ≡ definitions_seen number writer d
    → users ≡ users_of s → Shows records d db → HolderShows records d writer holder → MayExecute (seen_by number holder db) (users_of s) x
    → ((own : Database) → Shows below definitions own → MayExecute own users x → Executes below definitions result (exec own users x))
    → Executes (records_seen number writer records) (definitions_seen number writer d) result (exec (seen_by number holder db) (users_of s) x)
seen_executes number records d writer db holder s x below definitions users result same known named shown held may executes =
    let own = seen_by number holder db in
    let seen : Shows below definitions own = rw (sym same, known) (seen_shown number records d writer db holder shown held) in
    let allowed : MayExecute own users x = rw named may in
    rw (same, sym known) (subst (λ (u : UserPair). Executes below definitions result (exec own u x)) named (executes own seen allowed))
