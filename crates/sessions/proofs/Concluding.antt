-- What the decisions of carried out and of refused statements make of the machine.
use Rattle.std.proofs.Common.{◌≡◌, ◌≢◌, ℕ, nat_eq, true, false, Option, Some, None, Ok, refl, sym, ◌∙◌, ap, subst}
use Rattle.std.proofs.lemmas.Bool.{eqb-true}
use Rattle.sql_ast.specs.declared.statement.Statement.TheVariants as statement
use Rattle.sql_ast.specs.declared.statement.DatabaseStatement.{DatabaseStatement}
use Rattle.store.specs.Records.{Records}
use Rattle.abstract_database.specs.Lists.{TheName}
use Rattle.abstract_database.specs.Machine.{Holder, Block, Outside, Inside, Session, transition_to, session_of, changes_database, is_held_by_other, with_changes}
use Rattle.abstract_database.specs.Runs.{CommitsAt}
use Rattle.stored_database.specs.Definitions.{Definitions}
use Rattle.catalogue.specs.declared.effect.Effect.{Effect}
use Rattle.catalogue.specs.Changes.{definitions_after}
use Rattle.server.specs.declared.decision.Decision.TheVariants as decision
use Rattle.server.specs.declared.writer.Writer.{Writer}
use Rattle.server.specs.Writers.{definitions_under}
use Rattle.server.specs.Standing.{HolderShows, HoldsInBlock}
use Rattle.catalogue.specs.Executed.{Leads}
use Rattle.server.specs.Decisions.{Entries, machine_at}
use Rattle.sessions.specs.Writers.{definitions_seen}
use Rattle.sessions.specs.Visible.{records_seen}
use Rattle.sessions.specs.Concluded.{Concludes}
use Rattle.sessions.proofs.SeenRecords.{not_false, seen_under}
use Rattle.sessions.proofs.Meant.{carried_as, is_free}

-- ---- the holder of the writer lock

some_session : (r s : Session) → ◌≡◌ {A = Option Session} (Some r) (Some s) → r ≡ s
some_session r s e = cc

-- a holder is in a block: beside a session that is in none, nobody holds the writer lock but another session
nobody_holds : (holder : Option Holder) (number : ℕ) (s : Session) (sessions : Entries) → HoldsInBlock holder sessions → session_of number sessions ≡ Some s → s.block ≡ Outside
    → is_held_by_other number holder ≡ false → holder ≡ None
nobody_holds None number s sessions held found outside free = refl
nobody_holds (Some h) number s sessions held found outside free =
    let own : h.session ≡ number = eqb-true h.session number (not_false (nat_eq h.session number) free) in
    let same : held.0 ≡ s = some_session held.0 s (sym held.1 ∙ ap (λ (n : ℕ). session_of n sessions) own ∙ found) in
    absurd (held.2 (ap (λ (z : Session). z.block) same ∙ outside))

-- the writer lock of nobody
no_lock : (records : Records) (d : Definitions) (writer : Option Writer) (holder : Option Holder) → HolderShows records d writer holder → holder ≡ None → writer ≡ None
no_lock records d None holder shows none = refl
no_lock records d (Some writer) None shows none = absurd shows
no_lock records d (Some writer) (Some h) shows none = cc

module _ (number : ℕ) (s : Session) (x : DatabaseStatement) where
  -- ---- statements that are carried out

  -- one outside a block
  pub committed_concludes : changes_database x ≡ true → s.block ≡ Outside → (made : Effect) → Concludes number s x (Ok made) (decision.Commit made)
  committed_concludes writes outside made records d writer db holder sessions shows held admitted comes =
      let m = machine_at db holder sessions in
      let free : is_held_by_other number holder ≡ false = is_free m number s x admitted.may writes in
      let none : holder ≡ None = nobody_holds holder number s sessions held admitted.is_open outside free in
      let unheld : writer ≡ None = no_lock records d writer holder shows none in (
        comes.after,
        subst (λ (o : Option Writer). Leads made.changes (records_seen number o records) (definitions_after made.schema (definitions_seen number o d)) comes.after) unheld comes.leads,
        none,
        subst (λ (b : Block). CommitsAt m number b (statement.OnDatabase x)) (sym outside) writes,
        carried_as m number s x admitted.may made.answer comes.after comes.answered true writes
            ∙ ap (λ (b : Block). transition_to made.answer (with_changes m number b comes.after)) outside
            ∙ ap (λ (h : Option Holder). transition_to made.answer (machine_at comes.after h sessions)) none,
      )

  -- one inside a block
  pub held_concludes : changes_database x ≡ true → (role : TheName) → s.block ≡ Inside role → (made : Effect) → Concludes number s x (Ok made) (decision.Hold number made)
  held_concludes writes role inside made records d writer db holder sessions shows held admitted comes =
      let m = machine_at db holder sessions in
      let free : is_held_by_other number holder ≡ false = is_free m number s x admitted.may writes in
      let under = seen_under number records d writer holder shows free in (
        comes.after,
        subst (λ (r : Records). Leads made.changes r (definitions_after made.schema (definitions_under writer d)) comes.after) under.0
            (subst (λ (e : Definitions). Leads made.changes (records_seen number writer records) (definitions_after made.schema e) comes.after) under.1 comes.leads),
        (s, admitted.is_open, in_block),
        carried_as m number s x admitted.may made.answer comes.after comes.answered true writes
            ∙ ap (λ (b : Block). transition_to made.answer (with_changes m number b comes.after)) inside,
      )
    where
      in_block : s.block ≢ Outside
      in_block out = let contrary : Inside role ≡ Outside = sym inside ∙ out in cc
