-- What a server is asked of a text that it does not carry out.
use Rattle.std.proofs.Common.{◌≡◌, ℕ, cond, Bool, true, false, List, Option, Err, sym, ◌∙◌, ap, subst, inr}
use Rattle.sql_types.specs.declared.state.SqlState.TheVariants.{IoError}
use Rattle.sql_ast.specs.declared.description.StatementDescription.{StatementDescription}
use Rattle.sql_ast.specs.declared.description.StatementDescription.TheVariants.{Refused}
use Rattle.store.specs.Store.{StoreState}
use Rattle.abstract_database.specs.Descriptions.{description_for, IsDescription}
use Rattle.abstract_database.specs.Database.{Database}
use Rattle.abstract_database.specs.Machine.{Machine, Holder, Session, session_of}
use Rattle.abstract_database.specs.Runs.{TheText, ReadingRelation, At}
use Rattle.server.specs.declared.server.Server.{Server}
use Rattle.server.specs.Decisions.{machine_at}
use Rattle.server.specs.Standing.{Represents}

wrong : (b : Bool) → b ≡ true → b ≡ false → ⊥
wrong b p q = let e : true ≡ false = sym p ∙ q in cc

-- it has stopped
pub stopped_described : (Reads : ReadingRelation) (m : Machine) (number : ℕ) (text : TheText) → m.stopped ≡ true → IsDescription Reads m number text (Refused IoError)
stopped_described Reads m number text stopped = inr (
  Err IoError,
  (λ may. absurd (wrong m.stopped stopped may.0)),
  sym (ap (λ (b : Bool). cond b (Refused IoError) (description_for m number (Err IoError) (session_of number m.sessions))) stopped),
)

abbrev machine_with : Database → Option Holder → List (ℕ × Session) → Bool → Machine
machine_with db holder sessions stopped = record { committed = db; holder = holder; sessions = sessions; stopped = stopped }

same_machine : (db : Database) (holder : Option Holder) (es es' : List (ℕ × Session)) (b b' : Bool) → es ≡ es' → b ≡ b' → machine_with db holder es b ≡ machine_with db holder es' b'
same_machine db holder es es' b b' p q = cc

-- it works, and this is told of the machine that its store and its writer lock show
pub working_described : {S X : Type 0} (Reads : ReadingRelation) (state : S → StoreState) (server : Server S X) (w : At) (number : ℕ) (text : TheText) (told : StatementDescription)
    → Represents state server w → server.stopped ≡ false → IsDescription Reads (machine_at w.standing.machine.committed w.standing.machine.holder server.sessions.entries) number text told
    → IsDescription Reads w.standing.machine number text told
working_described Reads state server w number text told r runs h =
    let m = w.standing.machine in
    subst (λ (n : Machine). IsDescription Reads n number text told) (same_machine m.committed m.holder server.sessions.entries m.sessions false m.stopped (sym r.sessions) (sym (r.stopped ∙ runs))) h
