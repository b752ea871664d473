-- What the law of lives forbids, and an instance that it forbids.
use Rattle.std.specs.Prelude.{◌≡◌, ℕ, List, [], ◌∷◌, codes, None}
use Rattle.std.proofs.Common.{refl, arith}
use Rattle.sql_types.specs.Row.{Row}
use Rattle.sql_types.specs.declared.state.SqlState.TheVariants.{ConnectionDoesNotExist}
use Rattle.sql_types.specs.declared.tag.Tag.TheVariants as tag
use Rattle.sql_types.specs.declared.answer.Answer.{Answer}
use Rattle.sql_types.specs.declared.answer.Answer.TheVariants as answer
use Rattle.abstract_database.specs.Database.{Database}
use Rattle.abstract_database.specs.Machine.{Event, opens, executes, closes, Reading, Machine, machine_over}
use Rattle.abstract_database.specs.Runs.{TheText, ReadingRelation, IsTransition, Counts, NoneFalls, Stops, At, Happens, by_transition}
use Rattle.database_laws.specs.HiddenRuns.{SameApparentRowsForPairs, answer_to, after}
use Rattle.database_laws.specs.Told.{Tenant}
use Rattle.database_laws.specs.ToldStores.{IsToldAlikeBy}
use Rattle.database_laws.specs.TwoTenants.{note, with_notes, opened_by_ann, ann_asks, reading_of, of_ann}
use Rattle.tenant_laws.specs.TenantLives.{is_committed, LifeOver, LivesOver, no_more, lived, own_left, IsOfFailure, IsToldToTheEnd, LivesTellAlike}

-- ---- after a restart

-- no session of the life before is open: a statement in it, and its closing, are refused, if they come first
abbrev pub lives_begin_without_sessions : {T : Type 0} → ReadingRelation → (T → Stops) → Type 0
lives_begin_without_sessions Reads leave = (db : Database) (life : LifeOver Reads leave db) (number : ℕ) (text : TheText) (x : Answer) (next : At) →
    (Happens Reads (leave life.time) life.begin (executes number text) x next → x ≡ answer.Refused ConnectionDoesNotExist)
    × (Happens Reads (leave life.time) life.begin (closes number) x next → x ≡ answer.Refused ConnectionDoesNotExist)

-- Two lives are told alike to the end, whatever is made of them, and their stops left nothing of the tenant's that was not answered, and
-- nothing of a failed device. Then the next two begin with what looks alike to it, and it is told alike in them, too.
abbrev pub next_lives_are_told_alike : {T U : Type 0} → ReadingRelation → (T → Stops) → (U → Stops) → Type 0
next_lives_are_told_alike Reads leave leave_there = (a : Tenant) (d e : Database) (life : LifeOver Reads leave d) (other : LifeOver Reads leave_there e)
    (later : LifeOver Reads leave life.left) (later_there : LifeOver Reads leave_there other.left) (rest : LivesOver Reads leave later.left) (rest_there : LivesOver Reads leave_there later_there.left) →
    ((told : IsToldAlikeBy Reads (leave life.time) (leave_there other.time) a life.begin other.begin life.events life.answers other.events other.answers) → IsToldToTheEnd told) →
    own_left a life ≡ [] → own_left a other ≡ [] → (IsOfFailure life.leaves → ⊥) → (IsOfFailure other.leaves → ⊥) →
    LivesTellAlike a (lived life (lived later rest)) (lived other (lived later_there rest_there)) →
    SameApparentRowsForPairs a.pairs life.left other.left
    × IsToldAlikeBy Reads (leave later.time) (leave_there later_there.time) a later.begin later_there.begin later.events later.answers later_there.events later_there.answers

-- ---- an instance: two databases in which ann's own notes differ

-- each text is read as SELECT * FROM notes
abbrev pub AsSelect : ReadingRelation
AsSelect text reading = reading ≡ reading_of ann_asks

-- of stops nothing is said
abbrev pub anything : Unit {0} → Stops
anything time from to P = Unit {0}

abbrev pub no_counts : Counts
no_counts = record { number = 0; fulls = 0; failures = 0; faults = 0 }

abbrev pub standing_with : Machine → At
standing_with m = record { counts = no_counts; moment = 0; standing = record { machine = m; under_way = None } }

abbrev pub none_falls : NoneFalls no_counts no_counts
none_falls = record { number = omega arith; fulls = omega arith; failures = omega arith; faults = omega arith }

-- one event of the machine over a store that counts nothing
abbrev pub happens_so : (m : Machine) (event : Event TheText) (read : Event Reading) (x : Answer) (next : Machine) → IsTransition AsSelect m event (record { answer = x; machine = next }) →
    Happens AsSelect (anything tt) (standing_with m) event x (standing_with next)
happens_so m event read x next is = record { counts = none_falls; step = by_transition is; under_way = refl; later = omega arith; during = tt; now = tt }

abbrev pub ann_opens : Event TheText
ann_opens = opens 1 (codes "ann")

abbrev pub ann_executes : Event TheText
ann_executes = executes 1 []

abbrev pub is_opened : Answer
is_opened = answer.Done tag.Open None None

-- ann's session is opened over the database
abbrev pub happens_opening : (rows : List Row) → Happens AsSelect (anything tt) (standing_with (machine_over (with_notes rows))) ann_opens is_opened (standing_with (opened_by_ann (with_notes rows)))
happens_opening rows = happens_so (machine_over (with_notes rows)) ann_opens (opens 1 (codes "ann")) is_opened (opened_by_ann (with_notes rows)) (record { as_read = opens 1 (codes "ann"); read = refl; is = refl })

-- ann opens a session, and the server stops
abbrev pub opening_life : (rows : List Row) → LifeOver AsSelect anything (with_notes rows)
opening_life rows = record {
  time = tt;
  begin = standing_with (machine_over (with_notes rows));
  over = refl;
  events = ann_opens ∷ [];
  answers = is_opened ∷ [];
  end = standing_with (opened_by_ann (with_notes rows));
  ran = (standing_with (opened_by_ann (with_notes rows)), happens_opening rows, refl);
  left = with_notes rows;
  leaves = is_committed refl;
}

-- she opens it again, and asks for the notes
abbrev pub asking_life : (rows : List Row) → LifeOver AsSelect anything (with_notes rows)
asking_life rows = record {
  time = tt;
  begin = standing_with (machine_over (with_notes rows));
  over = refl;
  events = ann_opens ∷ ann_executes ∷ [];
  answers = is_opened ∷ answer_to (opened_by_ann (with_notes rows)) ann_asks ∷ [];
  end = standing_with (after (opened_by_ann (with_notes rows)) ann_asks);
  ran = (
    standing_with (opened_by_ann (with_notes rows)),
    happens_opening rows,
    (
      standing_with (after (opened_by_ann (with_notes rows)) ann_asks),
      happens_so (opened_by_ann (with_notes rows)) ann_executes ann_asks (answer_to (opened_by_ann (with_notes rows)) ann_asks) (after (opened_by_ann (with_notes rows)) ann_asks)
          (record { as_read = ann_asks; read = (reading_of ann_asks, refl, λ may. refl); is = refl }),
      refl,
    ),
  );
  left = (after (opened_by_ann (with_notes rows)) ann_asks).committed;
  leaves = is_committed refl;
}

abbrev pub two_lives : (rows : List Row) → LivesOver AsSelect anything (with_notes rows)
two_lives rows = lived (opening_life rows) (lived (asking_life rows) no_more)

-- they part at a SELECT, in the second lives; and so do these alone
abbrev pub LivesPartAtSelect : Type 0
LivesPartAtSelect =
    (LivesTellAlike of_ann (two_lives (note "ann" 1 ∷ note "bob" 1 ∷ [])) (two_lives (note "ann" 2 ∷ note "bob" 1 ∷ [])) → ⊥)
    × (LivesTellAlike of_ann (lived (asking_life (note "ann" 1 ∷ note "bob" 1 ∷ [])) no_more) (lived (asking_life (note "ann" 2 ∷ note "bob" 1 ∷ [])) no_more) → ⊥)

-- over databases that differ in bob's notes ann is told alike
abbrev pub LivesAreToldAlike : Type 0
LivesAreToldAlike = LivesTellAlike of_ann (two_lives (note "ann" 1 ∷ note "bob" 1 ∷ [])) (two_lives (note "ann" 1 ∷ note "bob" 2 ∷ note "bob" 3 ∷ []))
