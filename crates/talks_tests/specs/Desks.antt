-- The machine in memory.
use Rattle.std.specs.Prelude.{◌≡◌, ◌==◌, ◌⊎◌, ◌&&◌, ℕ, Bool, false, not, is_none, List, Option, Some, None, slice_index, if◌then◌else◌}
use Rattle.sql_types.specs.declared.answer.Answer.{Answer}
use Rattle.sql_types.specs.declared.answer.Answer.TheVariants as answer
use Rattle.sql_types.specs.declared.event.Event.{Event}
use Rattle.sql_types.specs.declared.event.Event.TheVariants as event
use Rattle.sql_types.specs.declared.tag.Tag.{Tag}
use Rattle.sql_types.specs.declared.tag.Tag.TheVariants as tag
use Rattle.talks.specs.declared.want.Want.{Want}
use Rattle.talks.specs.declared.want.Want.TheVariants as want
use Rattle.talks.specs.declared.want.Reply.{Reply}
use Rattle.talks.specs.declared.want.Reply.TheVariants as reply
use Rattle.talks_tests.specs.declared.desk.Desk.{Desk}
use Rattle.talks_tests.specs.declared.desk.DeskSession.{DeskSession}

-- ---- sessions

abbrev pub IsSession : Option DeskSession → ℕ → List ℕ → Type 0
IsSession None n login = ⊥
IsSession (Some s) n login = (s.number ≡ n) × (s.login ≡ login)

-- a client has this session open
abbrev pub Has : Desk → ℕ → ℕ → List ℕ → Type 0
Has m c n login = ((c ≡ 0) × IsSession m.first n login) ⊎ ((c ≡ 1) × IsSession m.second n login)

abbrev pub SameSeats : Desk → Desk → Type 0
SameSeats old new = (new.first ≡ old.first) × (new.second ≡ old.second)

-- ---- the lock

abbrev pub is_held_by : Option ℕ → ℕ → Bool
is_held_by None c = false
is_held_by (Some d) c = d == c

abbrev pub is_held_by_another : Option ℕ → ℕ → Bool
is_held_by_another None c = false
is_held_by_another (Some d) c = not (d == c)

abbrev pub released : ℕ → Option ℕ → Option ℕ
released c None = None
released c (Some d) = if d == c then None else Some d

-- a statement that begins with 'b' asks for the lock
abbrev pub begins : Event → Bool
begins (event.Statement n text) = slice_index text 0 == 98
begins _ = false

abbrev pub asks : Want → Bool
asks (want.Event e) = begins e
asks _ = false

-- and so it does where the lock is free
abbrev pub asks_lock : Desk → ℕ → Want → Bool
asks_lock m c w = asks w && is_none m.lock

-- ---- steps

-- what was refused changes nothing
abbrev pub Keeps : Desk → Desk → Type 0
Keeps old new = SameSeats old new × (new.lock ≡ old.lock)

-- a session is opened where its client had none
abbrev pub Sits : ℕ → ℕ → List ℕ → Desk → Desk → Type 0
Sits c n login old new = ((c ≡ 0) × (old.first ≡ None) × IsSession new.first n login × (new.second ≡ old.second))
    ⊎ ((c ≡ 1) × (old.second ≡ None) × IsSession new.second n login × (new.first ≡ old.first))

abbrev pub SeatsClient : ℕ → ℕ → List ℕ → Answer → Desk → Desk → Type 0
SeatsClient c n login (answer.Refused state) old new = Keeps old new
SeatsClient c n login (answer.Done t count warning) old new = (t ≡ tag.Open) × (count ≡ None) × (warning ≡ None) × Sits c n login old new × (new.lock ≡ old.lock)
SeatsClient c n login (answer.Rows rows) old new = ⊥

-- the session of a client ends, and it holds no lock
abbrev pub EndsSession : ℕ → Desk → Desk → Type 0
EndsSession c old new = (((c ≡ 0) × (new.first ≡ None) × (new.second ≡ old.second)) ⊎ ((c ≡ 1) × (new.second ≡ None) × (new.first ≡ old.first))) × (new.lock ≡ released c old.lock)

-- a statement that was run took the lock, which was free, or gave it back, or left it
abbrev pub Locks : ℕ → Tag → Option ℕ → Option ℕ → Type 0
Locks c tag.Begin old new = (old ≡ None) × (new ≡ Some c)
Locks c tag.Commit old new = new ≡ released c old
Locks c tag.Set old new = new ≡ old
Locks c _ old new = ⊥

abbrev pub RunsStatementText : ℕ → Answer → Desk → Desk → Type 0
RunsStatementText c (answer.Refused state) old new = Keeps old new
RunsStatementText c (answer.Done t count warning) old new = (count ≡ Some new.steps) × SameSeats old new × Locks c t old.lock new.lock
RunsStatementText c (answer.Rows rows) old new = ⊥

abbrev pub AnswersEnd : ℕ → Answer → Desk → Desk → Type 0
AnswersEnd c (answer.Refused state) old new = Keeps old new
AnswersEnd c (answer.Done t count warning) old new = (t ≡ tag.Close) × (count ≡ Some new.steps) × EndsSession c old new
AnswersEnd c (answer.Rows rows) old new = ⊥

abbrev pub DoesEvent : ℕ → Event → Answer → Desk → Desk → Type 0
DoesEvent c (event.Open n login) a old new = Keeps old new
DoesEvent c (event.Statement n text) a old new = RunsStatementText c a old new
DoesEvent c (event.Close n) a old new = AnswersEnd c a old new

abbrev pub MakesStep : ℕ → Want → Reply → Desk → Desk → Type 0
MakesStep c (want.Open n login entry) (reply.Answer a) old new = SeatsClient c n login a old new
MakesStep c (want.Event e) (reply.Answer a) old new = DoesEvent c e a old new
MakesStep c _ _ old new = ⊥
