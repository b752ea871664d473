-- Lives of servers of many clients, of which a tenant asks the same: they tell it alike, by induction over the lives.
use Rattle.std.proofs.Common.{◌≡◌, ◌⊎◌, ap, sym, subst, inl, inr, ◌≤◌, ℕ, suc, length, arith}
use Rattle.abstract_database.specs.Database.{Database}
use Rattle.abstract_database.specs.Machine.{machine_over}
use Rattle.abstract_database.specs.Runs.{ReadingRelation, Standing, IsFoundAt}
use Rattle.database_laws.specs.Invariants.{IsSound}
use Rattle.database_laws.specs.HiddenRuns.{SameApparentRowsForPairs, AreSound}
use Rattle.database_laws.specs.Runs.{ReadsOnce}
use Rattle.served_tenants.specs.ServedTenants.{ClientsOfTenant, SeemAlike, OthersOutOfSight, AskAlike, TellAlike}
use Rattle.served_tenants.proofs.Renumbering.{sound_so}
use Rattle.served_tenants.proofs.Telling.{opened_alike}
use Rattle.served_lives.specs.ServedLives.{ServedLife, ServedLives, none_served, served, own_done, OthersKeepHidden, WantTheSame, PartWhereStopped, one_commit_more, one_commit_more_there, device_had_failed, device_had_failed_there, ServedLivesTellAlike, what_lives_tell_clients, next_lives_tell_alike, as_many_commit_no_more}
use Rattle.served_lives.proofs.Committing.{sound_at_end, fewer_before}
use Rattle.served_lives.proofs.ServedAlike.{Tells, EndsAlike, more_here, more_there, looks_alike, tells}

over_one : (d : Database) → IsSound d → AreSound (machine_over d)
over_one d on = record { committed = on; holder = tt }

module _ (Reads : ReadingRelation) (once : ReadsOnce Reads) (a : ClientsOfTenant) where
  module _ (d : Database) (life : ServedLife Reads d) (on : IsSound d) where
    begins_over : life.begin.standing.machine ≡ machine_over d
    begins_over = ap (λ (s : Standing). s.machine) life.over

    sound_at_begin : AreSound life.begin.standing.machine
    sound_at_begin = subst AreSound (sym begins_over) (over_one d on)

    sound_left : life.left ≡ life.end.standing.machine.committed → IsSound life.left
    sound_left is = subst IsSound (sym is) (sound_at_end Reads life.done life.begin life.end life.made sound_at_begin).committed

  module _ (d e : Database) (life : ServedLife Reads d) (other : ServedLife Reads e) (same : SameApparentRowsForPairs a.pairs d e) (on : IsSound d) (on_there : IsSound e) where
    begun : SeemAlike a life.place other.place life.begin other.begin
    begun = opened_alike a life.place other.place life.begin other.begin d e (begins_over d life on) (begins_over e other on_there) same

    tells_so : OthersOutOfSight a life.place Reads life.begin life.done life.end life.made → OthersOutOfSight a other.place Reads other.begin other.done other.end other.made →
        AskAlike life.place other.place (own_done a life) (own_done a other) →
        Tells Reads once a life.place other.place life.apart other.apart life.begin other.begin life.end other.end life.done other.done life.made other.made
    tells_so keep keep_there asks =
        tells Reads once a life.place other.place life.apart other.apart life.done life.end life.begin other.begin other.end other.done begun
        (sound_so life.place life.begin.standing.machine (sound_at_begin d life on)) (sound_so other.place other.begin.standing.machine (sound_at_begin e other on_there))
        life.made other.made keep keep_there asks

  abbrev AllTold : (d : Database) → ServedLives Reads d → Type 0
  AllTold d lives = (e : Database) (others : ServedLives Reads e) → SameApparentRowsForPairs a.pairs d e → IsSound d → IsSound e → OthersKeepHidden a lives → OthersKeepHidden a others → WantTheSame a lives others →
      ServedLivesTellAlike a lives others

  lives_told : (d : Database) (lives : ServedLives Reads d) → AllTold d lives
  lives_told d none_served e others same on on_there keep keep_there asks = tt
  lives_told d (served life lives) e none_served same on on_there keep keep_there asks = tt
  lives_told d (served life lives) e (served other others) same on on_there keep keep_there asks = at (lives_told life.left lives) where
    telling : Tells Reads once a life.place other.place life.apart other.apart life.begin other.begin life.end other.end life.done other.done life.made other.made
    telling = tells_so d e life other same on on_there keep.0 keep_there.0 asks.0

    left : AllTold life.left lives → SameApparentRowsForPairs a.pairs life.end.standing.machine.committed other.end.standing.machine.committed → IsFoundAt life.end.standing life.left → IsFoundAt other.end.standing other.left →
        PartWhereStopped a life other ⊎ (SameApparentRowsForPairs a.pairs life.left other.left × ServedLivesTellAlike a lives others)
    left later looks (inr failed) found = inl (device_had_failed failed)
    left later looks (inl is) (inr failed) = inl (device_had_failed_there failed)
    left later looks (inl is) (inl is_there) =
        let alike = subst (λ (x : Database). SameApparentRowsForPairs a.pairs x other.left) (sym is)
        (subst (λ (y : Database). SameApparentRowsForPairs a.pairs life.end.standing.machine.committed y) (sym is_there) looks) in
        inr (alike, later other.left others alike (sound_left d life on is) (sound_left e other on_there is_there) keep.1 keep_there.1 asks.1)

    stopped : AllTold life.left lives → EndsAlike Reads once a life.place other.place life.apart other.apart life.begin other.begin life.end other.end life.done other.done life.made other.made →
        PartWhereStopped a life other ⊎ (SameApparentRowsForPairs a.pairs life.left other.left × ServedLivesTellAlike a lives others)
    stopped later (more_here commits) = inl (one_commit_more commits)
    stopped later (more_there commits) = inl (one_commit_more_there commits)
    stopped later (looks_alike looks) = left later looks life.found other.found

    at : AllTold life.left lives → ServedLivesTellAlike a (served life lives) (served other others)
    at later = (telling.so, λ never. stopped later (telling.ends never))

pub lives_tell : (Reads : ReadingRelation) → what_lives_tell_clients Reads
lives_tell Reads once a d e lives others same on on_there keep keep_there asks = lives_told Reads once a d lives e others same on on_there keep keep_there asks

-- ---- the next lives

pub next_tell : (Reads : ReadingRelation) → next_lives_tell_alike Reads
next_tell Reads a d e life other later later_there rest rest_there ends none none_there held held_there (told, on) = at (on (ends told)) where
  none_part : PartWhereStopped a life other → ⊥
  none_part (one_commit_more commits) = none commits
  none_part (one_commit_more_there commits) = none_there commits
  none_part (device_had_failed failed) = held failed
  none_part (device_had_failed_there failed) = held_there failed

  at : PartWhereStopped a life other ⊎ (SameApparentRowsForPairs a.pairs life.left other.left × ServedLivesTellAlike a (served later rest) (served later_there rest_there)) →
      SameApparentRowsForPairs a.pairs life.left other.left × TellAlike Reads a later.place later_there.place later.begin later_there.begin later.done later_there.done
  at (inl parts) = absurd (none_part parts)
  at (inr next) = (next.0, next.1.0)

pub no_more_commits : (Reads : ReadingRelation) → as_many_commit_no_more Reads
no_more_commits Reads a d e life other few commits =
    never (length (own_done a life)) (length (own_done a other)) few (fewer_before Reads a life.place (length (own_done a other)) life.done life.begin life.end life.made commits)
  where
    never : (m n : ℕ) → m ≤ n → suc n ≤ m → ⊥
    never m n few more = omega (arith, few, more)
