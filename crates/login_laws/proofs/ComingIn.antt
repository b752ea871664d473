-- From whom a door admits to whose sessions are opened.
use Rattle.std.proofs.Common.{◌≡◌, ℕ, true, List, [], ◌∷◌, ◌++◌}
use Rattle.talks.specs.declared.want.Want.{Want}
use Rattle.talks.specs.declared.want.Want.TheVariants as want
use Rattle.doors.specs.declared.door.Door.{Door}
use Rattle.doors.specs.Doors.{opens_only}
use Rattle.doors.specs.DoorTalks.{AreAdmitted}
use Rattle.login_laws.specs.Done.{Done, told_in}
use Rattle.login_laws.specs.Entitled.{WantsAsEntitled, WantedAsEntitled}
use Rattle.login_laws.specs.Shown.{MayComeIn}

module _ {S X : Type 0} (door : Door) (drawn sent said : List ℕ) where
  pub comes_in : (past : List (Done S X)) (w : Want) → opens_only door w ≡ true → WantsAsEntitled (MayComeIn door drawn sent said) past w
  comes_in past (want.Open session role entry) may = may
  comes_in past want.Message may = tt
  comes_in past (want.Event e) may = tt
  comes_in past (want.Standing session) may = tt
  comes_in past (want.Description session text) may = tt
  comes_in past (want.Verifier table role) may = tt
  comes_in past (want.End late) may = tt
  comes_in past want.OutOfMemory may = tt

  pub all_come_in : (past xs : List (Done S X)) → AreAdmitted door (told_in xs) → WantedAsEntitled (MayComeIn door drawn sent said) past xs
  all_come_in past [] admitted = tt
  all_come_in past (x ∷ xs) admitted = (comes_in past x.exchange.want admitted.0, all_come_in (past ++ x ∷ []) xs admitted.1)
