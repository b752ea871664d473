-- A conversation at a door.
use Rattle.std.specs.Prelude.{◌≡◌, ◌++◌, ℕ, true, false, List, []}
use Rattle.std.specs.List.{AllByRecursion}
use Rattle.sql_types.specs.declared.answer.Answer.TheVariants.{Refused}
use Rattle.sql_types.specs.declared.state.SqlState.TheVariants.{InvalidAuthorization}
use Rattle.talks.specs.Wants.{Learnt}
use Rattle.talks.specs.declared.talk.Talk.{Ghosts}
use Rattle.talks.specs.declared.want.Reply.{Reply}
use Rattle.talks.specs.declared.want.Reply.TheVariants as reply
use Rattle.doors.specs.declared.door.Door.{Door}
use Rattle.doors.specs.Doors.{opens_only}

-- what one learns who is turned away
abbrev pub turned_away : Reply
turned_away = reply.Answer (Refused InvalidAuthorization)

-- a conversation that stands so says nothing; or it wants a session for a role as which one may not come in, learns that it is turned away, and says
-- something to that
pub data TurnsOthersAway {T : Type 0} (k : Ghosts T) (door : Door) (old : T) (said : List ℕ) (new : T) : Type 0 where
  stays : opens_only door (k.wants old) ≡ true → said ≡ [] → new ≡ old → TurnsOthersAway k door old said new
  is_turned_away : opens_only door (k.wants old) ≡ false → k.learns old turned_away said new → TurnsOthersAway k door old said new

-- a conversation does something and says something to that, and then turns others away
pub record SaysThen {T : Type 0} (k : Ghosts T) (door : Door) (does : List ℕ → T → Type 0) (said : List ℕ) (new : T) : Type 0 where
  pub first : List ℕ
  pub mid : T
  pub done : does first mid
  pub second : List ℕ
  pub turns_away : TurnsOthersAway k door mid second new
  pub said_is : said ≡ first ++ second

-- each session that was wanted is for a role as which one may come in
abbrev pub AreAdmitted : Door → List Learnt → Type 0
AreAdmitted door xs = AllByRecursion (λ x. opens_only door x.want ≡ true) xs
