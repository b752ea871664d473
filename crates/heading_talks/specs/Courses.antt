-- Clients that ask what statements would answer.
use Rattle.std.specs.Prelude.{◌≡◌, ℕ, List}
use Rattle.talks.specs.Wants.{Learnt}
use Rattle.talks.specs.Conversations.{Heard}
use Rattle.talks.specs.declared.talk.Talk.{Ghosts}
use Rattle.talks.specs.declared.want.Want.TheVariants as want
use Rattle.heading_talks.specs.HeadingFrames.{asks, next_heading}

-- a conversation that hears these bytes, and nothing of headings, comes to a frame that asks, where it wants a message
pub record ReachesQuestion {T : Type 0} (k : Ghosts T) (talk : T) (bytes : List ℕ) : Type 0 where
  pub learnt_before : List Learnt
  pub said_before : List ℕ
  pub front : List ℕ
  pub stands : T
  pub heard : Heard k talk bytes learnt_before said_before front stands
  pub wants : k.wants stands ≡ want.Message
  pub session : ℕ
  pub text : List ℕ
  pub size : ℕ
  pub asked : next_heading front ≡ asks session text size
