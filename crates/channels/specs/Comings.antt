-- Who comes.
use Rattle.std.specs.Prelude.{◌≡◌, ◌⊎◌, ℕ, [], Some, None}
use Rattle.channels.specs.Channels.{NamedBytes}
use Rattle.channels.specs.declared.channel.Channel.{Ghosts}
use Rattle.channels.specs.declared.attend.Taken.{Taken}
use Rattle.channels.specs.declared.attend.Taken.TheVariants as taken

-- a connection that has just come at this place, and gives these bytes
pub record HasJustCome {C : Type 0} (k : Ghosts C) (bytes : NamedBytes) (at : ℕ) (channel : C) : Type 0 where
  pub remaining : k.remaining channel ≡ bytes
  pub taken : (k.taken channel ≡ None) ⊎ (k.taken channel ≡ Some [])
  pub failures : k.failures channel ≡ 0
  pub place : k.place channel ≡ at

-- who was taken has just come there
abbrev pub HasCome : {C : Type 0} → Ghosts C → NamedBytes → ℕ → Taken C → Type 0
HasCome k bytes at (taken.Came channel) = HasJustCome k bytes at channel
HasCome k bytes at _ = Unit {0}
