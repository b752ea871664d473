-- What is read of a script, and why it is not run: it was not read, or is not UTF-8.
use Rattle.std.specs.Prelude.{◌≡◌, ◌+◌, ◌==◌, ◌≤◌, ℕ, List, [], ◌∷◌, take, if◌then◌else◌, Result, Ok, Err, Vec}
use Rattle.std.specs.IoError.{error_kind}
use Rattle.std.specs.declared.alloc.Global.{Global}
use Rattle.std.specs.declared.io.Error.{Error}
use Rattle.std.specs.Str.Lossy.{utf8_valid_len}
use Rattle.std.specs.declared.io.ErrorKind.{ErrorKind}
use Rattle.std.specs.declared.io.ErrorKind.TheVariants.{OutOfMemory}
use Rattle.sector_device.specs.declared.system_cause.SystemCause.TheVariants.{NotFound}
use Rattle.sector_device.specs.SystemCause.{cause_of}
use Rattle.systems.specs.declared.fault.TextFault.{TextFault}
use Rattle.systems.specs.declared.fault.TextFault.TheVariants as text
use Rattle.systems.specs.Systems.{HasText, IsSame, IsUnnamed, Rose, SystemState}
use Rattle.cli.specs.declared.fault.CommandFault.{CommandFault}
use Rattle.cli.specs.declared.fault.CommandFault.TheVariants as fault

-- the fault that an error of reading a script is
abbrev pub script_fault_of : ErrorKind → CommandFault
script_fault_of OutOfMemory = fault.Memory
script_fault_of kind = fault.ScriptUnread (cause_of kind)

-- the bytes of a script that was read, or why it was not
abbrev pub Source : Type 0
Source = Result (Vec ℕ Global) CommandFault

-- what a reader gave of a script
abbrev pub source_of : Result (Vec ℕ Global) Error → Source
source_of (Ok read) = Ok read
source_of (Err error) = Err (script_fault_of (error_kind error))

-- the fault that one of reading a text is
abbrev pub fault_of_reading : TextFault → CommandFault
fault_of_reading text.Missing = fault.ScriptUnread NotFound
fault_of_reading text.Memory = fault.Memory
fault_of_reading (text.Device cause) = fault.ScriptUnread cause

-- why a text was not read: nothing is there; no memory was left; or a call of the system failed
abbrev pub StandsOfText : {D L : Type 0} → TextFault → SystemState D L → List ℕ → SystemState D L → Type 0
StandsOfText text.Missing old path new = IsUnnamed old path
StandsOfText text.Memory old path new = Unit {0}
StandsOfText (text.Device cause) old path new = Rose old.failures new.failures

-- why the script at a path was not read
pub record IsUnreadAt {D L : Type 0} (old : SystemState D L) (path : List ℕ) (f : CommandFault) (new : SystemState D L) : Type 0 where
  pub why : TextFault
  pub is : f ≡ fault_of_reading why
  pub cause : old.faithful → StandsOfText why old path new

-- the bytes are those of the text that the path names, or this is why they were not read
abbrev pub IsReadAt : {D L : Type 0} → SystemState D L → List ℕ → Source → SystemState D L → Type 0
IsReadAt old path (Ok read) new = old.faithful → HasText old path read.items
IsReadAt old path (Err f) new = IsUnreadAt old path f new

-- and nothing else was done
pub record IsScriptRead {D L : Type 0} (old : SystemState D L) (path : List ℕ) (source : Source) (new : SystemState D L) : Type 0 where
  pub read : IsReadAt old path source new
  pub same : old.faithful → IsSame old new
  pub counts : old.failures ≤ new.failures

-- the fault of a byte that stands after these, where the first of them is this byte of this line
abbrev pub not_utf8_after : ℕ → ℕ → List ℕ → CommandFault
not_utf8_after line byte [] = fault.ScriptNotUtf8 line byte
not_utf8_after line byte (b ∷ rest) = (if b == 10 then not_utf8_after (line + 1) 1 rest else not_utf8_after line (byte + 1) rest)

-- the fault of a script that is not UTF-8: it names the first byte that is not
abbrev pub ill_encoded : List ℕ → CommandFault
ill_encoded script = not_utf8_after 1 1 (take (utf8_valid_len script) script)
