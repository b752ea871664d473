-- What the program does for `password`.
use Rattle.std.specs.Prelude.{◌≡◌, ◌+◌, ◌≤◌, ℕ, Bool, true, false, List, length, take, if◌then◌else◌, Option, Some, None, Result, Ok, Err, String, codes, string_bytes}
use Rattle.std.specs.declared.alloc.Global.{Global}
use Rattle.new_verifiers.specs.Passwords.{IsPassword}
use Rattle.new_verifiers.specs.PasswordLines.{HasNoPassword, IsLine, has_more_lines, new_lines, nobodys_line, verifier_line}
use Rattle.sector_device.specs.declared.system_cause.SystemCause.TheVariants.{Other}
use Rattle.systems.specs.Systems.{IsSame, Rose, SystemState}
use Rattle.wire.specs.ScriptRun.{Known}
use Rattle.cli.specs.declared.ending.Ending.TheVariants as ending
use Rattle.cli.specs.declared.ending.Exit.{Exit}
use Rattle.cli.specs.declared.ending.Subject.{Subject}
use Rattle.cli.specs.declared.fault.CommandFault.{CommandFault}
use Rattle.cli.specs.declared.fault.CommandFault.TheVariants as fault
use Rattle.cli.specs.declared.password_command.MakingFault.{MakingFault}
use Rattle.cli.specs.declared.password_command.MakingFault.TheVariants as making
use Rattle.cli.specs.declared.password_words.VerifierOf.{VerifierOf}
use Rattle.cli.specs.declared.password_words.VerifierOf.TheVariants.{Input, New, Nobody}
use Rattle.cli.specs.Ending.{Exits, subject_text}
use Rattle.cli.specs.Printing.{EndsBy, IsPrinted}

-- whose verifier `--new` and `--mock` ask for; both at once ask for none
abbrev pub verifier_asked : Bool → Bool → Option VerifierOf
verifier_asked false false = Some Input
verifier_asked true false = Some New
verifier_asked false true = Some Nobody
verifier_asked true true = None

-- what is wrong with input that is the line of no password
abbrev pub input_fault : List ℕ → MakingFault
input_fault input = if has_more_lines input then making.ManyLines else making.NoPassword

-- ---- what is made

-- `old` is the system before
module _ {D L : Type 0} (old : SystemState D L) where
  -- these 32 bytes were drawn, after so many other draws
  pub record IsDraw (number : ℕ) (drawn : List ℕ) : Type 0 where
    pub size : length drawn ≡ 32
    pub is : old.faithful → drawn ≡ old.draws number

  -- the line of the verifier of the password that stands on standard input; its salt was drawn
  pub record IsInputMade (text : List ℕ) : Type 0 where
    pub password : List ℕ
    pub salt : List ℕ
    pub is_password : IsPassword password
    pub given : old.faithful → IsLine old.input password
    pub salted : IsDraw 0 salt
    pub text_is : text ≡ verifier_line password salt

  -- a password that was drawn, and its verifier, with a salt that was drawn after it
  pub record IsNewMade (text : List ℕ) : Type 0 where
    pub secret : List ℕ
    pub salt : List ℕ
    pub drawn : IsDraw 0 secret
    pub salted : IsDraw 1 salt
    pub text_is : text ≡ new_lines secret salt

  -- the line of a verifier of which the salt and both keys were drawn
  pub record IsNobodysMade (text : List ℕ) : Type 0 where
    pub salt : List ℕ
    pub stored_key : List ℕ
    pub server_key : List ℕ
    pub salted : IsDraw 0 salt
    pub stored : IsDraw 1 stored_key
    pub served : IsDraw 2 server_key
    pub text_is : text ≡ nobodys_line salt stored_key server_key

  -- the text that is asked for
  abbrev pub IsTextMade : VerifierOf → List ℕ → Type 0
  IsTextMade Input text = IsInputMade text
  IsTextMade New text = IsNewMade text
  IsTextMade Nobody text = IsNobodysMade text

  -- standard input is the line of no password; this is wrong with its first 1,026 bytes, which are more than such a line has
  pub record IsRefusedInput (whose : VerifierOf) (f : MakingFault) : Type 0 where
    pub asked : whose ≡ Input
    pub lacks : old.faithful → HasNoPassword old.input
    pub is : old.faithful → f ≡ input_fault (take 1026 old.input)

  -- why none is made: standard input was not read, or is no password; the system drew nothing; or memory was refused
  abbrev pub IsNoTextMade : VerifierOf → MakingFault → SystemState D L → Type 0
  IsNoTextMade whose (making.Unread cause) new = (whose ≡ Input) × Rose old.failures new.failures
  IsNoTextMade whose making.NoPassword new = IsRefusedInput whose making.NoPassword
  IsNoTextMade whose making.ManyLines new = IsRefusedInput whose making.ManyLines
  IsNoTextMade whose making.Undrawn new = Rose old.failures new.failures
  IsNoTextMade whose making.Memory new = Unit {0}

  -- one of the two
  abbrev pub MakesText : VerifierOf → Result (String Global) MakingFault → SystemState D L → Type 0
  MakesText whose (Ok text) new = IsTextMade whose (string_bytes text)
  MakesText whose (Err f) new = IsNoTextMade whose f new

-- ---- and how that is told

-- the fault of the command
abbrev pub fault_of_making : MakingFault → CommandFault
fault_of_making (making.Unread cause) = fault.Device cause
fault_of_making making.NoPassword = fault.NoPassword
fault_of_making making.ManyLines = fault.ManyLines
fault_of_making making.Undrawn = fault.Device Other
fault_of_making making.Memory = fault.Memory

-- and what it is about
abbrev pub making_subject : MakingFault → List ℕ
making_subject making.Undrawn = codes "random bytes"
making_subject f = codes "standard input"

-- the text was printed, unless the writer failed
abbrev pub PrintsMade : List ℕ → Exit → Known → Known → Known → Known → Type 0
PrintsMade text exit out_before out_after err_before err_after = (about : Subject) × EndsBy about (λ e. IsPrinted text out_before e out_after) exit err_before err_after

-- so was what was made; or why nothing was made was told, and nothing was printed
abbrev pub TellsMade : Result (String Global) MakingFault → Exit → Known → Known → Known → Known → Type 0
TellsMade (Ok text) exit out_before out_after err_before err_after = PrintsMade (string_bytes text) exit out_before out_after err_before err_after
TellsMade (Err f) exit out_before out_after err_before err_after = (about : Subject) × (subject_text about ≡ making_subject f) × Exits about (ending.Fault (fault_of_making f)) exit err_before err_after × (out_after ≡ out_before)

-- what is asked for was made and printed, or why not was told; nothing else that the system has was changed
pub record MakesVerifier {D L : Type 0} (old : SystemState D L) (whose : VerifierOf) (exit : Exit) (new : SystemState D L) (out_before out_after err_before err_after : Known) : Type 0 where
  pub made : Result (String Global) MakingFault
  pub makes : MakesText old whose made new
  pub tells : TellsMade made exit out_before out_after err_before err_after
  pub same : old.faithful → IsSame old new

-- ---- each draw

-- the draws behind a draw are those that came next before it
abbrev pub DrawsOne : {D L : Type 0} → SystemState D L → SystemState D L → Type 0
DrawsOne old new = old.faithful → (n : ℕ) → new.draws n ≡ old.draws (n + 1)

-- nothing was drawn, since the system failed
pub record IsUndrawn {D L : Type 0} (old new : SystemState D L) (f : MakingFault) : Type 0 where
  pub is : f ≡ making.Undrawn
  pub cause : Rose old.failures new.failures

-- nothing that the system names has changed, and its count of failures at most rose
pub record OnlyCounts {D L : Type 0} (old new : SystemState D L) : Type 0 where
  pub same : old.faithful → IsSame old new
  pub counts : old.failures ≤ new.failures
