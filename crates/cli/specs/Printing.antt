-- A text that the program prints.
use Rattle.std.specs.Prelude.{◌≡◌, ◌⊎◌, ℕ, List}
use Rattle.std.specs.Io.KnownBytes.{Appends}
use Rattle.std.specs.declared.io.ErrorKind.{ErrorKind}
use Rattle.std.specs.declared.io.ErrorKind.TheVariants.{BrokenPipe}
use Rattle.wire.specs.ScriptRun.{Known}
use Rattle.cli.specs.declared.fault.CommandFault.TheVariants as fault
use Rattle.cli.specs.declared.ending.Ending.{Ending}
use Rattle.cli.specs.declared.ending.Ending.TheVariants as ending
use Rattle.cli.specs.declared.ending.Exit.{Exit}
use Rattle.cli.specs.declared.ending.Subject.{Subject}
use Rattle.cli.specs.Ending.{Exits}

-- the program's work ended so, and it said so
abbrev pub EndsBy : Subject → (Ending → Type 0) → Exit → Known → Known → Type 0
EndsBy about P exit before after = (e : Ending) × P e × Exits about e exit before after

-- the text was printed, or the writer failed
abbrev pub IsPrinted : List ℕ → Known → Ending → Known → Type 0
IsPrinted text before e after = ((e ≡ ending.Done) × Appends before after text) ⊎ (e ≡ ending.Fault fault.Output)

-- how the showing of a text ends that was not taken, by the kind of the error: nothing is told where nobody reads any more
abbrev pub ending_of_output : ErrorKind → Ending
ending_of_output BrokenPipe = ending.ReaderLeft
ending_of_output kind = ending.Fault fault.Output

-- the text was shown, or the writer failed, with an error of some kind
abbrev pub IsTextShown : List ℕ → Known → Ending → Known → Type 0
IsTextShown text before e after = ((e ≡ ending.Done) × Appends before after text) ⊎ ((kind : ErrorKind) × (e ≡ ending_of_output kind))

-- so it was, and it was told how it ended
abbrev pub Prints : List ℕ → Exit → Known → Known → Known → Known → Type 0
Prints text exit out_before out_after err_before err_after = (about : Subject) × EndsBy about (λ e. IsTextShown text out_before e out_after) exit err_before err_after
