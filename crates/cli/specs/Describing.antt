-- What the program does for `describe`.
use Rattle.std.specs.Prelude.{◌≡◌, ℕ, Bool, true, List, Option, Some, None, find, Result, Ok, Err, string_bytes}
use Rattle.std.specs.Borrow.{Bor}
use Rattle.sector_device.specs.declared.device.Device.{Ghosts}
use Rattle.abstract_database.specs.Lists.{TheName}
use Rattle.stored_database.specs.Definitions.{Definitions}
use Rattle.description_texts.specs.Descriptions.{HasAskedFor, HasNone}
use Rattle.catalogue.specs.Lookups.{is_definition_named}
use Rattle.sql_types.specs.declared.state.SqlState.TheVariants.{UndefinedTable}
use Rattle.access_texts.specs.declared.told.DifferencesText.{DifferencesText}
use Rattle.access_texts.specs.Told.{TellsDifferences, TellsPowers, TellsTable}
use Rattle.wire.specs.ScriptRun.{Known}
use Rattle.systems.specs.Systems.{SystemState}
use Rattle.cli.specs.declared.describe_words.DescribeAsked.{DescribeAsked}
use Rattle.cli.specs.declared.describe_words.DescribeAsked.TheVariants as asked
use Rattle.cli.specs.declared.fault.CommandFault.{CommandFault}
use Rattle.cli.specs.Reading.{ReadsFile}
use Rattle.cli.specs.declared.fault.CommandFault.TheVariants as fault
use Rattle.cli.specs.declared.ending.Ending.{Ending}
use Rattle.cli.specs.declared.ending.Ending.TheVariants as ending
use Rattle.cli.specs.declared.ending.Exit.{Exit}
use Rattle.cli.specs.declared.ending.Subject.{Subject}
use Rattle.cli.specs.declared.ending.Subject.TheVariants as subject
use Rattle.cli.specs.CommandLine.{TheWord}
use Rattle.cli.specs.Ending.{Exits}
use Rattle.cli.specs.Printing.{IsTextShown}

-- of these definitions a text was shown, or the writer failed; or none of their roles has the name that is asked for, or memory
-- was refused, and nothing was printed
pub data IsDescribed (definitions : Definitions) (role : Option TheName) (before : Known) (e : Ending) (after : Known) : Type 0 where
  printed : HasAskedFor definitions.roles role → (text : List ℕ) → IsTextShown text before e after → IsDescribed definitions role before e after
  no_role : HasNone definitions.roles role → e ≡ ending.Fault fault.NoRole → after ≡ before → IsDescribed definitions role before e after
  no_memory : e ≡ ending.Fault fault.Memory → after ≡ before → IsDescribed definitions role before e after

-- who may do what with the table of a name was shown, or the writer failed; or no table has the name, or memory was refused, and nothing was printed
pub data IsTableDescribed (definitions : Definitions) (name : TheName) (json : Bool) (before : Known) (e : Ending) (after : Known) : Type 0 where
  table_shown : (text : List ℕ) → TellsTable definitions name json text → IsTextShown text before e after → IsTableDescribed definitions name json before e after
  no_table : find (is_definition_named name) definitions.tables ≡ None → e ≡ ending.Fault (fault.StatementRefused UndefinedTable) → after ≡ before → IsTableDescribed definitions name json before e after
  table_no_memory : e ≡ ending.Fault fault.Memory → after ≡ before → IsTableDescribed definitions name json before e after

-- the powers of roles over the whole database were shown, or the writer failed; or memory was refused, and nothing was printed
pub data ArePowersDescribed (definitions : Definitions) (json : Bool) (before : Known) (e : Ending) (after : Known) : Type 0 where
  powers_shown : (text : List ℕ) → TellsPowers definitions json text → IsTextShown text before e after → ArePowersDescribed definitions json before e after
  powers_no_memory : e ≡ ending.Fault fault.Memory → after ≡ before → ArePowersDescribed definitions json before e after

-- what was asked for of these definitions was shown
abbrev pub IsDescribedFor : Definitions → DescribeAsked → Bool → Known → Ending → Known → Type 0
IsDescribedFor definitions asked.Database json before e after = IsDescribed definitions None before e after
IsDescribedFor definitions (asked.Role name) json before e after = IsDescribed definitions (Some name.now) before e after
IsDescribedFor definitions (asked.Table name) json before e after = IsTableDescribed definitions name.now json before e after
IsDescribedFor definitions asked.Powers json before e after = ArePowersDescribed definitions json before e after
IsDescribedFor definitions (asked.Since old) json before e after = IsDescribed definitions None before e after

-- so it was with the definitions that were read; or the fault of their reading is the end, and nothing was printed
abbrev pub IsReadDescribed : Result Definitions CommandFault → DescribeAsked → Bool → Known → Ending → Known → Type 0
IsReadDescribed (Ok definitions) asked json before e after = IsDescribedFor definitions asked json before e after
IsReadDescribed (Err f) asked json before e after = (e ≡ ending.Fault f) × (after ≡ before)

-- what the end is about: the role or the table, where none has its name, else the file
abbrev pub description_subject : Bor (List ℕ) → DescribeAsked → Ending → Subject
description_subject file (asked.Role name) (ending.Fault fault.NoRole) = subject.Named name
description_subject file (asked.Table name) (ending.Fault (fault.StatementRefused code)) = subject.Named name
description_subject file asked e = subject.Named file

-- the definitions of the database in the file were read, and described; the file is there as it was, and not one sector was written
pub record Describes {D L : Type 0} (g : Ghosts D) (old : SystemState D L) (file : Bor (List ℕ)) (asked : DescribeAsked) (json : Bool) (exit : Exit) (new : SystemState D L) (out_before out_after err_before err_after : Known) : Type 0 where
  pub read : Result Definitions CommandFault
  pub reads : ReadsFile g old file.now read new
  pub ending : Ending
  pub described : IsReadDescribed read asked json out_before ending out_after
  pub ends : Exits (description_subject file asked ending) ending exit err_before err_after

-- ---- a comparison

-- the end of a text of differences: where there are some and all was shown, the end says so
abbrev pub told_ending : Bool → Ending → Ending
told_ending true ending.Done = ending.Differs
told_ending differs e = e

abbrev pub IsShownAs : Bool → List ℕ → Known → Ending → Known → Type 0
IsShownAs differs text before e after = (shown : Ending) × IsTextShown text before shown after × (e ≡ told_ending differs shown)

-- what differs was shown, or the writer failed; or memory was refused, and nothing was printed
pub data IsCompared (old new : Definitions) (json : Bool) (before : Known) (e : Ending) (after : Known) : Type 0 where
  differences_shown : (told : DifferencesText) → TellsDifferences old new json told → IsShownAs told.differs (string_bytes told.text) before e after → IsCompared old new json before e after
  differences_no_memory : e ≡ ending.Fault fault.Memory → after ≡ before → IsCompared old new json before e after

-- so it was with the definitions that were read; or the fault of a reading is the end, and nothing was printed
abbrev pub IsReadCompared : Result Definitions CommandFault → Result Definitions CommandFault → Bool → Known → Ending → Known → Type 0
IsReadCompared (Ok old) (Ok new) json before e after = IsCompared old new json before e after
IsReadCompared (Ok old) (Err f) json before e after = (e ≡ ending.Fault f) × (after ≡ before)
IsReadCompared (Err f) read json before e after = (e ≡ ending.Fault f) × (after ≡ before)

-- what the end is about: the old file, where it was not read, else the file
abbrev pub compared_subject : Result Definitions CommandFault → Bor (List ℕ) → Bor (List ℕ) → Subject
compared_subject (Ok definitions) file old_file = subject.Named file
compared_subject (Err f) file old_file = subject.Named old_file

-- the definitions of the databases in both files were read, the old one first, and compared; both files are there as they were, and not one sector was
-- written. `state` is what a system is at one moment
pub record Compares {D L S : Type 0} (g : Ghosts D) (state : S → SystemState D L) (old : SystemState D L) (file old_file : Bor (List ℕ)) (json : Bool) (exit : Exit) (new : SystemState D L) (out_before out_after err_before err_after : Known) : Type 0 where
  pub read_old : Result Definitions CommandFault
  pub between : S
  pub reads_old : ReadsFile g old old_file.now read_old (state between)
  pub read : Result Definitions CommandFault
  pub reads : ReadsFile g (state between) file.now read new
  pub ending : Ending
  pub compared : IsReadCompared read_old read json out_before ending out_after
  pub ends : Exits (compared_subject read_old file old_file) ending exit err_before err_after

-- ---- what was asked for

module _ {D L S : Type 0} (g : Ghosts D) (state : S → SystemState D L) (old : SystemState D L) (file : Bor (List ℕ)) where
  abbrev pub DescribesAsked : DescribeAsked → Bool → Exit → SystemState D L → Known → Known → Known → Known → Type 0
  DescribesAsked (asked.Since old_file) json exit new out_before out_after err_before err_after = Compares g state old file old_file json exit new out_before out_after err_before err_after
  DescribesAsked asked json exit new out_before out_after err_before err_after = Describes g old file asked json exit new out_before out_after err_before err_after
