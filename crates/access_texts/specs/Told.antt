-- What is told of a table, of the powers of roles, and of what differs between two databases.
use Rattle.std.specs.Prelude.{◌≡◌, ℕ, Bool, true, false, List, [], ◌∷◌, ◌++◌, map, find, if◌then◌else◌, Some, string_bytes}
use Rattle.abstract_database.specs.Lists.{TheName}
use Rattle.abstract_database.specs.Whole.{Each}
use Rattle.stored_database.specs.Definitions.{Definitions, TableDefinition, database_of}
use Rattle.catalogue.specs.Lookups.{is_definition_named}
use Rattle.entry_differences.specs.Differences.{differences, applied_in_turn}
use Rattle.line_differences.specs.declared.line.LineDifference.{LineDifference}
use Rattle.line_differences.specs.Lines.{changes_of}
use Rattle.table_access.specs.declared.powers.RolePowers.{RolePowers}
use Rattle.table_access.specs.Powers.{ArePowers}
use Rattle.section_texts.specs.Sections.{SectionOf}
use Rattle.section_texts.specs.Columns.{columns_text}
use Rattle.section_texts.specs.Json.{json_text}
use Rattle.access_texts.specs.declared.each_table.AccessOfTable.{AccessOfTable}
use Rattle.access_texts.specs.declared.told.DifferencesText.{DifferencesText}
use Rattle.access_texts.specs.Access.{StandsForTable, access_section, grant_section}
use Rattle.access_texts.specs.Definitions.{column_section, membership_section, policy_section, privilege_section, table_section}
use Rattle.access_texts.specs.Differences.{difference_section, difference_texts}
use Rattle.access_texts.specs.Lines.{lines_in}
use Rattle.access_texts.specs.Powers.{becoming_section, role_section}

-- sections as JSON or as text in columns
abbrev pub printed : Bool → List SectionOf → List ℕ
printed json sections = if json then json_text sections else columns_text sections

-- ---- a table

abbrev pub table_sections : List TableDefinition → List AccessOfTable → List SectionOf
table_sections tables found = table_section tables ∷ access_section found ∷ grant_section found ∷ policy_section tables ∷ []

-- the text tells what each role has of the table in each database of the definitions
pub record IsToldBy (d : Definitions) (t : TableDefinition) (json : Bool) (text : List ℕ) : Type 0 where
  pub found : List AccessOfTable
  pub table : map (λ x. x.table.now) found ≡ t ∷ []
  pub access : Each (StandsForTable d) found
  pub told : text ≡ printed json (table_sections (t ∷ []) found)

pub record TellsTable (d : Definitions) (name : TheName) (json : Bool) (text : List ℕ) : Type 0 where
  pub table : TableDefinition
  pub named : find (is_definition_named name) d.tables ≡ Some table
  pub told : IsToldBy d table json text

-- ---- powers over the whole database

abbrev pub power_sections : Definitions → List RolePowers → List SectionOf
power_sections d powers = role_section powers ∷ becoming_section powers ∷ membership_section d.memberships ∷ privilege_section true d.tables ∷ []

pub record TellsPowers (d : Definitions) (json : Bool) (text : List ℕ) : Type 0 where
  pub powers : List RolePowers
  pub found : ArePowers (database_of d) powers
  pub told : text ≡ printed json (power_sections d powers)

-- ---- differences

abbrev pub definition_sections : Definitions → List RolePowers → List TableDefinition → List SectionOf
definition_sections d powers tables =
    role_section powers ∷ becoming_section powers ∷ membership_section d.memberships ∷ table_section tables ∷ column_section tables
    ∷ privilege_section false tables ∷ policy_section tables ∷ []

abbrev pub all_sections : Definitions → List RolePowers → List TableDefinition → List AccessOfTable → List SectionOf
all_sections d powers tables found = definition_sections d powers tables ++ access_section found ∷ grant_section found ∷ []

-- all that is compared of a database: its definitions, the powers of roles over it, and what each role has of each table
pub record AreAllSections (d : Definitions) (sections : List SectionOf) : Type 0 where
  pub powers : List RolePowers
  pub found_powers : ArePowers (database_of d) powers
  pub accesses : List AccessOfTable
  pub tables : map (λ x. x.table.now) accesses ≡ d.tables
  pub found : Each (StandsForTable d) accesses
  pub all : sections ≡ all_sections d powers d.tables accesses

abbrev pub are_some : List LineDifference → Bool
are_some [] = false
are_some (d ∷ ds) = true

abbrev pub printed_differences : Bool → List LineDifference → List ℕ
printed_differences json ds = if json then json_text (difference_section ds ∷ []) else difference_texts ds

-- the text tells each difference between the lines of old sections and of new ones, and these take the old lines to the new ones
pub record TellsBetween (before after : List SectionOf) (json : Bool) (told : DifferencesText) : Type 0 where
  pub found : List LineDifference
  pub exact : changes_of found ≡ differences (lines_in before) (lines_in after)
  pub leads : applied_in_turn (changes_of found) (lines_in before) ≡ lines_in after
  pub text : string_bytes told.text ≡ printed_differences json found
  pub differs : told.differs ≡ are_some found

-- so it does of all that is compared of two databases
pub record TellsDifferences (old new : Definitions) (json : Bool) (told : DifferencesText) : Type 0 where
  pub before : List SectionOf
  pub after : List SectionOf
  pub of_old : AreAllSections old before
  pub of_new : AreAllSections new after
  pub between : TellsBetween before after json told
