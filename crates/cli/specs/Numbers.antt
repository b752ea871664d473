-- The numbers of a command line.
use Rattle.std.specs.Prelude.{◌≡◌, ◌≤◌, ℕ, List, codes}
use Rattle.std.specs.Str.Parse.{IsNumeral, digits_value}
use Rattle.cli.specs.declared.number.NumberOption.{NumberOption}
use Rattle.cli.specs.declared.number.NumberOption.TheVariants.{Pages, Port, Connections, Idle, Clients, Wait, Block}

-- the ranges
abbrev pub least_of : NumberOption → ℕ
least_of Pages = 64
least_of Port = 1
least_of Connections = 1
least_of Idle = 1
least_of Clients = 1
least_of Wait = 0
least_of Block = 1

abbrev pub most_of : NumberOption → ℕ
most_of Pages = 65536
most_of Port = 65535
most_of Connections = 65535
most_of Idle = 86400
most_of Clients = 1000
most_of Wait = 86400
most_of Block = 86400

-- the word is one decimal digit or more, and writes this number, which is in the range of the option
pub record IsNumberFor (option : NumberOption) (word : List ℕ) (number : ℕ) : Type 0 where
  pub numeral : IsNumeral 10 word
  pub value : number ≡ digits_value 10 word
  pub least : least_of option ≤ number
  pub most : number ≤ most_of option

abbrev pub NoNumberFor : NumberOption → List ℕ → Type 0
NoNumberFor option word = (number : ℕ) → IsNumberFor option word number → ⊥

-- what the option takes, as it is told
abbrev pub number_rule : NumberOption → List ℕ
number_rule Pages = codes "--pages takes a decimal number from 64 to 65536"
number_rule Port = codes "--port takes a decimal number from 1 to 65535"
number_rule Connections = codes "--connections takes a decimal number from 1 to 65535"
number_rule Idle = codes "--idle takes a decimal number of seconds from 1 to 86400"
number_rule Clients = codes "--clients takes a decimal number from 1 to 1000"
number_rule Wait = codes "--wait takes a decimal number of seconds from 0 to 86400"
number_rule Block = codes "--block takes a decimal number of seconds from 1 to 86400"
