-- What the words of `describe` ask for.
use Rattle.std.specs.Prelude.{◌≡◌, Bool, Option}
use Rattle.cli.specs.declared.describe_words.DescribeAsked.{DescribeAsked}
use Rattle.cli.specs.CommandLine.{Describe, Given, TheWord, are_powers_asked, role_asked, since_asked, table_asked}

-- the words that ask for it
abbrev pub given_for : TheWord → DescribeAsked → Bool → Given
given_for file asked json = Describe file (role_asked asked) (table_asked asked) (since_asked asked) (are_powers_asked asked) json

-- these words ask for it
pub record IsDescribeAsked (role table since : Option TheWord) (powers : Bool) (asked : DescribeAsked) : Type 0 where
  pub same_role : role ≡ role_asked asked
  pub same_table : table ≡ table_asked asked
  pub same_since : since ≡ since_asked asked
  pub same_powers : powers ≡ are_powers_asked asked
