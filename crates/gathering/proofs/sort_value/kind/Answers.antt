use Rattle.std.proofs.Common.{ap, sym}
use Rattle.sql_types.specs.Value.{owned}
use Rattle.gathering.specs.SortValues.{kind_of}
use Rattle.gathering.proofs.sort_value.kind.Goals as goal

pub returns-in-Int : goal.returns-in-Int
returns-in-Int c = ap (λ v. kind_of (owned v)) (sym c.in-Int.is)

pub returns-in-Text : goal.returns-in-Text
returns-in-Text c = ap (λ v. kind_of (owned v)) (sym c.in-Text.is)

pub returns-in-Bool : goal.returns-in-Bool
returns-in-Bool c = ap (λ v. kind_of (owned v)) (sym c.in-Bool.is)

pub returns-in-Null : goal.returns-in-Null
returns-in-Null c = ap (λ v. kind_of (owned v)) (sym c.in-Null.is)
