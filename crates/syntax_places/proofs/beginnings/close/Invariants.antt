use Rattle.std.proofs.Common.{◌≡◌, ◌++◌, string_bytes}
use Rattle.sql_parser.specs.Places.{closed}
use Rattle.syntax_places.proofs.beginnings.close.Given as goal

abbrev pub invariant-loop : goal.invariant-loop
invariant-loop l = string_bytes l.made ≡ string_bytes l.fn.text ++ closed l.counter
