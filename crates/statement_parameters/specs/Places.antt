-- How many comments are open.
use Rattle.std.specs.Prelude.{ℕ}
use Rattle.statement_parameters.specs.declared.place.BytePlace.{BytePlace}
use Rattle.statement_parameters.specs.declared.place.BytePlace.TheVariants as place

abbrev pub comments_open : BytePlace → ℕ
comments_open (place.Opening depth) = depth
comments_open (place.Comment depth) = depth
comments_open (place.Closing depth) = depth
comments_open p = 0
