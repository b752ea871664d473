-- Values that were read, and those behind them.
use Rattle.std.specs.Prelude.{List, ◌++◌, Result, Ok, Err}
use Rattle.sql_types.specs.declared.value.Value.{Value}
use Rattle.statement_parameters.specs.declared.received.ValueFault.{ValueFault}

abbrev pub behind_values : List Value → Result (List Value) ValueFault → Result (List Value) ValueFault
behind_values vs (Err f) = Err f
behind_values vs (Ok ws) = Ok (vs ++ ws)
