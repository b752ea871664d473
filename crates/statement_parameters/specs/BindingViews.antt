-- What is known of a text while it is made and compared.
use Rattle.std.specs.Prelude.{◌≡◌, ◌<◌, ◌≤◌, ℕ, Bool, true, false, List, ◌++◌, length, Option, Some, None, Result, Ok, Err, Vec, IsUtf8}
use Rattle.std.specs.declared.alloc.Global.{Global}
use Rattle.statement_parameters.specs.declared.fault.BindFault.{BindFault}
use Rattle.statement_parameters.specs.declared.fault.BindFault.TheVariants as fault
use Rattle.statement_parameters.specs.Parts.{HasExactTokens}

-- a text is put behind bytes, if it is there
abbrev pub PutsPart : Bool → Option (List ℕ) → List ℕ → List ℕ → Type 0
PutsPart true part old new = (text : List ℕ) × (part ≡ Some text) × (new ≡ old ++ text)
PutsPart false part old new = part ≡ None

abbrev pub IsMadeText : Option (List ℕ) → Result (Vec ℕ Global) BindFault → Type 0
IsMadeText wanted (Ok made) = (wanted ≡ Some made.items) × (length made.items ≤ 65536)
IsMadeText wanted (Err fault.NoValue) = wanted ≡ None
IsMadeText wanted (Err fault.TooLong) = (text : List ℕ) → wanted ≡ Some text → 65536 < length text
IsMadeText wanted (Err fault.OtherTokens) = ⊥

abbrev pub IsCheckedText : List (List ℕ) → List ℕ → Result (List ℕ) BindFault → Type 0
IsCheckedText expected made (Ok text) = (text ≡ made) × IsUtf8 text × HasExactTokens expected text
IsCheckedText expected made (Err fault.OtherTokens) = IsUtf8 made → ¬ (HasExactTokens expected made)
IsCheckedText expected made (Err fault) = ⊥
