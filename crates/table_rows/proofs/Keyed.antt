-- A look-up of one row by its key.
use Rattle.std.proofs.Common.{◌≡◌, List, ℕ, Bool, true, false, [], ◌∷◌, option_to_list, Option, Some, None, ap, ◌∙◌, subst}
use Rattle.store.specs.Records.{Record, IsFound}

pub nothing_here : (found : Bool) (entry : Record) (at : Option Record) → found ≡ false → IsFound found entry at → option_to_list at ≡ []
nothing_here found entry at absent is = let none : at ≡ None = subst (λ (b : Bool). IsFound b entry at) absent is in ap option_to_list none

pub entry_here : (found : Bool) (entry : Record) (at : Option Record) → found ≡ true → IsFound found entry at → option_to_list at ≡ entry ∷ []
entry_here found entry at present is = let some : at ≡ Some entry = subst (λ (b : Bool). IsFound b entry at) present is in ap option_to_list some

-- a record by its two parts
pub record_is : (key value : List ℕ) (entry : Record) → key ≡ entry.0 → value ≡ entry.1 → (key, value) ≡ entry
record_is key value (k, v) key_is value_is = ap (λ (x : List ℕ). (x, value)) key_is ∙ ap (λ (y : List ℕ). (k, y)) value_is
