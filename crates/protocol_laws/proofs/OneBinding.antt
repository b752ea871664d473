-- A statement with values is one text, or has one fault.
use Rattle.std.proofs.Common.{◌≡◌, ◌∙◌, ◌<◌, ◌≤◌, ℕ, List, length, map, refl, sym, ap, subst, arith, Some, None, Result, Ok, Err}
use Rattle.sql_types.specs.declared.value.Value.{Value}
use Rattle.statement_parameters.specs.declared.fault.BindFault.{BindFault}
use Rattle.statement_parameters.specs.declared.fault.BindFault.TheVariants as fault
use Rattle.statement_parameters.specs.Bindings.{HasOtherTokens, IsBoundAsText, IsTemplateBinding, IsTooLong, written_with}
use Rattle.statement_parameters.specs.Parts.{bound_tokens, literal_tokens}
use Rattle.statement_parameters.specs.Templates.{Fragment, parts_of}
use Rattle.statement_parameters.proofs.Bound.{some_tokens}

module _ (fs : List Fragment) (values : List Value) where
  one_text : (text other : List ℕ) → written_with values fs ≡ Some text → written_with values fs ≡ Some other → text ≡ other
  one_text text other is it = let both : Some text ≡ Some other = sym is ∙ it in cc

  -- a text is written where each parameter has a value
  lacks_none : (text : List ℕ) → written_with values fs ≡ Some text → bound_tokens values (parts_of fs) ≡ None → ⊥
  lacks_none text is none = let has = some_tokens (map literal_tokens values) fs text is in let both : Some has.0 ≡ None = sym has.1 ∙ none in cc

  fits_and_is_longer : (text other : List ℕ) → written_with values fs ≡ Some text → length text ≤ 65536 → written_with values fs ≡ Some other → 65536 < length other → ⊥
  fits_and_is_longer text other is fits it longer = let same = ap (λ (t : List ℕ). length t) (one_text text other is it) in absurd (omega (arith, same, fits, longer))

  is_and_has_others : (text : List ℕ) → IsBoundAsText fs values text → HasOtherTokens fs values → ⊥
  is_and_has_others text is others = others.3 (subst (IsBoundAsText fs values) (one_text text others.0 is.1.written others.1) is)

  others_and_longer : HasOtherTokens fs values → IsTooLong fs values → ⊥
  others_and_longer others longer = fits_and_is_longer others.0 longer.0 others.1 others.2 longer.1 longer.2

  is_and_longer : (text : List ℕ) → IsBoundAsText fs values text → IsTooLong fs values → ⊥
  is_and_longer text is longer = fits_and_is_longer text longer.0 is.1.written is.1.fits longer.1 longer.2

  pub one_binding : (r s : Result (List ℕ) BindFault) → IsTemplateBinding fs values r → IsTemplateBinding fs values s → r ≡ s
  one_binding (Ok text) (Ok other) is it = ap Ok (one_text text other is.1.written it.1.written)
  one_binding (Ok text) (Err fault.NoValue) is it = absurd (lacks_none text is.1.written it)
  one_binding (Ok text) (Err fault.TooLong) is it = absurd (is_and_longer text is it)
  one_binding (Ok text) (Err fault.OtherTokens) is it = absurd (is_and_has_others text is it)
  one_binding (Err fault.NoValue) (Ok text) is it = absurd (lacks_none text it.1.written is)
  one_binding (Err fault.NoValue) (Err fault.NoValue) is it = refl
  one_binding (Err fault.NoValue) (Err fault.TooLong) is it = absurd (lacks_none it.0 it.1 is)
  one_binding (Err fault.NoValue) (Err fault.OtherTokens) is it = absurd (lacks_none it.0 it.1 is)
  one_binding (Err fault.TooLong) (Ok text) is it = absurd (is_and_longer text it is)
  one_binding (Err fault.TooLong) (Err fault.NoValue) is it = absurd (lacks_none is.0 is.1 it)
  one_binding (Err fault.TooLong) (Err fault.TooLong) is it = refl
  one_binding (Err fault.TooLong) (Err fault.OtherTokens) is it = absurd (others_and_longer it is)
  one_binding (Err fault.OtherTokens) (Ok text) is it = absurd (is_and_has_others text it is)
  one_binding (Err fault.OtherTokens) (Err fault.NoValue) is it = absurd (lacks_none is.0 is.1 it)
  one_binding (Err fault.OtherTokens) (Err fault.TooLong) is it = absurd (others_and_longer is it)
  one_binding (Err fault.OtherTokens) (Err fault.OtherTokens) is it = refl
