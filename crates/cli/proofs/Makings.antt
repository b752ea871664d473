-- What stands on standard input, where some of it was read, and what was drawn behind that.
use Rattle.std.proofs.Common.{◌≡◌, ◌+◌, ◌≤◌, ◌∙◌, [], ◌∷◌, ℕ, Bool, true, false, List, ap, arith, inl, inr, length, refl, subst, sym, take, if◌then◌else◌}
use Rattle.std.proofs.lemmas.Bool.{cases_lt}
use Rattle.std.proofs.lemmas.List.{length-append, length-take-le, take_all}
use Rattle.new_verifiers.specs.Passwords.{IsPassword}
use Rattle.new_verifiers.specs.PasswordLines.{HasNoPassword, IsLine, has_more_lines}
use Rattle.systems.specs.Systems.{DrawsNone, IsSame, SystemState}
use Rattle.cli.specs.declared.password_command.MakingFault.{MakingFault}
use Rattle.cli.specs.declared.password_command.MakingFault.TheVariants as making
use Rattle.cli.specs.declared.password_words.VerifierOf.TheVariants.{Input}
use Rattle.cli.specs.PasswordCommand.{DrawsOne, IsDraw, IsNoTextMade, IsRefusedInput, input_fault}

-- the line of a password has 1,025 bytes at most
short_line : (input password : List ℕ) → IsPassword password → IsLine input password → length input ≤ 1025
short_line input password is (inl same) = subst (λ (i : List ℕ). length i ≤ 1025) (sym same) (omega (arith, is.short))
short_line input password is (inr same) = subst (λ (i : List ℕ). length i ≤ 1025) (sym same) (omega (arith, is.short, length-append password (10 ∷ [])))

-- so it is all of the input where it is its first 1,026 bytes
whole_line : (input password : List ℕ) → IsPassword password → IsLine (take 1026 input) password → IsLine input password
whole_line input password is begins =
    let short = short_line (take 1026 input) password is begins in
    elim (cases_lt 1026 (length input)) [
      | inl longer ↦ absurd (omega (arith, short, longer, length-take-le 1026 input (omega (arith, longer))))
      | inr not_longer ↦ subst (λ (i : List ℕ). IsLine i password) (take_all 1026 input (omega (arith, not_longer))) begins
    ]

-- and where these are the line of no password, neither is the input
no_whole_line : (input : List ℕ) → HasNoPassword (take 1026 input) → HasNoPassword input
no_whole_line input lacks password is whole =
    lacks password is (subst (λ (i : List ℕ). IsLine i password) (sym (take_all 1026 input (omega (arith, short_line input password is whole)))) whole)

module _ {D L : Type 0} (old new : SystemState D L) where
  -- refused input is why no text is made
  refused_as : (more : Bool) (f : MakingFault) → f ≡ (if more then making.ManyLines else making.NoPassword) → ((g : MakingFault) → f ≡ g → IsRefusedInput old Input g) → IsNoTextMade old Input f new
  refused_as true f is refused = subst (λ (g : MakingFault). IsNoTextMade old Input g new) (sym is) (refused making.ManyLines is)
  refused_as false f is refused = subst (λ (g : MakingFault). IsNoTextMade old Input g new) (sym is) (refused making.NoPassword is)

  -- what is drawn behind a reading would have been drawn before it
  pub drawn_before : (number : ℕ) (drawn : List ℕ) → (old.faithful → IsSame old new) → (old.faithful → DrawsNone old new) → IsDraw new number drawn → IsDraw old number drawn
  drawn_before number drawn same none it = record {
    size = it.size;
    is = λ faithful. it.is ((same faithful).faithful faithful) ∙ none faithful number;
  }

  -- and what is drawn behind one draw would have been the next one
  pub drawn_next : (number : ℕ) (drawn : List ℕ) → (old.faithful → IsSame old new) → DrawsOne old new → IsDraw new number drawn → IsDraw old (number + 1) drawn
  drawn_next number drawn same one it = record {
    size = it.size;
    is = λ faithful. it.is ((same faithful).faithful faithful) ∙ one faithful number;
  }

-- `read` was read of the input
module _ {D L : Type 0} (old new : SystemState D L) (read : List ℕ) (reads : old.faithful → read ≡ take 1026 old.input) where
  pub line_given : (password : List ℕ) → IsPassword password → IsLine read password → old.faithful → IsLine old.input password
  line_given password is line faithful = whole_line old.input password is (subst (λ (i : List ℕ). IsLine i password) (reads faithful) line)

  pub refused_made : (f : MakingFault) → HasNoPassword read → f ≡ input_fault read → IsNoTextMade old Input f new
  refused_made f lacks is = refused_as old new (has_more_lines read) f is (λ g same. record {
    asked = refl;
    lacks = λ faithful. no_whole_line old.input (subst HasNoPassword (reads faithful) lacks);
    is = λ faithful. sym same ∙ is ∙ ap input_fault (reads faithful);
  })
