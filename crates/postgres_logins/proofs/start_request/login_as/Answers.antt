use Rattle.std.proofs.Common.{◌≡◌, ◌∙◌, ◌&&◌, ◌==◌, ℕ, Bool, true, false, if◌then◌else◌, List, [], ◌∷◌, length, nat_lt, refl, ap, sym, arith}
use Rattle.std.specs.Str.{is_utf8}
use Rattle.std.proofs.lemmas.Bool.{lt-ltb}
use Rattle.std.proofs.lemmas.Str.{IsUtf8-from_is_utf8, is_utf8-from_IsUtf8}
use Rattle.postgres_logins.specs.declared.start_request.StartRequest.TheVariants as request
use Rattle.postgres_logins.specs.EntryMessages.{nameless}
use Rattle.postgres_logins.proofs.start_request.login_as.Goals as goal

nonempty : (role : List ℕ) (e : Bool) → e ≡ (length role == 0) → e ≡ false → nat_lt 0 (length role) ≡ true
nonempty [] e is some = let wrong : true ≡ false = sym is ∙ some in cc
nonempty (b ∷ bs) e is some = lt-ltb 0 (length (b ∷ bs)) (omega arith)

of_text : (a b : Bool) (name role : List ℕ) → a ≡ true → b ≡ true → name ≡ role → request.Login name ≡ (if a && b then request.Login role else nameless)
of_text true true name role nonempty utf8 same = ap request.Login same
of_text false b name role nonempty utf8 same = cc
of_text true false name role nonempty utf8 same = cc

of_bytes : (a b : Bool) (role : List ℕ) → (b ≡ true → ⊥) → nameless ≡ (if a && b then request.Login role else nameless)
of_bytes false b role other = refl
of_bytes true false role other = refl
of_bytes true true role other = absurd (other refl)

pub returns-in_ok-from_str-in-Ok : goal.returns-in_ok-from_str-in-Ok
returns-in_ok-from_str-in-Ok c =
    let role = c.args.role.now in
    of_text (nat_lt 0 (length role)) (is_utf8 role) _ role (nonempty role c.is_empty.result c.is_empty.ensures c.if-is_empty.false) (is_utf8-from_IsUtf8 role c.in-Ok.ensures.cases.1)
    (c.in_ok-from_str-in-Ok.ensures ∙ c.in-Ok.ensures.cases.0)

pub returns-in-Err : goal.returns-in-Err
returns-in-Err c =
    let role = c.args.role.now in
    c.nameless-in-Err.ensures ∙ of_bytes (nat_lt 0 (length role)) (is_utf8 role) role (λ e. c.in-Err.ensures.cases.0 (IsUtf8-from_is_utf8 role e))
