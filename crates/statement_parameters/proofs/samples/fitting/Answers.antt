use Rattle.std.proofs.Common.{◌≡◌, ◌∙◌, ℕ, Bool, true, false, List, length, ap, refl, subst, Option, Some, None}
use Rattle.std.specs.Prelude.{◌&&◌, if◌then◌else◌, leb, IsUtf8, Vec}
use Rattle.std.specs.declared.alloc.Global.{Global}
use Rattle.std.specs.Str.{is_utf8}
use Rattle.std.proofs.lemmas.Bool.{le-leb}
use Rattle.std.proofs.lemmas.Str.{IsUtf8-from_is_utf8, IsUtf8-string_bytes, is_utf8-from_IsUtf8}
use Rattle.statement_parameters.proofs.samples.fitting.Goals as goal

abbrev by_tests : Bool → Bool → List ℕ → Option (List ℕ)
by_tests s u made = if s && u then Some made else None

fits : (made text : List ℕ) (s u : Bool) → s ≡ true → u ≡ true → text ≡ made → Some text ≡ by_tests s u made
fits made text true true e f is = ap Some is
fits made text false u e f is = absurd (cc)
fits made text true false e f is = absurd (cc)

no_text : (made : List ℕ) (s u : Bool) → (u ≡ true → ⊥) → None ≡ by_tests s u made
no_text made false u other = refl
no_text made true true other = absurd (other refl)
no_text made true false other = refl

pub returns-in-Ok : goal.returns-in-Ok
returns-in-Ok c =
    let made = c.args.made.items in
    fits made _ (leb (length made) 65536) (is_utf8 made) (le-leb (length made) 65536 c.requires) (is_utf8-from_IsUtf8 made (subst (λ (v : Vec ℕ Global). IsUtf8 v.items) c.in-Ok.ensures.ok (IsUtf8-string_bytes c.in-Ok.text)))
    (c.from_string.ensures ∙ ap (λ (v : Vec ℕ Global). v.items) c.in-Ok.ensures.ok)

pub returns : goal.returns
returns c =
    let made = c.args.made.items in
    no_text made (leb (length made) 65536) (is_utf8 made) (λ e. let wrong : false ≡ true = c.in-Err.ensures.succeeds (IsUtf8-from_is_utf8 made e) in cc)
