-- A line spells one request at most.
use Rattle.std.proofs.Common.{◌≡◌, ◌∙◌, ℕ, true, List, [], ◌∷◌, ◌++◌, refl, sym, ap, arith}
use Rattle.std.specs.Prelude.{codes}
use Rattle.wire.specs.ScriptLine.{is_session_name, Request, opens, asks, closes, Spells, empty, comment, opening, asking, closing}
use Rattle.wire.proofs.Lines.{words, all_name_bytes, no_asking, head_of, behind_five, behind_six}

-- two lines that begin otherwise
heads : (a b : ℕ) (xs ys : List ℕ) → head_of xs ≡ a → head_of ys ≡ b → (a ≡ b → ⊥) → xs ≡ ys → ⊥
heads a b xs ys p q apart e = apart (sym p ∙ ap head_of e ∙ q)

is_not_empty : (name rest : List ℕ) → [] ≡ name ++ 58 ∷ rest → ⊥
is_not_empty [] rest e = cc
is_not_empty (x ∷ name) rest e = cc

-- a comment is no statement
no_comment : (rest name text : List ℕ) → is_session_name name ≡ true → 35 ∷ rest ≡ name ++ 58 ∷ 32 ∷ text → ⊥
no_comment rest name text named e =
    let found = words [] name 35 58 rest (32 ∷ text) refl (all_name_bytes name named) refl refl e in
    let g : 35 ≡ 58 = found.1 in
    absurd (omega (arith, g))

opens_same : (name login other_name other : List ℕ) → is_session_name name ≡ true → is_session_name other_name ≡ true
    → codes "open " ++ (name ++ (codes " " ++ login)) ≡ codes "open " ++ (other_name ++ (codes " " ++ other)) → opens name login ≡ opens other_name other
opens_same name login other_name other n m e =
    let same = words name other_name 32 32 login other (all_name_bytes name n) (all_name_bytes other_name m) refl refl (ap behind_five e) in
    ap (λ x. opens x login) same.0 ∙ ap (λ y. opens other_name y) same.2

asks_same : (name text other_name other : List ℕ) → is_session_name name ≡ true → is_session_name other_name ≡ true → name ++ (codes ": " ++ text) ≡ other_name ++ (codes ": " ++ other) → asks name text ≡ asks other_name other
asks_same name text other_name other n m e =
    let same = words name other_name 58 58 (32 ∷ text) (32 ∷ other) (all_name_bytes name n) (all_name_bytes other_name m) refl refl e in
    let behind : text ≡ other = cc in
    ap (λ x. asks x text) same.0 ∙ ap (λ y. asks other_name y) behind

-- two spellings of a line
pub same_request : (line : List ℕ) (r s : Request) → Spells line r → Spells line s → r ≡ s
same_request line r s (empty e) (empty f) = refl
same_request line r s (empty e) (comment f) = absurd (heads 0 35 _ _ refl refl (λ g. absurd (omega (arith, g))) (sym e ∙ f))
same_request line r s (empty e) (opening n f) = absurd (heads 0 111 _ _ refl refl (λ g. absurd (omega (arith, g))) (sym e ∙ f))
same_request line r s (empty e) (asking {name} {text} n f) = absurd (is_not_empty name (32 ∷ text) (sym e ∙ f))
same_request line r s (empty e) (closing n f) = absurd (heads 0 99 _ _ refl refl (λ g. absurd (omega (arith, g))) (sym e ∙ f))
same_request line r s (comment e) (empty f) = absurd (heads 35 0 _ _ refl refl (λ g. absurd (omega (arith, g))) (sym e ∙ f))
same_request line r s (comment e) (comment f) = refl
same_request line r s (comment e) (opening n f) = absurd (heads 35 111 _ _ refl refl (λ g. absurd (omega (arith, g))) (sym e ∙ f))
same_request line r s (comment {rest} e) (asking {name} {text} n f) = absurd (no_comment rest name text n (sym e ∙ f))
same_request line r s (comment e) (closing n f) = absurd (heads 35 99 _ _ refl refl (λ g. absurd (omega (arith, g))) (sym e ∙ f))
same_request line r s (opening n e) (empty f) = absurd (heads 111 0 _ _ refl refl (λ g. absurd (omega (arith, g))) (sym e ∙ f))
same_request line r s (opening n e) (comment f) = absurd (heads 111 35 _ _ refl refl (λ g. absurd (omega (arith, g))) (sym e ∙ f))
same_request line r s (opening {name} {login} n e) (opening {name = other_name} {login = other} m f) = opens_same name login other_name other n m (sym e ∙ f)
same_request line r s (opening {name} {login} n e) (asking {name = other_name} {text} m f) = absurd (no_asking (codes "open") (name ++ (codes " " ++ login)) line refl e other_name text m f)
same_request line r s (opening n e) (closing m f) = absurd (heads 111 99 _ _ refl refl (λ g. absurd (omega (arith, g))) (sym e ∙ f))
same_request line r s (asking {name} {text} n e) (empty f) = absurd (is_not_empty name (32 ∷ text) (sym f ∙ e))
same_request line r s (asking {name} {text} n e) (comment {rest} f) = absurd (no_comment rest name text n (sym f ∙ e))
same_request line r s (asking {name} {text} n e) (opening {name = other_name} {login} m f) = absurd (no_asking (codes "open") (other_name ++ (codes " " ++ login)) line refl f name text n e)
same_request line r s (asking {name} {text} n e) (asking {name = other_name} {text = other} m f) = asks_same name text other_name other n m (sym e ∙ f)
same_request line r s (asking {name} {text} n e) (closing {name = other_name} m f) = absurd (no_asking (codes "close") other_name line refl f name text n e)
same_request line r s (closing n e) (empty f) = absurd (heads 99 0 _ _ refl refl (λ g. absurd (omega (arith, g))) (sym e ∙ f))
same_request line r s (closing n e) (comment f) = absurd (heads 99 35 _ _ refl refl (λ g. absurd (omega (arith, g))) (sym e ∙ f))
same_request line r s (closing n e) (opening m f) = absurd (heads 99 111 _ _ refl refl (λ g. absurd (omega (arith, g))) (sym e ∙ f))
same_request line r s (closing {name} n e) (asking {name = other_name} {text} m f) = absurd (no_asking (codes "close") name line refl e other_name text m f)
same_request line r s (closing {name} n e) (closing {name = other_name} m f) = ap closes (ap behind_six (sym e ∙ f))
