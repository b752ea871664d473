-- What is left behind tokens that were expected.
use Rattle.std.proofs.Common.{◌≡◌, ◌∙◌, ◌≤◌, ◌++◌, ◌∷◌, [], ℕ, List, length, drop, length-drop, refl, sym, ap, arith, Option, Some, None, Bool, true, false}
use Rattle.std.specs.Prelude.{if◌then◌else◌, option_and_then, ◌↔◌, IsTrue}
use Rattle.std.specs.Str.{bytes_eq}
use Rattle.std.proofs.lemmas.Slice.Eq.{bytes_eq-Decides}
use Rattle.std.proofs.lemmas.List.{drop_all}
use Rattle.statement_parameters.specs.Parts.{appended}
use Rattle.statement_parameters.specs.Eaten.{behind_one, behind_all, behind_known}

chain : (g h k : List (List ℕ) → Option (List (List ℕ))) → ((ts : List (List ℕ)) → g ts ≡ option_and_then h (k ts)) → (o : Option (List (List ℕ))) → option_and_then g o ≡ option_and_then h (option_and_then k o)
chain g h k e None = refl
chain g h k e (Some ts) = e ts

behind_and : (es fs ts : List (List ℕ)) → behind_all (es ++ fs) ts ≡ option_and_then (behind_all fs) (behind_all es ts)
behind_and [] fs ts = refl
behind_and (e ∷ es) fs ts = chain (behind_all (es ++ fs)) (behind_all fs) (behind_all es) (λ us. behind_and es fs us) (behind_one e ts)

nothing_behind : (o : Option (List (List ℕ))) → None ≡ option_and_then (behind_known None) o
nothing_behind None = refl
nothing_behind (Some ts) = refl

-- behind two lists of tokens stands what is behind the second, where that stands that is behind the first
pub known_and : (p q : Option (List (List ℕ))) (ts : List (List ℕ)) → behind_known (appended p q) ts ≡ option_and_then (behind_known q) (behind_known p ts)
known_and None q ts = refl
known_and (Some es) None ts = nothing_behind (behind_all es ts)
known_and (Some es) (Some fs) ts = behind_and es fs ts

behind_itself : (ts : List (List ℕ)) → behind_all ts ts ≡ Some []
behind_itself [] = refl
behind_itself (t ∷ ts) = let e : bytes_eq t t ≡ true = (bytes_eq-Decides t t).1 refl in rw e (behind_itself ts)

by_test : (b : Bool) (es ts : List (List ℕ)) → option_and_then (behind_all es) (if b then Some ts else None) ≡ Some [] → (b ≡ true) × (behind_all es ts ≡ Some [])
by_test true es ts h = (refl, h)
by_test false es ts h = absurd (cc)

both_same : {t e : List ℕ} {ts es : List (List ℕ)} → t ≡ e → es ≡ ts → e ∷ es ≡ t ∷ ts
both_same f g = cc

nothing_left : (es ts : List (List ℕ)) → behind_all es ts ≡ Some [] → es ≡ ts
nothing_left [] ts h = let e : ts ≡ [] = cc in sym e
nothing_left (e ∷ es) [] h = absurd (cc)
nothing_left (e ∷ es) (t ∷ ts) h =
    let k = by_test (bytes_eq t e) es ts h in both_same ((bytes_eq-Decides t e).0 k.0) (nothing_left es ts k.1)

-- nothing is behind the tokens that are expected, and behind no others
pub known_left : (o : Option (List (List ℕ))) (ts : List (List ℕ)) → behind_known o ts ≡ Some [] → o ≡ Some ts
known_left None ts h = absurd (cc)
known_left (Some es) ts h = ap Some (nothing_left es ts h)

pub known_itself : (o : Option (List (List ℕ))) (ts : List (List ℕ)) → o ≡ Some ts → behind_known o ts ≡ Some []
known_itself o ts e = ap (λ p. behind_known p ts) e ∙ behind_itself ts

-- ---- a loop over parts: what is behind all, by what is behind the part and the parts after it

pub part_more : (all p q : Option (List (List ℕ))) (ts : List (List ℕ)) (at behind : ℕ)
    → behind_known all ts ≡ behind_known (appended p q) (drop at ts) → Some (drop behind ts) ≡ behind_known p (drop at ts) → behind_known all ts ≡ behind_known q (drop behind ts)
part_more all p q ts at behind whole here =
    whole ∙ known_and p q (drop at ts) ∙ ap (option_and_then (behind_known q)) (sym here)

pub part_missing : (all p q : Option (List (List ℕ))) (ts : List (List ℕ)) (at : ℕ)
    → behind_known all ts ≡ behind_known (appended p q) (drop at ts) → None ≡ behind_known p (drop at ts) → IsTrue false ↔ (all ≡ Some ts)
part_missing all p q ts at whole here =
    let none : behind_known all ts ≡ None = whole ∙ known_and p q (drop at ts) ∙ ap (option_and_then (behind_known q)) (sym here) in
    (λ h. absurd (cc), λ e. let some : behind_known all ts ≡ Some [] = known_itself all ts e in absurd (cc))

pub parts_end : (all : Option (List (List ℕ))) (ts : List (List ℕ)) (at : ℕ) (is_end : Bool)
    → behind_known all ts ≡ Some (drop at ts) → (is_end ≡ true → length ts ≤ at) → (length ts ≤ at → is_end ≡ true) → IsTrue is_end ↔ (all ≡ Some ts)
parts_end all ts at is_end whole is are =
    (λ h. known_left all ts (whole ∙ ap Some (drop_all at ts (is h))), λ e. are (ended (sym whole ∙ known_itself all ts e)))
  where
    ended : Some (drop at ts) ≡ Some [] → length ts ≤ at
    ended e = let f : drop at ts ≡ [] = cc in omega (arith, ap length f, length-drop at ts)
