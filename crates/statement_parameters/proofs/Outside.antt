-- Outside literals the tokens of two texts of one template agree.
use Rattle.std.proofs.Common.{◌≡◌, ◌∙◌, ◌++◌, ◌∷◌, [], ℕ, suc, ◌-◌, List, length, map, arith, refl, sym, ap, subst, Option, Some, None, Bool, true, false}
use Rattle.std.specs.Prelude.{slice_get, replicate}
use Rattle.std.specs.Option.{option_map}
use Rattle.std.proofs.lemmas.Option.{slice_get-map}
use Rattle.sql_types.specs.declared.value.Value.{Value}
use Rattle.statement_parameters.specs.Parts.{StatementPart, token, parameter, appended, tokens_with, literal_tokens}
use Rattle.statement_parameters.specs.Outside.{AgreeOutside, HaveLiteralsAlike, all_true, marks_with}

-- lists of as many tokens, each as the other
abbrev Alike : List (List (List ℕ)) → List (List (List ℕ)) → Type 0
Alike ls ks = map length ls ≡ map length ks

suc_same : {m n : ℕ} → suc m ≡ suc n → m ≡ n
suc_same e = cc

agree_literal : (ts us : List (List ℕ)) (ms : List Bool) (vs ws : List (List ℕ)) → length ts ≡ length us → AgreeOutside ms vs ws → AgreeOutside (replicate (length ts) true ++ ms) (ts ++ vs) (us ++ ws)
agree_literal [] [] ms vs ws e k = k
agree_literal [] (u ∷ us) ms vs ws e k = absurd (omega arith)
agree_literal (t ∷ ts) [] ms vs ws e k = absurd (omega arith)
agree_literal (t ∷ ts) (u ∷ us) ms vs ws e k = agree_literal ts us ms vs ws (suc_same e) k

lengths_same : (o p : Option (List (List ℕ))) (ts us : List (List ℕ)) → option_map length o ≡ option_map length p → o ≡ Some ts → p ≡ Some us → length ts ≡ length us
lengths_same o p ts us e f g = let h : Some (length ts) ≡ Some (length us) = sym (ap (option_map length) f) ∙ e ∙ ap (option_map length) g in cc

-- the two parts of a whole
record Halves (o p : Option (List (List ℕ))) (zs : List (List ℕ)) : Type 0 where
  first : List (List ℕ)
  second : List (List ℕ)
  is_first : o ≡ Some first
  is_second : p ≡ Some second
  whole : first ++ second ≡ zs

halves : (o p : Option (List (List ℕ))) (zs : List (List ℕ)) → appended o p ≡ Some zs → Halves o p zs
halves None p zs h = absurd (cc)
halves (Some xs) None zs h = absurd (cc)
halves (Some xs) (Some ys) zs h = record { first = xs; second = ys; is_first = refl; is_second = refl; whole = cc }

agree_token : (bytes : List ℕ) (ms : List Bool) (xs ys vs ws ts us : List (List ℕ)) → Some (bytes ∷ []) ≡ Some xs → Some (bytes ∷ []) ≡ Some ys → xs ++ vs ≡ ts → ys ++ ws ≡ us
    → AgreeOutside ms vs ws → AgreeOutside (false ∷ ms) ts us
agree_token bytes ms xs ys vs ws ts us e f g h k =
    let x : bytes ∷ [] ≡ xs = cc in
    let y : bytes ∷ [] ≡ ys = cc in
    let t : bytes ∷ vs ≡ ts = ap (λ l. l ++ vs) x ∙ g in
    let u : bytes ∷ ws ≡ us = ap (λ l. l ++ ws) y ∙ h in
    let both : AgreeOutside (false ∷ ms) (bytes ∷ vs) (bytes ∷ ws) = (refl, k) in
    subst (λ l. AgreeOutside (false ∷ ms) l us) t (subst (AgreeOutside (false ∷ ms) (bytes ∷ vs)) u both)

agree_parameter : (o p : Option (List (List ℕ))) (ms : List Bool) (xs ys vs ws ts us : List (List ℕ)) → option_map length o ≡ option_map length p → o ≡ Some xs → p ≡ Some ys → xs ++ vs ≡ ts → ys ++ ws ≡ us
    → AgreeOutside ms vs ws → AgreeOutside (all_true o ++ ms) ts us
agree_parameter o p ms xs ys vs ws ts us same e f g h k =
    let marked : replicate (length xs) true ++ ms ≡ all_true o ++ ms = sym (ap (λ q. all_true q ++ ms) e) in
    let both : AgreeOutside (replicate (length xs) true ++ ms) (xs ++ vs) (ys ++ ws) = agree_literal xs ys ms vs ws (lengths_same o p xs ys same e f) k in
    subst (λ l. AgreeOutside l ts us) marked (subst (λ l. AgreeOutside (replicate (length xs) true ++ ms) l us) g (subst (AgreeOutside (replicate (length xs) true ++ ms) (xs ++ vs)) h both))

literal_alike : (ls ks : List (List (List ℕ))) (n : ℕ) → Alike ls ks → option_map length (slice_get ls n) ≡ option_map length (slice_get ks n)
literal_alike ls ks n e = sym (slice_get-map length ls n) ∙ ap (λ l. slice_get l n) e ∙ slice_get-map length ks n

pub agree : (ls ks : List (List (List ℕ))) (ps : List StatementPart) (ts us : List (List ℕ)) → Alike ls ks → tokens_with ls ps ≡ Some ts → tokens_with ks ps ≡ Some us → AgreeOutside (marks_with ls ps) ts us
agree ls ks [] ts us same e f =
    let t : [] ≡ ts = cc in let u : [] ≡ us = cc in
    subst (λ l. AgreeOutside [] l us) t (subst (AgreeOutside [] []) u tt)
agree ls ks (token bytes ∷ ps) ts us same e f =
    let x = halves (Some (bytes ∷ [])) (tokens_with ls ps) ts e in
    let y = halves (Some (bytes ∷ [])) (tokens_with ks ps) us f in
    agree_token bytes (marks_with ls ps) x.first y.first x.second y.second ts us x.is_first y.is_first x.whole y.whole
    (agree ls ks ps x.second y.second same x.is_second y.is_second)
agree ls ks (parameter n ∷ ps) ts us same e f =
    let x = halves (slice_get ls (n - 1)) (tokens_with ls ps) ts e in
    let y = halves (slice_get ks (n - 1)) (tokens_with ks ps) us f in
    agree_parameter (slice_get ls (n - 1)) (slice_get ks (n - 1)) (marks_with ls ps) x.first y.first x.second y.second ts us (literal_alike ls ks (n - 1) same) x.is_first y.is_first x.whole y.whole
    (agree ls ks ps x.second y.second same x.is_second y.is_second)

map_twice : (values : List Value) → map length (map literal_tokens values) ≡ map (λ v. length (literal_tokens v)) values
map_twice [] = refl
map_twice (v ∷ vs) = ap (λ l. length (literal_tokens v) ∷ l) (map_twice vs)

pub alike : (values others : List Value) → HaveLiteralsAlike values others → Alike (map literal_tokens values) (map literal_tokens others)
alike values others e = map_twice values ∙ e ∙ sym (map_twice others)
