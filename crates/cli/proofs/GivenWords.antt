-- What a getter gives, and which words a command has.
use Rattle.std.proofs.Common.{◌≡◌, ◌≤◌, ◌∙◌, ⊎_elim, ap, subst, sym, refl, ℕ, Bool, true, false, List, [], ◌∷◌, length, map, Option, Some, None, codes, option_map, is_some, slice_index, arith}
use Rattle.std.specs.Prelude.{◌↔◌, IsTrue, option_and_then, slice_get}
use Rattle.std.specs.List.{find}
use Rattle.std.specs.Str.{bytes_eq}
use Rattle.std.specs.Borrow.{Bor}
use Rattle.clap.specs.Words.{Row, all_of, first_of, first_value, matched_of, one_of, one_text, raw_values, rows_of}
use Rattle.clap.proofs.WalkLemmas.{first_value-rows, one_text-rows, raw_values-rows}
use Rattle.clap.specs.declared.parser.matches.Found.{Found}
use Rattle.sql_types.specs.Name.{IsName}
use Rattle.std.specs.Option.{unwrap_or}
use Rattle.cli.specs.PlaceWords.{NoPlaceWord, place_word, with_options}
use Rattle.cli.specs.CommandLine.{TheWord, Given, Format, Copy, Dump, Restore, Journal, Password, Run, RunMemory, Serve, ServeSocket, ServeClients, GivenPlace, AtPort, AtSocket, At, AtEach, GivenCounts, BarsSuperusers, Check, Describe, Explain, HasPlaceWord, HasWords, GivesAs, IsFlag, IsRoleName, IsSeveral, lent_word, lent_words}

module _ (f : Found) (id : List ℕ) (r : Option (Bor (List ℕ))) (got : option_map (λ s. s.now) r ≡ first_value f id) where
  -- what a getter gives is the word that the rows have
  pub got_so : first_of id (rows_of f) ≡ option_map (λ s. s.now) r
  got_so = sym (first_value-rows f id) ∙ sym got

  pub got_word : (x : Bor (List ℕ)) → r ≡ Some x → first_of id (rows_of f) ≡ Some x.now
  got_word x is = sym (first_value-rows f id) ∙ sym got ∙ ap (option_map (λ s. s.now)) is

  pub got_none : r ≡ None → first_of id (rows_of f) ≡ None
  got_none is = sym (first_value-rows f id) ∙ sym got ∙ ap (option_map (λ s. s.now)) is

  pub no_word : (word : TheWord) → r ≡ None → first_of id (rows_of f) ≡ Some word → ⊥
  no_word word is has =
      let bad : None ≡ Some word = sym (got_none is) ∙ has in
      cc

  pub no_gap : (x : Bor (List ℕ)) → r ≡ Some x → first_of id (rows_of f) ≡ None → ⊥
  no_gap x is has =
      let bad : None ≡ Some x.now = sym has ∙ got_word x is in
      cc

is_gap : (r : Option (Bor (List ℕ))) → option_map (λ s. s.now) r ≡ None → is_some r ≡ true → ⊥
is_gap None none there = cc
is_gap (Some x) none there = cc

no_such : (r : Option (Bor (List ℕ))) → is_some r ≡ false → r ≡ None
no_such None lacks = refl
no_such (Some x) lacks = cc

module _ (f : Found) (id : List ℕ) (r : Option (Bor (List ℕ))) (got : option_map (λ s. s.now) r ≡ first_value f id) where
  pub some_word : is_some r ≡ true → first_of id (rows_of f) ≡ None → ⊥
  some_word there has = is_gap r (got ∙ first_value-rows f id ∙ has) there

  pub none_word : is_some r ≡ false → first_of id (rows_of f) ≡ None
  none_word lacks = got_none f id r got (no_such r lacks)

same_some : (x y : TheWord) → Some x ≡ Some y → x ≡ y
same_some x y is = ap (λ (o : Option TheWord). unwrap_or o x) is

-- what is given is not left out
pub not_both : (o : Option TheWord) (word : TheWord) → o ≡ None → o ≡ Some word → ⊥
not_both o word none some =
    let bad : None ≡ Some word = sym none ∙ some in
    cc

-- neither a port nor a socket nor a place of `--at` is no place, and a port and a socket are none
pub no_place : (rows : List Row) (place : GivenPlace) → first_of (codes "port") rows ≡ None → first_of (codes "socket") rows ≡ None → first_of (codes "at") rows ≡ None → HasPlaceWord rows place → ⊥
no_place rows (AtPort port) no_port no_socket no_at has = not_both _ port no_port has.0
no_place rows (AtSocket socket) no_port no_socket no_at has = not_both _ socket no_socket has.1
no_place rows (At kind rest options) no_port no_socket no_at has = not_both _ (with_options (place_word kind rest) options) no_at has.2
no_place rows (AtEach first others) no_port no_socket no_at has = not_both _ first no_at has.2

pub two_places : (rows : List Row) (place : GivenPlace) (port : TheWord) → first_of (codes "port") rows ≡ Some port → (first_of (codes "socket") rows ≡ None → ⊥) → HasPlaceWord rows place → ⊥
two_places rows (AtPort other) port has_port has_socket has = has_socket has.1
two_places rows (AtSocket socket) port has_port has_socket has = not_both _ port has.0 has_port
two_places rows (At kind rest options) port has_port has_socket has = not_both _ port has.0 has_port
two_places rows (AtEach first others) port has_port has_socket has = not_both _ port has.0 has_port

-- ---- one word of `--at`, or several

same_words : (x y : List TheWord) → Some x ≡ Some y → x ≡ y
same_words x y is = ap (λ (o : Option (List TheWord)). unwrap_or o x) is

same_first : (a b : TheWord) (xs ys : List TheWord) → a ∷ xs ≡ b ∷ ys → a ≡ b
same_first a b xs ys is = cc

-- one word alone, that does not say that no superuser is admitted, is not several
pub not_several : (words : List TheWord) (word : TheWord) → words ≡ word ∷ [] → (BarsSuperusers word → ⊥) → IsSeveral words → ⊥
not_several words word is plain several =
    ⊎_elim (λ two. let one : length words ≡ 1 = ap length is in omega (arith, two, one))
    (λ barred. plain (subst BarsSuperusers (same_first barred.0 word [] [] (sym barred.1 ∙ is)) barred.2)) several

-- what `--at` names is its place alone
pub only_at : (rows : List Row) (place : GivenPlace) (word : TheWord) → first_of (codes "at") rows ≡ Some word → all_of (codes "at") rows ≡ Some (word ∷ []) → (BarsSuperusers word → ⊥) → NoPlaceWord word → HasPlaceWord rows place → ⊥
only_at rows (AtPort port) word has_at alone plain none has = not_both _ word has.2 has_at
only_at rows (AtSocket socket) word has_at alone plain none has = not_both _ word has.2 has_at
only_at rows (At kind rest options) word has_at alone plain none has =
    none kind rest options (same_some word (with_options (place_word kind rest) options) (sym has_at ∙ has.2)) has.3
only_at rows (AtEach first others) word has_at alone plain none has =
    not_several (first ∷ others) word (same_words (first ∷ others) (word ∷ []) (sym has.3 ∙ alone)) plain has.4

-- words that are several are no word alone, and are eight at most
pub too_many : (rows : List Row) (place : GivenPlace) (word : TheWord) (words : List TheWord) → first_of (codes "at") rows ≡ Some word → all_of (codes "at") rows ≡ Some words → IsSeveral words → (length words ≤ 8 → ⊥) → HasPlaceWord rows place → ⊥
too_many rows (AtPort port) word words has_at all several many has = not_both _ word has.2 has_at
too_many rows (AtSocket socket) word words has_at all several many has = not_both _ word has.2 has_at
too_many rows (At kind rest options) word words has_at all several many has =
    let alone = with_options (place_word kind rest) options in
    not_several words alone (same_words words (alone ∷ []) (sym all ∙ has.4)) has.5 several
too_many rows (AtEach first others) word words has_at all several many has =
    many (subst (λ (ws : List TheWord). length ws ≤ 8) (sym (same_words words (first ∷ others) (sym all ∙ has.3))) has.5)

-- ---- all words of an option

-- the first is the first of all
first_in_all : (id : List ℕ) (rows : List Row) → first_of id rows ≡ option_and_then (λ (ws : List (List ℕ)). slice_get ws 0) (all_of id rows)
first_in_all id rows = go (find (λ (r : Row). bytes_eq r.id id) rows)
  where
    go : (o : Option Row) → option_and_then (λ (r : Row). slice_get r.values 0) o ≡ option_and_then (λ (ws : List (List ℕ)). slice_get ws 0) (option_map (λ (r : Row). r.values) o)
    go None = refl
    go (Some r) = refl

pub first_given : (id : List ℕ) (rows : List Row) (word : TheWord) (words : List TheWord) → all_of id rows ≡ Some (word ∷ words) → first_of id rows ≡ Some word
first_given id rows word words is = first_in_all id rows ∙ ap (option_and_then (λ (ws : List (List ℕ)). slice_get ws 0)) is

pub none_given : (id : List ℕ) (rows : List Row) → all_of id rows ≡ None → first_of id rows ≡ None
none_given id rows is = first_in_all id rows ∙ ap (option_and_then (λ (ws : List (List ℕ)). slice_get ws 0)) is

pub empty_given : (id : List ℕ) (rows : List Row) → all_of id rows ≡ Some [] → first_of id rows ≡ None
empty_given id rows is = first_in_all id rows ∙ ap (option_and_then (λ (ws : List (List ℕ)). slice_get ws 0)) is

module _ (f : Found) (id : List ℕ) (r : Option (Bor (List (Bor (List ℕ))))) (got : option_map (λ s. map (λ v. v.now) s.now) r ≡ option_map raw_values (matched_of f id)) where
  -- what a getter of all words gives is what the rows have
  pub got_words : (words : Bor (List (Bor (List ℕ)))) → r ≡ Some words → all_of id (rows_of f) ≡ Some (lent_words words.now)
  got_words words is = sym (raw_values-rows f id) ∙ sym got ∙ ap (option_map (λ s. map (λ v. v.now) s.now)) is

  pub got_no_words : r ≡ None → all_of id (rows_of f) ≡ None
  got_no_words is = sym (raw_values-rows f id) ∙ sym got ∙ ap (option_map (λ s. map (λ v. v.now) s.now)) is

-- beside it there is neither a port nor a socket
pub no_port_beside : (rows : List Row) (place : GivenPlace) (word : TheWord) → first_of (codes "at") rows ≡ Some word → (first_of (codes "port") rows ≡ None → ⊥) → HasPlaceWord rows place → ⊥
no_port_beside rows (AtPort port) word has_at given has = not_both _ word has.2 has_at
no_port_beside rows (AtSocket socket) word has_at given has = not_both _ word has.2 has_at
no_port_beside rows (At kind rest options) word has_at given has = given has.0
no_port_beside rows (AtEach first others) word has_at given has = given has.0

pub no_socket_beside : (rows : List Row) (place : GivenPlace) (word : TheWord) → first_of (codes "at") rows ≡ Some word → (first_of (codes "socket") rows ≡ None → ⊥) → HasPlaceWord rows place → ⊥
no_socket_beside rows (AtPort port) word has_at given has = not_both _ word has.2 has_at
no_socket_beside rows (AtSocket socket) word has_at given has = not_both _ word has.2 has_at
no_socket_beside rows (At kind rest options) word has_at given has = given has.1
no_socket_beside rows (AtEach first others) word has_at given has = given has.1

-- what a getter gives of a flag is whether it is given
pub flag_so : (f : Found) (id : List ℕ) (given : Bool) → (one_text f id ≡ None → given ≡ false) → (one_text f id ≡ Some (codes "true") → given ≡ true) → (one_text f id ≡ Some (codes "false") → given ≡ false)
    → IsFlag (one_of id (rows_of f)) given
flag_so f id given none set unset = record {
  set = λ is. set (one_text-rows f id ∙ is);
  unset = λ is. unset (one_text-rows f id ∙ is);
  absent = λ is. none (one_text-rows f id ∙ is);
}

-- the name of a role that is given, and no name
pub role_given : (r : Option (Bor (List ℕ))) (x : Bor (List ℕ)) → r ≡ Some x → IsName x.now → IsRoleName (lent_word r)
role_given r x is named = subst (λ o. IsRoleName (lent_word o)) (sym is) named

pub no_role_given : (r : Option (Bor (List ℕ))) → r ≡ None → IsRoleName (lent_word r)
no_role_given r is = subst (λ o. IsRoleName (lent_word o)) (sym is) tt

-- a test that fails of a name
pub no_name : (name : List ℕ) (named : Bool) → (IsTrue named ↔ IsName name) → named ≡ false → IsName name → ⊥
no_name name named test is really =
    let bad : IsTrue false = subst IsTrue is (test.1 really) in
    cc

-- ---- each command has its own words

-- commands with names of another first letter differ
other_name : (a b : TheWord) → a ≡ b → (slice_index a 0 ≡ slice_index b 0 → ⊥) → ⊥
other_name a b same differ = differ (ap (λ (t : TheWord). slice_index t 0) same)

-- and so do those with names of another second letter
other_second : (a b : TheWord) → a ≡ b → (slice_index a 1 ≡ slice_index b 1 → ⊥) → ⊥
other_second a b same differ = differ (ap (λ (t : TheWord). slice_index t 1) same)

pub no_format : (rows : List Row) → ((file pages admin : TheWord) (journal : Bool) → HasWords rows (Format file pages admin journal) → ⊥) → (given : Given) → GivesAs (codes "format") rows given → ⊥
no_format rows lacks (Format file pages admin journal) gives = lacks file pages admin journal gives.words
no_format rows lacks (Copy file new pages journal) gives = other_name _ _ gives.named (λ e. omega (arith, e))
no_format rows lacks (Dump file out) gives = other_name _ _ gives.named (λ e. omega (arith, e))
no_format rows lacks (Restore dump new pages journal) gives = other_name _ _ gives.named (λ e. omega (arith, e))
no_format rows lacks (Journal file state) gives = other_name _ _ gives.named (λ e. omega (arith, e))
no_format rows lacks (Password new mock) gives = other_name _ _ gives.named (λ e. omega (arith, e))
no_format rows lacks (Run file script stop explain) gives = other_name _ _ gives.named (λ e. omega (arith, e))
no_format rows lacks (RunMemory admin script stop explain) gives = other_name _ _ gives.named (λ e. omega (arith, e))
no_format rows lacks (Serve file port connections idle) gives = other_name _ _ gives.named (λ e. omega (arith, e))
no_format rows lacks (ServeSocket file socket connections idle) gives = other_name _ _ gives.named (λ e. omega (arith, e))
no_format rows lacks (ServeClients file place counts) gives = other_name _ _ gives.named (λ e. omega (arith, e))
no_format rows lacks (Check file) gives = other_name _ _ gives.named (λ e. omega (arith, e))
no_format rows lacks (Describe file role table since powers json) gives = other_name _ _ gives.named (λ e. omega (arith, e))
no_format rows lacks (Explain file role statement session json) gives = other_name _ _ gives.named (λ e. omega (arith, e))

pub no_run : (rows : List Row) → ((file script : TheWord) (stop explain : Bool) → HasWords rows (Run file script stop explain) → ⊥) → ((admin script : TheWord) (stop explain : Bool) → HasWords rows (RunMemory admin script stop explain) → ⊥) → (given : Given) → GivesAs (codes "run") rows given → ⊥
no_run rows fewer lacks (Format file pages admin journal) gives = other_name _ _ gives.named (λ e. omega (arith, e))
no_run rows fewer lacks (Copy file new pages journal) gives = other_name _ _ gives.named (λ e. omega (arith, e))
no_run rows fewer lacks (Dump file out) gives = other_name _ _ gives.named (λ e. omega (arith, e))
no_run rows fewer lacks (Restore dump new pages journal) gives = other_second _ _ gives.named (λ e. omega (arith, e))
no_run rows fewer lacks (Journal file state) gives = other_name _ _ gives.named (λ e. omega (arith, e))
no_run rows fewer lacks (Password new mock) gives = other_name _ _ gives.named (λ e. omega (arith, e))
no_run rows fewer lacks (Run file script stop explain) gives = fewer file script stop explain gives.words
no_run rows fewer lacks (RunMemory admin script stop explain) gives = lacks admin script stop explain gives.words
no_run rows fewer lacks (Serve file port connections idle) gives = other_name _ _ gives.named (λ e. omega (arith, e))
no_run rows fewer lacks (ServeSocket file socket connections idle) gives = other_name _ _ gives.named (λ e. omega (arith, e))
no_run rows fewer lacks (ServeClients file place counts) gives = other_name _ _ gives.named (λ e. omega (arith, e))
no_run rows fewer lacks (Check file) gives = other_name _ _ gives.named (λ e. omega (arith, e))
no_run rows fewer lacks (Describe file role table since powers json) gives = other_name _ _ gives.named (λ e. omega (arith, e))
no_run rows fewer lacks (Explain file role statement session json) gives = other_name _ _ gives.named (λ e. omega (arith, e))

pub no_serve : (rows : List Row) → ((file port connections : TheWord) (idle : Option TheWord) → HasWords rows (Serve file port connections idle) → ⊥) → ((file socket connections : TheWord) (idle : Option TheWord) → HasWords rows (ServeSocket file socket connections idle) → ⊥) → ((file : TheWord) (place : GivenPlace) (counts : GivenCounts) → HasWords rows (ServeClients file place counts) → ⊥) → (given : Given) → GivesAs (codes "serve") rows given → ⊥
no_serve rows port socket many (Format file pages admin journal) gives = other_name _ _ gives.named (λ e. omega (arith, e))
no_serve rows port socket many (Copy file new pages journal) gives = other_name _ _ gives.named (λ e. omega (arith, e))
no_serve rows port socket many (Dump file out) gives = other_name _ _ gives.named (λ e. omega (arith, e))
no_serve rows port socket many (Restore dump new pages journal) gives = other_name _ _ gives.named (λ e. omega (arith, e))
no_serve rows port socket many (Journal file state) gives = other_name _ _ gives.named (λ e. omega (arith, e))
no_serve rows port socket many (Password new mock) gives = other_name _ _ gives.named (λ e. omega (arith, e))
no_serve rows port socket many (Run file script stop explain) gives = other_name _ _ gives.named (λ e. omega (arith, e))
no_serve rows port socket many (RunMemory admin script stop explain) gives = other_name _ _ gives.named (λ e. omega (arith, e))
no_serve rows port socket many (Serve file number connections idle) gives = port file number connections idle gives.words
no_serve rows port socket many (ServeSocket file path connections idle) gives = socket file path connections idle gives.words
no_serve rows port socket many (ServeClients file place counts) gives = many file place counts gives.words
no_serve rows port socket many (Check file) gives = other_name _ _ gives.named (λ e. omega (arith, e))
no_serve rows port socket many (Describe file role table since powers json) gives = other_name _ _ gives.named (λ e. omega (arith, e))
no_serve rows port socket many (Explain file role statement session json) gives = other_name _ _ gives.named (λ e. omega (arith, e))

pub no_check : (rows : List Row) → ((file : TheWord) → HasWords rows (Check file) → ⊥) → (given : Given) → GivesAs (codes "check") rows given → ⊥
no_check rows lacks (Format file pages admin journal) gives = other_name _ _ gives.named (λ e. omega (arith, e))
no_check rows lacks (Copy file new pages journal) gives = other_second _ _ gives.named (λ e. omega (arith, e))
no_check rows lacks (Dump file out) gives = other_name _ _ gives.named (λ e. omega (arith, e))
no_check rows lacks (Restore dump new pages journal) gives = other_name _ _ gives.named (λ e. omega (arith, e))
no_check rows lacks (Journal file state) gives = other_name _ _ gives.named (λ e. omega (arith, e))
no_check rows lacks (Password new mock) gives = other_name _ _ gives.named (λ e. omega (arith, e))
no_check rows lacks (Run file script stop explain) gives = other_name _ _ gives.named (λ e. omega (arith, e))
no_check rows lacks (RunMemory admin script stop explain) gives = other_name _ _ gives.named (λ e. omega (arith, e))
no_check rows lacks (Serve file port connections idle) gives = other_name _ _ gives.named (λ e. omega (arith, e))
no_check rows lacks (ServeSocket file socket connections idle) gives = other_name _ _ gives.named (λ e. omega (arith, e))
no_check rows lacks (ServeClients file place counts) gives = other_name _ _ gives.named (λ e. omega (arith, e))
no_check rows lacks (Check file) gives = lacks file gives.words
no_check rows lacks (Describe file role table since powers json) gives = other_name _ _ gives.named (λ e. omega (arith, e))
no_check rows lacks (Explain file role statement session json) gives = other_name _ _ gives.named (λ e. omega (arith, e))

pub no_describe : (rows : List Row) → ((file : TheWord) (role table since : Option TheWord) (powers json : Bool) → HasWords rows (Describe file role table since powers json) → ⊥) → (given : Given) → GivesAs (codes "describe") rows given → ⊥
no_describe rows lacks (Format file pages admin journal) gives = other_name _ _ gives.named (λ e. omega (arith, e))
no_describe rows lacks (Copy file new pages journal) gives = other_name _ _ gives.named (λ e. omega (arith, e))
no_describe rows lacks (Dump file out) gives = other_second _ _ gives.named (λ e. omega (arith, e))
no_describe rows lacks (Restore dump new pages journal) gives = other_name _ _ gives.named (λ e. omega (arith, e))
no_describe rows lacks (Journal file state) gives = other_name _ _ gives.named (λ e. omega (arith, e))
no_describe rows lacks (Password new mock) gives = other_name _ _ gives.named (λ e. omega (arith, e))
no_describe rows lacks (Run file script stop explain) gives = other_name _ _ gives.named (λ e. omega (arith, e))
no_describe rows lacks (RunMemory admin script stop explain) gives = other_name _ _ gives.named (λ e. omega (arith, e))
no_describe rows lacks (Serve file port connections idle) gives = other_name _ _ gives.named (λ e. omega (arith, e))
no_describe rows lacks (ServeSocket file socket connections idle) gives = other_name _ _ gives.named (λ e. omega (arith, e))
no_describe rows lacks (ServeClients file place counts) gives = other_name _ _ gives.named (λ e. omega (arith, e))
no_describe rows lacks (Check file) gives = other_name _ _ gives.named (λ e. omega (arith, e))
no_describe rows lacks (Describe file role table since powers json) gives = lacks file role table since powers json gives.words
no_describe rows lacks (Explain file role statement session json) gives = other_name _ _ gives.named (λ e. omega (arith, e))

pub no_copy : (rows : List Row) → ((file new pages : TheWord) (journal : Bool) → HasWords rows (Copy file new pages journal) → ⊥) → (given : Given) → GivesAs (codes "copy") rows given → ⊥
no_copy rows lacks (Format file pages admin journal) gives = other_name _ _ gives.named (λ e. omega (arith, e))
no_copy rows lacks (Copy file new pages journal) gives = lacks file new pages journal gives.words
no_copy rows lacks (Dump file out) gives = other_name _ _ gives.named (λ e. omega (arith, e))
no_copy rows lacks (Restore dump new pages journal) gives = other_name _ _ gives.named (λ e. omega (arith, e))
no_copy rows lacks (Journal file state) gives = other_name _ _ gives.named (λ e. omega (arith, e))
no_copy rows lacks (Password new mock) gives = other_name _ _ gives.named (λ e. omega (arith, e))
no_copy rows lacks (Run file script stop explain) gives = other_name _ _ gives.named (λ e. omega (arith, e))
no_copy rows lacks (RunMemory admin script stop explain) gives = other_name _ _ gives.named (λ e. omega (arith, e))
no_copy rows lacks (Serve file port connections idle) gives = other_name _ _ gives.named (λ e. omega (arith, e))
no_copy rows lacks (ServeSocket file socket connections idle) gives = other_name _ _ gives.named (λ e. omega (arith, e))
no_copy rows lacks (ServeClients file place counts) gives = other_name _ _ gives.named (λ e. omega (arith, e))
no_copy rows lacks (Check file) gives = other_second _ _ gives.named (λ e. omega (arith, e))
no_copy rows lacks (Describe file role table since powers json) gives = other_name _ _ gives.named (λ e. omega (arith, e))
no_copy rows lacks (Explain file role statement session json) gives = other_name _ _ gives.named (λ e. omega (arith, e))

pub no_journal : (rows : List Row) → ((file state : TheWord) → HasWords rows (Journal file state) → ⊥) → (given : Given) → GivesAs (codes "journal") rows given → ⊥
no_journal rows lacks (Format file pages admin journal) gives = other_name _ _ gives.named (λ e. omega (arith, e))
no_journal rows lacks (Copy file new pages journal) gives = other_name _ _ gives.named (λ e. omega (arith, e))
no_journal rows lacks (Dump file out) gives = other_name _ _ gives.named (λ e. omega (arith, e))
no_journal rows lacks (Restore dump new pages journal) gives = other_name _ _ gives.named (λ e. omega (arith, e))
no_journal rows lacks (Journal file state) gives = lacks file state gives.words
no_journal rows lacks (Password new mock) gives = other_name _ _ gives.named (λ e. omega (arith, e))
no_journal rows lacks (Run file script stop explain) gives = other_name _ _ gives.named (λ e. omega (arith, e))
no_journal rows lacks (RunMemory admin script stop explain) gives = other_name _ _ gives.named (λ e. omega (arith, e))
no_journal rows lacks (Serve file port connections idle) gives = other_name _ _ gives.named (λ e. omega (arith, e))
no_journal rows lacks (ServeSocket file socket connections idle) gives = other_name _ _ gives.named (λ e. omega (arith, e))
no_journal rows lacks (ServeClients file place counts) gives = other_name _ _ gives.named (λ e. omega (arith, e))
no_journal rows lacks (Check file) gives = other_name _ _ gives.named (λ e. omega (arith, e))
no_journal rows lacks (Describe file role table since powers json) gives = other_name _ _ gives.named (λ e. omega (arith, e))
no_journal rows lacks (Explain file role statement session json) gives = other_name _ _ gives.named (λ e. omega (arith, e))

pub no_explain : (rows : List Row) → ((file role statement : TheWord) (session : Option TheWord) (json : Bool) → HasWords rows (Explain file role statement session json) → ⊥) → (given : Given) → GivesAs (codes "explain") rows given → ⊥
no_explain rows lacks (Format file pages admin journal) gives = other_name _ _ gives.named (λ e. omega (arith, e))
no_explain rows lacks (Copy file new pages journal) gives = other_name _ _ gives.named (λ e. omega (arith, e))
no_explain rows lacks (Dump file out) gives = other_name _ _ gives.named (λ e. omega (arith, e))
no_explain rows lacks (Restore dump new pages journal) gives = other_name _ _ gives.named (λ e. omega (arith, e))
no_explain rows lacks (Journal file state) gives = other_name _ _ gives.named (λ e. omega (arith, e))
no_explain rows lacks (Password new mock) gives = other_name _ _ gives.named (λ e. omega (arith, e))
no_explain rows lacks (Run file script stop explain) gives = other_name _ _ gives.named (λ e. omega (arith, e))
no_explain rows lacks (RunMemory admin script stop explain) gives = other_name _ _ gives.named (λ e. omega (arith, e))
no_explain rows lacks (Serve file port connections idle) gives = other_name _ _ gives.named (λ e. omega (arith, e))
no_explain rows lacks (ServeSocket file socket connections idle) gives = other_name _ _ gives.named (λ e. omega (arith, e))
no_explain rows lacks (ServeClients file place counts) gives = other_name _ _ gives.named (λ e. omega (arith, e))
no_explain rows lacks (Check file) gives = other_name _ _ gives.named (λ e. omega (arith, e))
no_explain rows lacks (Describe file role table since powers json) gives = other_name _ _ gives.named (λ e. omega (arith, e))
no_explain rows lacks (Explain file role statement session json) gives = lacks file role statement session json gives.words

pub no_dump : (rows : List Row) → ((file out : TheWord) → HasWords rows (Dump file out) → ⊥) → (given : Given) → GivesAs (codes "dump") rows given → ⊥
no_dump rows lacks (Format file pages admin journal) gives = other_name _ _ gives.named (λ e. omega (arith, e))
no_dump rows lacks (Copy file new pages journal) gives = other_name _ _ gives.named (λ e. omega (arith, e))
no_dump rows lacks (Dump file out) gives = lacks file out gives.words
no_dump rows lacks (Restore dump new pages journal) gives = other_name _ _ gives.named (λ e. omega (arith, e))
no_dump rows lacks (Journal file state) gives = other_name _ _ gives.named (λ e. omega (arith, e))
no_dump rows lacks (Password new mock) gives = other_name _ _ gives.named (λ e. omega (arith, e))
no_dump rows lacks (Run file script stop explain) gives = other_name _ _ gives.named (λ e. omega (arith, e))
no_dump rows lacks (RunMemory admin script stop explain) gives = other_name _ _ gives.named (λ e. omega (arith, e))
no_dump rows lacks (Serve file port connections idle) gives = other_name _ _ gives.named (λ e. omega (arith, e))
no_dump rows lacks (ServeSocket file socket connections idle) gives = other_name _ _ gives.named (λ e. omega (arith, e))
no_dump rows lacks (ServeClients file place counts) gives = other_name _ _ gives.named (λ e. omega (arith, e))
no_dump rows lacks (Check file) gives = other_name _ _ gives.named (λ e. omega (arith, e))
no_dump rows lacks (Describe file role table since powers json) gives = other_second _ _ gives.named (λ e. omega (arith, e))
no_dump rows lacks (Explain file role statement session json) gives = other_name _ _ gives.named (λ e. omega (arith, e))

pub no_restore : (rows : List Row) → ((dump new pages : TheWord) (journal : Bool) → HasWords rows (Restore dump new pages journal) → ⊥) → (given : Given) → GivesAs (codes "restore") rows given → ⊥
no_restore rows lacks (Format file pages admin journal) gives = other_name _ _ gives.named (λ e. omega (arith, e))
no_restore rows lacks (Copy file new pages journal) gives = other_name _ _ gives.named (λ e. omega (arith, e))
no_restore rows lacks (Dump file out) gives = other_name _ _ gives.named (λ e. omega (arith, e))
no_restore rows lacks (Restore dump new pages journal) gives = lacks dump new pages journal gives.words
no_restore rows lacks (Journal file state) gives = other_name _ _ gives.named (λ e. omega (arith, e))
no_restore rows lacks (Password new mock) gives = other_name _ _ gives.named (λ e. omega (arith, e))
no_restore rows lacks (Run file script stop explain) gives = other_second _ _ gives.named (λ e. omega (arith, e))
no_restore rows lacks (RunMemory admin script stop explain) gives = other_second _ _ gives.named (λ e. omega (arith, e))
no_restore rows lacks (Serve file port connections idle) gives = other_name _ _ gives.named (λ e. omega (arith, e))
no_restore rows lacks (ServeSocket file socket connections idle) gives = other_name _ _ gives.named (λ e. omega (arith, e))
no_restore rows lacks (ServeClients file place counts) gives = other_name _ _ gives.named (λ e. omega (arith, e))
no_restore rows lacks (Check file) gives = other_name _ _ gives.named (λ e. omega (arith, e))
no_restore rows lacks (Describe file role table since powers json) gives = other_name _ _ gives.named (λ e. omega (arith, e))
no_restore rows lacks (Explain file role statement session json) gives = other_name _ _ gives.named (λ e. omega (arith, e))
