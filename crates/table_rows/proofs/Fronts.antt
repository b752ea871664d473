-- The front of the records that a walk has found.
use Rattle.std.proofs.Common.{◌≡◌, ℕ, Bool, true, false, List, [], ◌∷◌, ◌++◌, map, Result, Ok, Err, refl, sym, ap, ◌∙◌, subst, append-nil, append_assoc, ◌⊎◌, inl, inr}
use Rattle.std.specs.List.{AllByRecursion}
use Rattle.sql_types.specs.Row.{Row}
use Rattle.sql_ast.specs.Layout.{Layout}
use Rattle.sql_ast.specs.Fits.{FitsTable}
use Rattle.store.specs.Records.{Record, Records}
use Rattle.store.specs.Steps.{Takes}
use Rattle.abstract_database.specs.Whole.{Each}
use Rattle.store.specs.declared.stop.StatementError.{StatementError}
use Rattle.stored_database.specs.RecordFormat.{row_record}
use Rattle.table_rows.specs.declared.visit.Flow.{Flow}
use Rattle.table_rows.specs.declared.visit.Flow.TheVariants.{Continue, Done}
use Rattle.table_rows.specs.HeldRows.{AreRecordsOf, SpellsRow}
use Rattle.store.specs.declared.fault.Fault.TheVariants.{Memory, Device, Damaged}
use Rattle.store.specs.declared.stop.StatementError.TheVariants.{Refused, Failed}
use Rattle.table_rows.specs.Visits.{AnswerAfter, Visits, VisitsRecord, VisitsAll, SpellsVisited, IsDoneOnlyIf}
use Rattle.table_rows.specs.Walked.{WalksFront, Walks, WalksOn, Walking}
use Rattle.table_rows.proofs.Going.{none_left}

-- a step finds the first record that is left, or none is
pub taken : (found : Record → Type 0) (ahead : Records → Type 0) (b : Bool) (left : Records) → b ≡ true → Takes found ahead b left → Takes found ahead true left
taken found ahead false left more takes = cc
taken found ahead true left more takes = takes

pub none_taken : (found : Record → Type 0) (ahead : Records → Type 0) (b : Bool) (left : Records) → b ≡ false → Takes found ahead b left → left ≡ []
none_taken found ahead true left ends takes = cc
none_taken found ahead false left ends takes = takes

pub done_only : (may : Bool) (flow : Flow) → flow ≡ Done → IsDoneOnlyIf may (Ok flow) → may ≡ true
done_only may Continue e only = cc
done_only may Done e only = only

-- the rows of a front, the last of them apart
record Last (id : ℕ) (layout : Layout) (front : Records) (entry : Record) (rows : List Row) : Type 0 where
  first : List Row
  row : Row
  rows_are : rows ≡ first ++ row ∷ []
  held : AreRecordsOf id layout first front
  entry_is : entry ≡ row_record id layout row
  fits : FitsTable layout row

all_put : {X : Type 0} (P : X → Type 0) (xs : List X) (x : X) → AllByRecursion P xs → P x → AllByRecursion P (xs ++ x ∷ [])
all_put P [] x all p = (p, tt)
all_put P (y ∷ ys) x all p = (all.0, all_put P ys x all.1 p)

module _ (id : ℕ) (layout : Layout) where
  last_of : (front : Records) (entry : Record) (rows : List Row) → front ++ entry ∷ [] ≡ map (row_record id layout) rows → Each (FitsTable layout) rows → Last id layout front entry rows
  last_of [] entry [] e fit = cc
  last_of [] entry (row ∷ []) e fit = record { first = []; row = row; rows_are = refl; held = record { are = refl; fit = λ x among. absurd among }; entry_is = cc; fits = fit row (inl refl) }
  last_of [] entry (row ∷ other ∷ rows) e fit = cc
  last_of (f ∷ fs) entry [] e fit = cc
  last_of (f ∷ fs) entry (row ∷ rows) e fit =
      let first_is : f ≡ row_record id layout row = cc in
      let tail_is : fs ++ entry ∷ [] ≡ map (row_record id layout) rows = cc in
      let later_fit : Each (FitsTable layout) rows = λ x among. fit x (inr among) in
      let later = last_of fs entry rows tail_is later_fit in
      record {
        first = row ∷ later.first;
        row = later.row;
        rows_are = ap (λ (l : List Row). row ∷ l) later.rows_are;
        held = record { are = ap (λ (e : Record). e ∷ fs) first_is ∙ ap (λ (l : Records). row_record id layout row ∷ l) later.held.are; fit = λ x among. go x among (λ a. later.held.fit x a) };
        entry_is = later.entry_is;
        fits = later.fits;
      }
    where
      go : (x : Row) {Later : Type 0} → (row ≡ x) ⊎ Later → (Later → FitsTable layout x) → FitsTable layout x
      go x (inl is) later = fit x (inl is)
      go x (inr among) later = later among

  pub walking_first : {A : Type 0} (records : Records) (old : AnswerAfter A) → Walking id layout records records old old
  walking_first records old = record { front = []; parts = refl; spelled = tt; same = λ rows rest h. ap (λ (l : List Row). old (l ++ rest)) (none_left (row_record id layout) rows h.are) }

  -- one record more
  pub walking_on : {A : Type 0} (records remaining next : Records) (entry : Record) (old now then : AnswerAfter A) → Walking id layout records remaining old now → remaining ≡ entry ∷ next
      → SpellsRow layout entry → ((row : Row) (rest : List Row) → FitsTable layout row → entry ≡ row_record id layout row → now (row ∷ rest) ≡ then rest)
      → Walking id layout records next old then
  walking_on records remaining next entry old now then w is spells visited = record {
    front = w.front ++ entry ∷ [];
    parts = w.parts ∙ ap (λ (l : Records). w.front ++ l) is ∙ sym (append_assoc w.front (entry ∷ []) next);
    spelled = all_put (SpellsRow layout) w.front entry w.spelled spells;
    same = λ rows rest h.
        let last = last_of w.front entry rows h.are h.fit in
        ap (λ (l : List Row). old (l ++ rest)) last.rows_are
        ∙ ap old (append_assoc last.first (last.row ∷ []) rest)
        ∙ w.same last.first (last.row ∷ rest) last.held
        ∙ visited last.row rest last.fits last.entry_is;
  }

  -- no record is left
  pub walked_whole : {A : Type 0} (records remaining : Records) (old now : AnswerAfter A) → Walking id layout records remaining old now → remaining ≡ [] → WalksFront id layout records old now
  walked_whole records remaining old now w none = record {
    front = w.front;
    behind = [];
    parts = w.parts ∙ ap (λ (l : Records). w.front ++ l) none;
    spelled = w.spelled;
    decides = λ rows rest h behind. w.same rows rest h ∙ ap now (behind refl);
  }

  -- whatever rows are left, the same is answered
  pub walked_early : {A : Type 0} (records remaining : Records) (old last : AnswerAfter A) → Walking id layout records remaining old (λ rest. last []) → WalksFront id layout records old last
  walked_early records remaining old last w = record { front = w.front; behind = remaining; parts = w.parts; spelled = w.spelled; decides = λ rows rest h behind. w.same rows rest h }

  -- what a visit says of a record's row
  pub visited_on : {A : Type 0} (flow : Flow) (entry : Record) (now then : AnswerAfter A) → flow ≡ Continue → VisitsRecord id layout entry (Ok flow) now then
      → (row : Row) (rest : List Row) → FitsTable layout row → entry ≡ row_record id layout row → now (row ∷ rest) ≡ then rest
  visited_on flow entry now then is visits row rest fits entry_is = subst (λ (f : Flow). Visits (Ok f) row now then) is (visits row fits entry_is) rest

  pub visited_done : {A : Type 0} (flow : Flow) (entry : Record) (now last : AnswerAfter A) → flow ≡ Done → VisitsRecord id layout entry (Ok flow) now last
      → (row : Row) (rest : List Row) → FitsTable layout row → entry ≡ row_record id layout row → now (row ∷ rest) ≡ last []
  visited_done flow entry now last is visits row rest fits entry_is = subst (λ (f : Flow). Visits (Ok f) row now last) is (visits row fits entry_is) rest

  -- ---- walks behind which others may follow

  pub ended_on : {A : Type 0} (records remaining : Records) (old now : AnswerAfter A) → Walking id layout records remaining old now → remaining ≡ [] → Walking id layout records [] old now
  ended_on records remaining old now w none = subst (λ (l : Records). Walking id layout records l old now) none w

  pub done_on : {A : Type 0} (records remaining later : Records) (entry : Record) (old now then : AnswerAfter A) (flow : Flow) → Walking id layout records remaining old now → remaining ≡ entry ∷ later → SpellsRow layout entry
      → flow ≡ Done → VisitsRecord id layout entry (Ok flow) now then → WalksOn id layout records old then (Ok Done)
  done_on records remaining later entry old now then flow w is spells done visits = (later, walking_on records remaining later entry old now (λ rest. then []) w is spells (visited_done flow entry now then done visits))

  -- the visit of a record fails
  pub failed_on : {A : Type 0} (records remaining later : Records) (entry : Record) (old now last : AnswerAfter A) (failure : StatementError) → Walking id layout records remaining old now → remaining ≡ entry ∷ later
      → SpellsVisited layout entry (Err failure) → VisitsRecord id layout entry (Err failure) now last → WalksOn id layout records old last (Err failure)
  failed_on records remaining later entry old now last (Refused code) w is spells visits =
      (later, walking_on records remaining later entry old now (λ rest. Err code) w is spells (λ row rest fits entry_is. visits row fits entry_is rest))
  failed_on records remaining later entry old now last (Failed Memory) w is spells visits = tt
  failed_on records remaining later entry old now last (Failed Device) w is spells visits = tt
  failed_on records remaining later entry old now last (Failed Damaged) w is spells visits =
      record { front = w.front; entry = entry; behind = later; parts = w.parts ∙ ap (λ (l : Records). w.front ++ l) is; spelled = w.spelled; damaged = visits }

  -- the one record of a key was found, or none
  pub none_on : {A : Type 0} (records : Records) (old : AnswerAfter A) → records ≡ [] → Walking id layout records [] old old
  none_on records old none = ended_on records records old old (walking_first records old) none

  pub one_on : {A : Type 0} (flow : Flow) (entry : Record) (records : Records) (old new : AnswerAfter A) → records ≡ entry ∷ [] → SpellsRow layout entry → VisitsRecord id layout entry (Ok flow) old new
      → WalksOn id layout records old new (Ok flow)
  one_on Continue entry records old new is spells visits = walking_on records records [] entry old old new (walking_first records old) is spells (visited_on Continue entry old new refl visits)
  one_on Done entry records old new is spells visits = done_on records records [] entry old old new Done (walking_first records old) is spells refl visits

  pub any_on : {A : Type 0} (r : Result Flow StatementError) (entry : Record) (records : Records) (old new : AnswerAfter A) → records ≡ entry ∷ [] → SpellsVisited layout entry r → VisitsRecord id layout entry r old new
      → WalksOn id layout records old new r
  any_on (Ok flow) entry records old new is spells visits = one_on flow entry records old new is spells visits
  any_on (Err failure) entry records old new is spells visits = failed_on records records [] entry old old new failure (walking_first records old) is spells visits

  -- ---- what such a walk has answered

  -- rows whose records are those of two lists
  record Halves (first_part second_part : Records) (rows : List Row) : Type 0 where
    first : List Row
    second : List Row
    rows_are : rows ≡ first ++ second
    of_first : AreRecordsOf id layout first first_part
    of_second : AreRecordsOf id layout second second_part

  halves : (f g : Records) (rows : List Row) → f ++ g ≡ map (row_record id layout) rows → Each (FitsTable layout) rows → Halves f g rows
  halves [] g rows e fit = record { first = []; second = rows; rows_are = refl; of_first = record { are = refl; fit = λ x among. absurd among }; of_second = record { are = e; fit = fit } }
  halves (x ∷ f) g [] e fit = cc
  halves (x ∷ f) g (row ∷ rows) e fit =
      let first_is : x ≡ row_record id layout row = cc in
      let tail_is : f ++ g ≡ map (row_record id layout) rows = cc in
      let later_fit : Each (FitsTable layout) rows = λ y among. fit y (inr among) in
      let later = halves f g rows tail_is later_fit in
      record {
        first = row ∷ later.first;
        second = later.second;
        rows_are = ap (λ (l : List Row). row ∷ l) later.rows_are;
        of_first = record { are = ap (λ (e : Record). e ∷ f) first_is ∙ ap (λ (l : Records). row_record id layout row ∷ l) later.of_first.are; fit = λ y among. go y among (λ a. later.of_first.fit y a) };
        of_second = later.of_second;
      }
    where
      go : (y : Row) {Later : Type 0} → (row ≡ y) ⊎ Later → (Later → FitsTable layout y) → FitsTable layout y
      go y (inl is) later = fit y (inl is)
      go y (inr among) later = later among

  parted : (records front behind : Records) (rows : List Row) → records ≡ front ++ behind → AreRecordsOf id layout rows records → Halves front behind rows
  parted records front behind rows parts h = halves front behind rows (sym parts ∙ h.are) h.fit

  pub visited_of : {A : Type 0} (flow : Flow) (records : Records) (old new : AnswerAfter A) (rows : List Row) → AreRecordsOf id layout rows records → WalksOn id layout records old new (Ok flow) → old rows ≡ new []
  visited_of Continue records old new rows h w =
      let p = parted records w.front [] rows w.parts h in
      ap old p.rows_are ∙ w.same p.first p.second p.of_first ∙ ap new (none_left (row_record id layout) p.second p.of_second.are)
  visited_of Done records old new rows h w = let p = parted records w.1.front w.0 rows w.1.parts h in ap old p.rows_are ∙ w.1.same p.first p.second p.of_first

  pub failed_of : {A : Type 0} (failure : StatementError) (records : Records) (old new : AnswerAfter A) (rows : List Row) → AreRecordsOf id layout rows records → WalksOn id layout records old new (Err failure) → VisitsAll (Err failure) rows old new
  failed_of (Refused code) records old new rows h w = let p = parted records w.1.front w.0 rows w.1.parts h in ap old p.rows_are ∙ w.1.same p.first p.second p.of_first
  failed_of (Failed Memory) records old new rows h w = tt
  failed_of (Failed Device) records old new rows h w = tt
  failed_of (Failed Damaged) records old new rows h w =
      let p = parted records w.front (w.entry ∷ w.behind) rows w.parts h in
      go p.second p.of_second.are p.of_second.fit
    where
      go : (second : List Row) → w.entry ∷ w.behind ≡ map (row_record id layout) second → Each (FitsTable layout) second → ⊥
      go [] e fit = cc
      go (row ∷ others) e fit = let is : w.entry ≡ row_record id layout row = cc in w.damaged row (fit row (inl refl)) is

  pub walked_of : {A : Type 0} (flow : Flow) (records : Records) (old new : AnswerAfter A) → WalksOn id layout records old new (Ok flow) → WalksFront id layout records old new
  walked_of Continue records old new w = walked_whole records [] old new w refl
  walked_of Done records old new w = walked_early records w.0 old new w.1

  pub stopped_of : {A : Type 0} (failure : StatementError) (records : Records) (old new : AnswerAfter A) → WalksOn id layout records old new (Err failure) → Walks id layout records old new (Err failure)
  stopped_of (Refused code) records old new w = walked_early records w.0 old (λ rest. Err code) w.1
  stopped_of (Failed Memory) records old new w = tt
  stopped_of (Failed Device) records old new w = tt
  stopped_of (Failed Damaged) records old new w = w

  pub spelled_of : {A : Type 0} (flow : Flow) (may : Bool) (records : Records) (old new : AnswerAfter A) → may ≡ false → IsDoneOnlyIf may (Ok flow) → WalksOn id layout records old new (Ok flow) → AllByRecursion (SpellsRow layout) records
  spelled_of Continue may records old new never only w = subst (AllByRecursion (SpellsRow layout)) (sym (w.parts ∙ append-nil w.front)) w.spelled
  spelled_of Done may records old new never only w = cc

  -- ---- one walk behind another

  all_joined : {X : Type 0} (P : X → Type 0) (xs ys : List X) → AllByRecursion P xs → AllByRecursion P ys → AllByRecursion P (xs ++ ys)
  all_joined P [] ys a b = b
  all_joined P (x ∷ xs) ys a b = (a.0, all_joined P xs ys a.1 b)

  joined_parts : (records f g a b rest : Records) → records ≡ f ++ (a ++ b) → a ≡ g ++ rest → records ≡ (f ++ g) ++ (rest ++ b)
  joined_parts records f g a b rest e i = e ∙ ap (λ (l : Records). f ++ (l ++ b)) i ∙ ap (λ (l : Records). f ++ l) (append_assoc g rest b) ∙ sym (append_assoc f g (rest ++ b))

  pub walking_joined : {A : Type 0} (records a b rest : Records) (old now new : AnswerAfter A) → Walking id layout records (a ++ b) old now → Walking id layout a rest now new → Walking id layout records (rest ++ b) old new
  walking_joined records a b rest old now new w v = record {
    front = w.front ++ v.front;
    parts = joined_parts records w.front v.front a b rest w.parts v.parts;
    spelled = all_joined (SpellsRow layout) w.front v.front w.spelled v.spelled;
    same = λ rows more h.
        let p = halves w.front v.front rows h.are h.fit in
        ap (λ (l : List Row). old (l ++ more)) p.rows_are
        ∙ ap old (append_assoc p.first p.second more)
        ∙ w.same p.first (p.second ++ more) p.of_first
        ∙ v.same p.second more p.of_second;
  }

  pub done_behind : {A : Type 0} (records a b : Records) (old now new : AnswerAfter A) (flow : Flow) → flow ≡ Done → Walking id layout records (a ++ b) old now → WalksOn id layout a now new (Ok flow) → WalksOn id layout records old new (Ok Done)
  done_behind records a b old now new Continue e w v = cc
  done_behind records a b old now new Done e w v = (v.0 ++ b, walking_joined records a b v.0 old now (λ rest. new []) w v.1)

  pub goes_behind : {A : Type 0} (records a b : Records) (old now new : AnswerAfter A) (flow : Flow) → flow ≡ Continue → Walking id layout records (a ++ b) old now → WalksOn id layout a now new (Ok flow) → Walking id layout records b old new
  goes_behind records a b old now new Continue e w v = walking_joined records a b [] old now new w v
  goes_behind records a b old now new Done e w v = cc

  pub stopped_behind : {A : Type 0} (failure : StatementError) (records a b : Records) (old now new : AnswerAfter A) → Walking id layout records (a ++ b) old now → WalksOn id layout a now new (Err failure) → WalksOn id layout records old new (Err failure)
  stopped_behind (Refused code) records a b old now new w v = (v.0 ++ b, walking_joined records a b v.0 old now (λ rest. Err code) w v.1)
  stopped_behind (Failed Memory) records a b old now new w v = tt
  stopped_behind (Failed Device) records a b old now new w v = tt
  stopped_behind (Failed Damaged) records a b old now new w v = record {
    front = w.front ++ v.front;
    entry = v.entry;
    behind = v.behind ++ b;
    parts = joined_parts records w.front v.front a b (v.entry ∷ v.behind) w.parts v.parts;
    spelled = all_joined (SpellsRow layout) w.front v.front w.spelled v.spelled;
    damaged = v.damaged;
  }
