-- A portal that is carried out in pieces tells each row of its answer once.
use Rattle.std.proofs.Common.{◌≡◌, ◌∙◌, ◌⊎◌, ℕ, suc, zero, Bool, true, false, not, cond, ◌&&◌, ◌||◌, ◌==◌, nat_lt, if◌then◌else◌, List, [], ◌∷◌, ◌++◌, map, filter, length, take, drop, codes, bytes_eq, Option, Some, None, inl, inr, refl, ap, sym, subst}
use Rattle.std.proofs.lemmas.List.{append_assoc, append-nil, map-append, take-append-drop}
use Rattle.std.proofs.lemmas.List.Elements.{filter-append}
use Rattle.std.proofs.lemmas.Slice.Eq.{bytes_eq-Decides}
use Rattle.sql_ast.specs.declared.description.ResultColumn.{ResultColumn}
use Rattle.sql_types.specs.declared.value.Value.{Value}
use Rattle.sql_types.specs.declared.answer.Answer.TheVariants as answer
use Rattle.talks.specs.declared.want.BlockStanding.TheVariants as standing
use Rattle.talks.specs.declared.want.Reply.{Reply}
use Rattle.talks.specs.declared.want.Reply.TheVariants as reply
use Rattle.talks.specs.declared.want.Want.TheVariants as want
use Rattle.postgres_messages.specs.declared.backend.ValueFormat.{ValueFormat}
use Rattle.postgres_messages.specs.Backend.{portal_suspended}
use Rattle.postgres_talks.specs.declared.fault.TalkFault.{TalkFault}
use Rattle.postgres_talks.specs.declared.fault.TalkFault.TheVariants as fault
use Rattle.postgres_talks.specs.declared.moment.Mode.{Mode}
use Rattle.postgres_talks.specs.declared.moment.Mode.TheVariants as mode
use Rattle.postgres_talks.specs.declared.moment.TalkBlock.{TalkBlock}
use Rattle.postgres_talks.specs.declared.moment.TalkBlock.TheVariants as block
use Rattle.postgres_talks.specs.declared.moment.TalkStage.{TalkStage}
use Rattle.postgres_talks.specs.declared.moment.TalkStage.TheVariants as stage
use Rattle.postgres_talks.specs.declared.moment.TalkMoment.{TalkMoment}
use Rattle.postgres_talks.specs.declared.named_pieces.NamedPiece.{NamedPiece}
use Rattle.postgres_talks.specs.declared.outcome.Outcome.{Outcome}
use Rattle.postgres_talks.specs.declared.outcome.Outcome.TheVariants as outcome
use Rattle.postgres_talks.specs.declared.piece.StatementPiece.{StatementPiece}
use Rattle.postgres_talks.specs.declared.requests.Request.{Request}
use Rattle.postgres_talks.specs.declared.requests.Request.TheVariants as request
use Rattle.postgres_talks.specs.Fetches.{ArePieces, fetches, is_row, left_behind, left_by_piece, pieces_said}
use Rattle.postgres_talks.specs.Moments.{after_answer, after_done, after_outcome, after_reply, asks, finishes, goes_on, goes_on_with, is_several, keeps_if, keeps_rows, listens, looks, ran, said_answered, said_run, said_to_reply, table_said}
use Rattle.postgres_talks.specs.Named.{find, put, without}
use Rattle.postgres_talks.specs.Outcomes.{table_outcome}
use Rattle.postgres_talks.specs.Played.{said_in, told}
use Rattle.postgres_talks.specs.Portals.{holds, is_limited, suspend}
use Rattle.postgres_talks.specs.Requests.{after_request, after_unless, carries_on, executes, fault_of, heeded, if_found, said_to_request, said_unless}
use Rattle.postgres_talks.specs.Rows.{are_rows_of, is_row_of, limited_said, row_said, rows_said, select_tag}
use Rattle.postgres_talks.specs.Sayings.{Saying, complete_said, message}

-- ---- names

last_by : (b : Bool) (name : List ℕ) (e x : NamedPiece) (es : List NamedPiece) → bytes_eq e.name name ≡ b → find name (without name es ++ x ∷ []) ≡ Some x
    → find name (cond (not b) (e ∷ without name es) (without name es) ++ x ∷ []) ≡ Some x
last_by true name e x es is later = later
last_by false name e x es is later = ap (λ (b : Bool). if b then Some e else find name (without name es ++ x ∷ [])) is ∙ later

find_last : (name : List ℕ) (es : List NamedPiece) (x : NamedPiece) → bytes_eq x.name name ≡ true → find name (without name es ++ x ∷ []) ≡ Some x
find_last name [] x same = ap (λ (b : Bool). if b then Some x else None) same
find_last name (e ∷ es) x same = last_by (bytes_eq e.name name) name e x es refl (find_last name es x same)

found_put : (name : List ℕ) (ns : List NamedPiece) (x : NamedPiece) → bytes_eq x.name name ≡ true → find name (put x ns) ≡ Some x
found_put name ns x same =
    subst (λ (k : List ℕ). find name (without k ns ++ x ∷ []) ≡ Some x) (sym ((bytes_eq-Decides x.name name).0 same)) (find_last name ns x same)

-- ---- rows

rows_are : (fs : List ValueFormat) (rows : List (List Value)) → filter is_row (map (row_said fs) rows) ≡ map (row_said fs) rows
rows_are fs [] = refl
rows_are fs (row ∷ rows) = ap (λ (l : List Saying). row_said fs row ∷ l) (rows_are fs rows)

rows_before : (fs : List ValueFormat) (rows : List (List Value)) (s : Saying) → is_row s ≡ false → filter is_row (map (row_said fs) rows ++ s ∷ []) ≡ map (row_said fs) rows
rows_before fs rows s is =
    filter-append is_row (map (row_said fs) rows) (s ∷ []) ∙ ap (λ (l : List Saying). l ++ filter is_row (s ∷ [])) (rows_are fs rows)
    ∙ ap (λ (l : List Saying). map (row_said fs) rows ++ l) (none_of s is) ∙ append-nil (map (row_said fs) rows)
  where
    none_of : (s : Saying) → is_row s ≡ false → filter is_row (s ∷ []) ≡ []
    none_of s is = ap (λ (b : Bool). cond b (s ∷ []) []) is

-- a piece has the first rows, and the others are left
piece_by : (all : Bool) (fs : List ValueFormat) (k : ℕ) (rows : List (List Value))
    → filter is_row (if all then rows_said fs rows else map (row_said fs) (take k rows) ++ message portal_suspended ∷ []) ++ map (row_said fs) (left_by_piece (not all) k rows) ≡ map (row_said fs) rows
piece_by true fs k rows = ap (λ (l : List Saying). l ++ []) (rows_before fs rows (complete_said (select_tag (length rows))) refl) ∙ append-nil (map (row_said fs) rows)
piece_by false fs k rows =
    ap (λ (l : List Saying). l ++ map (row_said fs) (drop k rows)) (rows_before fs (take k rows) (message portal_suspended) refl)
    ∙ sym (map-append (row_said fs) (take k rows) (drop k rows)) ∙ ap (map (row_said fs)) (take-append-drop k rows)

one_piece : (fs : List ValueFormat) (k : ℕ) (rows : List (List Value))
    → filter is_row (limited_said k fs rows) ++ map (row_said fs) (left_by_piece (is_limited mode.Batch k (length rows)) k rows) ≡ map (row_said fs) rows
one_piece fs k rows = piece_by (k == 0 || nat_lt (length rows) k) fs k rows

full_piece : (fs : List ValueFormat) (k : ℕ) (rows : List (List Value)) → is_limited mode.Batch k (length rows) ≡ true
    → filter is_row (limited_said k fs rows) ++ map (row_said fs) (drop k rows) ≡ map (row_said fs) rows
full_piece fs k rows is = ap (λ (b : Bool). filter is_row (limited_said k fs rows) ++ map (row_said fs) (left_by_piece b k rows)) (sym is) ∙ one_piece fs k rows

pub all_told : (fs : List ValueFormat) (rows : List (List Value)) (ks : List ℕ) → ArePieces rows ks
    → filter is_row (pieces_said fs rows ks) ++ map (row_said fs) (left_behind rows ks) ≡ map (row_said fs) rows
all_told fs rows [] are = refl
all_told fs rows (k ∷ []) are = ap (λ (l : List Saying). filter is_row l ++ map (row_said fs) (left_behind rows (k ∷ []))) (append-nil (limited_said k fs rows)) ∙ one_piece fs k rows
all_told fs rows (k ∷ j ∷ ks) are =
    ap (λ (l : List Saying). l ++ map (row_said fs) (left_behind (drop k rows) (j ∷ ks))) (filter-append is_row (limited_said k fs rows) (pieces_said fs (drop k rows) (j ∷ ks)))
    ∙ append_assoc (filter is_row (limited_said k fs rows)) (filter is_row (pieces_said fs (drop k rows) (j ∷ ks))) (map (row_said fs) (left_behind (drop k rows) (j ∷ ks)))
    ∙ ap (λ (l : List Saying). filter is_row (limited_said k fs rows) ++ l) (all_told fs (drop k rows) (j ∷ ks) are.1)
    ∙ full_piece fs k rows are.0

-- ---- Execute

-- a portal of which rows are left, with those
abbrev left : NamedPiece → List (List Value) → NamedPiece
left n rows = record n { rest = Some rows }

heeds : (t : Mode) (r : Request) → (t ≡ mode.Skipping → ⊥) → heeded t r ≡ r
heeds mode.Query r goes = refl
heeds mode.Batch r goes = refl
heeds mode.Skipping r goes = absurd (goes refl)

abbrev E : List ℕ → ℕ → Request
E name k = request.Execute name k

-- where it is found, nothing stands against it
executed : (name : List ℕ) (k : ℕ) (m : TalkMoment) (n : NamedPiece) (rows : List (List Value)) → (m.mode ≡ mode.Skipping → ⊥) → find name m.portals ≡ Some (left n rows)
    → (said_to_request (E name k) m ≡ []) × (after_request (E name k) m ≡ looks stage.Resuming (executes (Some (left n rows)) name k (record m { mode = mode.Batch })))
executed name k m n rows goes found =
    let heard : heeded m.mode (E name k) ≡ E name k = heeds m.mode (E name k) goes in
    let none : fault_of (E name k) m ≡ None = ap (λ (o : Option NamedPiece). if_found o fault.UnknownPortal None) found in (
      ap (λ (q : Request). said_unless (fault_of q m) q) heard ∙ ap (λ (o : Option TalkFault). said_unless o (E name k)) none,
      ap (λ (q : Request). after_unless (fault_of q m) q m) heard ∙ ap (λ (o : Option TalkFault). after_unless o (E name k) m) none
          ∙ ap (λ (o : Option NamedPiece). carries_on o (executes o name k (record m { mode = mode.Batch }))) found,
    )

-- nothing is left to be carried out, and the next message is wanted
none_begun : (b : TalkBlock) (m : TalkMoment)
    → (if is_several b mode.Batch (length {A = StatementPiece} []) then asks stage.Beginning (codes "BEGIN") m else goes_on_with [] m) ≡ finishes m.block m.mode m
none_begun block.Outside m = refl
none_begun block.Implicit m = refl
none_begun block.Open m = refl
none_begun block.Failed m = refl

listens_then : (b : TalkBlock) (m : TalkMoment) → finishes b mode.Batch m ≡ listens m
listens_then block.Outside m = refl
listens_then block.Implicit m = refl
listens_then block.Open m = refl
listens_then block.Failed m = refl

idle : (m : TalkMoment) → m.mode ≡ mode.Batch → m.left ≡ [] → goes_on m ≡ listens m
idle m batch none =
    ap (λ (t : Mode). if is_several m.block t (length m.left) then asks stage.Beginning (codes "BEGIN") m else goes_on_with m.left m) batch
    ∙ ap (λ (l : List StatementPiece). if is_several m.block mode.Batch (length l) then asks stage.Beginning (codes "BEGIN") m else goes_on_with l m) none
    ∙ none_begun m.block m ∙ ap (λ (t : Mode). finishes m.block t m) batch ∙ listens_then m.block m

both : (a b : Bool) → (a && b) ≡ true → (a ≡ true) × (b ≡ true)
both true b is = (refl, is)
both false b is = cc

later_rows : (n : ℕ) (cs : List ResultColumn) (rows : List (List Value)) → are_rows_of cs rows ≡ true → are_rows_of cs (drop n rows) ≡ true
later_rows zero cs rows are = are
later_rows (suc n) cs [] are = refl
later_rows (suc n) cs (row ∷ rows) are = later_rows n cs rows (both (is_row_of cs row) (are_rows_of cs rows) are).1

if_done : (b : Bool) → (if b then outcome.Done else outcome.Refused fault.OtherColumns) ≡ outcome.Done → b ≡ true
if_done true is = refl
if_done false is = cc

-- rows that are told are those of their columns, and so are the rows behind them
done_later : (columns : Option (List ResultColumn)) (k : ℕ) (rows : List (List Value)) → table_outcome mode.Batch columns rows ≡ outcome.Done
    → table_outcome mode.Batch columns (drop k rows) ≡ outcome.Done
done_later None k rows done = refl
done_later (Some cs) k rows done =
    ap (λ (b : Bool). if b then outcome.Done else outcome.Refused fault.OtherColumns) (later_rows k cs rows (if_done (are_rows_of cs rows) done))

-- ---- the pieces behind the first

-- where Execute has found it
abbrev at : List ℕ → ℕ → TalkMoment → NamedPiece → List (List Value) → TalkMoment
at name k m n rows = looks stage.Resuming (executes (Some (left n rows)) name k (record m { mode = mode.Batch }))

abbrev inside : Reply
inside = reply.Standing (Some standing.Inside)

resumes : (name : List ℕ) (k : ℕ) (m : TalkMoment) (n : NamedPiece) (rows : List (List Value)) → table_outcome mode.Batch n.columns rows ≡ outcome.Done
    → (said_to_reply (at name k m n rows) inside ≡ limited_said k n.formats rows)
    × (after_reply (at name k m n rows) inside ≡ goes_on (keeps_rows rows (at name k m n rows)))
resumes name k m n rows done = (
  ap (said_run (at name k m n rows) (answer.Rows rows)) done,
  ap (λ (o : Outcome). after_outcome o (at name k m n rows) (goes_on (keeps_rows rows (at name k m n rows)))) done,
)

-- what is left of it is kept
abbrev behind : List ℕ → ℕ → TalkMoment → NamedPiece → List (List Value) → TalkMoment
behind name k m n rows = record (at name k m n rows) { portal = None; portals = put (left n (drop k rows)) (without name m.portals) }

stays : (name : List ℕ) (k : ℕ) (m : TalkMoment) (n : NamedPiece) (rows : List (List Value)) → holds m.block ≡ true → is_limited mode.Batch k (length rows) ≡ true
    → goes_on (keeps_rows rows (at name k m n rows)) ≡ listens (behind name k m n rows)
stays name k m n rows holds limited =
    ap (λ (b : Bool). goes_on (keeps_if (b && is_limited mode.Batch k (length rows)) rows (at name k m n rows))) holds
    ∙ ap (λ (b : Bool). goes_on (keeps_if b rows (at name k m n rows))) limited
    ∙ idle (behind name k m n rows) refl refl

batch_goes : mode.Batch ≡ mode.Skipping → ⊥
batch_goes is = cc

fetched : (ks : List ℕ) (name : List ℕ) (m : TalkMoment) (n : NamedPiece) (rows : List (List Value)) → (m.mode ≡ mode.Skipping → ⊥) → holds m.block ≡ true → bytes_eq n.name name ≡ true
    → find name m.portals ≡ Some (left n rows) → table_outcome mode.Batch n.columns rows ≡ outcome.Done → ArePieces rows ks
    → said_in m (fetches name ks) ≡ pieces_said n.formats rows ks
fetched [] name m n rows goes stands same found done are = refl
fetched (k ∷ []) name m n rows goes stands same found done are =
    let e = executed name k m n rows goes found in
    let r = resumes name k m n rows done in
    ap (λ (l : List Saying). l ++ said_in (after_request (E name k) m) (told inside ∷ [])) e.0
    ∙ ap (λ (x : TalkMoment). said_to_reply x inside ++ []) e.1
    ∙ ap (λ (l : List Saying). l ++ []) r.0
fetched (k ∷ j ∷ js) name m n rows goes stands same found done are =
    let e = executed name k m n rows goes found in
    let r = resumes name k m n rows done in
    let others = fetches name (j ∷ js) in
    ap (λ (l : List Saying). l ++ said_in (after_request (E name k) m) (told inside ∷ others)) e.0
    ∙ ap (λ (x : TalkMoment). said_to_reply x inside ++ said_in (after_reply x inside) others) e.1
    ∙ ap (λ (l : List Saying). l ++ said_in (after_reply (at name k m n rows) inside) others) r.0
    ∙ ap (λ (x : TalkMoment). limited_said k n.formats rows ++ said_in x others) (r.1 ∙ stays name k m n rows stands are.0)
    ∙ ap (λ (l : List Saying). limited_said k n.formats rows ++ l) (fetched (j ∷ js) name (listens (behind name k m n rows)) n (drop k rows) batch_goes stands same
    (found_put name (without name m.portals) (left n (drop k rows)) same) (done_later n.columns k rows done) are.1)

-- ---- the first

abbrev of_rows : List (List Value) → Reply
of_rows rows = reply.Answer (answer.Rows rows)

abbrev kept_first : TalkMoment → NamedPiece → List (List Value) → TalkMoment
kept_first m n rows = record m { portal = None; portals = put (left n (drop m.most rows)) m.portals }

first_said : (m : TalkMoment) (rows : List (List Value)) → m.stage ≡ stage.Running → m.mode ≡ mode.Batch → ran m (answer.Rows rows) ≡ outcome.Done
    → said_to_reply m (of_rows rows) ≡ limited_said m.most m.formats rows
first_said m rows is batch done =
    ap (λ (s : TalkStage). said_answered s m (answer.Rows rows)) is ∙ ap (said_run m (answer.Rows rows)) done
    ∙ ap (λ (t : Mode). table_said t m.most m.formats m.columns rows) batch

first_stays : (m : TalkMoment) (n : NamedPiece) (rows : List (List Value)) → m.stage ≡ stage.Running → m.mode ≡ mode.Batch → m.left ≡ [] → m.portal ≡ Some n → holds m.block ≡ true
    → ran m (answer.Rows rows) ≡ outcome.Done → is_limited mode.Batch m.most (length rows) ≡ true → after_reply m (of_rows rows) ≡ listens (kept_first m n rows)
first_stays m n rows is batch none portal stands done limited =
    ap (λ (s : TalkStage). after_answer s m (answer.Rows rows)) is
    ∙ ap (λ (o : Outcome). after_outcome o m (after_done stage.Running (answer.Rows rows) m)) done
    ∙ ap (λ (b : Bool). goes_on (keeps_if (b && is_limited m.mode m.most (length rows)) rows m)) stands
    ∙ ap (λ (t : Mode). goes_on (keeps_if (is_limited t m.most (length rows)) rows m)) batch
    ∙ ap (λ (b : Bool). goes_on (keeps_if b rows m)) limited
    ∙ ap (λ (p : Option NamedPiece). goes_on (record m { portal = None; portals = suspend p (drop m.most rows) m.portals })) portal
    ∙ idle (kept_first m n rows) batch none

not_skipping : (t : Mode) → t ≡ mode.Batch → t ≡ mode.Skipping → ⊥
not_skipping t is wrong = batch_goes (sym is ∙ wrong)

pub told_once : (m : TalkMoment) (n : NamedPiece) (rows : List (List Value)) (ks : List ℕ) → m.stage ≡ stage.Running → m.mode ≡ mode.Batch → m.left ≡ [] → m.portal ≡ Some n
    → n.formats ≡ m.formats → holds m.block ≡ true → ran m (answer.Rows rows) ≡ outcome.Done → table_outcome mode.Batch n.columns rows ≡ outcome.Done → ArePieces rows (m.most ∷ ks)
    → said_in m (told (of_rows rows) ∷ fetches n.name ks) ≡ pieces_said m.formats rows (m.most ∷ ks)
told_once m n rows [] is batch none portal formats stands done fits are = ap (λ (l : List Saying). l ++ []) (first_said m rows is batch done)
told_once m n rows (j ∷ js) is batch none portal formats stands done fits are =
    let same : bytes_eq n.name n.name ≡ true = (bytes_eq-Decides n.name n.name).1 refl in
    ap (λ (l : List Saying). l ++ said_in (after_reply m (of_rows rows)) (fetches n.name (j ∷ js))) (first_said m rows is batch done)
    ∙ ap (λ (x : TalkMoment). limited_said m.most m.formats rows ++ said_in x (fetches n.name (j ∷ js))) (first_stays m n rows is batch none portal stands done are.0)
    ∙ ap (λ (l : List Saying). limited_said m.most m.formats rows ++ l) (fetched (j ∷ js) n.name (listens (kept_first m n rows)) n (drop m.most rows) (not_skipping m.mode batch) stands same
    (found_put n.name m.portals (left n (drop m.most rows)) same) (done_later n.columns m.most rows fits) are.1)
    ∙ ap (λ (fs : List ValueFormat). limited_said m.most m.formats rows ++ pieces_said fs (drop m.most rows) (j ∷ js)) formats

-- ---- what is left wants no event

goes_unless : (t : Mode) → (t ≡ mode.Skipping) ⊎ (t ≡ mode.Skipping → ⊥)
goes_unless mode.Query = inr query_goes
  where
    query_goes : mode.Query ≡ mode.Skipping → ⊥
    query_goes is = cc
goes_unless mode.Batch = inr batch_goes
goes_unless mode.Skipping = inl refl

looked_by : (m : TalkMoment) (n : NamedPiece) (name : List ℕ) (rows : List (List Value)) (k : ℕ) → (m.mode ≡ mode.Skipping) ⊎ (m.mode ≡ mode.Skipping → ⊥)
    → find name m.portals ≡ Some (left n rows) → (m.mode ≡ mode.Skipping) ⊎ ((after_request (E name k) m).want ≡ want.Standing 1)
looked_by m n name rows k (inl is) found = inl is
looked_by m n name rows k (inr goes) found = inr (ap (λ (x : TalkMoment). x.want) (executed name k m n rows goes found).1)

pub run_once : (m : TalkMoment) (n : NamedPiece) (name : List ℕ) (rows : List (List Value)) (k : ℕ) → find name m.portals ≡ Some n → n.rest ≡ Some rows
    → (m.mode ≡ mode.Skipping) ⊎ ((after_request (E name k) m).want ≡ want.Standing 1)
run_once m n name rows k found rest =
    looked_by m n name rows k (goes_unless m.mode) (found ∙ ap (λ (r : Option (List (List Value))). Some (record n { rest = r })) rest)
