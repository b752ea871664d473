-- What is said to requests and behind a bad message.
use Rattle.std.proofs.Common.{◌≡◌, ◌∙◌, ℕ, false, List, [], ◌∷◌, Option, Some, None, refl, ap, sym, subst, All}
use Rattle.std.proofs.lemmas.List.Elements.{All-nil, All-cons}
use Rattle.talks.specs.Wants.{Learnt, FitsWant}
use Rattle.talks.specs.declared.want.Want.{Want}
use Rattle.talks.specs.declared.want.Want.TheVariants as want
use Rattle.postgres_talks.specs.declared.fault.TalkFault.{TalkFault}
use Rattle.postgres_talks.specs.declared.moment.Mode.{Mode}
use Rattle.postgres_talks.specs.declared.moment.Mode.TheVariants as mode
use Rattle.postgres_talks.specs.declared.moment.TalkMoment.{TalkMoment}
use Rattle.postgres_talks.specs.declared.requests.Request.{Request}
use Rattle.postgres_talks.specs.declared.requests.Request.TheVariants as request
use Rattle.postgres_talks.specs.Blocks.{IsOfAnswer, IsPassedOver}
use Rattle.postgres_talks.specs.Moments.{ends}
use Rattle.postgres_talks.specs.Played.{Input, asked, told, bad, TakesIn}
use Rattle.postgres_talks.specs.Requests.{heeded, heeded_skipping, fault_of, said_to_done, said_unless, after_unless, said_to_request, after_request}
use Rattle.postgres_talks.specs.Sayings.{Saying}

-- ---- bad messages

pub nothing_follows : (m : TalkMoment) (bytes rest : List ℕ) (xs : List Learnt) (inputs : List Input) → TakesIn (ends m) bytes xs rest inputs → inputs ≡ []
nothing_follows m bytes rest xs [] took = refl
nothing_follows m bytes rest xs (asked r ∷ is) took = let wrong : want.End false ≡ want.Message = took.1 in cc
nothing_follows m bytes rest xs (bad ∷ is) took = let wrong : want.End false ≡ want.Message = took.0 in cc
nothing_follows m bytes rest [] (told r ∷ is) took = absurd took
nothing_follows m bytes rest (x ∷ xs) (told r ∷ is) took = absurd (subst (λ (w : Want). FitsWant w r) (sym took.0) took.1)

-- ---- requests

one_said : (s : Saying) → (IsOfAnswer s → ⊥) → All (λ s. IsOfAnswer s → ⊥) (s ∷ [])
one_said s none = All-cons (λ s. IsOfAnswer s → ⊥) s [] none (All-nil (λ s. IsOfAnswer s → ⊥))

none_said : All (λ s. IsOfAnswer s → ⊥) []
none_said = All-nil (λ s. IsOfAnswer s → ⊥)

no_answer_done : (r : Request) → All (λ s. IsOfAnswer s → ⊥) (said_to_done r)
no_answer_done request.Encryption = one_said _ (λ h. h)
no_answer_done (request.Prepare name p) = one_said _ (λ h. h)
no_answer_done (request.Bind name prepared bound fs) = one_said _ (λ h. h)
no_answer_done (request.CloseStatement name) = one_said _ (λ h. h)
no_answer_done (request.ClosePortal name) = one_said _ (λ h. h)
no_answer_done (request.Breaks f) = one_said _ (λ h. h)
no_answer_done (request.Login role) = none_said
no_answer_done (request.PrepareTemplate name t) = none_said
no_answer_done (request.Statements pieces) = none_said
no_answer_done (request.Execute name n) = none_said
no_answer_done (request.DescribeStatement name) = none_said
no_answer_done (request.DescribePortal name) = none_said
no_answer_done request.Sync = none_said
no_answer_done request.Nothing = none_said
no_answer_done request.Leave = none_said
no_answer_done (request.Fails t f) = none_said

no_answer_unless : (o : Option TalkFault) (r : Request) → All (λ s. IsOfAnswer s → ⊥) (said_unless o r)
no_answer_unless None r = no_answer_done r
no_answer_unless (Some f) r = none_said

pub no_answer : (r : Request) (m : TalkMoment) → All (λ s. IsOfAnswer s → ⊥) (said_to_request r m)
no_answer r m = no_answer_unless (fault_of (heeded m.mode r) m) (heeded m.mode r)

-- ---- batches

heeds_nothing : (r : Request) → IsPassedOver r → heeded_skipping r ≡ request.Nothing
heeds_nothing request.Sync passes = absurd passes
heeds_nothing request.Leave passes = absurd passes
heeds_nothing (request.Breaks f) passes = absurd passes
heeds_nothing request.Encryption passes = refl
heeds_nothing (request.Login role) passes = refl
heeds_nothing (request.Statements pieces) passes = refl
heeds_nothing (request.Prepare name p) passes = refl
heeds_nothing (request.PrepareTemplate name t) passes = refl
heeds_nothing (request.Bind name prepared bound fs) passes = refl
heeds_nothing (request.Execute name n) passes = refl
heeds_nothing (request.DescribeStatement name) passes = refl
heeds_nothing (request.DescribePortal name) passes = refl
heeds_nothing (request.CloseStatement name) passes = refl
heeds_nothing (request.ClosePortal name) passes = refl
heeds_nothing request.Nothing passes = refl
heeds_nothing (request.Fails t f) passes = refl

pub passed_over : (m : TalkMoment) (r : Request) → m.mode ≡ mode.Skipping → IsPassedOver r → (said_to_request r m ≡ []) × (after_request r m ≡ m)
passed_over m r skips passes =
    let nothing : heeded m.mode r ≡ request.Nothing = ap (λ (t : Mode). heeded t r) skips ∙ heeds_nothing r passes in
    (ap (λ (h : Request). said_unless (fault_of h m) h) nothing, ap (λ (h : Request). after_unless (fault_of h m) h m) nothing)
