-- A session comes only by the step that opens it, where its client had none, and which is answered so.
use Rattle.std.proofs.Common.{◌≡◌, ◌∙◌, ◌⊎◌, ℕ, List, Option, Some, None, sym, subst, inl, inr}
use Rattle.sql_types.specs.declared.answer.Answer.{Answer}
use Rattle.sql_types.specs.declared.answer.Answer.TheVariants as answer
use Rattle.sql_types.specs.declared.event.Event.{Event}
use Rattle.sql_types.specs.declared.event.Event.TheVariants as event
use Rattle.sql_types.specs.declared.tag.Tag.{Tag}
use Rattle.sql_types.specs.declared.tag.Tag.TheVariants as tag
use Rattle.sql_types.specs.declared.warning.Warning.{Warning}
use Rattle.talks.specs.declared.want.Want.{Want}
use Rattle.talks.specs.declared.want.Want.TheVariants as want
use Rattle.talks.specs.declared.want.Reply.{Reply}
use Rattle.talks.specs.declared.want.Reply.TheVariants as reply
use Rattle.talks.specs.Wants.{OpensSession, TellsOpened}
use Rattle.talks_tests.specs.declared.desk.Desk.{Desk}
use Rattle.talks_tests.specs.declared.desk.DeskSession.{DeskSession}
use Rattle.talks_tests.specs.Desks.{IsSession, Has, SameSeats, Sits, SeatsClient, EndsSession, RunsStatementText, AnswersEnd, DoesEvent, MakesStep}

pub same_has : (old new : Desk) (d n : ℕ) (login : List ℕ) → new ≡ old → Has new d n login → Has old d n login
same_has old new d n login same has = subst (λ (m : Desk). Has m d n login) same has

seats_has : (old new : Desk) (d n : ℕ) (login : List ℕ) → SameSeats old new → Has new d n login → Has old d n login
seats_has old new d n login same has = elim has [
  | inl it ↦ inl (it.0, subst (λ (s : Option DeskSession). IsSession s n login) same.0 it.1)
  | inr it ↦ inr (it.0, subst (λ (s : Option DeskSession). IsSession s n login) same.1 it.1)
]

pub ends_open : (old new : Desk) (c d n : ℕ) (login : List ℕ) → EndsSession c old new → Has new d n login → Has old d n login
ends_open old new c d n login made has = elim made.0 [
  | inl it ↦ elim has [
    | inl one ↦ absurd (subst (λ (s : Option DeskSession). IsSession s n login) it.1 one.1)
    | inr two ↦ inr (two.0, subst (λ (s : Option DeskSession). IsSession s n login) it.2 two.1)
  ]
  | inr it ↦ elim has [
    | inl one ↦ inl (one.0, subst (λ (s : Option DeskSession). IsSession s n login) it.2 one.1)
    | inr two ↦ absurd (subst (λ (s : Option DeskSession). IsSession s n login) it.1 two.1)
  ]
]

one_session : (s : Option DeskSession) (n m : ℕ) (login role : List ℕ) → IsSession s n login → IsSession s m role → (n ≡ m) × (login ≡ role)
one_session None n m login role first second = absurd first
one_session (Some s) n m login role first second = (sym first.0 ∙ second.0, sym first.1 ∙ second.1)

zero_is_one : (c : ℕ) → c ≡ 0 → c ≡ 1 → ⊥
zero_is_one c zero one = let wrong : ◌≡◌ {A = ℕ} 0 1 = sym zero ∙ one in cc

-- a client whose place was free had no session
first_was_free : (old : Desk) (c n : ℕ) (login : List ℕ) → c ≡ 0 → old.first ≡ None → Has old c n login → ⊥
first_was_free old c n login is free has = elim has [
  | inl one ↦ subst (λ (s : Option DeskSession). IsSession s n login) free one.1
  | inr two ↦ zero_is_one c is two.0
]

second_was_free : (old : Desk) (c n : ℕ) (login : List ℕ) → c ≡ 1 → old.second ≡ None → Has old c n login → ⊥
second_was_free old c n login is free has = elim has [
  | inl one ↦ zero_is_one c one.0 is
  | inr two ↦ subst (λ (s : Option DeskSession). IsSession s n login) free two.1
]

sits_open : (old new : Desk) (c k : ℕ) (role : List ℕ) (d n : ℕ) (login : List ℕ) → Sits c k role old new → Has new d n login
    → Has old d n login ⊎ ((c ≡ d) × ((k ≡ n) × (role ≡ login)) × (Has old d n login → ⊥))
sits_open old new c k role d n login made has = elim made [
  | inl it ↦ elim has [
    | inl one ↦ let same = one_session new.first k n role login it.2 one.1 in inr (it.0 ∙ sym one.0, same, first_was_free old d n login one.0 it.1)
    | inr two ↦ inl (inr (two.0, subst (λ (s : Option DeskSession). IsSession s n login) it.3 two.1))
  ]
  | inr it ↦ elim has [
    | inl one ↦ inl (inl (one.0, subst (λ (s : Option DeskSession). IsSession s n login) it.3 one.1))
    | inr two ↦ let same = one_session new.second k n role login it.2 two.1 in inr (it.0 ∙ sym two.0, same, second_was_free old d n login two.0 it.1)
  ]
]

told_opened : (t : Tag) (count : Option ℕ) (warning : Option Warning) → t ≡ tag.Open → count ≡ None → warning ≡ None → TellsOpened (reply.Answer (answer.Done t count warning))
told_opened t count warning is none unwarned = cc

opens_open : (old new : Desk) (c k : ℕ) (role : List ℕ) (a : Answer) (d n : ℕ) (login : List ℕ) → SeatsClient c k role a old new → Has new d n login
    → Has old d n login ⊎ ((c ≡ d) × ((k ≡ n) × (role ≡ login)) × TellsOpened (reply.Answer a) × (Has old d n login → ⊥))
opens_open old new c k role (answer.Refused state) d n login made has = inl (seats_has old new d n login made.0 has)
opens_open old new c k role (answer.Done t count warning) d n login made has = elim (sits_open old new c k role d n login made.3 has) [
  | inl before ↦ inl before
  | inr it ↦ inr (it.0, it.1, told_opened t count warning made.0 made.1 made.2, it.2)
]
opens_open old new c k role (answer.Rows rows) d n login made has = absurd made

runs_open : (old new : Desk) (c : ℕ) (a : Answer) (d n : ℕ) (login : List ℕ) → RunsStatementText c a old new → Has new d n login → Has old d n login
runs_open old new c (answer.Refused state) d n login made has = seats_has old new d n login made.0 has
runs_open old new c (answer.Done t count warning) d n login made has = seats_has old new d n login made.1 has
runs_open old new c (answer.Rows rows) d n login made has = absurd made

leaves_open : (old new : Desk) (c : ℕ) (a : Answer) (d n : ℕ) (login : List ℕ) → AnswersEnd c a old new → Has new d n login → Has old d n login
leaves_open old new c (answer.Refused state) d n login made has = seats_has old new d n login made.0 has
leaves_open old new c (answer.Done t count warning) d n login made has = ends_open old new c d n login made.2 has
leaves_open old new c (answer.Rows rows) d n login made has = absurd made

carries_open : (old new : Desk) (c : ℕ) (e : Event) (a : Answer) (d n : ℕ) (login : List ℕ) → DoesEvent c e a old new → Has new d n login → Has old d n login
carries_open old new c (event.Open k role) a d n login made has = seats_has old new d n login made.0 has
carries_open old new c (event.Statement k text) a d n login made has = runs_open old new c a d n login made has
carries_open old new c (event.Close k) a d n login made has = leaves_open old new c a d n login made has

pub steps_open : (old new : Desk) (c : ℕ) (w : Want) (r : Reply) (d n : ℕ) (login : List ℕ) → MakesStep c w r old new → Has new d n login
    → Has old d n login ⊎ ((c ≡ d) × OpensSession w n login × TellsOpened r × (Has old d n login → ⊥))
steps_open old new c (want.Open k role entry) (reply.Answer a) d n login made has = opens_open old new c k role a d n login made has
steps_open old new c (want.Open k role entry) (reply.Standing b) d n login made has = absurd made
steps_open old new c (want.Open k role entry) (reply.Description x) d n login made has = absurd made
steps_open old new c (want.Open k role entry) (reply.Verifier v) d n login made has = absurd made
steps_open old new c (want.Event e) (reply.Answer a) d n login made has = inl (carries_open old new c e a d n login made has)
steps_open old new c (want.Event e) (reply.Standing b) d n login made has = absurd made
steps_open old new c (want.Event e) (reply.Description x) d n login made has = absurd made
steps_open old new c (want.Event e) (reply.Verifier v) d n login made has = absurd made
steps_open old new c want.Message r d n login made has = absurd made
steps_open old new c (want.Standing k) r d n login made has = absurd made
steps_open old new c (want.Description k text) r d n login made has = absurd made
steps_open old new c (want.Verifier table role) r d n login made has = absurd made
steps_open old new c (want.End late) r d n login made has = absurd made
steps_open old new c want.OutOfMemory r d n login made has = absurd made
