-- What a state answers.
use Rattle.std.proofs.Common.{◌≡◌, ℕ, List, [], ◌∷◌, ◌++◌, Result, sym, ap, subst, ◌∙◌, append_assoc}
use Rattle.std.specs.List.{fold}
use Rattle.std.proofs.lemmas.List.Sums.{fold-append}
use Rattle.std.proofs.lemmas.List.{append-nil}
use Rattle.vk_kinds.specs.declared.kinds.Param.{Param}
use Rattle.vk_names.specs.declared.rules.NameFault.{NameFault}
use Rattle.vk_names.specs.declared.names.ReadName.{ReadName}
use Rattle.vk_names.specs.declared.states.State.{State}
use Rattle.vk_names.specs.declared.states.State.TheVariants.{Mark, AtIsa, AtMask, AtLen, LenDigits, Next, Inside, Scalar, Done, Fault}
use Rattle.vk_names.specs.declared.feed.NameFeed.{NameFeed}
use Rattle.vk_names.specs.declared.feed.Progress.{Progress}
use Rattle.vk_names.specs.declared.feed.Progress.TheVariants.{More}
use Rattle.vk_names.specs.Inner.Steps.{end_on, state_on}
use Rattle.vk_names.specs.Inner.Many.{from}
use Rattle.vk_names.specs.Inner.Feeds.{after, Stands, IsProgress, IsEnd}
use Rattle.vk_names.proofs.Standing.{Reads, StateIs, reading, done, fault}
use Rattle.vk_names.proofs.Feeding.{end_is, state_is, starts}
use Rattle.vk_names.proofs.Answered.{Answered, more_answered, done_answered, fault_answered, Ended, found_ended, fault_ended, open_ended}

-- a state that goes on answers that it does
goes : (state : State) (params : List Param) (bytes : List ℕ) (answer : Progress) → Reads state params bytes → IsProgress params state answer → answer ≡ More
goes (Mark n) params bytes answer r is = is
goes AtIsa params bytes answer r is = is
goes (AtMask isa) params bytes answer r is = is
goes (AtLen isa masked) params bytes answer r is = is
goes (LenDigits isa masked run) params bytes answer r is = is
goes (Next front at) params bytes answer r is = is
goes (Inside front at item) params bytes answer r is = is
goes (Scalar found) params bytes answer r is = is
goes (Done found) params bytes answer r is = absurd r
goes (Fault f) params bytes answer r is = absurd r

state_answers : (state : State) (params : List Param) (bytes : List ℕ) (answer : Progress) → StateIs params bytes state → IsProgress params state answer → Answered bytes answer
state_answers state params bytes answer (reading s all r) is = subst (λ (p : Progress). Answered bytes p) (sym (goes s params bytes answer r is)) (more_answered params bytes (end_on s) all (end_is s params bytes all r))
state_answers state params bytes answer (done f ended found) is = done_answered f params bytes answer ended found is
state_answers state params bytes answer (fault f refused) is = fault_answered f bytes answer refused is

state_ends : (state : State) (params : List Param) (bytes : List ℕ) (answer : Result ReadName NameFault) → StateIs params bytes state → IsEnd params (end_on state) answer → Ended bytes answer
unfolding end_on
state_ends state params bytes answer (reading s all r) is = open_ended params bytes (end_on s) answer (end_is s params bytes all r) is
state_ends state params bytes answer (done f ended found) is = found_ended f params bytes answer found is
state_ends state params bytes answer (fault f refused) is = fault_ended f refused.at bytes answer refused.place refused.refused is

-- ---- the state after some bytes

after_more : (state : State) (params : List Param) (fed bytes : List ℕ) → StateIs params fed state → StateIs (from state params bytes).1 (fed ++ bytes) (from state params bytes).0
unfolding from
after_more state params fed [] is = subst (λ (t : List ℕ). StateIs params t state) (sym (append-nil fed)) is
after_more state params fed (b ∷ bs) is =
    let next : State × List Param = state_on state params b in
    subst (λ (t : List ℕ). StateIs (from next.0 next.1 bs).1 t (from next.0 next.1 bs).0) (append_assoc fed (b ∷ []) bs)
    (after_more next.0 next.1 (fed ++ (b ∷ [])) bs (state_is state params fed b is))

after_is : (bytes : List ℕ) → StateIs (after bytes).1 bytes (after bytes).0
after_is bytes = after_more (Mark 0) [] [] bytes starts

feed_is : (feed : NameFeed) (bytes : List ℕ) → Stands feed bytes → StateIs feed.params.items bytes feed.state
unfolding Stands
feed_is feed bytes stands = subst (λ (s : State × List Param). StateIs s.1 bytes s.0) (sym stands) (after_is bytes)

pub feed_answers : (feed : NameFeed) (bytes : List ℕ) (answer : Progress) → Stands feed bytes → IsProgress feed.params.items feed.state answer → Answered bytes answer
feed_answers feed bytes answer stands is = state_answers feed.state feed.params.items bytes answer (feed_is feed bytes stands) is

pub feed_ends : (feed : NameFeed) (bytes : List ℕ) (answer : Result ReadName NameFault) → Stands feed bytes → IsEnd feed.params.items (end_on feed.state) answer → Ended bytes answer
feed_ends feed bytes answer stands is = state_ends feed.state feed.params.items bytes answer (feed_is feed bytes stands) is

-- ---- what a feed stands for after a piece

pub fed_all : (old new : NameFeed) (piece : List ℕ) → (new.state, new.params.items) ≡ from old.state old.params.items piece → (bytes : List ℕ) → Stands old bytes → Stands new (bytes ++ piece)
unfolding Stands from
fed_all old new piece fed bytes stands =
    fed ∙ ap (λ (s : State × List Param). fold (λ s b. state_on s.0 s.1 b) s piece) stands ∙ sym (fold-append (λ s b. state_on s.0 s.1 b) (Mark 0, []) bytes piece)

pub begins : (feed : NameFeed) → feed.state ≡ Mark 0 → feed.params.items ≡ [] → Stands feed []
unfolding Stands from
begins feed at none = ap (λ (s : State). (s, feed.params.items)) at ∙ ap (λ (ps : List Param). (Mark 0, ps)) none
