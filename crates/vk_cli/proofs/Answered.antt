-- What the steps of the top call say of its answer.
use Rattle.std.proofs.Common.{◌≡◌, ◌⊎◌, inl, inr, ℕ, List, [], ◌∷◌, refl, sym, subst}
use Rattle.vk_io.specs.Sink.{SinkState}
use Rattle.vk_io.specs.Store.{StoreState}
use Rattle.vk_io.proofs.Counting.{Reads-none}
use Rattle.vk_ends.specs.declared.ends.End.{End}
use Rattle.vk_ends.specs.declared.ends.End.TheVariants.{Words, Memory}
use Rattle.vk_ends.specs.declared.ends.WordFault.{WordFault}
use Rattle.vk_ends.proofs.Acting.{Stays-none, acts_memory}
use Rattle.vk_ends.proofs.Holding.{Holds-told, holds}
use Rattle.vk_requests.specs.Command.{Command, IsCommand, demangle, lanes, mangle}
use Rattle.vk_cmd_demangle.proofs.Lined.{one_text as one_demangled}
use Rattle.vk_cmd_lanes.proofs.Lined.{one_text as one_called}
use Rattle.vk_cmd_mangle.proofs.Lined.{one_text as one_mangled}
use Rattle.vk_cli.specs.Commands.{CommandHolds, HasFixedLetter, called}
use Rattle.vk_cli.specs.Unasked.{IsUnasked, UnaskedHolds}

-- what holds with an end holds with the end that is told
pub told_holds : (k : Command) (store store_now : StoreState) (out out_now : SinkState) (end result : End) → (result ≡ end) ⊎ (result ≡ Memory) →
    CommandHolds k store store_now out out_now end → CommandHolds k store store_now out out_now result
told_holds (demangle file) store store_now out out_now end result told h = Holds-told end result tt told h
told_holds (lanes r) store store_now out out_now end result told h = Holds-told end result tt told h
told_holds (mangle r) store store_now out out_now end result told h = Holds-told end result tt told h

-- want of memory, where nothing was done
pub memory_holds : (k : Command) (store : StoreState) (out : SinkState) → CommandHolds k store store out out Memory
memory_holds (demangle file) store out = holds (one_demangled (store.file file)) (acts_memory out tt (Reads-none (file ∷ []) store))
memory_holds (lanes r) store out = holds (one_called (called r) (store.file r.unit)) (acts_memory out tt (Reads-none (r.unit ∷ []) store))
memory_holds (mangle r) store out = holds (one_mangled r.target (store.file r.unit)) (acts_memory out tt (Reads-none (r.unit ∷ []) store))

-- words ask for a fixed letter
pub fixed_letter : (words : List (List ℕ)) (k : Command) → IsCommand words k → HasFixedLetter k
fixed_letter words (demangle file) h = tt
fixed_letter words (lanes r) h = h.1.fixed
fixed_letter words (mangle r) h = tt

-- no command answers that its words are wrong
pub no_words : (k : Command) (store store_now : StoreState) (out out_now : SinkState) (fault : WordFault) → CommandHolds k store store_now out out_now (Words fault) → ⊥
no_words (demangle file) store store_now out out_now fault h = h.acts.allowed
no_words (lanes r) store store_now out out_now fault h = h.acts.allowed
no_words (mangle r) store store_now out out_now fault h = h.acts.allowed

no_memory_words : (fault : WordFault) → Memory ≡ Words fault → ⊥
no_memory_words fault e = cc

same_words : (a b : WordFault) → Words a ≡ Words b → a ≡ b
same_words a b e = cc

-- a fault of the words is the one that was told
pub told_fault : (a b : WordFault) (result : End) → (result ≡ Words a) ⊎ (result ≡ Memory) → result ≡ Words b → a ≡ b
told_fault a b result told e = elim told [
  | inl same ↦ same_words a b (subst (λ r. r ≡ Words b) same e)
  | inr none ↦ absurd (no_memory_words b (subst (λ r. r ≡ Words b) none e))
]

unasked_end : (a : WordFault) (result : End) → (result ≡ Words a) ⊎ (result ≡ Memory) → IsUnasked result
unasked_end a result told = elim told [
  | inl same ↦ subst IsUnasked (sym same) tt
  | inr none ↦ subst IsUnasked (sym none) tt
]

-- nothing was read or written
pub unasked_holds : (store : StoreState) (out : SinkState) (a : WordFault) (result : End) → (result ≡ Words a) ⊎ (result ≡ Memory) → UnaskedHolds store store out out result
unasked_holds store out a result told = record {
  end_is = unasked_end a result told;
  quiet = λ tells. refl;
  reads = Reads-none [] store;
  stays = Stays-none out;
}
