-- Over files in memory no count rises.
use Rattle.std.proofs.Common.{◌≡◌, ◌∙◌, ◌⊎◌, ℕ, ◌≤◌, List, IsTrue, Option, sym, subst, arith}
use Rattle.vk_types.specs.declared.types.Stop.{Stop}
use Rattle.vk_io.specs.Counts.{Rose, next_count}
use Rattle.vk_io.specs.Sink.{SinkState}
use Rattle.vk_io.specs.Store.{StoreState}
use Rattle.vk_ends.specs.Holds.{Holds, end_of}
use Rattle.vk_ends.specs.declared.ends.Refusal.{Refusal}
use Rattle.vk_ends.specs.declared.ends.End.{End}
use Rattle.vk_ends.specs.declared.ends.End.TheVariants.{Memory}
use Rattle.vk_requests.specs.Command.{Command, demangle, files_of, lanes, mangle}
use Rattle.vk_cli.specs.Commands.{AreThere, CommandHolds, CommandPrints}

no_rise : (a b : ℕ) → a ≡ 0 → b ≡ a → Rose a b → ⊥
no_rise a b zero_is same rose =
    let same_zero : b ≡ 0 = same ∙ zero_is in
    let first : next_count 0 ≤ 0 = subst (λ n. next_count 0 ≤ n) same_zero (subst (λ n. next_count n ≤ b) zero_is rose) in
    omega arith

complete_of : {files : List (List ℕ)} {Prints : List ℕ → Option Stop → Type 0} {Refuses : Refusal → Type 0} {Allows : End → Type 0}
    {store store_now : StoreState} {out out_now : SinkState} {end : End} → Holds files Prints Refuses Allows store store_now out out_now end →
    IsTrue store.tells → IsTrue store.is_sound → AreThere files store → out.faults ≡ 0 → out_now.faults ≡ 0 →
    (text : List ℕ) (stop : Option Stop) → Prints text stop → (end ≡ end_of stop) ⊎ (end ≡ Memory)
complete_of {store = store} {store_now = store_now} {out = out} {out_now = out_now} h told sound there none still text stop p =
    h.complete told text stop p
    (λ file one rose. no_rise (store.reads file) (store_now.reads file) (there file one).1 (h.acts.reads.present sound file (there file one).0) rose)
    (λ rose. no_rise out.faults out_now.faults none (still ∙ sym none) rose)

pub command_complete : (k : Command) (store store_now : StoreState) (out out_now : SinkState) (end : End) → CommandHolds k store store_now out out_now end →
    IsTrue store.tells → IsTrue store.is_sound → AreThere (files_of k) store → out.faults ≡ 0 → out_now.faults ≡ 0 →
    (text : List ℕ) (stop : Option Stop) → CommandPrints k store.file text stop → (end ≡ end_of stop) ⊎ (end ≡ Memory)
command_complete (demangle name) store store_now out out_now end h told sound there none still text stop p = complete_of h told sound there none still text stop p
command_complete (lanes r) store store_now out out_now end h told sound there none still text stop p = complete_of h told sound there none still text stop p
command_complete (mangle r) store store_now out out_now end h told sound there none still text stop p = complete_of h told sound there none still text stop p
