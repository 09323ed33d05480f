-- What a command does whose inputs were not all read: nothing is written.
use Rattle.std.proofs.Common.{◌≡◌, ℕ, inl, List, length, Option, IsTrue, refl}
use Rattle.vk_types.specs.declared.types.Stop.{Stop}
use Rattle.vk_io.specs.Sink.{SinkState}
use Rattle.vk_io.specs.Store.{Reads, StoreState}
use Rattle.vk_ends.specs.Holds.{Acts}
use Rattle.vk_ends.specs.Inputs.{HasFailed}
use Rattle.vk_ends.specs.declared.ends.Refusal.{Refusal}
use Rattle.vk_ends.specs.declared.ends.Refusal.TheVariants.{Size, Name as Unnamed, Unit as Unfit, NotYet, Call}
use Rattle.vk_ends.specs.declared.ends.End.{End}
use Rattle.vk_ends.specs.declared.ends.End.TheVariants.{Done, Refused, Words, Stopped, ReadFault, WriteFault, Memory}
use Rattle.vk_ends.proofs.Acting.{Stays-none}
use Rattle.vk_files.specs.Reading.{IsUnreadOf}

refused_not_read : (refusal : Refusal) (input : ℕ) → Refused refusal ≡ ReadFault input → ⊥
refused_not_read refusal input e = cc

refused_not_write : (refusal : Refusal) → Refused refusal ≡ WriteFault → ⊥
refused_not_write refusal e = cc

read_not_write : (input : ℕ) → ReadFault input ≡ WriteFault → ⊥
read_not_write input e = cc

memory_not_read : (input : ℕ) → Memory ≡ ReadFault input → ⊥
memory_not_read input e = cc

memory_not_write : Memory ≡ WriteFault → ⊥
memory_not_write e = cc

-- the clauses of `read_inputs` at an end make what holds with it for the command
pub acts_unread : {names : List (List ℕ)} {Prints : List ℕ → Option Stop → Type 0} {Refuses : Refusal → Type 0} {Allows : End → Type 0}
    {store store_now : StoreState} (out : SinkState) (end : End) → IsUnreadOf (length names) end →
    (IsTrue store.tells → (input : ℕ) → end ≡ Refused (Size input) → Refuses (Size input)) →
    ((input : ℕ) → end ≡ ReadFault input → HasFailed names input store store_now) → Allows end → Reads names store store_now →
    Acts names Prints Refuses Allows store store_now out out end
acts_unread out Done u large failed allowed reads = absurd u.2
acts_unread out (Refused (Size input)) u large failed allowed reads = record {
  answers = λ told. large told input refl;
  writes = λ told tells. refl;
  early = λ tells e. refl;
  allowed = allowed;
  failed = λ number e. absurd (refused_not_read (Size input) number e);
  unwritten = λ e. absurd (refused_not_write (Size input) e);
  reads = reads;
  stays = Stays-none out;
}
acts_unread out (Refused (Unnamed line at rule)) u large failed allowed reads = absurd u.2
acts_unread out (Refused (Unfit input line directive rule)) u large failed allowed reads = absurd u.2
acts_unread out (Refused (NotYet input)) u large failed allowed reads = absurd u.2
acts_unread out (Refused (Call fault)) u large failed allowed reads = absurd u.2
acts_unread out (Words fault) u large failed allowed reads = absurd u.2
acts_unread out (Stopped stop) u large failed allowed reads = absurd u.2
acts_unread out (ReadFault input) u large failed allowed reads = record {
  answers = λ told. tt;
  writes = λ told tells. refl;
  early = λ tells e. refl;
  allowed = allowed;
  failed = failed;
  unwritten = λ e. absurd (read_not_write input e);
  reads = reads;
  stays = Stays-none out;
}
acts_unread out WriteFault u large failed allowed reads = absurd u.2
acts_unread out Memory u large failed allowed reads = record {
  answers = λ told. tt;
  writes = λ told tells. inl refl;
  early = λ tells e. refl;
  allowed = allowed;
  failed = λ input e. absurd (memory_not_read input e);
  unwritten = λ e. absurd (memory_not_write e);
  reads = reads;
  stays = Stays-none out;
}
