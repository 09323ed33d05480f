-- What a command of one input file does, step by step.
use Rattle.std.proofs.Common.{◌≡◌, ◌∙◌, ℕ, ◌<◌, inl, inr, List, [], ◌∷◌, Option, None, Some, IsTrue, refl, sym, ap, subst, arith}
use Rattle.vk_types.specs.declared.types.Stop.{Stop}
use Rattle.vk_io.specs.Counts.{Rose}
use Rattle.vk_io.specs.Sink.{GrowsWithin, SinkState, Stays}
use Rattle.vk_io.specs.Store.{Reads, StoreState}
use Rattle.vk_io.specs.Whole.{IsTooLong}
use Rattle.vk_ends.specs.Inputs.{HasFailed, IsUnread}
use Rattle.vk_ends.specs.Holds.{Acts}
use Rattle.vk_ends.specs.Printing.{IsPrinted, Prints as PrintsText}
use Rattle.vk_ends.specs.declared.ends.Refusal.{Refusal}
use Rattle.vk_ends.specs.declared.ends.Refusal.TheVariants.{Size, Name as Unnamed, Unit as Unfit, NotYet, Call}
use Rattle.vk_ends.specs.declared.ends.End.{End}
use Rattle.vk_ends.specs.declared.ends.End.TheVariants.{Done, Refused, Words, Stopped, ReadFault, WriteFault, Memory}

pub Stays-none : (a : SinkState) → Stays a a
Stays-none a = record { tells = refl; is_lean = refl; faults = omega arith }

no_read : (refusal : Refusal) (input : ℕ) → Refused refusal ≡ ReadFault input → ⊥
no_read refusal input e = cc

no_write : (refusal : Refusal) → Refused refusal ≡ WriteFault → ⊥
no_write refusal e = cc

read_no_write : (input : ℕ) → ReadFault input ≡ WriteFault → ⊥
read_no_write input e = cc

memory_no_read : (input : ℕ) → Memory ≡ ReadFault input → ⊥
memory_no_read input e = cc

memory_no_write : Memory ≡ WriteFault → ⊥
memory_no_write e = cc

done_no_read : (input : ℕ) → Done ≡ ReadFault input → ⊥
done_no_read input e = cc

done_no_write : Done ≡ WriteFault → ⊥
done_no_write e = cc

write_no_read : (input : ℕ) → WriteFault ≡ ReadFault input → ⊥
write_no_read input e = cc

read_same : (a b : ℕ) → ReadFault a ≡ ReadFault b → a ≡ b
read_same a b e = cc

module _ {file : List ℕ} {Prints : List ℕ → Option Stop → Type 0} {Refuses : Refusal → Type 0} {Allows : End → Type 0} {store store_now : StoreState} where
  -- a refusal that is due
  pub acts_refused : (out : SinkState) (refusal : Refusal) → (IsTrue store.tells → Refuses refusal) → Allows (Refused refusal) → Reads (file ∷ []) store store_now →
      Acts (file ∷ []) Prints Refuses Allows store store_now out out (Refused refusal)
  acts_refused out refusal due allowed reads = record {
    answers = due;
    writes = λ told tells. refl;
    early = λ tells e. refl;
    allowed = allowed;
    failed = λ input e. absurd (no_read refusal input e);
    unwritten = λ e. absurd (no_write refusal e);
    reads = reads;
    stays = Stays-none out;
  }

  -- want of memory before anything is written
  pub acts_memory : (out : SinkState) → Allows Memory → Reads (file ∷ []) store store_now → Acts (file ∷ []) Prints Refuses Allows store store_now out out Memory
  acts_memory out allowed reads = record {
    answers = λ told. tt;
    writes = λ told tells. inl refl;
    early = λ tells e. refl;
    allowed = allowed;
    failed = λ input e. absurd (memory_no_read input e);
    unwritten = λ e. absurd (memory_no_write e);
    reads = reads;
    stays = Stays-none out;
  }

  -- the input was not read
  pub acts_unread : (out : SinkState) (end : End) → IsUnread 0 end → (IsTrue store.tells → end ≡ Refused (Size 0) → Refuses (Size 0)) →
      (end ≡ ReadFault 0 → Rose (store.reads file) (store_now.reads file)) → Allows end → Reads (file ∷ []) store store_now →
      Acts (file ∷ []) Prints Refuses Allows store store_now out out end
  acts_unread out Done u large failed allowed reads = absurd u
  acts_unread out (Refused (Size input)) u large failed allowed reads =
      let same : Refused (Size input) ≡ Refused (Size 0) = ap (λ i. Refused (Size i)) u in
      acts_refused out (Size input) (λ told. subst (λ i. Refuses (Size i)) (sym u) (large told same)) allowed reads
  acts_unread out (Refused (Unnamed line at rule)) u large failed allowed reads = absurd u
  acts_unread out (Refused (Unfit input line directive rule)) u large failed allowed reads = absurd u
  acts_unread out (Refused (NotYet input)) u large failed allowed reads = absurd u
  acts_unread out (Refused (Call fault)) u large failed allowed reads = absurd u
  acts_unread out (Words fault) u large failed allowed reads = absurd u
  acts_unread out (Stopped stop) u large failed allowed reads = absurd u
  acts_unread out (ReadFault number) u large failed allowed reads = record {
    answers = λ told. tt;
    writes = λ told tells. refl;
    early = λ tells e. refl;
    allowed = allowed;
    failed = λ input e.
        let zero_is : 0 ≡ input = sym u ∙ read_same number input e in
        subst (λ i. HasFailed (file ∷ []) i store store_now) zero_is (omega arith, failed (ap ReadFault u));
    unwritten = λ e. absurd (read_no_write number e);
    reads = reads;
    stays = Stays-none out;
  }
  acts_unread out WriteFault u large failed allowed reads = absurd u
  acts_unread out Memory u large failed allowed reads = acts_memory out allowed reads

  -- the text was printed
  pub acts_printed : (out out_now : SinkState) (text : List ℕ) (end : End) → (IsTrue store.tells → Prints text None) → IsPrinted end →
      (IsTrue out.tells → PrintsText text out.bytes out_now.bytes end) → (end ≡ WriteFault → Rose out.faults out_now.faults) → Stays out out_now →
      Allows end → Reads (file ∷ []) store store_now → Acts (file ∷ []) Prints Refuses Allows store store_now out out_now end
  acts_printed out out_now text Done is possible puts unwritten stays allowed reads = record {
    answers = λ told. (text, is told);
    writes = λ told tells. (text, is told, puts tells);
    early = λ tells e. absurd e;
    allowed = allowed;
    failed = λ input e. absurd (done_no_read input e);
    unwritten = λ e. absurd (done_no_write e);
    reads = reads;
    stays = stays;
  }
  acts_printed out out_now text (Refused refusal) is possible puts unwritten stays allowed reads = absurd possible
  acts_printed out out_now text (Words fault) is possible puts unwritten stays allowed reads = absurd possible
  acts_printed out out_now text (Stopped stop) is possible puts unwritten stays allowed reads = absurd possible
  acts_printed out out_now text (ReadFault input) is possible puts unwritten stays allowed reads = absurd possible
  acts_printed out out_now text WriteFault is possible puts unwritten stays allowed reads = record {
    answers = λ told. (text, None, is told);
    writes = λ told tells. (text, None, is told, puts tells);
    early = λ tells e. absurd e;
    allowed = allowed;
    failed = λ input e. absurd (write_no_read input e);
    unwritten = unwritten;
    reads = reads;
    stays = stays;
  }
  acts_printed out out_now text Memory is possible puts unwritten stays allowed reads = record {
    answers = λ told. tt;
    writes = λ told tells. inr (text, None, is told, puts tells);
    early = λ tells e. absurd e;
    allowed = allowed;
    failed = λ input e. absurd (memory_no_read input e);
    unwritten = λ e. absurd (memory_no_write e);
    reads = reads;
    stays = stays;
  }
