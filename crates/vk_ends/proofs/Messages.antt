-- What standard error has after the line of an end was put.
use Rattle.std.proofs.Common.{◌≡◌, ◌⊎◌, inl, inr, ℕ, List, IsTrue, refl, subst}
use Rattle.std.specs.Prelude.{Result, Ok, Err, IsErrOf}
use Rattle.vk_io.specs.Counts.{Rose, next_count}
use Rattle.vk_io.specs.Sink.{GrowsWithin, Puts, SinkState, Stays}
use Rattle.vk_io.specs.declared.outside.Outside.{Outside}
use Rattle.vk_io.specs.declared.outside.Outside.TheVariants.{Failed, Memory as NoMemory}
use Rattle.vk_io.proofs.Grown.{GrowsWithin-put}
use Rattle.vk_ends.specs.Ends.{message_of}
use Rattle.vk_ends.specs.Reports.{Reports, told_end}
use Rattle.vk_ends.specs.declared.ends.End.{End}
use Rattle.vk_ends.specs.declared.ends.End.TheVariants.{Memory}

-- the line of want of memory was put, whatever the call answered
pub reports_memory : (files : List (List ℕ)) (a b : SinkState) (r : Result (Unit {0}) Outside) → (IsTrue a.tells → Puts a.bytes b.bytes r (message_of files Memory)) →
    b.calls ≡ next_count a.calls → Stays a b → Reports files Memory a b
reports_memory files a b r put calls stays = record {
  whole = λ told other fault. absurd (other refl);
  front = λ told other. absurd (other refl);
  memory = λ told e. (Memory, GrowsWithin-put a.bytes b.bytes r (message_of files Memory) (put told));
  lean = λ told lean e. GrowsWithin-put a.bytes b.bytes r (message_of files Memory) (put told);
  calls = inr calls;
  stays = stays;
}

-- the line of an end was put, and the call answered so
pub reports_told : (files : List (List ℕ)) (end : End) (a b : SinkState) (r : Result (Unit {0}) Outside) → (IsTrue a.tells → Puts a.bytes b.bytes r (message_of files end)) →
    (IsErrOf r Failed → Rose a.faults b.faults) → (IsTrue a.is_lean → IsErrOf r NoMemory → ⊥) →
    b.calls ≡ next_count a.calls → Stays a b → Reports files (told_end end r) a b
reports_told files end a b (Ok x) put failed lean calls stays = record {
  whole = λ told other fault. put told;
  front = λ told other. GrowsWithin-put a.bytes b.bytes (Ok x) (message_of files end) (put told);
  memory = λ told e. (end, GrowsWithin-put a.bytes b.bytes (Ok x) (message_of files end) (put told));
  lean = λ told l e. subst (λ k. GrowsWithin a.bytes b.bytes (message_of files k)) e (GrowsWithin-put a.bytes b.bytes (Ok x) (message_of files end) (put told));
  calls = inr calls;
  stays = stays;
}
reports_told files end a b (Err Failed) put failed lean calls stays = record {
  whole = λ told other fault. absurd (fault (failed refl));
  front = λ told other. put told;
  memory = λ told e. (end, put told);
  lean = λ told l e. subst (λ k. GrowsWithin a.bytes b.bytes (message_of files k)) e (put told);
  calls = inr calls;
  stays = stays;
}
reports_told files end a b (Err NoMemory) put failed lean calls stays = record {
  whole = λ told other fault. absurd (other refl);
  front = λ told other. absurd (other refl);
  memory = λ told e. (end, put told);
  lean = λ told l e. absurd (lean l refl);
  calls = inr calls;
  stays = stays;
}
