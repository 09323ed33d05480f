-- What holds with each answer of a command, from what it does.
use Rattle.std.proofs.Common.{◌≡◌, ◌∙◌, ℕ, zero, suc, ◌<◌, ◌⊎◌, inl, inr, Bool, true, false, List, [], ◌∷◌, ◌++◌, length, Option, None, Some, IsTrue, refl, sym, ap, subst, arith}
use Rattle.std.proofs.lemmas.Bool.{false≢true}
use Rattle.vk_types.specs.declared.types.Stop.{Stop}
use Rattle.vk_io.specs.Counts.{IsOneOf, Rose}
use Rattle.vk_io.specs.Sink.{GrowsWithin, SinkState}
use Rattle.vk_io.specs.Store.{StoreState}
use Rattle.vk_io.proofs.Grown.{GrowsWithin-none, GrowsWithin-whole}
use Rattle.vk_ends.specs.Ends.{file_at}
use Rattle.vk_ends.specs.Inputs.{HasFailed}
use Rattle.vk_ends.specs.Holds.{Acts, Agrees, Holds, IsAnswer, IsFault, IsRefusal, Writes, WritesFront, end_of}
use Rattle.vk_ends.specs.declared.ends.Refusal.{Refusal}
use Rattle.vk_ends.specs.declared.ends.End.{End}
use Rattle.vk_ends.specs.declared.ends.End.TheVariants.{Done, Refused, Words, Stopped, ReadFault, WriteFault, Memory}

abbrev is_end : End → Bool
is_end Done = true
is_end (Refused refusal) = false
is_end (Words fault) = false
is_end (Stopped stop) = true
is_end (ReadFault input) = false
is_end WriteFault = false
is_end Memory = false

is_end_of : (stop : Option Stop) → is_end (end_of stop) ≡ true
is_end_of None = refl
is_end_of (Some stop) = refl

no_end : (end : End) (stop : Option Stop) → is_end end ≡ false → end ≡ end_of stop → ⊥
no_end end stop f e = false≢true (sym f ∙ (ap is_end e ∙ is_end_of stop))

one_of : (files : List (List ℕ)) (input : ℕ) → input < length files → IsOneOf files (file_at files input)
one_of [] input h = absurd (omega arith)
one_of (f ∷ fs) zero h = inl refl
one_of (f ∷ fs) (suc input) h = inr (one_of fs input (omega arith))

grown_whole : (old new t u : List ℕ) → new ≡ old ++ t → t ≡ u → GrowsWithin old new u
grown_whole old new t u e same = subst (λ (n : List ℕ). GrowsWithin old n u) (sym (e ∙ ap (λ x. old ++ x) same)) (GrowsWithin-whole old u)

grown_none : (old new text : List ℕ) → new ≡ old → GrowsWithin old new text
grown_none old new text e = subst (λ (n : List ℕ). GrowsWithin old n text) (sym e) (GrowsWithin-none old text)

module _ {Prints : List ℕ → Option Stop → Type 0} {Refuses : Refusal → Type 0} (agrees : Agrees Prints Refuses) where
  whole_of : (old new : List ℕ) (end : End) → Writes Prints old new end → (text : List ℕ) (stop : Option Stop) → Prints text stop → end ≡ end_of stop → new ≡ old ++ text
  whole_of old new Done w text stop p e = w.2 ∙ ap (λ x. old ++ x) (agrees.one w.0 text None stop w.1 p).0
  whole_of old new (Refused r) w text stop p e = absurd (no_end (Refused r) stop refl e)
  whole_of old new (Words f) w text stop p e = absurd (no_end (Words f) stop refl e)
  whole_of old new (Stopped s) w text stop p e = w.2 ∙ ap (λ x. old ++ x) (agrees.one w.0 text (Some s) stop w.1 p).0
  whole_of old new (ReadFault i) w text stop p e = absurd (no_end (ReadFault i) stop refl e)
  whole_of old new WriteFault w text stop p e = absurd (no_end WriteFault stop refl e)
  whole_of old new Memory w text stop p e = absurd (no_end Memory stop refl e)

  front_is : (old new : List ℕ) → WritesFront Prints old new → (text : List ℕ) (stop : Option Stop) → Prints text stop → GrowsWithin old new text
  front_is old new w text stop p = subst (λ (t : List ℕ). GrowsWithin old new t) (agrees.one w.0 text w.1 stop w.2 p).0 w.3

  front_of : (old new : List ℕ) (end : End) → Writes Prints old new end → (text : List ℕ) (stop : Option Stop) → Prints text stop → GrowsWithin old new text
  front_of old new Done w text stop p = grown_whole old new w.0 text w.2 (agrees.one w.0 text None stop w.1 p).0
  front_of old new (Refused r) w text stop p = grown_none old new text w
  front_of old new (Words f) w text stop p = grown_none old new text w
  front_of old new (Stopped s) w text stop p = grown_whole old new w.0 text w.2 (agrees.one w.0 text (Some s) stop w.1 p).0
  front_of old new (ReadFault i) w text stop p = grown_none old new text w
  front_of old new WriteFault w text stop p = front_is old new w text stop p
  front_of old new Memory w text stop p = elim w [ inl e ↦ grown_none old new text e | inr f ↦ front_is old new f text stop p ]

  complete_of : (files : List (List ℕ)) (store store_now : StoreState) (end : End) → IsAnswer Prints Refuses end →
      ((input : ℕ) → end ≡ ReadFault input → HasFailed files input store store_now) → (text : List ℕ) (stop : Option Stop) → Prints text stop →
      ((file : List ℕ) → IsOneOf files file → Rose (store.reads file) (store_now.reads file) → ⊥) → (end ≡ WriteFault → ⊥) →
      (end ≡ end_of stop) ⊎ (end ≡ Memory)
  complete_of files store store_now Done a failed text stop p reads writes = inl (ap end_of (agrees.one a.0 text None stop a.1 p).1)
  complete_of files store store_now (Refused r) a failed text stop p reads writes = absurd (agrees.apart text stop r p a)
  complete_of files store store_now (Words f) a failed text stop p reads writes = absurd a
  complete_of files store store_now (Stopped s) a failed text stop p reads writes = inl (ap end_of (agrees.one a.0 text (Some s) stop a.1 p).1)
  complete_of files store store_now (ReadFault i) a failed text stop p reads writes = let h = failed i refl in absurd (reads (file_at files i) (one_of files i h.0) h.1)
  complete_of files store store_now WriteFault a failed text stop p reads writes = absurd (writes refl)
  complete_of files store store_now Memory a failed text stop p reads writes = inr refl

  due_of : (end : End) → IsAnswer Prints Refuses end → (refusal : Refusal) → Refuses refusal → IsRefusal Refuses end
  due_of Done a r h = absurd (agrees.apart a.0 None r a.1 h)
  due_of (Refused q) a r h = a
  due_of (Words f) a r h = a
  due_of (Stopped s) a r h = absurd (agrees.apart a.0 (Some s) r a.1 h)
  due_of (ReadFault i) a r h = tt
  due_of WriteFault a r h = absurd (agrees.apart a.0 a.1 r a.2 h)
  due_of Memory a r h = tt

quiet_of : {Prints : List ℕ → Option Stop → Type 0} (old new : List ℕ) (end : End) → Writes Prints old new end → ((text : List ℕ) (stop : Option Stop) → Prints text stop → ⊥) → new ≡ old
quiet_of old new Done w none = absurd (none w.0 None w.1)
quiet_of old new (Refused r) w none = w
quiet_of old new (Words f) w none = w
quiet_of old new (Stopped s) w none = absurd (none w.0 (Some s) w.1)
quiet_of old new (ReadFault i) w none = w
quiet_of old new WriteFault w none = absurd (none w.0 w.1 w.2)
quiet_of old new Memory w none = elim w [ inl e ↦ e | inr f ↦ absurd (none f.0 f.1 f.2) ]

faulty_of : {Prints : List ℕ → Option Stop → Type 0} {Refuses : Refusal → Type 0} (end : End) → IsAnswer Prints Refuses end →
    ((text : List ℕ) (stop : Option Stop) → Prints text stop → ⊥) → ((refusal : Refusal) → Refuses refusal → ⊥) → IsFault end
faulty_of Done a none never = none a.0 None a.1
faulty_of (Refused r) a none never = never r a
faulty_of (Words f) a none never = a
faulty_of (Stopped s) a none never = none a.0 (Some s) a.1
faulty_of (ReadFault i) a none never = tt
faulty_of WriteFault a none never = none a.0 a.1 a.2
faulty_of Memory a none never = tt

-- all of it follows from what the command does, where its files make it do one thing
pub holds : {files : List (List ℕ)} {Prints : List ℕ → Option Stop → Type 0} {Refuses : Refusal → Type 0} {Allows : End → Type 0}
    {store store_now : StoreState} {out out_now : SinkState} {end : End} → Agrees Prints Refuses →
    Acts files Prints Refuses Allows store store_now out out_now end → Holds files Prints Refuses Allows store store_now out out_now end
holds {files = files} {store = store} {store_now = store_now} {out = out} {out_now = out_now} {end = end} agrees acts = record {
  acts = acts;
  whole = λ told tells text stop p e. whole_of agrees out.bytes out_now.bytes end (acts.writes told tells) text stop p e;
  front = λ told tells text stop p. front_of agrees out.bytes out_now.bytes end (acts.writes told tells) text stop p;
  quiet = λ told tells none. quiet_of out.bytes out_now.bytes end (acts.writes told tells) none;
  due = λ told refusal h. due_of agrees end (acts.answers told) refusal h;
  faulty = λ told none never. faulty_of end (acts.answers told) none never;
  complete = λ told text stop p reads writes.
      complete_of agrees files store store_now end (acts.answers told) acts.failed text stop p reads (λ e. writes (acts.unwritten e));
}

writes_memory : {Prints : List ℕ → Option Stop → Type 0} (old new : List ℕ) (end : End) → Writes Prints old new end → Writes Prints old new Memory
writes_memory old new Done w = inr (w.0, None, w.1, grown_whole old new w.0 w.0 w.2 refl)
writes_memory old new (Refused r) w = inl w
writes_memory old new (Words f) w = inl w
writes_memory old new (Stopped s) w = inr (w.0, Some s, w.1, grown_whole old new w.0 w.0 w.2 refl)
writes_memory old new (ReadFault i) w = inl w
writes_memory old new WriteFault w = inr w
writes_memory old new Memory w = w

memory_no_fault : (input : ℕ) → Memory ≡ ReadFault input → ⊥
memory_no_fault input e = cc

memory_no_write : Memory ≡ WriteFault → ⊥
memory_no_write e = cc

-- and still holds where memory runs out behind it
pub Holds-memory : {files : List (List ℕ)} {Prints : List ℕ → Option Stop → Type 0} {Refuses : Refusal → Type 0} {Allows : End → Type 0}
    {store store_now : StoreState} {out out_now : SinkState} (end : End) → Allows Memory →
    Holds files Prints Refuses Allows store store_now out out_now end → Holds files Prints Refuses Allows store store_now out out_now Memory
Holds-memory {out = out} {out_now = out_now} end allowed h = record {
  acts = record {
    answers = λ _. tt;
    writes = λ told tells. writes_memory out.bytes out_now.bytes end (h.acts.writes told tells);
    early = λ tells none. absurd none;
    allowed = allowed;
    failed = λ input e. absurd (memory_no_fault input e);
    unwritten = λ e. absurd (memory_no_write e);
    reads = h.acts.reads;
    stays = h.acts.stays;
  };
  whole = λ told tells text stop p e. absurd (no_end Memory stop refl e);
  front = h.front;
  quiet = h.quiet;
  due = λ told refusal d. tt;
  faulty = λ told none never. tt;
  complete = λ told text stop p reads writes. inr refl;
}

-- so it holds of the end that is told
pub Holds-told : {files : List (List ℕ)} {Prints : List ℕ → Option Stop → Type 0} {Refuses : Refusal → Type 0} {Allows : End → Type 0}
    {store store_now : StoreState} {out out_now : SinkState} (end result : End) → Allows Memory → (result ≡ end) ⊎ (result ≡ Memory) →
    Holds files Prints Refuses Allows store store_now out out_now end → Holds files Prints Refuses Allows store store_now out out_now result
Holds-told {files = files} {Prints = Prints} {Refuses = Refuses} {Allows = Allows} {store = store} {store_now = store_now} {out = out} {out_now = out_now} end result allowed told h =
    let Of : End → Type 0 = λ e. Holds files Prints Refuses Allows store store_now out out_now e in
    elim told [ inl same ↦ subst Of (sym same) h | inr none ↦ subst Of (sym none) (Holds-memory end allowed h) ]
