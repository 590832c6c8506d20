-- Code entries that are judged one after another.
use Rattle.std.proofs.Common.{◌≡◌, ◌≢◌, ◌∙◌, inl, inr, ℕ, ◌+◌, List, [], ◌∷◌, ◌++◌, length}
use Rattle.std.proofs.Common.{Some, None, refl, sym, ap, subst, arith, ◌<◌}
use Rattle.std.specs.Prelude.{Result, Ok, Err, ⊤}
use Rattle.std.proofs.lemmas.List.{length-append}
use Rattle.wasm_syntax.specs.declared.module.Code.{Code}
use Rattle.wasm_syntax.specs.rules.Items.{AreItems, IsBytes}
use Rattle.wasm_syntax.specs.rules.Modules.{IsCode}
use Rattle.wasm_syntax.specs.laws.ReadingItems.{bytes_at, whole_at}
use Rattle.wasm_syntax.specs.laws.ReadingWithin.{code_within_at}
use Rattle.wasm_syntax.proofs.Grammar.Vectors.{Reads-bytes_at, whole_sound, whole_complete}
use Rattle.wasm_syntax.proofs.Grammar.Within.{Within, FitsCode, Reads-code_within_at}
use Rattle.wasm_decode.specs.declared.items.fault.ReadRefusal.{ReadRefusal}
use Rattle.wasm_decode.specs.declared.items.fault.ReadRefusal.TheVariants as refusal
use Rattle.wasm_decode.specs.declared.items.fault.ItemFault.{ItemFault}
use Rattle.wasm_decode.specs.declared.items.fault.ItemFault.TheVariants as item
use Rattle.wasm_decode.specs.declared.fault.DecodeFault.TheVariants.{Memory}
use Rattle.wasm_decode.specs.declared.code_faults.CodeFault.{CodeFault}
use Rattle.wasm_decode.specs.rules.Faults.{decode_fault}
use Rattle.wasm_decode.specs.rules.Parts.{AreCodeFaults, AreFaultsOf, IsCodeEntry}
use Rattle.wasm_decode.specs.Parts.{Collects, JudgesEntry, StopsFaults}
use Rattle.wasm_decode.proofs.PartLemmas.{none_some}

-- ---- one entry

pub is_code : (entry : List ℕ) (c : Code) → whole_at code_within_at entry ≡ Some c
    → IsCodeEntry entry
is_code entry c e =
    let is = whole_sound (Within IsCode FitsCode) code_within_at Reads-code_within_at entry c e in
    (c, is.0, is.1.0, is.1.1)

pub is_no_code : (entry : List ℕ) → whole_at code_within_at entry ≡ None → IsCodeEntry entry → ⊥
is_no_code entry e h =
    none_some h.0 (sym e ∙ whole_complete (Within IsCode FitsCode) code_within_at
    Reads-code_within_at entry h.0 (h.1, (h.2, h.3)))

isnt_memory : (r : ReadRefusal) → decode_fault (item.Refused r) ≢ Memory
isnt_memory (refusal.Malformed at) e = absurd cc
isnt_memory (refusal.Float at) e = absurd cc
isnt_memory (refusal.Limit passed) e = absurd cc

-- the fault of an entry is kept
pub keeps_fault : (number : ℕ) (entry : List ℕ) (old new : List CodeFault) (fault : CodeFault)
    (r : ReadRefusal) (done : ⊤) → whole_at code_within_at entry ≡ None
    → new ≡ old ++ fault ∷ [] → fault.number ≡ number → fault.why ≡ decode_fault (item.Refused r)
    → JudgesEntry number entry old new (Ok done)
keeps_fault number entry old new fault r done none is same why =
    inr (is_no_code entry none, fault, is, same, λ e. isnt_memory r (sym why ∙ e))

-- ---- entries that were read

-- one more item
items_more : (bytes : List ℕ) (xs : List (List ℕ)) (now x next : List ℕ)
    → AreItems IsBytes bytes xs now → IsBytes now x next
    → AreItems IsBytes bytes (xs ++ x ∷ []) next
items_more bytes [] now x next are is =
    (next, subst (λ (b : List ℕ). IsBytes b x next) are is, refl)
items_more bytes (y ∷ xs) now x next are is =
    (are.0, are.1, items_more are.0 xs now x next are.2 is)

-- one more entry, that is code
code_more : (first : ℕ) (entries : List (List ℕ)) (faults : List CodeFault) (entry : List ℕ)
    → IsCodeEntry entry → AreCodeFaults first entries faults
    → AreCodeFaults first (entries ++ entry ∷ []) faults
code_more first [] faults entry is none = inl (is, none)
code_more first (e ∷ entries) faults entry is (inl h) =
    inl (h.0, code_more (first + 1) entries faults entry is h.1)
code_more first (e ∷ entries) faults entry is (inr h) =
    inr (h.0, h.1, h.2, h.3, h.4, h.5, code_more (first + 1) entries h.2 entry is h.6)

-- one more entry, that is none
fault_more : (first : ℕ) (entries : List (List ℕ)) (faults : List CodeFault) (entry : List ℕ)
    (fault : CodeFault) → (IsCodeEntry entry → ⊥) → fault.number ≡ first + length entries
    → fault.why ≢ Memory → AreCodeFaults first entries faults
    → AreCodeFaults first (entries ++ entry ∷ []) (faults ++ fault ∷ [])
fault_more first [] faults entry fault none number why are =
    let same : faults ++ fault ∷ [] ≡ fault ∷ [] =
    ap (λ (xs : List CodeFault). xs ++ fault ∷ []) are in
    inr (none, fault, [], same, omega (arith, number), why, refl)
fault_more first (e ∷ entries) faults entry fault none number why (inl h) =
    inl (
      h.0,
      fault_more (first + 1) entries faults entry fault none (omega (arith, number)) why h.1,
    )
fault_more first (e ∷ entries) faults entry fault none number why (inr h) =
    inr (
      h.0,
      h.1,
      h.2 ++ fault ∷ [],
      ap (λ (xs : List CodeFault). xs ++ fault ∷ []) h.3,
      h.4,
      h.5,
      fault_more (first + 1) entries h.2 entry fault none (omega (arith, number)) why h.6,
    )

-- ---- a loop over entries

-- so many entries were read and judged
pub record SoFar (bytes : List ℕ) (number : ℕ) (now : List ℕ) (faults : List CodeFault)
    : Type 0 where
  pub entries : List (List ℕ)
  pub read : AreItems IsBytes bytes entries now
  pub counted : length entries ≡ number
  pub are : AreCodeFaults 0 entries faults

module _ (bytes : List ℕ) (number : ℕ) (now : List ℕ) (faults : List CodeFault) (so_far :
    SoFar bytes number now faults) where
  -- ---- one entry more

  module _ (entry next : List ℕ) (e : bytes_at now ≡ Some (entry, next)) where
    taken : AreItems IsBytes bytes (so_far.entries ++ entry ∷ []) next
    taken = items_more bytes so_far.entries now entry next so_far.read
        (Reads-bytes_at.sound now entry next e)

    counted_more : length (so_far.entries ++ entry ∷ []) ≡ number + 1
    counted_more = omega (arith, length-append so_far.entries (entry ∷ []), so_far.counted)

    judged_code : IsCodeEntry entry → SoFar bytes (number + 1) next faults
    judged_code is = record {
      entries = so_far.entries ++ entry ∷ [];
      read = taken;
      counted = counted_more;
      are = code_more 0 so_far.entries faults entry is so_far.are;
    }

    judged_fault : (fault : CodeFault) → (IsCodeEntry entry → ⊥)
        → fault.number ≡ number → fault.why ≢ Memory
        → SoFar bytes (number + 1) next (faults ++ fault ∷ [])
    judged_fault fault isnt is why =
        let place : fault.number ≡ 0 + length so_far.entries = omega (arith, is, so_far.counted) in
        record {
          entries = so_far.entries ++ entry ∷ [];
          read = taken;
          counted = counted_more;
          are = fault_more 0 so_far.entries faults entry fault isnt place why so_far.are;
        }

    pub judged : (after : List CodeFault) (done : ⊤)
        → JudgesEntry number entry faults after (Ok done) → SoFar bytes (number + 1) next after
    judged after done (inl h) =
        subst (λ (fs : List CodeFault). SoFar bytes (number + 1) next fs) (sym h.1)
        (judged_code h.0)
    judged after done (inr h) =
        subst (λ (fs : List CodeFault). SoFar bytes (number + 1) next fs) (sym h.2)
        (judged_fault h.1 h.0 h.3 h.4)

  -- ---- the end

  ends_so : (count : ℕ) (answer : Result ⊤ ItemFault)
      → StopsFaults count so_far.entries now answer → Collects count bytes faults answer
  ends_so count answer stops = record {
    entries = so_far.entries;
    rest = now;
    read = so_far.read;
    are = so_far.are;
    stops = stops;
  }

  -- want of memory
  pub ends_early : (count : ℕ) (after : List CodeFault) (e : ItemFault)
      → (e ≡ item.Memory) × (after ≡ faults) → Collects count bytes after (Err e)
  ends_early count after e h =
      subst (λ (x : ItemFault). Collects count bytes after (Err x)) (sym h.0)
      (subst (λ (fs : List CodeFault). Collects count bytes fs (Err item.Memory)) (sym h.1)
      (ends_so count (Err item.Memory) tt))

  -- an entry whose size can't be read
  pub ends_at_entry : (count : ℕ) (r : ReadRefusal) → number < count → bytes_at now ≡ None
      → Collects count bytes faults (Err (item.Refused r))
  ends_at_entry count r more e =
      let few : length so_far.entries < count = omega (arith, so_far.counted, more) in
      ends_so count (Err (item.Refused r)) (inr (
        few,
        λ entry after is. none_some (entry, after)
            (sym e ∙ Reads-bytes_at.complete now entry after is),
      ))

-- ---- what is answered

module _ (count : ℕ) (bytes : List ℕ) (faults : List CodeFault) where
  pub all_faults : (done : ⊤) → Collects count bytes faults (Ok done)
      → AreFaultsOf count bytes (record { faults = faults; end = None })
  all_faults done h = record {
    entries = h.entries;
    rest = h.rest;
    read = h.read;
    faults = h.are;
    end = h.stops;
  }

  pub some_faults : (e : ItemFault) → Collects count bytes faults (Err e)
      → AreFaultsOf count bytes (record { faults = faults; end = Some (decode_fault e) })
  some_faults item.Memory h = record {
    entries = h.entries;
    rest = h.rest;
    read = h.read;
    faults = h.are;
    end = λ other. absurd (other refl);
  }
  some_faults (item.Refused r) h = record {
    entries = h.entries;
    rest = h.rest;
    read = h.read;
    faults = h.are;
    end = λ other. h.stops;
  }
