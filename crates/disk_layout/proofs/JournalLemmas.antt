-- The sectors of the journal, whole and torn.
use Rattle.std.proofs.Common.{◌≡◌, ◌⊎◌, ℕ, ◌+◌, ◌-◌, ◌^◌, ◌<◌, ◌≤◌, Bool, true, false, ◌&&◌, ltb}
use Rattle.std.proofs.Common.{leb, eqb, List, ◌++◌, length, take, drop, replicate, refl, sym, ap}
use Rattle.std.proofs.Common.{◌∙◌, subst, inl, inr, ⊎_elim, arith, length-append, append_assoc}
use Rattle.std.proofs.lemmas.Bool.{ltb-true, lt-ltb, leb-true, le-leb, eq-eqb, ne_eqb, eqb-true}
use Rattle.std.proofs.lemmas.List.{take_at, drop_at, drop-drop, take-take, drop-take}
use Rattle.std.proofs.lemmas.List.{take-replicate, drop-replicate, length-replicate}
use Rattle.std.proofs.Math.Seq.{take-append-add}
use Rattle.std.specs.List.{AllByRecursion}
use Rattle.guest_memory.specs.rules.Bytes.{IsByte, number_of, part, with_part}
use Rattle.guest_memory.proofs.ByteLemmas.{number_of-bytes_of}
use Rattle.wasi_abi.specs.rules.Layouts.{u16_bytes, u64_bytes, padding}
use Rattle.sector_disk.specs.rules.DiskImage.{front_over}
use Rattle.disk_layout.specs.rules.Sectors.{stamp_of, stamp_bytes, shown_generation}
use Rattle.disk_layout.specs.rules.Journal.{journal_sector, used_length, is_of, payload_of_sector}
use Rattle.disk_layout.specs.laws.Laws.{IsTornStamp}
use Rattle.disk_layout.proofs.FieldLemmas.{stamp_laid, stamp_again}
use Rattle.disk_layout.proofs.StampLemmas.{shows_earlier, all_append, shows_there}
use Rattle.guest_memory.proofs.Lists.{bytes_are as bytes_of-bytes}

-- ---- whole sectors

-- what is before the stamp
abbrev pub before_stamp : List ℕ → List ℕ
before_stamp payload = u16_bytes (length payload) ++ (payload ++ padding (494 - length payload))

pub length-before_stamp : (payload : List ℕ) → length payload ≤ 494
    → length (before_stamp payload) ≡ 496
length-before_stamp payload le =
    let zeros : length (padding (494 - length payload)) ≡ 494 - length payload =
    length-replicate {A = ℕ} (494 - length payload) 0 in
    let both = length-append payload (padding (494 - length payload)) in
    omega (arith, zeros, both)

pub sector_is : (g place : ℕ) (payload : List ℕ)
    → journal_sector g place payload ≡ before_stamp payload ++ stamp_bytes (record {
      generation = g;
      place = place;
    })
sector_is g place payload =
    let s = stamp_bytes (record { generation = g; place = place }) in
    ap (λ l. u16_bytes (length payload)
    ++ l) (sym (append_assoc payload (padding (494 - length payload)) s))

pub length-journal_sector : (g place : ℕ) (payload : List ℕ) → length payload ≤ 494
    → length (journal_sector g place payload) ≡ 512
length-journal_sector g place payload le =
    let e = ap length (sector_is g place payload)
    ∙ length-append (before_stamp payload) (stamp_bytes (record {
      generation = g;
      place = place;
    })) in
    omega (arith, e, length-before_stamp payload le)

pub sector_laid : (g place : ℕ) (payload a b c d : List ℕ) → length payload ≤ 494
    → a ≡ u16_bytes (length payload) ++ replicate 510 0 → b ≡ with_part a 2 payload
    → c ≡ with_part b 496 (u64_bytes g) → d ≡ with_part c 504 (u64_bytes place)
    → d ≡ journal_sector g place payload
sector_laid g place payload a b c d le a-is b-is c-is d-is =
    let behind : drop (2 + length payload) (u16_bytes (length payload) ++ replicate 510 0)
    ≡ replicate (510 - length payload) 0 = sym
    (drop-drop (length payload) 2 (u16_bytes (length payload) ++ replicate 510 0))
    ∙ drop-replicate (length payload) 510 0 in
    let b-as : b ≡ u16_bytes (length payload) ++ (payload ++ replicate (510 - length payload) 0) =
    b-is ∙ ap (λ l. with_part l 2 payload) a-is
    ∙ ap (λ l. u16_bytes (length payload) ++ (payload ++ l)) behind in
    let full : length b ≡ 512 =
    ap length b-as ∙ (let zeros = length-replicate {A = ℕ} (510 - length payload) 0 in
    let both = length-append payload (replicate (510 - length payload) 0) in
    omega (arith, zeros, both)) in
    let front : take 494 (payload ++ replicate (510 - length payload) 0) ≡ payload
    ++ padding (494 - length payload) =
    ap (λ n. take n (payload ++ replicate (510 - length payload) 0)) (let e : 494
    ≡ length payload + (494 - length payload) = omega arith in e)
    ∙ take-append-add payload (replicate (510 - length payload) 0) (494 - length payload)
    ∙ ap (λ l. payload
    ++ l) (take-replicate (494 - length payload) (510 - length payload) 0 (omega arith)) in
    stamp_laid g place b c d full c-is d-is
    ∙ ap (λ l. take 496 l ++ (u64_bytes g ++ u64_bytes place)) b-as
    ∙ ap (λ l. (u16_bytes (length payload) ++ l) ++ (u64_bytes g ++ u64_bytes place)) front
    ∙ sym (sector_is g place payload)

-- ---- what a sector shows

pub record IsUsedSector (g place : ℕ) (sector : List ℕ) : Type 0 where
  pub shows : shown_generation place sector ≡ g
  pub some : 0 < used_length sector
  pub most : used_length sector ≤ 494

pub is_of_true : (g place : ℕ) (sector : List ℕ) → IsUsedSector g place sector
    → is_of g place sector ≡ true
is_of_true g place sector is =
    let one = eq-eqb (shown_generation place sector) g is.shows in
    let two = lt-ltb 0 (used_length sector) is.some in
    let three = le-leb (used_length sector) 494 is.most in
    ap (λ (b : Bool). b && ltb 0 (used_length sector) && leb (used_length sector) 494) one
    ∙ ap (λ (b : Bool). true && b && leb (used_length sector) 494) two ∙ three

pub is_of_other : (g place : ℕ) (sector : List ℕ) → (shown_generation place sector ≡ g → ⊥)
    → is_of g place sector ≡ false
is_of_other g place sector ne =
    ap (λ (b : Bool). b && ltb 0 (used_length sector)
    && leb (used_length sector) 494) (ne_eqb (shown_generation place sector) g ne)

pub is_of_means : (g place : ℕ) (sector : List ℕ) → is_of g place sector ≡ true
    → IsUsedSector g place sector
is_of_means g place sector e =
    let outer = both_parts (eqb (shown_generation place sector) g
    && ltb 0 (used_length sector)) (leb (used_length sector) 494) e in
    let inner = both_parts (eqb (shown_generation place sector) g)
    (ltb 0 (used_length sector)) outer.0 in
    record {
      shows = eqb-true (shown_generation place sector) g inner.0;
      some = ltb-true 0 (used_length sector) inner.1;
      most = leb-true (used_length sector) 494 outer.1;
    }
  where
    both_parts : (a b : Bool) → (a && b) ≡ true → (a ≡ true) × (b ≡ true)
    both_parts true b e = (refl, e)
    both_parts false b e = absurd (cc)

-- the used length and the payload are before the stamp
pub same_used : (s t : List ℕ) → take 496 s ≡ take 496 t → used_length s ≡ used_length t
same_used s t e = ap (λ l. number_of l) (sym (take-take 2 496 s (omega arith))
    ∙ ap (λ l. take 2 l) e ∙ take-take 2 496 t (omega arith))

pub same_payload : (n : ℕ) (s t : List ℕ) → n ≤ 494 → take 496 s ≡ take 496 t
    → part s 2 n ≡ part t 2 n
same_payload n s t le e = sym (within n s le) ∙ ap (λ l. part l 2 n) e ∙ within n t le
  where
    within : (n : ℕ) (s : List ℕ) → n ≤ 494 → part (take 496 s) 2 n ≡ part s 2 n
    within n s le = ap (λ l. take n l) (drop-take 2 494 s) ∙ take-take n 494 (drop 2 s) le

pub same_payload_of : (s t : List ℕ) → take 496 s ≡ take 496 t → used_length t ≤ 494
    → payload_of_sector s ≡ payload_of_sector t
same_payload_of s t e le = ap (λ n. part s 2 n) (same_used s t e)
    ∙ same_payload (used_length t) s t le e

pub used-journal_sector : (g place : ℕ) (payload : List ℕ) → length payload ≤ 494
    → used_length (journal_sector g place payload) ≡ length payload
used-journal_sector g place payload le = number_of-bytes_of 2 (length payload) (omega arith)

pub payload-journal_sector : (g place : ℕ) (payload : List ℕ) → length payload ≤ 494
    → payload_of_sector (journal_sector g place payload) ≡ payload
payload-journal_sector g place payload le =
    ap (λ n. part (journal_sector g place payload) 2 n) (used-journal_sector g place payload le)
    ∙ take_at payload (padding (494 - length payload) ++ stamp_bytes (record {
      generation = g;
      place = place;
    })) (length payload) refl

-- ---- a new sector of a later generation

pub record IsNewSector (g place : ℕ) (payload : List ℕ) : Type 0 where
  pub some : 0 < length payload
  pub most : length payload ≤ 494
  pub generation : g < 2 ^ 64
  pub fits : place < 2 ^ 64

pub new_stamp : (g place : ℕ) (payload : List ℕ) → IsNewSector g place payload
    → stamp_of (journal_sector g place payload) ≡ record { generation = g; place = place }
new_stamp g place payload is =
    ap (λ l. stamp_of l) (sector_is g place payload)
    ∙ stamp_again (record {
      generation = g;
      place = place;
    }) (before_stamp payload) (length-before_stamp payload is.most) is.generation
    is.fits

pub new_shows : (g place : ℕ) (payload : List ℕ) → IsNewSector g place payload
    → shown_generation place (journal_sector g place payload) ≡ g
new_shows g place payload is =
    let s = new_stamp g place payload is in
    let found = ap (λ x. x.place) s in
    shows_there place (stamp_of (journal_sector g place payload)).place
    (stamp_of (journal_sector g place payload)).generation found ∙ ap (λ x. x.generation) s

pub new_is_of : (g place : ℕ) (payload : List ℕ) → IsNewSector g place payload
    → IsUsedSector g place (journal_sector g place payload)
new_is_of g place payload is =
    let used = used-journal_sector g place payload is.most in
    let some = is.some in
    let most = is.most in
    record {
      shows = new_shows g place payload is;
      some = omega (arith, used);
      most = omega (arith, used);
    }

-- torn over one that shows an earlier generation: it shows an earlier one, or it is of the new one
-- with the same payload
pub torn_sector : (g place front : ℕ) (payload old torn : List ℕ) → IsNewSector g place payload
    → length old ≡ 512 → shown_generation place old < g → front ≤ 512
    → torn ≡ front_over front (journal_sector g place payload) old
    → (shown_generation place torn < g)
    ⊎ (IsUsedSector g place torn × (payload_of_sector torn ≡ payload))
torn_sector g place front payload old torn is full less within e =
    let s = new_stamp g place payload is in
    let new = journal_sector g place payload in
    let stamp : IsTornStamp place g old new front = record {
      full = full;
      new_full = length-journal_sector g place payload is.most;
      bytes = subst (λ (l : List ℕ). AllByRecursion IsByte l)
          (sym (ap (λ l. drop 496 l) (sector_is g place payload)
          ∙ drop_at (before_stamp payload) (stamp_bytes (record {
            generation = g;
            place = place;
          })) 496 (length-before_stamp payload is.most)))
          (all_append (u64_bytes g) (u64_bytes place) (bytes_of-bytes 8 g)
          (bytes_of-bytes 8 place));
      stamped = ap (λ x. x.place) s;
      generation = ap (λ x. x.generation) s;
      later = less;
      within = within;
    } in
    subst (λ (t : List ℕ). (shown_generation place t < g)
    ⊎ (IsUsedSector g place t × (payload_of_sector t ≡ payload))) (sym e)
    (⊎_elim
    (λ earlier. inl earlier)
    (λ whole.
    let used = same_used (front_over front new old) new whole.1
    ∙ used-journal_sector g place payload is.most in
    let some = is.some in
    let most = is.most in
    inr (
      record { shows = whole.0; some = omega (arith, used); most = omega (arith, used) },
      same_payload_of (front_over front new old) new whole.1
          (let u = used-journal_sector g place payload is.most in omega (arith, u))
          ∙ payload-journal_sector g place payload is.most,
    ))
    (shows_earlier place g old new front stamp))
