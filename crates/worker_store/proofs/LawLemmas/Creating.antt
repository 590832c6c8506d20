-- What the steps of a creation leave.
use Rattle.std.proofs.Common.{◌≡◌, ℕ, zero, suc, ◌+◌, ◌-◌, ◌<◌, ◌≤◌, List, [], ◌++◌, length}
use Rattle.std.proofs.Common.{take, drop, replicate, get_or, refl, sym, ap, ◌∙◌, subst, inl, inr}
use Rattle.std.proofs.Common.{⊎_elim, arith}
use Rattle.std.proofs.lemmas.Bool.{cases_lt}
use Rattle.std.proofs.lemmas.List.{get_or-take, get_or-drop, get_or-replicate, drop-replicate}
use Rattle.std.proofs.lemmas.List.{length-take, take_all, append-nil, length-append}
use Rattle.std.proofs.Math.Seq.{get_or-append_right}
use Rattle.sha2.specs.Sha256.{sha256}
use Rattle.sha2.proofs.Facts256.{length-sha256}
use Rattle.wasi_abi.specs.rules.Layouts.{padding}
use Rattle.disk_layout.specs.declared.superblock.TheConstants.{SUPER_END_MARK}
use Rattle.wasm_syntax.specs.declared.module.Module.{Module}
use Rattle.wasi_abi.specs.rules.Configs.{Settings}
use Rattle.state_image.specs.rules.ProcessImage.{process_image}
use Rattle.sector_disk.specs.rules.DiskImage.{DiskImage, sector_at, front_over}
use Rattle.sector_disk.proofs.ExampleLemmas.{differ}
use Rattle.disk_layout.specs.rules.Places.{Geometry, geometry_of, config_bytes, head_place}
use Rattle.disk_layout.specs.rules.Places.{area_place, journal_place, rounded_up}
use Rattle.disk_layout.specs.rules.Sectors.{IsMarked, IsComplete, super_bytes, stamp_of}
use Rattle.disk_layout.specs.rules.Sectors.{shown_generation}
use Rattle.wasi_abi.specs.rules.Versions.{version_number}
use Rattle.disk_layout.proofs.StampLemmas.{shows_none}
use Rattle.snapshot.specs.rules.Heads.{heads_to, IsReadyForHead}
use Rattle.snapshot.proofs.AreaLemmas.{bytes_same, heads_move}
use Rattle.worker_store.specs.rules.Savepoints.{Savepoint, places, BeginsAtPoint}
use Rattle.worker_store.specs.laws.Savepoints.{StandsBySaved}
use Rattle.worker_store.specs.laws.Creations.{zero_sector, NoSuperIsBlank, ZerosKeepBlank}
use Rattle.worker_store.specs.laws.Creations.{ZerosTakeSuper, RunsKeepNoSuper, ZeroRunsAwaitHead}
use Rattle.worker_store.specs.laws.Creations.{AwaitsHead, ZerosAwaitHead, FillingAwaitsHead}
use Rattle.worker_store.specs.laws.Creations.{FirstCommitKeepsNoSuper, AwaitsSuper}
use Rattle.worker_store.specs.laws.Creations.{FirstCommitAwaitsSuper, super_of_point, SuperBegins}
use Rattle.worker_store.specs.laws.Creations.{WholeSuperBegins, FreshStandsForNone}
use Rattle.worker_store.proofs.LawLemmas.Sectors.{SameSector, contents_stay, process_image_stays}
use Rattle.worker_store.proofs.LawLemmas.Sectors.{contents_below, some_below}
use Rattle.worker_store.proofs.LawLemmas.Points.{point_stands_alone}
use Rattle.worker_store.proofs.LawLemmas.Replacing.{super_outside, contents_outside}
use Rattle.worker_store.proofs.LawLemmas.Replacing.{journal_outside, super_no_head, later_no_head}
use Rattle.worker_store.proofs.LawLemmas.Replacing.{journal_from, new_point_begins}

-- ---- without a super

-- a sector that doesn't begin with the mark's first letter, or doesn't end with the last one
not_marked : (sector : List ℕ) → get_or (take 8 sector) 0 0 ≡ 0 → IsMarked sector → ⊥
not_marked sector first marked =
    differ 0 68 (sym first ∙ ap (λ l. get_or l 0 0) marked.first) (omega arith)

end_not_marked : (sector : List ℕ) → get_or (take 8 (drop 504 sector)) 7 0 ≡ 0
    → IsMarked sector → ⊥
end_not_marked sector last marked =
    differ 0 68 (sym last ∙ ap (λ l. get_or l 7 0) marked.last) (omega arith)

pub no_super_is_blank : NoSuperIsBlank
no_super_is_blank disk none marks =
    not_marked (sector_at disk 0) (ap (λ l. get_or (take 8 l) 0 0) none) marks

zeros_keep_unmarked : (front : ℕ) (old new : List ℕ) → (IsMarked old → ⊥)
    → new ≡ front_over front zero_sector old → IsMarked new → ⊥
zeros_keep_unmarked zero old new blank e marks = blank (subst IsMarked e marks)
zeros_keep_unmarked (suc front) old new blank e marks =
    not_marked new (ap (λ l. get_or (take 8 l) 0 0) e) marks

pub zeros_keep_blank : ZerosKeepBlank
zeros_keep_blank old new blank run =
    let torn = run.each 0 (omega arith) in
    zeros_keep_unmarked torn.0 (sector_at old 0) (sector_at new 0) blank torn.2

pub zeros_take_super : ZerosTakeSuper
zeros_take_super old new run = run.each 0 (omega arith)

pub runs_keep_no_super : RunsKeepNoSuper
runs_keep_no_super at n sectors old new from none run =
    let same : sector_at new 0 ≡ sector_at old 0 = run.below 0 (omega (arith, from)) in
    same ∙ none

-- ---- before the first head

zeros_not_complete : (area : ℕ) (sector : List ℕ) → sector ≡ zero_sector → IsComplete area sector
    → ⊥
zeros_not_complete area sector e complete =
    differ 0 68
    (sym (ap (λ l. get_or (take 8 l) 0 0) e) ∙ ap (λ l. get_or l 0 0) complete.mark) (omega arith)

zeros_show_none : (place : ℕ) (sector : List ℕ) → 1 ≤ place → sector ≡ zero_sector
    → shown_generation place sector ≡ 0
zeros_show_none place sector from e =
    let found : (stamp_of zero_sector).place ≡ 0 = refl in
    ap (λ s. shown_generation place s) e
    ∙ shows_none place (stamp_of zero_sector).place (stamp_of zero_sector).generation
    (λ (is : (stamp_of zero_sector).place ≡ place). none_there _ place found is from)
  where
    none_there : (found place : ℕ) → found ≡ 0 → found ≡ place → 1 ≤ place → ⊥
    none_there found place e is from = omega (arith, e, is, from)

no_heads : (disk : DiskImage) → shown_generation 1 (sector_at disk 1) ≡ 0
    → shown_generation 1 (sector_at disk 2) ≡ 0 → heads_to disk ≡ 0
no_heads disk first second = omega (arith, first, second)

pub zeros_await_head : ZerosAwaitHead
zeros_await_head config wasm disk none contents zeros = record {
  no_super = none;
  contents = contents;
  no_head = record {
    first = zeros_not_complete 0 (sector_at disk 1) zeros.first_head;
    second = zeros_not_complete 1 (sector_at disk 2) zeros.second_head;
  };
  heads = no_heads disk (zeros_show_none 1 (sector_at disk 1) (omega arith) zeros.first_head)
      (zeros_show_none 1 (sector_at disk 2) (omega arith) zeros.second_head);
  journal = λ k below. none_below _ (zeros_show_none (1 + k) _ (omega arith) (zeros.journal k
      below));
}
  where
    none_below : (n : ℕ) → n ≡ 0 → n < 1
    none_below n e = omega (arith, e)

zeros_at : (n k : ℕ) → k < n → sector_at (replicate n zero_sector) k ≡ zero_sector
zeros_at n k below = get_or-replicate n k zero_sector [] below

pub zero_runs_await_head : ZeroRunsAwaitHead
zero_runs_await_head config wasm first second third none contents heads journal =
    let geometry : Geometry = geometry_of config (length wasm) in
    let behind : (k : ℕ) → 3 ≤ k → SameSector first second k = λ k from. heads.above k from in
    let before : (k : ℕ) → k < journal_place geometry → SameSector second third k =
    λ k below. journal.below k below in
    zeros_await_head config wasm third
    (before 0 (some_below geometry 0 (omega arith)) ∙ heads.below 0 (omega arith) ∙ none)
    (contents_stay second third geometry.module_sectors (config_bytes config ++ wasm)
    (λ k from below. before k (contents_below geometry k below))
    (contents_stay first second geometry.module_sectors (config_bytes config ++ wasm)
    (λ k from below. behind k from) contents))
    (record {
      first_head = before 1 (some_below geometry 1 (omega arith)) ∙ heads.each 0 (omega arith);
      second_head = before 2 (some_below geometry 2 (omega arith)) ∙ heads.each 1 (omega arith);
      journal = λ k below. journal.each k below ∙ zeros_at geometry.journal_sectors k below;
    })

ready_for_first : (config : Settings) (wasm : List ℕ) (disk : DiskImage) (g : ℕ) → g ≡ 1
    → AwaitsHead config wasm disk → IsReadyForHead g disk
ready_for_first config wasm disk g first awaits = record {
  before = inl (first, awaits.no_head);
  none_later = none_below _ g awaits.heads first;
}
  where
    none_below : (n g : ℕ) → n ≡ 0 → g ≡ 1 → n < g
    none_below n g e first = omega (arith, e, first)

pub filling_awaits_head : FillingAwaitsHead
filling_awaits_head config wasm old new awaits fills =
    let geometry : Geometry = geometry_of config (length wasm) in
    let keeps = fills.newest (ready_for_first config wasm old 1 refl awaits) in
    record {
      no_super = fills.others 0 (super_outside geometry 1) ∙ awaits.no_super;
      contents = contents_stay old new geometry.module_sectors (config_bytes config ++ wasm)
          (λ k from below. fills.others k (contents_outside geometry 1 k below))
          awaits.contents;
      no_head = keeps.none awaits.no_head;
      heads = keeps.heads ∙ awaits.heads;
      journal = λ k below.
          subst (λ s. shown_generation (1 + k) s < 1)
          (sym (fills.others (journal_place geometry + k) (journal_outside geometry 1 k)))
          (awaits.journal k below);
    }

pub first_commit_keeps_no_super : FirstCommitKeepsNoSuper
first_commit_keeps_no_super geometry version bytes old new none commits =
    commits.others 0 (super_outside geometry 1) (super_no_head 1) ∙ none

-- ---- behind the first head

pub first_commit_awaits_super : FirstCommitAwaitsSuper
first_commit_awaits_super m config point old new first numbers awaits replaces =
    let geometry : Geometry = places point in
    let g : ℕ = point.generation in
    record {
      no_super = replaces.others 0 (super_outside geometry g) (super_no_head g)
          ∙ awaits.no_super;
      contents = contents_stay old new geometry.module_sectors
          (config_bytes config ++ point.wasm)
          (λ k from below. replaces.others k (contents_outside geometry g k below)
          (later_no_head g k from)) awaits.contents;
      new = replaces.newest (ready_for_first config point.wasm old g first awaits);
      journal = λ k below.
          let there = awaits.journal k below in
          let same = replaces.others (journal_place geometry + k) (journal_outside geometry g k)
          (later_no_head g (journal_place geometry + k) (journal_from geometry k)) in
          subst (λ h. shown_generation (1 + k) (sector_at new (journal_place geometry + k)) < h)
          (sym first) (subst (λ s. shown_generation (1 + k) s < 1) (sym same) there);
      numbers = numbers;
    }

-- ---- the super

-- its last byte is left out
torn_ends : (front : ℕ) (super : List ℕ) → front < 512
    → get_or (take 8 (drop 504 (front_over front super zero_sector))) 7 0 ≡ 0
torn_ends front super short =
    let torn : List ℕ = front_over front super zero_sector in
    let zeros : List ℕ = drop front zero_sector in
    let long : length (take front super) ≤ 511 = most front super short in
    get_or-take 8 (drop 504 torn) 7 0 (omega arith) ∙ get_or-drop 504 torn 7 0
    ∙ get_or-append_right (take front super) zeros 511 0 long
    ∙ ap (λ l. get_or l (511 - length (take front super)) 0) (drop-replicate front 512 0)
    ∙ all_zero (512 - front) (511 - length (take front super))
  where
    all_zero : (n i : ℕ) → get_or (padding n) i 0 ≡ 0
    all_zero zero i = refl
    all_zero (suc n) zero = refl
    all_zero (suc n) (suc i) = all_zero n i

    most : (front : ℕ) (super : List ℕ) → front < 512 → length (take front super) ≤ 511
    most front super short = omega (arith, length-take front super, short)

super_is_long : (geometry : Geometry) (digest : List ℕ) → length digest ≡ 32
    → length (super_bytes geometry digest) ≡ 512
super_is_long geometry digest size =
    let behind : length (digest ++ (padding 440 ++ SUPER_END_MARK)) ≡ 480 =
    length-append digest (padding 440 ++ SUPER_END_MARK) ∙ ap (λ n. n + 448) size in
    omega (arith, behind)

-- all of it
whole_super : (front : ℕ) (super : List ℕ) → length super ≡ 512 → 512 ≤ front → front ≤ 512
    → front_over front super zero_sector ≡ super
whole_super front super size from within =
    let e : front ≡ 512 = omega (arith, from, within) in
    ap (λ n. take n super ++ drop n zero_sector) e ∙ append-nil (take 512 super)
    ∙ take_all 512 super (omega (arith, size))

-- with the super before what is awaits
awaited_begins : (m : Module) (config : Settings) (point : Savepoint m config) (old new : DiskImage)
    → AwaitsSuper point old → sector_at new 0 ≡ super_of_point point
    → ((k : ℕ) → 1 ≤ k → SameSector old new k) → BeginsAtPoint point new
awaited_begins m config point old new awaits super same =
    let geometry : Geometry = places point in
    let g : ℕ = point.generation in
    let bytes : List ℕ = process_image point.saved in
    let area : ℕ = area_place geometry g in
    let heads : (n : ℕ) → SameSector old new (head_place n) =
    λ n. same (head_place n) (omega arith) in
    let had = awaits.new in
    new_point_begins m config point new awaits.numbers
    (record {
      super = super;
      contents = contents_stay old new geometry.module_sectors
          (config_bytes config ++ point.wasm) (λ k from below. same k (omega (arith, from)))
          awaits.contents;
    })
    (record {
      holds = process_image_stays geometry old new g (version_number
          point.saved.version) bytes heads (λ k from below. same k
          (in_area geometry g k from)) had.holds;
      zeros = bytes_same old new area (rounded_up (length bytes))
          (λ k from below. same k (in_area geometry g k from)) ∙ had.zeros;
      heads = heads_move old new heads ∙ had.heads;
    })
    (λ k below. subst (λ s. shown_generation (1 + k) s < g)
    (sym (same (journal_place geometry + k) (in_journal geometry k))) (awaits.journal k below))
  where
    in_area : (geometry : Geometry) (g k : ℕ) → area_place geometry g ≤ k → 1 ≤ k
    in_area geometry g k from = omega (arith, from)

    in_journal : (geometry : Geometry) (k : ℕ) → 1 ≤ journal_place geometry + k
    in_journal geometry k = omega arith

pub super_begins : SuperBegins
super_begins m config point old new awaits run =
    let super : List ℕ = super_of_point point in
    let torn = run.each 0 (omega arith) in
    let is : sector_at new 0 ≡ front_over torn.0 super zero_sector =
    torn.2 ∙ ap (λ l. front_over torn.0 super l) awaits.no_super in
    let size : length super ≡ 512 = super_is_long (places point)
    (sha256 (config_bytes config ++ point.wasm))
    (length-sha256 (config_bytes config ++ point.wasm)) in
    ⊎_elim
    (λ (short : torn.0 < 512).
    inl (end_not_marked (sector_at new 0)
    (ap (λ l. get_or (take 8 (drop 504 l)) 7 0) is ∙ torn_ends torn.0 super short)))
    (λ (all : 512 ≤ torn.0).
    inr (awaited_begins m config point old new awaits
    (is ∙ whole_super torn.0 super size all torn.1)
    (λ k from. run.above k from)))
    (cases_lt torn.0 512)

pub whole_super_begins : WholeSuperBegins
whole_super_begins m config point old new awaits run =
    awaited_begins m config point old new awaits (run.each 0 (omega arith))
    (λ k from. run.above k from)

-- ---- a fresh process

pub fresh_stands_for_none : FreshStandsForNone
fresh_stands_for_none m config point disk none start begins =
    let stands = point_stands_alone m config point disk begins.at in
    subst (λ n. StandsBySaved point [] n disk) start
    (subst (λ l. StandsBySaved point l point.steps disk) none stands)
