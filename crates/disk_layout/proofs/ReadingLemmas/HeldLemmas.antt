-- What a disk holds, and the one answer that is right of it.
use Rattle.std.proofs.Common.{◌≡◌, ◌⊎◌, ℕ, ◌+◌, ◌<◌, ◌≤◌, List, ◌++◌, length, take, drop, Result}
use Rattle.std.proofs.Common.{Ok, Err, refl, sym, ap, ◌∙◌, subst, inl, inr, ⊎_elim, arith}
use Rattle.std.proofs.Common.{length-append}
use Rattle.std.proofs.Math.Seq.{take-append_seam, drop-append_seam}
use Rattle.sha2.specs.Sha256.{sha256}
use Rattle.sector_disk.specs.rules.DiskImage.{DiskImage, sector_at}
use Rattle.wasi_abi.specs.rules.Configs.{Settings}
use Rattle.disk_layout.specs.declared.fault.LayoutFault.{LayoutFault}
use Rattle.disk_layout.specs.declared.fault.LayoutFault.TheVariants.{NotAWorker, Version, TooSmall}
use Rattle.disk_layout.specs.declared.fault.LayoutFault.TheVariants.{Damaged, Memory, Disk}
use Rattle.disk_layout.specs.declared.damage.Damage.{Damage}
use Rattle.disk_layout.specs.declared.damage.Damage.TheVariants as damage
use Rattle.disk_layout.specs.declared.stored.Stored.{Stored}
use Rattle.disk_layout.specs.rules.Places.{Geometry, geometry_of, config_bytes, total_sectors}
use Rattle.disk_layout.specs.rules.Sectors.{Super, bytes_from, SectorsHold, super_of}
use Rattle.disk_layout.specs.rules.Stored.{IsKnown, IsConsistent, Checks, IsStored, HasOtherDigest}
use Rattle.disk_layout.specs.rules.Stored.{FindsStored}
use Rattle.disk_layout.specs.declared.reading.contents.Contents.{Contents}
use Rattle.disk_layout.specs.rules.Held.{IsHeld, ReachesContents, GivesContents, IsStoredOf}
use Rattle.disk_layout.specs.rules.Held.{contents_bytes, HasContents, HasSettings, HasAreasOf}
use Rattle.disk_layout.specs.rules.Held.{HasJournalOf, HasDamage, SpellsSettings}
use Rattle.disk_layout.specs.Held.{Agrees}
use Rattle.disk_layout.specs.laws.Reading.{OneAnswer}
use Rattle.disk_layout.proofs.ReadingLemmas.ConfigLemmas.{config_cut}
use Rattle.disk_layout.specs.declared.geometry.TheConstants.{MODULE_PLACE}

-- the bytes of configuration and module
abbrev pub bytes_in : Contents → List ℕ
bytes_in c = config_bytes c.config ++ c.wasm

-- what the super says where contents are held
pub record Says (image : DiskImage) (c : Contents) : Type 0 where
  pub geometry : (super_of (sector_at image 0)).geometry ≡ geometry_of c.config (length c.wasm)
  pub digest : (super_of (sector_at image 0)).digest ≡ sha256 (bytes_in c)
  pub consistent : IsConsistent (super_of (sector_at image 0)).geometry
  pub count : length (bytes_in c) ≡ (super_of (sector_at image 0)).geometry.config
      + (super_of (sector_at image 0)).geometry.wasm
  pub contents : take ((super_of (sector_at image 0)).geometry.config
      + (super_of (sector_at image 0)).geometry.wasm)
      (bytes_from image MODULE_PLACE (super_of (sector_at image 0)).geometry.module_sectors)
      ≡ bytes_in c

pub held_says : (image : DiskImage) (c : Contents) → IsHeld image c → Says image c
held_says image c held =
    let s = super_of (sector_at image 0) in
    let own : s.geometry ≡ c.geometry = ap (λ (x : Super). x.geometry) held.fields in
    let geometry : s.geometry ≡ geometry_of c.config (length c.wasm) = own ∙ held.geometry in
    let count : length (bytes_in c) ≡ s.geometry.config + s.geometry.wasm =
    length-append (config_bytes c.config) c.wasm
    ∙ ap (λ (x : Geometry). x.config + x.wasm) (sym geometry) in
    record {
      geometry = geometry;
      digest = ap (λ (x : Super). x.digest) held.fields;
      consistent = subst (λ (x : Geometry). IsConsistent x) (sym geometry) refl;
      count = count;
      contents = ap (λ (n : ℕ). take n (bytes_from image MODULE_PLACE s.geometry.module_sectors))
          (sym count)
          ∙ ap (λ (x : Geometry).
          take (length (bytes_in c)) (bytes_from image MODULE_PLACE x.module_sectors)) own
          ∙ held.contents;
    }

-- ---- what is found, and what is made of it

-- what is held is stored
held_of : (sectors : ℕ) (image : DiskImage) (stored : Stored) (s : Settings)
    → IsStored sectors image stored → IsStoredOf stored s
    → IsHeld image (record { geometry = stored.geometry; config = s; wasm = stored.wasm })
held_of sectors image stored s is of =
    let super = super_of (sector_at image 0) in
    let geometry : stored.geometry ≡ geometry_of s (length stored.wasm) =
    of.geometry ∙ ap (λ n. geometry_of s n) (sym is.wasm) in
    let bytes : stored.config ++ stored.wasm ≡ config_bytes s ++ stored.wasm =
    ap (λ l. l ++ stored.wasm) of.spelled in
    let digest : super.digest ≡ sha256 (config_bytes s ++ stored.wasm) = is.digest ∙ ap sha256 bytes
    in
    let P : List ℕ → Type 0 = λ l. SectorsHold image MODULE_PLACE stored.geometry.module_sectors l
    in
    record {
      known = is.known;
      within = of.within;
      geometry = geometry;
      fields = same_super super.geometry stored.geometry super.digest (sha256 (config_bytes s
          ++ stored.wasm)) (sym is.geometry) digest;
      contents = subst P bytes is.contents;
    }
  where
    same_super : (g h : Geometry) (d e : List ℕ) → g ≡ h → d ≡ e
        → (let x : Super = record { geometry = g; digest = d } in x) ≡ record {
          geometry = h;
          digest = e;
        }
    same_super g h d e one two =
        ap (λ (x : Geometry). (let y : Super = record { geometry = x; digest = d } in y)) one
        ∙ ap (λ (x : List ℕ). (let y : Super = record { geometry = h; digest = x } in y)) two

stored_reaches : (sectors : ℕ) (image : DiskImage) (stored : Stored) → IsStored sectors image stored
    → ReachesContents sectors image
stored_reaches sectors image stored is = (
  is.known,
  refl,
  subst (λ (x : Geometry). IsConsistent x) is.geometry is.consistent,
  subst (λ (x : Geometry). MODULE_PLACE + x.module_sectors ≤ sectors) is.geometry is.room,
)

same_contents : (g h : Geometry) (s t : Settings) (v w : List ℕ) → g ≡ h → s ≡ t → v ≡ w
    → (let x : Contents = record { geometry = g; config = s; wasm = v } in
    x) ≡ record { geometry = h; config = t; wasm = w }
same_contents g h s t v w one two three =
    ap (λ (y : Geometry). (let x : Contents = record { geometry = y; config = s; wasm = v } in
    x)) one ∙ ap (λ (y : Settings). (let x : Contents = record {
      geometry = h;
      config = y;
      wasm = v;
    } in x)) two
    ∙ ap (λ (y : List ℕ). (let x : Contents = record { geometry = h; config = t; wasm = y } in
    x)) three

-- what is stored is what the super calls configuration and module
stored_bytes : (sectors : ℕ) (image : DiskImage) (stored : Stored) → IsStored sectors image stored
    → contents_bytes image ≡ stored.config ++ stored.wasm
stored_bytes sectors image stored is =
    let s = super_of (sector_at image 0) in
    let own : stored.geometry ≡ s.geometry = is.geometry in
    let count : length (stored.config ++ stored.wasm) ≡ s.geometry.config + s.geometry.wasm =
    length-append stored.config stored.wasm ∙ ap (λ n. n + length stored.wasm) is.config
    ∙ ap (λ n. stored.geometry.config + n) is.wasm
    ∙ ap (λ (x : Geometry). x.config + x.wasm) own in
    sym (ap (λ (x : Geometry). take (s.geometry.config + s.geometry.wasm)
    (bytes_from image MODULE_PLACE x.module_sectors)) own)
    ∙ sym (ap (λ (n : ℕ). take n (bytes_from image MODULE_PLACE stored.geometry.module_sectors))
    count)
    ∙ is.contents

stored_config : (sectors : ℕ) (image : DiskImage) (stored : Stored) → IsStored sectors image stored
    → take (super_of (sector_at image 0)).geometry.config (contents_bytes image) ≡ stored.config
stored_config sectors image stored is =
    let s = super_of (sector_at image 0) in
    let size : s.geometry.config ≡ length stored.config =
    sym (ap (λ (x : Geometry). x.config) is.geometry) ∙ sym is.config in
    ap (λ l. take s.geometry.config l) (stored_bytes sectors image stored is)
    ∙ ap (λ n. take n (stored.config ++ stored.wasm)) size
    ∙ take-append_seam stored.config stored.wasm

stored_whole : (sectors : ℕ) (image : DiskImage) (stored : Stored) → IsStored sectors image stored
    → HasContents sectors image
stored_whole sectors image stored is = record {
  reaches = stored_reaches sectors image stored is;
  digest = is.digest ∙ ap sha256 (sym (stored_bytes sectors image stored is));
}

stored_settings : (sectors : ℕ) (image : DiskImage) (stored : Stored) (s : Settings)
    → IsStored sectors image stored → SpellsSettings stored s → HasSettings sectors image s
stored_settings sectors image stored s is spells = record {
  whole = stored_whole sectors image stored is;
  within = spells.within;
  spelled = stored_config sectors image stored is ∙ spells.spelled;
}

pub gives_stored : (sectors : ℕ) (image : DiskImage) (stored : Stored)
    (result : Result Contents LayoutFault) → IsStored sectors image stored
    → Agrees sectors stored result → GivesContents sectors image result
gives_stored sectors image stored (Ok c) is agrees =
    let held = held_of sectors image stored c.config is agrees.0 in
    let same = same_contents stored.geometry c.geometry c.config c.config stored.wasm c.wasm
    (sym agrees.1) refl (sym agrees.2) in
    let P : Contents → Type 0 = λ x. IsHeld image x × (total_sectors x.geometry ≤ sectors) in
    subst P same (held, agrees.3)
gives_stored sectors image stored (Err (Damaged damage.Configuration)) is agrees = (
  stored_whole sectors image stored is,
  λ s has. agrees s (record {
    within = has.within;
    spelled = sym (stored_config sectors image stored is) ∙ has.spelled;
  }),
)
gives_stored sectors image stored (Err (Damaged damage.AreaSectors)) is agrees =
    let P : Geometry → Type 0 = λ g. HasAreasOf g agrees.0 → ⊥ in (
      agrees.0,
      stored_settings sectors image stored agrees.0 is agrees.1,
      subst P is.geometry
          agrees.2,
    )
gives_stored sectors image stored (Err (Damaged damage.JournalSectors)) is agrees =
    let P : Geometry → Type 0 = λ g. HasAreasOf g agrees.0 in
    let Q : Geometry → Type 0 = λ g. HasJournalOf g agrees.0 → ⊥ in (
      agrees.0,
      stored_settings sectors image stored agrees.0 is agrees.1,
      subst P is.geometry
          agrees.2,
      subst Q is.geometry agrees.3,
    )
gives_stored sectors image stored (Err TooSmall) is agrees =
    inr (
      stored_reaches sectors image stored is,
      (
        record {
          geometry = stored.geometry;
          config = agrees.0.0;
          wasm = stored.wasm;
        },
        held_of sectors image stored agrees.0.0 is agrees.0.1,
        agrees.1,
      ),
    )
gives_stored sectors image stored (Err Memory) is agrees = tt
gives_stored sectors image stored _ is agrees = absurd agrees

other_digest : (sectors : ℕ) (image : DiskImage)
    → HasOtherDigest sectors image (super_of (sector_at image 0)) → (c : Contents) → IsHeld image c
    → ⊥
other_digest sectors image other c held =
    let says = held_says image c held in
    other.digest (says.digest ∙ ap sha256 (sym says.contents))

-- a fault of what is found is one of what is given
pub gives_fault : (sectors : ℕ) (image : DiskImage) (fault : LayoutFault)
    → FindsStored sectors image (Err fault) → GivesContents sectors image (Err fault)
gives_fault sectors image NotAWorker finds = finds
gives_fault sectors image Version finds = finds
gives_fault sectors image TooSmall finds = inl finds
gives_fault sectors image (Damaged damage.ModuleSectors) finds = finds
gives_fault sectors image (Damaged damage.ContentsDigest) finds = finds
gives_fault sectors image (Damaged other) finds = absurd finds
gives_fault sectors image Memory finds = tt
gives_fault sectors image (Disk fault) finds = tt

-- ---- one answer

-- two contents that are held are the same
one_held : (image : DiskImage) (a b : Contents) → IsHeld image a → IsHeld image b → a ≡ b
one_held image a b held-a held-b =
    let one = held_says image a held-a in
    let other = held_says image b held-b in
    let both : config_bytes a.config ++ a.wasm ≡ config_bytes b.config ++ b.wasm =
    sym one.contents ∙ other.contents in
    let geometry : geometry_of a.config (length a.wasm) ≡ geometry_of b.config (length b.wasm) =
    sym one.geometry ∙ other.geometry in
    let size : length (config_bytes a.config) ≡ length (config_bytes b.config) =
    ap (λ (x : Geometry). x.config) geometry in
    let config : config_bytes a.config ≡ config_bytes b.config =
    sym (take-append_seam (config_bytes a.config) a.wasm)
    ∙ ap (λ n. take n (config_bytes a.config ++ a.wasm)) size
    ∙ ap (λ l. take (length (config_bytes b.config)) l) both
    ∙ take-append_seam (config_bytes b.config) b.wasm in
    let wasm : a.wasm ≡ b.wasm =
    sym (drop-append_seam (config_bytes a.config) a.wasm)
    ∙ ap (λ n. drop n (config_bytes a.config ++ a.wasm)) size
    ∙ ap (λ l. drop (length (config_bytes b.config)) l) both
    ∙ drop-append_seam (config_bytes b.config) b.wasm in
    same_contents a.geometry b.geometry a.config b.config a.wasm b.wasm (held-a.geometry ∙ geometry
    ∙ sym held-b.geometry) (config_cut a.config b.config held-a.within held-b.within config)
    wasm

held_is_consistent : (image : DiskImage) (c : Contents) → IsHeld image c
    → IsConsistent (super_of (sector_at image 0)).geometry
held_is_consistent image c held = let says = held_says image c held in says.consistent

-- what is held has its digest, and its configuration is spelled there
held_settings : (sectors : ℕ) (image : DiskImage) (c : Contents) → IsHeld image c
    → HasContents sectors image → HasSettings sectors image c.config
held_settings sectors image c held whole =
    let says = held_says image c held in
    let size : (super_of (sector_at image 0)).geometry.config ≡ length (config_bytes c.config) =
    ap (λ (x : Geometry). x.config) says.geometry in
    record {
      whole = whole;
      within = held.within;
      spelled = ap (λ n. take n (contents_bytes image)) size
          ∙ ap (λ l. take (length (config_bytes c.config)) l) says.contents
          ∙ take-append_seam (config_bytes c.config) c.wasm;
    }

-- two configurations that are spelled there are the same
one_configuration : (sectors : ℕ) (image : DiskImage) (a b : Settings) → HasSettings sectors image a
    → HasSettings sectors image b → a ≡ b
one_configuration sectors image a b one other =
    config_cut a b one.within other.within (sym one.spelled ∙ other.spelled)

-- the super's sectors are those of the configuration that is held
held_areas : (sectors : ℕ) (image : DiskImage) (c : Contents) (s : Settings) → IsHeld image c
    → HasSettings sectors image s
    → HasAreasOf (super_of (sector_at image 0)).geometry s
    × HasJournalOf (super_of (sector_at image 0)).geometry s
held_areas sectors image c s held has =
    let says = held_says image c held in
    let same : s ≡ c.config = one_configuration sectors image s c.config has
    (held_settings sectors image c held has.whole) in
    let P : Settings → Type 0 = λ x. HasAreasOf (super_of (sector_at image 0)).geometry x
    × HasJournalOf (super_of (sector_at image 0)).geometry x in
    subst P (sym same) (
      ap (λ (x : Geometry). x.area_sectors) says.geometry,
      ap (λ (x : Geometry). x.journal_sectors) says.geometry,
    )

not_damaged : (sectors : ℕ) (image : DiskImage) (c : Contents) (why : Damage) → IsHeld image c
    → HasDamage sectors image why → ⊥
not_damaged sectors image c damage.ModuleSectors held has = has.1 (held_is_consistent image c held)
not_damaged sectors image c damage.ContentsDigest held has = other_digest sectors image has c held
not_damaged sectors image c damage.Configuration held has =
    has.1 c.config (held_settings sectors image c held has.0)
not_damaged sectors image c damage.AreaSectors held has =
    let are = held_areas sectors image c has.0 held has.1 in has.2 are.0
not_damaged sectors image c damage.JournalSectors held has =
    let are = held_areas sectors image c has.0 held has.1 in has.3 are.1
not_damaged sectors image c other held has = absurd has

not_too_small : (sectors : ℕ) (image : DiskImage) (c : Contents) → IsHeld image c
    → total_sectors c.geometry ≤ sectors → GivesContents sectors image (Err TooSmall) → ⊥
not_too_small sectors image c held room gives =
    ⊎_elim
    (λ checks. let short = checks.2 in
    let same : (super_of (sector_at image 0)).geometry.module_sectors
    ≡ c.geometry.module_sectors = ap (λ (x : Super). x.geometry.module_sectors) held.fields in
    omega arith)
    (λ other.
    let short : sectors < total_sectors other.1.0.geometry = other.1.2 in
    let same : total_sectors other.1.0.geometry ≡ total_sectors c.geometry =
    ap (λ (x : Contents). total_sectors x.geometry) (one_held image other.1.0 c other.1.1 held)
    in
    omega arith)
    gives

-- of a damage that isn't told of the super's lengths the disk reaches as far as the module
damaged_reaches : (sectors : ℕ) (image : DiskImage) (why : Damage) → HasDamage sectors image why
    → (Checks sectors (sector_at image 0) (Err (Damaged damage.ModuleSectors)))
    ⊎ ReachesContents sectors image
damaged_reaches sectors image damage.ModuleSectors has = inl has
damaged_reaches sectors image damage.ContentsDigest has = inr has.says
damaged_reaches sectors image damage.Configuration has = let whole = has.0 in inr whole.reaches
damaged_reaches sectors image damage.AreaSectors has =
    let settings = has.1 in let whole = settings.whole in inr whole.reaches
damaged_reaches sectors image damage.JournalSectors has =
    let settings = has.1 in let whole = settings.whole in inr whole.reaches
damaged_reaches sectors image other has = absurd has

not_both : (sectors : ℕ) (image : DiskImage) (why : Damage) → HasDamage sectors image why
    → GivesContents sectors image (Err TooSmall) → ⊥
not_both sectors image why has small =
    ⊎_elim
    (λ short. ⊎_elim (λ says. says.1 short.1) (λ reaches.
    let room = reaches.3 in let few = short.2 in omega arith)
    (damaged_reaches sectors image why has))
    (λ other. not_damaged sectors image other.1.0 why other.1.1 has)
    small

damaged_knows : (sectors : ℕ) (image : DiskImage) (why : Damage) → HasDamage sectors image why
    → IsKnown (sector_at image 0)
damaged_knows sectors image why has =
    ⊎_elim (λ says. says.0) (λ reaches. reaches.0) (damaged_reaches sectors image why has)

-- ---- one damage

-- the super's lengths and sectors agree
lengths_agree : (sectors : ℕ) (image : DiskImage) → ReachesContents sectors image
    → HasDamage sectors image damage.ModuleSectors → ⊥
lengths_agree sectors image reaches has =
    has.1 (subst (λ (x : Super). IsConsistent x.geometry) reaches.1 reaches.2)

-- the digest is right
digest_agrees : (sectors : ℕ) (image : DiskImage) → HasContents sectors image
    → HasDamage sectors image damage.ContentsDigest → ⊥
digest_agrees sectors image whole has = has.digest whole.digest

-- it is judged before the sectors of an area
abbrev IsBeforeAreas : Damage → Type 0
IsBeforeAreas damage.ModuleSectors = Unit {0}
IsBeforeAreas damage.ContentsDigest = Unit {0}
IsBeforeAreas damage.Configuration = Unit {0}
IsBeforeAreas other = ⊥

-- what is judged before them is right
settings_agree : (sectors : ℕ) (image : DiskImage) (s : Settings) (why : Damage)
    → HasSettings sectors image s → IsBeforeAreas why → HasDamage sectors image why → ⊥
settings_agree sectors image s damage.ModuleSectors settings is has =
    let whole = settings.whole in lengths_agree sectors image whole.reaches has
settings_agree sectors image s damage.ContentsDigest settings is has =
    digest_agrees sectors image settings.whole has
settings_agree sectors image s damage.Configuration settings is has = has.1 s settings
settings_agree sectors image s other settings is has = absurd is

areas_agree : (sectors : ℕ) (image : DiskImage) → HasDamage sectors image damage.JournalSectors
    → HasDamage sectors image damage.AreaSectors → ⊥
areas_agree sectors image journal area =
    let same = one_configuration sectors image journal.0 area.0 journal.1 area.1 in
    let P : Settings → Type 0 = λ x. HasAreasOf (super_of (sector_at image 0)).geometry x in
    area.2 (subst P same journal.2)

pub one_damage : (sectors : ℕ) (image : DiskImage) (one other : Damage)
    → HasDamage sectors image one → HasDamage sectors image other → one ≡ other
one_damage sectors image damage.ModuleSectors damage.ModuleSectors a b = refl
one_damage sectors image damage.ModuleSectors damage.ContentsDigest a b =
    absurd (lengths_agree sectors image b.says a)
one_damage sectors image damage.ModuleSectors damage.Configuration a b =
    let whole = b.0 in absurd (lengths_agree sectors image whole.reaches a)
one_damage sectors image damage.ModuleSectors damage.AreaSectors a b =
    absurd (settings_agree sectors image b.0 damage.ModuleSectors b.1 tt a)
one_damage sectors image damage.ModuleSectors damage.JournalSectors a b =
    absurd (settings_agree sectors image b.0 damage.ModuleSectors b.1 tt a)
one_damage sectors image damage.ContentsDigest damage.ModuleSectors a b =
    absurd (lengths_agree sectors image a.says b)
one_damage sectors image damage.ContentsDigest damage.ContentsDigest a b = refl
one_damage sectors image damage.ContentsDigest damage.Configuration a b =
    absurd (digest_agrees sectors image b.0 a)
one_damage sectors image damage.ContentsDigest damage.AreaSectors a b =
    absurd (settings_agree sectors image b.0 damage.ContentsDigest b.1 tt a)
one_damage sectors image damage.ContentsDigest damage.JournalSectors a b =
    absurd (settings_agree sectors image b.0 damage.ContentsDigest b.1 tt a)
one_damage sectors image damage.Configuration damage.ModuleSectors a b =
    let whole = a.0 in absurd (lengths_agree sectors image whole.reaches b)
one_damage sectors image damage.Configuration damage.ContentsDigest a b =
    absurd (digest_agrees sectors image a.0 b)
one_damage sectors image damage.Configuration damage.Configuration a b = refl
one_damage sectors image damage.Configuration damage.AreaSectors a b =
    absurd (settings_agree sectors image b.0 damage.Configuration b.1 tt a)
one_damage sectors image damage.Configuration damage.JournalSectors a b =
    absurd (settings_agree sectors image b.0 damage.Configuration b.1 tt a)
one_damage sectors image damage.AreaSectors damage.AreaSectors a b = refl
one_damage sectors image damage.AreaSectors damage.JournalSectors a b =
    absurd (areas_agree sectors image b a)
one_damage sectors image damage.AreaSectors damage.ModuleSectors a b =
    absurd (settings_agree sectors image a.0 damage.ModuleSectors a.1 tt b)
one_damage sectors image damage.AreaSectors damage.ContentsDigest a b =
    absurd (settings_agree sectors image a.0 damage.ContentsDigest a.1 tt b)
one_damage sectors image damage.AreaSectors damage.Configuration a b =
    absurd (settings_agree sectors image a.0 damage.Configuration a.1 tt b)
one_damage sectors image damage.JournalSectors damage.JournalSectors a b = refl
one_damage sectors image damage.JournalSectors damage.AreaSectors a b =
    absurd (areas_agree sectors image a b)
one_damage sectors image damage.JournalSectors damage.ModuleSectors a b =
    absurd (settings_agree sectors image a.0 damage.ModuleSectors a.1 tt b)
one_damage sectors image damage.JournalSectors damage.ContentsDigest a b =
    absurd (settings_agree sectors image a.0 damage.ContentsDigest a.1 tt b)
one_damage sectors image damage.JournalSectors damage.Configuration a b =
    absurd (settings_agree sectors image a.0 damage.Configuration a.1 tt b)
one_damage sectors image damage.ModuleSectors other a b = absurd b
one_damage sectors image damage.ContentsDigest other a b = absurd b
one_damage sectors image damage.Configuration other a b = absurd b
one_damage sectors image damage.AreaSectors other a b = absurd b
one_damage sectors image damage.JournalSectors other a b = absurd b
one_damage sectors image one other a b = absurd a

-- ---- one answer

small_knows : (sectors : ℕ) (image : DiskImage) → GivesContents sectors image (Err TooSmall)
    → IsKnown (sector_at image 0)
small_knows sectors image gives = ⊎_elim (λ checks. checks.0) (λ other. let reaches = other.0 in
    reaches.0) gives

pub one_answer : OneAnswer
one_answer sectors image (Ok a) (Ok b) t u one other =
    ap (λ (x : Contents). (let r : Result Contents LayoutFault = Ok x in
    r)) (one_held image a b one.0 other.0)
one_answer sectors image (Ok a) (Err NotAWorker) t u one other = absurd (other one.0.known.marks)
one_answer sectors image (Ok a) (Err Version) t u one other = absurd (other.1 one.0.known.layout)
one_answer sectors image (Ok a) (Err (Damaged why)) t u one other =
    absurd (not_damaged sectors image a why one.0 other)
one_answer sectors image (Ok a) (Err TooSmall) t u one other =
    absurd (not_too_small sectors image a one.0 one.1 other)
one_answer sectors image (Ok a) (Err (Disk fault)) t u one other = absurd u
one_answer sectors image (Err NotAWorker) (Ok b) t u one other = absurd (one other.0.known.marks)
one_answer sectors image (Err NotAWorker) (Err NotAWorker) t u one other = refl
one_answer sectors image (Err NotAWorker) (Err Version) t u one other = absurd (one other.0)
one_answer sectors image (Err NotAWorker) (Err (Damaged why)) t u one other =
    let knows = damaged_knows sectors image why other in absurd (one knows.marks)
one_answer sectors image (Err NotAWorker) (Err TooSmall) t u one other =
    let knows = small_knows sectors image other in absurd (one knows.marks)
one_answer sectors image (Err NotAWorker) (Err (Disk fault)) t u one other = absurd u
one_answer sectors image (Err Version) (Ok b) t u one other = absurd (one.1 other.0.known.layout)
one_answer sectors image (Err Version) (Err NotAWorker) t u one other = absurd (other one.0)
one_answer sectors image (Err Version) (Err Version) t u one other = refl
one_answer sectors image (Err Version) (Err (Damaged why)) t u one other =
    let knows = damaged_knows sectors image why other in absurd (one.1 knows.layout)
one_answer sectors image (Err Version) (Err TooSmall) t u one other =
    let knows = small_knows sectors image other in absurd (one.1 knows.layout)
one_answer sectors image (Err Version) (Err (Disk fault)) t u one other = absurd u
one_answer sectors image (Err (Damaged why)) (Ok b) t u one other =
    absurd (not_damaged sectors image b why other.0 one)
one_answer sectors image (Err (Damaged why)) (Err NotAWorker) t u one other =
    let knows = damaged_knows sectors image why one in absurd (other knows.marks)
one_answer sectors image (Err (Damaged why)) (Err Version) t u one other =
    let knows = damaged_knows sectors image why one in absurd (other.1 knows.layout)
one_answer sectors image (Err (Damaged why)) (Err (Damaged because)) t u one other =
    ap (λ (x : Damage). (let r : Result Contents LayoutFault = Err (Damaged x) in r))
    (one_damage sectors image why because one other)
one_answer sectors image (Err (Damaged why)) (Err TooSmall) t u one other =
    absurd (not_both sectors image why one other)
one_answer sectors image (Err (Damaged why)) (Err (Disk fault)) t u one other = absurd u
one_answer sectors image (Err TooSmall) (Ok b) t u one other =
    absurd (not_too_small sectors image b other.0 other.1 one)
one_answer sectors image (Err TooSmall) (Err NotAWorker) t u one other =
    let knows = small_knows sectors image one in absurd (other knows.marks)
one_answer sectors image (Err TooSmall) (Err Version) t u one other =
    let knows = small_knows sectors image one in absurd (other.1 knows.layout)
one_answer sectors image (Err TooSmall) (Err (Damaged why)) t u one other =
    absurd (not_both sectors image why other one)
one_answer sectors image (Err TooSmall) (Err TooSmall) t u one other = refl
one_answer sectors image (Err TooSmall) (Err (Disk fault)) t u one other = absurd u
one_answer sectors image (Err Memory) other t u one gives = absurd t
one_answer sectors image (Err (Disk fault)) other t u one gives = absurd t
one_answer sectors image _ (Err Memory) t u one other = absurd u
