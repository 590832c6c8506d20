-- Worked examples of the layout.
use Rattle.std.specs.Prelude.{◌≡◌, ℕ, List, [], ◌∷◌, length, take, codes, Some, None}
use Rattle.wasi_abi.specs.rules.Configs.{Settings}
use Rattle.wasi_abi.specs.declared.answer.Answer.TheVariants as answer
use Rattle.wasi_abi.specs.declared.version.Version.TheVariants.{One, Two}
use Rattle.sector_disk.specs.rules.DiskImage.{front_over}
use Rattle.disk_layout.specs.rules.Places.{geometry_of, config_bytes, rounded_up}
use Rattle.disk_layout.specs.rules.Places.{head_place, area_place, journal_place, total_sectors}
use Rattle.disk_layout.specs.rules.Sectors.{shown_generation}
use Rattle.disk_layout.specs.rules.Journal.{Record, record_bytes, journal_sector}
use Rattle.disk_layout.specs.Scanned.{record_at}

-- one page, one unit of files, a journal of 64 sectors, and the argument `worker`
abbrev pub small : Settings
small = record {
  pages = 1;
  files = 1;
  journal = 64;
  arguments = codes "worker" ∷ [];
  environment = [];
}

-- the request `hello`, taken by the sixth step
abbrev pub hello_record : Record
hello_record = record { step = 6; answer = answer.Request (codes "hello") }

-- a journal sector of generation g at place 3 that holds one byte
abbrev pub third_sector : ℕ → List ℕ
third_sector g = journal_sector g 3 (7 ∷ [])

-- two pages, three units of files, and the bytes of the environment after those of the arguments
abbrev pub varied : Settings
varied = record {
  pages = 2;
  files = 3;
  journal = 260;
  arguments = codes "ab" ∷ codes "c" ∷ [];
  environment = codes "d=" ∷ [];
}

pub record LayoutExamples : Type 0 where
  pub config_is : config_bytes varied
      ≡ 2 ∷ 0 ∷ 0 ∷ 0 ∷ 3 ∷ 0 ∷ 0 ∷ 0 ∷ 4 ∷ 1 ∷ 0 ∷ 0
      ∷ 2 ∷ 0 ∷ 0 ∷ 0 ∷ 2 ∷ 0 ∷ 0x61 ∷ 0x62 ∷ 1 ∷ 0 ∷ 0x63
      ∷ 1 ∷ 0 ∷ 0 ∷ 0 ∷ 2 ∷ 0 ∷ 0x64 ∷ 0x3d ∷ []
  pub no_sector : rounded_up 0 ≡ 0
  pub full_sector : rounded_up 512 ≡ 1
  pub one_byte_more : rounded_up 513 ≡ 2
  pub geometry : geometry_of varied 1000 ≡ record {
    config = 31;
    wasm = 1000;
    module_sectors = 3;
    area_sectors = 2688;
    journal_sectors = 260;
  }
  pub even_head : head_place 6 ≡ 1
  pub odd_head : head_place 7 ≡ 2
  pub even_area : area_place (geometry_of varied 1000) 6 ≡ 6
  pub odd_area : area_place (geometry_of varied 1000) 7 ≡ 2694
  pub config_length : length (config_bytes small) ≡ 28
  pub total : total_sectors (geometry_of small 193) ≡ 4676
  pub journal : journal_place (geometry_of small 193) ≡ 4612
  pub module_sectors : (geometry_of small 193).module_sectors ≡ 1
  pub area_sectors : (geometry_of small 193).area_sectors ≡ 2304
  pub record_is : record_bytes One hello_record ≡ 1 ∷ 6 ∷ 0 ∷ 0 ∷ 0 ∷ 0 ∷ 0 ∷ 0 ∷ 0 ∷ 5 ∷ 0
      ∷ 0x68 ∷ 0x65 ∷ 0x6c ∷ 0x6c ∷ 0x6f ∷ []
  pub record_back : record_at One (record_bytes One hello_record) ≡ Some hello_record
  pub record_cut : record_at One (take 15 (record_bytes One hello_record)) ≡ None
  -- the same record in version 2, whose length has four bytes
  pub wide_record_is : record_bytes Two hello_record ≡ 1 ∷ 6 ∷ 0 ∷ 0 ∷ 0 ∷ 0 ∷ 0 ∷ 0 ∷ 0
      ∷ 5 ∷ 0 ∷ 0 ∷ 0 ∷ 0x68 ∷ 0x65 ∷ 0x6c ∷ 0x6c ∷ 0x6f ∷ []
  pub wide_record_back : record_at Two (record_bytes Two hello_record) ≡ Some hello_record
  pub wide_record_cut : record_at Two (take 17 (record_bytes Two hello_record)) ≡ None
  -- cut inside its length
  pub length_cut : record_at One (take 10 (record_bytes One hello_record)) ≡ None
  pub wide_length_cut : record_at Two (take 12 (record_bytes Two hello_record)) ≡ None
  pub sector_length : length (third_sector 255) ≡ 512
  -- a sector of generation 255 overwritten for 256 and torn: with 497 new bytes it shows 0, from
  -- 498 on it is the new one
  pub torn_497 : shown_generation 3 (front_over 497 (third_sector 256) (third_sector 255)) ≡ 0
  pub torn_498 : front_over 498 (third_sector 256) (third_sector 255) ≡ third_sector 256
  pub shows_256 : shown_generation 3 (third_sector 256) ≡ 256
  pub torn_496 : shown_generation 3 (front_over 496 (third_sector 256) (third_sector 255)) ≡ 255
