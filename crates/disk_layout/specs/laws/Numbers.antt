-- The numbers and marks of the layout, spelled out.
use Rattle.std.specs.Prelude.{◌≡◌, codes}
use Rattle.disk_layout.specs.declared.geometry.TheConstants.{MODULE_PLACE}
use Rattle.disk_layout.specs.declared.superblock.TheConstants.{SUPER_MARK, SUPER_END_MARK, LAYOUT}
use Rattle.disk_layout.specs.declared.superblock.TheConstants.{LAYOUT_AT, CONFIG_LENGTH_AT}
use Rattle.disk_layout.specs.declared.superblock.TheConstants.{WASM_LENGTH_AT, MODULE_SECTORS_AT}
use Rattle.disk_layout.specs.declared.superblock.TheConstants.{AREA_SECTORS_AT, JOURNAL_SECTORS_AT}
use Rattle.disk_layout.specs.declared.superblock.TheConstants.{CONTENTS_DIGEST_AT, END_MARK_AT}
use Rattle.disk_layout.specs.declared.head.TheConstants.{HEAD_MARK, VERSION_AT, IMAGE_LENGTH_AT}
use Rattle.disk_layout.specs.declared.head.TheConstants.{IMAGE_DIGEST_AT, HEAD_STAMP_PLACE}
use Rattle.disk_layout.specs.declared.stamp.TheConstants.{GENERATION_AT, PLACE_AT}
use Rattle.disk_layout.specs.declared.journal_sectors.TheConstants.{PAYLOAD_SIZE, PAYLOAD_AT}
use Rattle.wasi_abi.specs.declared.version.Version.TheVariants.{One, Two}
use Rattle.disk_layout.specs.rules.Journal.{record_head_bytes, longest_record}
use Rattle.disk_layout.specs.declared.record_fields.TheConstants.{STEP_AT, PAYLOAD_LENGTH_AT}
use Rattle.disk_layout.specs.declared.record.TheConstants.{REQUEST_KIND, END_KIND, REALTIME_KIND}
use Rattle.disk_layout.specs.declared.record.TheConstants.{MONOTONIC_KIND, RANDOM_KIND}

pub record LayoutNumbers : Type 0 where
  -- after the super and the two heads
  pub module_place : MODULE_PLACE ≡ 3
  -- the super
  pub super_mark : SUPER_MARK ≡ codes "DWORKER!"
  pub layout : LAYOUT ≡ 1
  pub layout_at : LAYOUT_AT ≡ 8
  pub config_length_at : CONFIG_LENGTH_AT ≡ 12
  pub wasm_length_at : WASM_LENGTH_AT ≡ 16
  pub module_sectors_at : MODULE_SECTORS_AT ≡ 20
  pub area_sectors_at : AREA_SECTORS_AT ≡ 24
  pub journal_sectors_at : JOURNAL_SECTORS_AT ≡ 28
  pub contents_digest_at : CONTENTS_DIGEST_AT ≡ 32
  pub end_mark_at : END_MARK_AT ≡ 504
  pub super_end_mark : SUPER_END_MARK ≡ codes "!REKROWD"
  -- a head
  pub head_mark : HEAD_MARK ≡ codes "DWAREA.."
  pub version_at : VERSION_AT ≡ 8
  pub process_image_length_at : IMAGE_LENGTH_AT ≡ 16
  pub process_image_digest_at : IMAGE_DIGEST_AT ≡ 24
  pub head_place : HEAD_STAMP_PLACE ≡ 1
  -- a stamp
  pub generation_at : GENERATION_AT ≡ 496
  pub place_at : PLACE_AT ≡ 504
  -- a journal's sector
  pub payload_at : PAYLOAD_AT ≡ 2
  pub payload_size : PAYLOAD_SIZE ≡ 494
  -- a record
  pub step_at : STEP_AT ≡ 1
  pub payload_length_at : PAYLOAD_LENGTH_AT ≡ 9
  pub record_head : record_head_bytes One ≡ 11
  pub wide_record_head : record_head_bytes Two ≡ 13
  pub longest : longest_record One ≡ 4107
  pub longest_wide : longest_record Two ≡ 65549
  pub request_kind : REQUEST_KIND ≡ 1
  pub end_kind : END_KIND ≡ 2
  pub realtime_kind : REALTIME_KIND ≡ 3
  pub monotonic_kind : MONOTONIC_KIND ≡ 4
  pub random_kind : RANDOM_KIND ≡ 5
