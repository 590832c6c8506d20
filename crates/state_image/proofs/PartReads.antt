-- Counts, the phase and streams, read field by field.
use Rattle.std.proofs.Common.{◌≡◌, ℕ, ◌<◌, List, [], ◌∷◌, ◌++◌, sym, ◌∙◌, append_assoc, arith}
use Rattle.std.specs.Prelude.{Option, Some, None}
use Rattle.wasi_abi.specs.rules.Layouts.{u32_bytes, u64_bytes}
use Rattle.process_rules.specs.Processes.{Ending, Exited, Trapped}
use Rattle.state_image.specs.rules.ProcessImage.{Saved, phase_of, ending_code, flag_of, text_bytes}
use Rattle.state_image.specs.rules.ProcessImage.{counts_bytes, phase_bytes, streams_bytes}
use Rattle.state_image.specs.rules.Ranges.{IsIn, IsShort, FitsCounts, FitsCode, FitsStreams}
use Rattle.state_image.specs.rules.Reading.{HasField, LacksField}
use Rattle.state_image.specs.laws.Phases.{IsPhaseFrom}
use Rattle.state_image.proofs.Fields.{byte_field, number_field, text_field}
use Rattle.state_image.proofs.Counts.{from_lines, from_requests, from_answers}
use Rattle.state_image.proofs.ReadLemmas.{in_two, is_that, none_first, none_after, none_of}

-- ---- counts

pub no_answers : {old new : List ℕ} → LacksField u64_bytes (IsIn 8) old new
    → LacksField from_answers FitsCounts old new
no_answers lacks = none_first (λ s. s.answers) from_requests (λ s h. h.answers) lacks

pub no_requests : {old new : List ℕ} → LacksField u64_bytes (IsIn 8) old new
    → LacksField from_requests FitsCounts old new
no_requests lacks = none_first (λ s. s.requests) from_lines (λ s h. h.requests) lacks

pub no_lines : {old new : List ℕ} → LacksField u64_bytes (IsIn 8) old new
    → LacksField from_lines FitsCounts old new
no_lines lacks = none_first (λ s. s.lines) (λ s. u64_bytes s.last_monotonic) (λ s h. h.lines) lacks

pub no_time : {old new : List ℕ} → LacksField u64_bytes (IsIn 8) old new
    → LacksField (λ (s : Saved). u64_bytes s.last_monotonic) FitsCounts old new
no_time lacks = none_of (λ s. s.last_monotonic) (λ s h. h.last_monotonic) lacks

-- it is there, and those after it aren't
pub after_steps : {x : ℕ} {old mid new : List ℕ} → HasField u64_bytes (IsIn 8) x old mid
    → LacksField from_answers FitsCounts mid new → LacksField counts_bytes FitsCounts old new
after_steps has lacks =
    none_after (number_field 8) (λ s. s.steps) from_answers (λ s h. h.steps) has lacks

pub after_answers : {x : ℕ} {old mid new : List ℕ} → HasField u64_bytes (IsIn 8) x old mid
    → LacksField from_requests FitsCounts mid new → LacksField from_answers FitsCounts old new
after_answers has lacks =
    none_after (number_field 8) (λ s. s.answers) from_requests (λ s h. h.answers) has lacks

pub after_requests : {x : ℕ} {old mid new : List ℕ} → HasField u64_bytes (IsIn 8) x old mid
    → LacksField from_lines FitsCounts mid new → LacksField from_requests FitsCounts old new
after_requests has lacks =
    none_after (number_field 8) (λ s. s.requests) from_lines (λ s h. h.requests) has lacks

pub after_lines : {x : ℕ} {old mid new : List ℕ} → HasField u64_bytes (IsIn 8) x old mid
    → LacksField (λ (s : Saved). u64_bytes s.last_monotonic) FitsCounts mid new
    → LacksField from_lines FitsCounts old new
after_lines has lacks =
    none_after (number_field 8) (λ s. s.lines) (λ s. u64_bytes s.last_monotonic)
    (λ s h. h.lines) has lacks

-- ---- streams

-- the unfinished lines
abbrev pub from_first : Saved → List ℕ
from_first s = text_bytes s.first ++ text_bytes s.second

pub no_first : {old new : List ℕ} → LacksField text_bytes IsShort old new
    → LacksField from_first FitsStreams old new
no_first lacks = none_first (λ s. s.first) (λ s. text_bytes s.second) (λ s h. h.first) lacks

pub no_second : {old new : List ℕ} → LacksField text_bytes IsShort old new
    → LacksField (λ (s : Saved). text_bytes s.second) FitsStreams old new
no_second lacks = none_of (λ s. s.second) (λ s h. h.second) lacks

pub after_unread : {x old mid new : List ℕ} → HasField text_bytes IsShort x old mid
    → LacksField from_first FitsStreams mid new → LacksField streams_bytes FitsStreams old new
after_unread has lacks =
    none_after text_field (λ s. s.unread) from_first (λ s h. h.unread) has lacks

pub after_first : {x old mid new : List ℕ} → HasField text_bytes IsShort x old mid
    → LacksField (λ (s : Saved). text_bytes s.second) FitsStreams mid new
    → LacksField from_first FitsStreams old new
after_first has lacks =
    none_after text_field (λ s. s.first) (λ s. text_bytes s.second) (λ s h. h.first) has lacks

-- ---- phase

pub phase_small : (o : Option Ending) (later : List ℕ) → phase_of o later < 256
phase_small None [] = omega arith
phase_small None (f ∷ later) = omega arith
phase_small (Some (Exited code)) later = omega arith
phase_small (Some (Trapped why)) later = omega arith

abbrev pub number_in : Saved → ℕ
number_in s = phase_of s.ended s.machine.later

abbrev pub flag_in : Saved → List ℕ
flag_in s = flag_of s.input_ended ∷ []

abbrev pub from_code : Saved → List ℕ
from_code s = u32_bytes (ending_code s.ended) ++ flag_in s

pub no_code : {old new : List ℕ} → LacksField u32_bytes (IsIn 4) old new
    → LacksField from_code FitsCode old new
no_code lacks = none_first (λ s. ending_code s.ended) flag_in (λ s h. h) lacks

pub no_input_flag : {old new : List ℕ}
    → LacksField (λ flag. flag_of flag ∷ []) (λ flag. Unit {0}) old new
    → LacksField flag_in FitsCode old new
no_input_flag lacks = none_of (λ s. s.input_ended) (λ s h. tt) lacks

pub after_code : {x : ℕ} {old mid new : List ℕ} → HasField u32_bytes (IsIn 4) x old mid
    → LacksField flag_in FitsCode mid new → LacksField from_code FitsCode old new
after_code has lacks =
    none_after (number_field 4) (λ s. ending_code s.ended) flag_in (λ s h. h) has lacks

pub after_number : {x : ℕ} {old mid new : List ℕ} → HasField (λ (b : ℕ). b ∷ []) (IsIn 1) x old mid
    → LacksField from_code FitsCode mid new → LacksField phase_bytes FitsCode old new
after_number has lacks =
    none_after byte_field number_in from_code (λ s h. phase_small s.ended s.machine.later) has lacks

-- no process has this number with this code
pub no_phase : (number code : ℕ) {old mid new : List ℕ}
    → HasField (λ (b : ℕ). b ∷ []) (IsIn 1) number old mid
    → HasField u32_bytes (IsIn 4) code mid new
    → IsPhaseFrom number code None → LacksField phase_bytes FitsCode old new
no_phase number code {old} {mid} {new} has_number has_code none = record {
  none = told;
  passed = (number ∷ []) ++ u32_bytes code;
  is = in_two (number ∷ []) (u32_bytes code) old mid new has_number.is has_code.is;
} where
  told : (s : Saved) (rest : List ℕ) → FitsCode s → old ≡ phase_bytes s ++ rest → ⊥
  told s rest h e =
      let first = is_that byte_field has_number (number_in s) (from_code s ++ rest)
      (phase_small s.ended s.machine.later) e in
      let second = is_that (number_field 4) has_code (ending_code s.ended) (flag_in s ++ rest) h
      (first.1 ∙ append_assoc (u32_bytes (ending_code s.ended)) (flag_in s) rest) in
      none s.ended s.machine.later (sym first.0) (sym second.0)
