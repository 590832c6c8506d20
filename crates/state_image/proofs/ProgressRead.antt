-- What an image has before the machine, read field by field.
use Rattle.std.proofs.Common.{◌≡◌, ℕ, List, ◌++◌, Some, None, sym, ap, ◌∙◌}
use Rattle.wasi_abi.specs.declared.version.Version.{Version}
use Rattle.state_image.specs.declared.restoring.progress.ProcessProgress.{ProcessProgress}
use Rattle.state_image.specs.declared.reading.progress.ReadCounts.{ReadCounts}
use Rattle.state_image.specs.declared.reading.progress.ReadEnd.{ReadEnd}
use Rattle.state_image.specs.rules.ProcessImage.{Saved, process_image_mark, counts_bytes}
use Rattle.state_image.specs.rules.ProcessImage.{phase_bytes, streams_bytes}
use Rattle.state_image.specs.rules.Parts.{counts_of, read_end_of, streams_of, StreamTexts, texts_of}
use Rattle.state_image.specs.rules.Ranges.{FitsCounts, FitsCode, FitsStreams}
use Rattle.state_image.specs.rules.Reading.{HasField, LacksField, ReadsPart}
use Rattle.state_image.specs.restoring.Processes.{FitsProgress, progress_before, HasProgress}
use Rattle.state_image.specs.restoring.Processes.{ReadsProgress}
use Rattle.state_image.proofs.Marks.{same_version}
use Rattle.state_image.proofs.FieldsGiven.{counts_given, end_given, streams_given}

-- the mark of this version is in front
abbrev pub HasMark : Version → List ℕ → List ℕ → Type 0
HasMark version old new = HasField process_image_mark (λ version. Unit {0}) version old new

-- the fields after it
abbrev pub HasCounts : ReadCounts → List ℕ → List ℕ → Type 0
HasCounts r old new = ReadsPart counts_of counts_bytes FitsCounts (Some r) old new

abbrev pub HasEnd : ReadEnd → List ℕ → List ℕ → Type 0
HasEnd r old new = ReadsPart read_end_of phase_bytes FitsCode (Some r) old new

abbrev pub HasStreams : StreamTexts → List ℕ → List ℕ → Type 0
HasStreams r old new = ReadsPart streams_of streams_bytes FitsStreams (Some r) old new

pub no_mark : (old new : List ℕ)
    → LacksField process_image_mark (λ version. Unit {0}) old new
    → ReadsProgress None old new
no_mark old new lacks = λ s rest fits e.
    lacks.none s.version (counts_bytes s ++ (phase_bytes s ++ (streams_bytes s ++ rest))) tt e

module _ (old behind_mark : List ℕ) (version : Version) (mark : HasMark version old behind_mark)
  where
    past_mark : (s : Saved) (rest : List ℕ) → old ≡ progress_before s rest
        → (version ≡ s.version)
        × (behind_mark ≡ counts_bytes s ++ (phase_bytes s ++ (streams_bytes s ++ rest)))
    past_mark s rest e =
        same_version version s.version behind_mark
        (counts_bytes s ++ (phase_bytes s ++ (streams_bytes s ++ rest))) (sym mark.is ∙ e)

    pub no_counts : (new : List ℕ) → LacksField counts_bytes FitsCounts behind_mark new
        → ReadsProgress None old new
    no_counts new lacks = λ s rest fits e.
        lacks.none s (phase_bytes s ++ (streams_bytes s ++ rest)) fits.counts (past_mark s rest e).1

    module _ (read : ReadCounts) (behind_counts : List ℕ)
        (counts : HasCounts read behind_mark behind_counts) where
      past_counts : (s : Saved) (rest : List ℕ) → FitsProgress s → old ≡ progress_before s rest
          → (Some read ≡ Some (counts_of s))
          × (behind_counts ≡ phase_bytes s ++ (streams_bytes s ++ rest))
      past_counts s rest fits e =
          counts_given (Some read) behind_mark behind_counts counts s
          (phase_bytes s ++ (streams_bytes s ++ rest)) fits.counts (past_mark s rest e).1

      pub no_end : (new : List ℕ) → LacksField phase_bytes FitsCode behind_counts new
          → ReadsProgress None old new
      no_end new lacks = λ s rest fits e.
          lacks.none s (streams_bytes s ++ rest) fits.code (past_counts s rest fits e).1

      module _ (end : ReadEnd) (behind_end : List ℕ)
          (ends : HasEnd end behind_counts behind_end) where
        past_end : (s : Saved) (rest : List ℕ) → FitsProgress s → old ≡ progress_before s rest
            → (Some end ≡ Some (read_end_of s)) × (behind_end ≡ streams_bytes s ++ rest)
        past_end s rest fits e =
            end_given (Some end) behind_counts behind_end ends s (streams_bytes s ++ rest) fits.code
            (past_counts s rest fits e).1

        pub no_streams : (new : List ℕ) → LacksField streams_bytes FitsStreams behind_end new
            → ReadsProgress None old new
        no_streams new lacks = λ s rest fits e.
            lacks.none s rest fits.streams (past_end s rest fits e).1

some_counts : (r : ReadCounts) (s : Saved) → Some r ≡ Some (counts_of s) → counts_of s ≡ r
some_counts r s e = cc

some_end : (r : ReadEnd) (s : Saved) → Some r ≡ Some (read_end_of s) → read_end_of s ≡ r
some_end r s e = cc

some_streams : (r : StreamTexts) (s : Saved) → Some r ≡ Some (streams_of s) → streams_of s ≡ r
some_streams r s e = cc

pub has_progress : (p : ProcessProgress) (old behind_mark behind_counts behind_end new : List ℕ)
    → HasMark p.version old behind_mark → HasCounts p.counts behind_mark behind_counts
    → HasEnd p.end behind_counts behind_end
    → HasStreams (texts_of p.streams) behind_end new → HasProgress p old new
has_progress p old a b c new mark counts ends streams = record {
  fits = λ s is. record {
    counts = (counts s is.counts).in_range;
    code = (ends s is.end).in_range;
    streams = (streams s is.streams).in_range;
  };
  is = λ s is.
      mark.is ∙ ap (λ (version : Version). process_image_mark version ++ a) (sym is.version)
      ∙ ap (λ (xs : List ℕ). process_image_mark s.version ++ xs) ((counts s is.counts).is
      ∙ ap (λ (xs : List ℕ). counts_bytes s ++ xs) ((ends s is.end).is
      ∙ ap (λ (xs : List ℕ). phase_bytes s ++ xs) (streams s is.streams).is));
  only = λ s rest fits e.
      let first = past_counts old a p.version mark p.counts b counts s rest fits e in
      let second = past_end old a p.version mark p.counts b counts p.end c ends s rest fits e in
      let third = streams_given (Some (texts_of p.streams)) c new streams s rest fits.streams
      second.1 in (
        record {
          version = sym (past_mark old a p.version mark s rest e).0;
          counts = some_counts p.counts s first.0;
          end = some_end p.end s second.0;
          streams = some_streams (texts_of p.streams) s third.0;
        },
        third.1,
      );
}
