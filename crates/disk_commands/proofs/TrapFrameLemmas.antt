-- The lines of frames, and what is said with them.
use Rattle.std.proofs.Common.{◌≡◌, ◌≤◌, ℕ, ◌+◌, Bool, List, [], ◌∷◌, ◌++◌, length, Option, inl}
use Rattle.std.proofs.Common.{inr, Some, None, Ok, refl, sym, ap, subst, ◌∙◌, arith}
use Rattle.std.specs.Prelude.{IfSome}
use Rattle.std.specs.List.{AllByRecursion, flat_map}
use Rattle.std.proofs.lemmas.List.{append-nil, length-append}
use Rattle.std.proofs.lemmas.Grind.{flat_map-append}
use Rattle.sector_disk.specs.rules.DiskImage.{DiskImage}
use Rattle.sector_disk.specs.rules.Medium.{Medium}
use Rattle.disk_layout.specs.declared.reading.contents.Contents.{Contents}
use Rattle.disk_layout.specs.rules.Held.{GivesContents}
use Rattle.process_rules.specs.Processes.{Ending}
use Rattle.command_words.specs.rules.Printers.{PrinterState, IsPrinted, IsSaid}
use Rattle.command_words.specs.declared.status.Status.{Status}
use Rattle.command_words.specs.declared.status.Status.TheVariants as exit
use Rattle.command_words.proofs.LineLemmas.Printed.{prints_both, prints_nothing}
use Rattle.disk_commands.specs.rules.LastWords.{PrintsOver, SaysOver, last_words, next_line}
use Rattle.disk_commands.specs.rules.TrapFrames.{AreFrameLines, IsModuleOn, IsNamedIn}
use Rattle.disk_commands.specs.rules.TrapFrames.{TellsFrames, ToldFrame, frame_line}
use Rattle.disk_commands.specs.rules.TrapFrames.{more_line}

-- ---- the last words

pub over_is_said : (bytes : Option (List ℕ)) (heard : Bool) (how : Option Ending) (taken : ℕ)
    (old : PrinterState) (status : Status) (new : PrinterState)
    → SaysOver bytes heard how taken old status new → IsSaid exit.Done old status new
over_is_said bytes heard how taken old status new (inl said) = inl (said.0, said.1.2.1)
over_is_said bytes heard how taken old status new (inr unsaid) = inr unsaid

-- last words, then frames, then the line for a person
pub prints_over : (bytes : Option (List ℕ)) (heard : Bool) (how : Option Ending) (taken : ℕ)
    (a b c d : PrinterState) → IsPrinted a b (last_words how)
    → ((text : List ℕ) × TellsFrames bytes how text × IsPrinted b c text)
    → IsPrinted c d (next_line heard how taken) → PrintsOver bytes heard how taken a d
prints_over bytes heard how taken a b c d first frames last = (
  frames.0,
  frames.1,
  prints_both a c d (last_words how ++ frames.0) (next_line heard how taken)
      (prints_both a b c (last_words how) frames.0 first frames.2) last,
)

-- ---- the module on a disk

-- what a disk holds is read of it
pub read_module_on : (old new : Medium) (contents : Contents)
    → ((image : DiskImage) → new.shows image → GivesContents old.sectors image (Ok contents))
    → IsModuleOn new contents.wasm
read_module_on old new contents gives = (contents, refl, λ image shows. (gives image shows).0)

-- ---- frames one after another

-- so many frames were told
pub record FramesSoFar (bytes : Option (List ℕ)) (old : PrinterState) (count : ℕ)
    (now : PrinterState) : Type 0 where
  pub frames : List ToldFrame
  pub count_is : length frames ≡ count
  pub named : AllByRecursion (IsNamedIn bytes) frames
  pub printed : IsPrinted old now (flat_map frame_line frames)

all_named : (bytes : Option (List ℕ)) (frames : List ToldFrame) (f : ToldFrame)
    → AllByRecursion (IsNamedIn bytes) frames → IsNamedIn bytes f
    → AllByRecursion (IsNamedIn bytes) (frames ++ f ∷ [])
all_named bytes [] f all one = (one, tt)
all_named bytes (g ∷ frames) f all one = (all.0, all_named bytes frames f all.1 one)

module _ (bytes : Option (List ℕ)) (old : PrinterState) where
  pub frames_begin : FramesSoFar bytes old 0 old
  frames_begin = record {
    frames = [];
    count_is = refl;
    named = tt;
    printed = prints_nothing old old refl;
  }

  module _ (count : ℕ) (now : PrinterState) (s : FramesSoFar bytes old count now) where
    pub frames_go_on : (next : PrinterState)
        → ((told : ToldFrame) × IsNamedIn bytes told × IsPrinted now next (frame_line told))
        → FramesSoFar bytes old (count + 1) next
    frames_go_on next one = record {
      frames = s.frames ++ one.0 ∷ [];
      count_is = omega (arith, length-append s.frames (one.0 ∷ []), s.count_is);
      named = all_named bytes s.frames one.0 s.named one.1;
      printed = subst (λ (text : List ℕ). IsPrinted old next text)
          (ap (λ (text : List ℕ). flat_map frame_line s.frames ++ text)
          (sym (append-nil (frame_line one.0)))
          ∙ sym (flat_map-append frame_line s.frames (one.0 ∷ [])))
          (prints_both old now next (flat_map frame_line s.frames) (frame_line one.0) s.printed
          one.2);
    }

    -- no more are there
    pub frames_end : count ≤ 32
        → (text : List ℕ) × AreFrameLines bytes text × IsPrinted old now text
    frames_end few = (
      flat_map frame_line s.frames,
      record {
        frames = s.frames;
        more = 0;
        few = omega (arith, few, s.count_is);
        full = λ some. absurd (some refl);
        named = s.named;
        spelled = sym (append-nil (flat_map frame_line s.frames));
      },
      s.printed,
    )

    -- so many more are there
    pub frames_are_more : count ≡ 32 → (more : ℕ) (last : PrinterState)
        → IsPrinted now last (more_line more)
        → (text : List ℕ) × AreFrameLines bytes text × IsPrinted old last text
    frames_are_more all more last printed = (
      flat_map frame_line s.frames ++ more_line more,
      record {
        frames = s.frames;
        more = more;
        few = omega (arith, all, s.count_is);
        full = λ some. s.count_is ∙ all;
        named = s.named;
        spelled = refl;
      },
      prints_both old now last (flat_map frame_line s.frames) (more_line more) s.printed printed,
    )
