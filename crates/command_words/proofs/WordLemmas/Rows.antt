-- Rows each of which has a value that its option takes.
use Rattle.std.proofs.Common.{◌≡◌, ◌<◌, ◌≤◌, ◌^◌, ℕ, Bool, cond, true, false, refl, ap, sym, ◌∙◌}
use Rattle.std.proofs.Common.{subst, arith, List, []}
use Rattle.std.proofs.Common.{◌∷◌, ◌++◌, ◌||◌, Option, Some, None, codes, true≢false}
use Rattle.std.specs.List.{AllByRecursion as Each, find}
use Rattle.std.specs.Option.{is_some, option_map, option_map_or}
use Rattle.std.specs.Str.{bytes_eq}
use Rattle.std.specs.Cmp.Lexicographic.{bytes_decides}
use Rattle.std.specs.Prelude.{⊤, IfSome, slice_get, option_and_then}
use Rattle.clap.specs.Walk.{one_of, Row, Text, at_row, more_values, row_text, with_values, without}
use Rattle.clap.specs.Words.{IsUnsignedIn, first_of}
use Rattle.clap.specs.Values.{read_as}
use Rattle.clap.specs.Takes.{is_given}
use Rattle.clap.specs.Facts.{explicit_source}
use Rattle.clap.specs.declared.builder.value_parser.Reading.TheVariants.{AsWritten}
use Rattle.clap.specs.declared.parser.matches.ValueSource.{ValueSource}
use Rattle.clap.specs.declared.parser.matches.ValueSource.TheVariants.{CommandLine}
use Rattle.command_words.specs.rules.Commands.{IsFlagText, IsNumberFrom, TakesOptions}
use Rattle.command_words.specs.rules.Commands.{spelled_number}
use Rattle.command_words.proofs.WordLemmas.Walks.{each_append, found_each}

-- the options whose least number is 1, and those whose least is 0
abbrev pub counts_from_one : Text → Bool
counts_from_one id = bytes_eq id (codes "fuel") || (bytes_eq id (codes "every")
    || bytes_eq id (codes "life"))

abbrev pub counts_from_zero : Text → Bool
counts_from_zero id = bytes_eq id (codes "pages") || (bytes_eq id (codes "files")
    || (bytes_eq id (codes "journal") || bytes_eq id (codes "clock")))

-- the one that has a most
abbrev pub has_most : Text → Bool
has_most id = bytes_eq id (codes "batch")

-- and the flags
abbrev pub is_flag : Text → Bool
is_flag id = bytes_eq id (codes "rewrite") || (bytes_eq id (codes "device")
    || (bytes_eq id (codes "json") || (bytes_eq id (codes "verbose")
    || (bytes_eq id (codes "all") || (bytes_eq id (codes "story")
    || (bytes_eq id (codes "live") || bytes_eq id (codes "whole-lines")))))))

-- what is asked of the value of an argument
pub data Asked : Type 0 where
  anything : Asked
  number : ℕ → Asked
  range : ℕ → ℕ → Asked
  flag : Asked

abbrev pub asked_of : Text → Asked
asked_of id = cond (counts_from_one id) (number 1) (cond (counts_from_zero id) (number 0)
    (cond (is_flag id) flag (cond (has_most id) (range 1 65536) anything)))

abbrev pub PassesAs : Asked → Text → Type 0
PassesAs anything text = ⊤
PassesAs (number least) text = IsNumberFrom least text
PassesAs (range least most) text = IsUnsignedIn least most text
PassesAs flag text = IsFlagText text

-- what the value of an argument has to be
abbrev pub Passes : Text → Text → Type 0
Passes id text = PassesAs (asked_of id) text

-- the row has a value, and the first one passes
pub record IsGood (r : Row) : Type 0 where
  pub some : is_some (slice_get r.values 0) ≡ true
  pub passes : IfSome (row_text r) (Passes r.id)

good_at_row : (id : Text) (change : Row → List Row) (missing rows : List Row)
    → ((r : Row) → IsGood r → Each IsGood (change r)) → Each IsGood missing
    → Each IsGood rows → Each IsGood (at_row id change missing rows)
good_at_row id change missing [] changed absent good = absent
good_at_row id change missing (r ∷ rs) changed absent good =
    go (bytes_eq r.id id) (good_at_row id change missing rs changed absent good.1)
  where
    go : (b : Bool) → Each IsGood (at_row id change missing rs)
        → Each IsGood (cond b (change r ++ rs) (r ∷ at_row id change missing rs))
    go true later = each_append IsGood (change r) rs (changed r good.0) good.1
    go false later = (good.0, later)

first_stays : (vs more : List Text) → is_some (slice_get vs 0) ≡ true
    → slice_get (vs ++ more) 0 ≡ slice_get vs 0
first_stays [] more e = absurd (true≢false (sym e))
first_stays (v ∷ vs) more e = refl

more_good : (source : ValueSource) (values : List Text) (r : Row) → IsGood r
    → Each IsGood (more_values source values r)
more_good source values r good =
    let stays : slice_get (r.values ++ values) 0 ≡ slice_get r.values 0 =
    first_stays r.values values good.some in (
      record {
        some = ap is_some stays ∙ good.some;
        passes = subst (λ o. IfSome (option_map (read_as r.reading) o) (Passes r.id)) (sym stays)
            good.passes;
      },
      tt,
    )

-- a use with one value, after those before it
pub added_good : (source : ValueSource) (id v : Text) (rows : List Row) → Passes id v
    → Each IsGood rows → Each IsGood (with_values id AsWritten source (v ∷ []) rows)
added_good source id v rows passes good =
    good_at_row id (more_values source (v ∷ [])) _ rows (more_good source (v ∷ []))
    (record { some = refl; passes = passes }, tt) good

-- one in place of those before it
pub with_good : (id v : Text) (rows : List Row) → Passes id v → Each IsGood rows
    → Each IsGood (with_values id AsWritten CommandLine (v ∷ []) (without id rows))
with_good id v rows passes good =
    added_good CommandLine id v (without id rows) passes
    (good_at_row id (λ _. []) [] rows (λ r h. tt) tt good)

-- ---- what good rows give

pub path_is_there : (name : Text) (rows : List Row) → Each IsGood rows
    → is_given name rows ≡ true → is_some (first_of name rows) ≡ true
path_is_there name rows good e =
    go (find (λ r. bytes_eq r.id name) rows)
    (found_each IsGood (λ r. bytes_eq r.id name) rows good) e
  where
    go : (o : Option Row) → IfSome o (λ r. IsGood r × (bytes_eq r.id name ≡ true))
        → option_map_or (λ r. explicit_source r.source) o false ≡ true
        → is_some (option_and_then (λ (r : Row). slice_get r.values 0) o) ≡ true
    go None h e = absurd (true≢false (sym e))
    go (Some r) h e = h.0.some

-- the first value of an argument passes
first_passes : (id : Text) (rows : List Row) → Each IsGood rows
    → IfSome (one_of id rows) (Passes id)
first_passes id rows good =
    go (find (λ r. bytes_eq r.id id) rows) (found_each IsGood (λ r. bytes_eq r.id id) rows good)
  where
    go : (o : Option Row) → IfSome o (λ r. IsGood r × (bytes_eq r.id id ≡ true))
        → IfSome (option_and_then row_text o) (Passes id)
    go None h = tt
    go (Some r) h = subst (λ (name : Text). IfSome (row_text r) (Passes name))
        ((bytes_decides r.id id).0 h.1) h.0.passes

-- a number up to 65,536 is one of 64 bits
batch_from_one : (text : Option Text) → IfSome text (IsUnsignedIn 1 65536)
    → IfSome text (IsNumberFrom 1)
batch_from_one None fits = tt
batch_from_one (Some text) fits =
    let few : spelled_number text < 2 ^ 64 = fits.1 in (fits.0, fits.1, fits.2, omega (arith, few))

batch_few : (text : Option Text) → IfSome text (IsUnsignedIn 1 65536)
    → IfSome text (λ t. spelled_number t ≤ 65536)
batch_few None fits = tt
batch_few (Some text) fits = fits.3

pub options_are_taken : (rows : List Row) → Each IsGood rows → TakesOptions rows
options_are_taken rows good = record {
  pages = first_passes (codes "pages") rows good;
  files = first_passes (codes "files") rows good;
  journal = first_passes (codes "journal") rows good;
  fuel = first_passes (codes "fuel") rows good;
  every = first_passes (codes "every") rows good;
  batch = batch_from_one (one_of (codes "batch") rows) (first_passes (codes "batch") rows good);
  few = batch_few (one_of (codes "batch") rows) (first_passes (codes "batch") rows good);
  clock = first_passes (codes "clock") rows good;
  life = first_passes (codes "life") rows good;
  rewrite = first_passes (codes "rewrite") rows good;
  verbose = first_passes (codes "verbose") rows good;
  whole_lines = first_passes (codes "whole-lines") rows good;
  device = first_passes (codes "device") rows good;
  json = first_passes (codes "json") rows good;
  story = first_passes (codes "story") rows good;
  all = first_passes (codes "all") rows good;
  live = first_passes (codes "live") rows good;
}
