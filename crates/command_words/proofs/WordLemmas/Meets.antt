-- From what `clap` says of its matches to what the words mean.
use Rattle.std.proofs.Common.{◌≡◌, ◌<◌, ◌≤◌, ℕ, Bool, true, false, refl, ap, ap₂, sym, ◌∙◌, subst}
use Rattle.std.proofs.Common.{List, [], ◌∷◌, Option, Some, None, Result, Ok, Err, codes, inl, inr}
use Rattle.std.proofs.Common.{true≢false, not, ◌&&◌}
use Rattle.std.specs.Option.{IsSomeAnd, is_some, option_map, option_map_or, unwrap_or}
use Rattle.std.specs.Prelude.{Box, IfSome}
use Rattle.std.specs.Str.{bytes_eq}
use Rattle.std.specs.Str.Parse.{ParsesUnsigned}
use Rattle.std.specs.Box.{box_value}
use Rattle.clap.specs.Words.{App, ReadsOne, Row, Text, fault_of, first_of, first_value}
use Rattle.clap.specs.Words.{has_subcommand, is_simple_and_free, kind_of, matched_of, one_of}
use Rattle.clap.specs.Words.{HasMatchesOf, is_simple}
use Rattle.clap.specs.Words.{one_text, raw_values, rows_of, subcommand_name_of, subcommand_of}
use Rattle.clap.specs.Words.{subcommand_rows, subcommand_rows_of, takes, HasKind, IsAmong}
use Rattle.clap.specs.Kinds.{Kinds, or_else}
use Rattle.clap.specs.declared.error.Error.{Error}
use Rattle.clap.specs.declared.error.kind.ErrorKind.{ErrorKind}
use Rattle.clap.specs.declared.error.kind.ErrorKind.TheVariants as kind
use Rattle.clap.specs.declared.parser.matches.ArgMatches.{ArgMatches}
use Rattle.clap.specs.declared.parser.matches.ArgMatches.TheViews.{out-ArgMatches, out-SubCommand}
use Rattle.clap.specs.declared.parser.matches.SubCommand.{SubCommand}
use Rattle.clap.specs.declared.parser.matches.Found.{Found}
use Rattle.clap.proofs.WalkLemmas.{first_value-rows, one_text-rows, raw_values-rows}
use Rattle.command_words.specs.rules.CommandLine.{wasmhost}
use Rattle.command_words.specs.rules.Commands.{IsFaultOf, IsNumberFrom, IsFlagText, TakesFlag}
use Rattle.command_words.specs.rules.Commands.{flag_in, IsWordsFault, conflict_in, faults_in_own}
use Rattle.command_words.specs.rules.Commands.{TakesNumber, environment_in, number_given, number_or}
use Rattle.command_words.specs.rules.Commands.{spelled_number}
use Rattle.command_words.specs.Commands.{IsTaken}
use Rattle.command_words.specs.declared.command_line.WordsFault.{WordsFault}
use Rattle.command_words.specs.declared.command_line.WordsFault.TheVariants as fault
use Rattle.command_words.proofs.WordLemmas.Lines.{words_taken}

-- ---- numbers

-- what `get_one` gives of an option is its number
pub number_is_read : (least : ℕ) (E : Type 0) (Gives : Text → Result ℕ E → Type 0) (found : Found)
    (name : Text) (given : Option ℕ) → ((text : Text) (r : Result ℕ E) → Gives text r
    → ParsesUnsigned 64 10 text r) → (one_text found name ≡ None → given ≡ None)
    → ((text : Text) → one_text found name ≡ Some text → ReadsOne Gives text given)
    → TakesNumber least name (rows_of found) → given ≡ number_given name (rows_of found)
number_is_read least E Gives found name given parses none some fits =
    go (one_of name (rows_of found)) (one_text-rows found name) fits
  where
    number : (text : Text) (given : Option ℕ) → IsNumberFrom least text → ReadsOne Gives text given
        → given ≡ Some (spelled_number text)
    number text (Some n) fits read = ap Some (parses text (Ok n) read).1
    number text None fits read = absurd (parses text (Err read.0) read.1 (fits.0, fits.1))

    go : (text : Option Text) → one_text found name ≡ text → IfSome text (IsNumberFrom least)
        → given ≡ option_map spelled_number text
    go None is fits = none is
    go (Some text) is fits = number text given fits (some text is)

-- and where it isn't there, it is another one
pub number_or_is : (name : Text) (other : ℕ) (rows : List Row)
    → unwrap_or (number_given name rows) other ≡ number_or name other rows
number_or_is name other rows = go (one_of name rows)
  where
    go : (text : Option Text) → unwrap_or (option_map spelled_number text) other
        ≡ option_map_or spelled_number text other
    go None = refl
    go (Some text) = refl

pub number_is_positive : (name : Text) (other : ℕ) (rows : List Row) → TakesNumber 1 name rows
    → 1 ≤ other → 0 < number_or name other rows
number_is_positive name other rows fits from = go (one_of name rows) fits
  where
    go : (text : Option Text) → IfSome text (IsNumberFrom 1)
        → 0 < option_map_or spelled_number text other
    go None fits = from
    go (Some text) fits = fits.2

-- ---- flags

-- what `get_flag` gives
pub flag_is_read : (found : Found) (name : Text) (given : Bool)
    → (one_text found name ≡ None → given ≡ false)
    → (one_text found name ≡ Some (codes "true") → given ≡ true)
    → (one_text found name ≡ Some (codes "false") → given ≡ false)
    → TakesFlag name (rows_of found) → given ≡ flag_in name (rows_of found)
flag_is_read found name given absent on off takes =
    go (one_of name (rows_of found)) (one_text-rows found name) takes
  where
    go : (text : Option Text) → one_text found name ≡ text → IfSome text IsFlagText
        → given ≡ option_map_or (λ t. bytes_eq t (codes "true")) text false
    go None is says = absent is
    go (Some text) is says = elim says [
      | inl e ↦ subst (λ (t : Text). given ≡ bytes_eq t (codes "true")) (sym e)
          (on (is ∙ ap Some e))
      | inr e ↦ subst (λ (t : Text). given ≡ bytes_eq t (codes "true")) (sym e)
          (off (is ∙ ap Some e))
    ]

-- ---- texts

-- the entries that `get_strs` gives
pub entries_are_read : (found : Found) (given : Option (List Text))
    → given ≡ option_map raw_values (matched_of found (codes "env"))
    → unwrap_or given [] ≡ environment_in (rows_of found)
entries_are_read found given is =
    ap (λ o. unwrap_or o []) (is ∙ raw_values-rows found (codes "env"))

pub path_is_some : (found : Found) (name : Text) (path : Option Text)
    → path ≡ first_value found name → first_of name (rows_of found) ≡ path
path_is_some found name path is = sym (is ∙ first_value-rows found name)

-- ---- the subcommand

named_and_met : (m : ArgMatches) (name : Text) (rows : List Row) → Some name ≡ subcommand_name_of m
    → Some rows ≡ option_map (λ p. p.1) (subcommand_rows_of m)
    → subcommand_rows_of m ≡ Some (name, rows)
named_and_met m name rows = go (out-ArgMatches m).subcommand
  where
    go : {Z : Type 0} (o : Option (Box SubCommand Z))
        → Some name ≡ option_map (λ b. (out-SubCommand (box_value b)).name.now) o
        → Some rows ≡ option_map (λ p. p.1) (subcommand_rows o)
        → subcommand_rows o ≡ Some (name, rows)
    go None is met = absurd (true≢false (ap is_some is))
    go (Some b) is met =
        sym (ap₂ (λ n r. Some (n, r)) (ap (λ o. unwrap_or o name) is)
        (ap (λ o. unwrap_or o rows) met))

module _ (words : List Text) (m : ArgMatches) (faultless : fault_of wasmhost words
    ≡ []) (parsed : subcommand_rows_of m ≡ subcommand_of wasmhost words) where
  taken : IsSomeAnd (subcommand_rows_of m) IsTaken
  taken = subst (λ o. IsSomeAnd o IsTaken) (sym parsed) (words_taken words faultless)

  pub is_never_alone : false ≡ has_subcommand m → ⊥
  is_never_alone = go (out-ArgMatches m).subcommand taken
    where
      go : {Z : Type 0} (o : Option (Box SubCommand Z)) → IsSomeAnd (subcommand_rows o) IsTaken
          → false ≡ is_some o → ⊥
      go None h e = h
      go (Some b) h e = true≢false (sym e)

  pub met_is_taken : (name : Text) (rows : List Row) → Some name ≡ subcommand_name_of m
      → Some rows ≡ option_map (λ p. p.1) (subcommand_rows_of m) → IsTaken (name, rows)
  met_is_taken name rows is met =
      subst (λ o. IsSomeAnd o IsTaken) (named_and_met m name rows is met) taken

-- ---- the whole line

-- ---- parses

-- the matches of the program are those of the words
pub parse_of : (words : List Text) (app : App) (m : ArgMatches) → app ≡ wasmhost
    → (is_simple_and_free app ≡ true → fault_of app words ≡ []) → HasMatchesOf app words m
    → (fault_of wasmhost words ≡ []) × (subcommand_rows_of m ≡ subcommand_of wasmhost words)
parse_of words app m is kinds has = (
  subst (λ a. fault_of a words ≡ []) is (kinds (ap is_simple_and_free is)),
  subst (λ a. subcommand_rows_of m ≡ subcommand_of a words) is (has (ap is_simple is)).1,
)

-- ---- faults

-- what an error of the command line is told as
pub told_fault : (words : List Text) (app : App) (told : Error) (f : WordsFault) → app ≡ wasmhost
    → (is_simple_and_free app ≡ true → HasKind (fault_of app words) told)
    → (takes app words ≡ true → kind_of told ≡ kind.OutOfMemory) → IsWordsFault told f
    → IsFaultOf words f
told_fault words app told fault.Memory is kinds passes says = tt
told_fault words app told (fault.Words kept) is kinds passes says =
    let among : IsAmong (kind_of told) (fault_of wasmhost words) =
    elim (kinds (ap is_simple_and_free is)) [
      | inl memory ↦ absurd (says.1 memory)
      | inr k ↦ subst (λ a. IsAmong (kind_of told) (fault_of a words)) is k
    ] in (
      subst (λ e. IsAmong (kind_of e) (faults_in_own words)) (sym says.0)
          (among_first (kind_of told) (fault_of wasmhost words) _ among),
      λ t. says.1 (passes (ap (λ a. takes a words) is ∙ first (takes wasmhost words)
          (not (conflict_in words)) t)),
    )
  where
    among_first : (k : ErrorKind) (first second : Kinds) → IsAmong k first
        → IsAmong k (or_else first second)
    among_first k [] second among = absurd among
    among_first k (x ∷ xs) second among = among

    first : (a b : Bool) → (a && b) ≡ true → a ≡ true
    first true b e = refl
    first false b e = e
