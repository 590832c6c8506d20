-- Words for which no fault is listed name one of the eleven commands, with what it needs.
use Rattle.std.proofs.Common.{◌≡◌, ◌+◌, ◌<◌, ◌≤◌, ◌^◌, ℕ, Bool, ◌||◌, not, cond, true, false, arith}
use Rattle.std.proofs.Common.{refl, sym, subst, List, [], ◌∷◌, Option, Some, None}
use Rattle.std.proofs.Common.{codes, true≢false, ◌⊎◌, inl, inr}
use Rattle.std.specs.List.{AllByRecursion as Each, find, fold}
use Rattle.std.specs.Option.{is_some, IsSomeAnd, option_map, option_map_or}
use Rattle.std.specs.Str.{bytes_eq}
use Rattle.std.specs.Cmp.Lexicographic.{bytes_decides}
use Rattle.std.specs.Prelude.{IfSome, option_and_then}
use Rattle.clap.specs.Walk.{Held, Names, one_of, Row, Rule, Text, Walk, default_rows, reading_by}
use Rattle.clap.specs.Walk.{finished, has_row, nothing_held, settled, walk, walk_from, with_default}
use Rattle.clap.specs.Walk.{answers_to, with_values}
use Rattle.clap.specs.Simple.{App, Shape, argument_words, built, entered, label_of, names_of}
use Rattle.clap.specs.Simple.{rows_at, subcommand_of}
use Rattle.clap.specs.Words.{first_of}
use Rattle.clap.specs.Kinds.{or_else}
use Rattle.clap.specs.Takes.{is_given}
use Rattle.clap.specs.Faults.{check_fault, defaults_fault, entered_fault, fault_of, level_fault}
use Rattle.clap.specs.Faults.{settle_fault, walk_fault}
use Rattle.clap.specs.declared.builder.value_parser.Reading.TheVariants.{AsWritten}
use Rattle.clap.specs.declared.parser.matches.ValueSource.TheVariants.{DefaultValue}
use Rattle.clap.specs.declared.error.kind.ErrorKind.TheVariants as kind
use Rattle.command_words.specs.rules.CommandLine.{wasmhost}
use Rattle.command_words.specs.rules.Commands.{IsNumberFrom, Meaning, check, copy_in, create}
use Rattle.command_words.specs.rules.Commands.{create_in, disk_in, flag_in, guest_words}
use Rattle.command_words.specs.rules.Commands.{meaning_below, module_in, number_or, own_words, run}
use Rattle.command_words.specs.rules.Commands.{run_in, script_in, show, spelled_number, story}
use Rattle.command_words.specs.rules.Commands.{story_in, TakesOptions, files, files_in, history_in}
use Rattle.command_words.specs.rules.Commands.{inspect_in, live_in, sweep, sweep_in, save, upgrade}
use Rattle.command_words.specs.Commands.{HasPaths, IsTaken}
use Rattle.command_words.specs.laws.Words.{FaultlessWordsMean, NumbersFit}
use Rattle.command_words.proofs.WordLemmas.Walks.{Keeps, found_each, no_first}
use Rattle.command_words.proofs.WordLemmas.Walks.{no_second, settled_good, some_kind, walk_good}
use Rattle.command_words.proofs.WordLemmas.Stops.{NoHelp, walk_on}
use Rattle.command_words.proofs.WordLemmas.Rows.{IsGood, Passes, added_good, options_are_taken}
use Rattle.command_words.proofs.WordLemmas.Rows.{path_is_there}
use Rattle.command_words.proofs.WordLemmas.Uses.{keeps_env, keeps_flag, keeps_folder, keeps_help}
use Rattle.command_words.proofs.WordLemmas.Uses.{keeps_last, keeps_number, keeps_path}
use Rattle.command_words.proofs.WordLemmas.Uses.{keeps_range, keeps_text}

-- ---- one level

-- what stands for an argument that isn't used is good
abbrev HasGoodDefault : Rule → Type 0
HasGoodDefault a = (rows : List Row) → Each IsGood rows
    → Each IsGood (default_rows a.id (reading_by a) a.defaults rows)

defaults_good : (c : List Rule) (rows : List Row) → Each HasGoodDefault c → Each IsGood rows
    → Each IsGood (fold with_default rows c)
defaults_good [] rows h good = good
defaults_good (a ∷ c) rows h good =
    defaults_good c (with_default rows a) h.1 (go (has_row a.id rows))
  where
    go : (b : Bool)
        → Each IsGood (cond b rows (default_rows a.id (reading_by a) a.defaults rows))
    go true = good
    go false = h.0 rows good

-- none stands for it
unused : (rows : List Row) → Each IsGood rows → Each IsGood rows
unused rows good = good

-- for a flag a no is
no_flag : (name : Text) → Passes name (codes "false") → (rows : List Row) → Each IsGood rows
    → Each IsGood (with_values name AsWritten DefaultValue (codes "false" ∷ []) rows)
no_flag name is rows good = added_good DefaultValue name (codes "false") rows is good

-- good rows for which no fault is listed in the end have the paths of their command
abbrev AsksForPaths : Shape → Type 0
AsksForPaths s = (rows : List Row) → Each IsGood rows → check_fault s rows false ≡ []
    → HasPaths s.name rows

-- rows stay good by each use of the argument, and by what stands for it where there is none
abbrev KeepsRows : Bool → Rule → Type 0
KeepsRows again a = Keeps IsGood again a × HasGoodDefault a

each_keeps : (again : Bool) (c : List Rule) → Each (KeepsRows again) c
    → Each (Keeps IsGood again) c × Each HasGoodDefault c
each_keeps again [] h = (tt, tt)
each_keeps again (a ∷ c) h =
    let later = each_keeps again c h.1 in ((h.0.0, later.0), (h.0.1, later.1))

-- a subcommand for whose own words no fault is listed
below_taken : (s : Shape) (words : List Text) → level_fault s [] nothing_held words false [] ≡ []
    → AsksForPaths s → Each (KeepsRows s.args_override_self) s.rules → IsTaken (rows_at s words)
below_taken s words e asks each =
    let keeps : Each (Keeps IsGood s.args_override_self) s.rules × Each HasGoodDefault s.rules =
    each_keeps s.args_override_self s.rules each in
    let end : Held = (walk s.rules [] nothing_held words).held in
    let walks : walk_fault s [] (walk_from nothing_held) words ≡ [] =
    no_first (walk_fault s [] (walk_from nothing_held) words) _ e in
    let after : or_else (settle_fault s.rules s.args_override_self end)
    (or_else (defaults_fault (settled s.rules end).rows s.rules)
    (check_fault s (finished s.rules end) false)) ≡ []
    = no_second (walk_fault s [] (walk_from nothing_held) words) _ e in
    let settles = no_first (settle_fault s.rules s.args_override_self end) _ after in
    let checks =
    no_second (defaults_fault (settled s.rules end).rows s.rules) _
    (no_second (settle_fault s.rules s.args_override_self end) _ after) in
    let good : Each IsGood (settled s.rules end).rows =
    settled_good IsGood s.rules s.args_override_self keeps.0 end settles
    (walk_good IsGood s [] keeps.0 (walk_from nothing_held) words walks tt) in
    let finished_good : Each IsGood (finished s.rules end) =
    defaults_good s.rules (settled s.rules end).rows keeps.1 good in (
      asks (finished s.rules end) finished_good checks,
      options_are_taken (finished s.rules end) finished_good,
    )

-- ---- arguments that have to be given

wants : (b : Bool) → cond (not b || false) (kind.MissingRequiredArgument ∷ []) [] ≡ [] → b ≡ true
wants true e = refl
wants false e = absurd (some_kind _ [] e)

wants_first : (a b : Bool)
    → cond (not a || (not b || false)) (kind.MissingRequiredArgument ∷ []) [] ≡ [] → a ≡ true
wants_first true b e = refl
wants_first false b e = absurd (some_kind _ [] e)

wants_second : (a b : Bool)
    → cond (not a || (not b || false)) (kind.MissingRequiredArgument ∷ []) [] ≡ [] → b ≡ true
wants_second true b e = wants b e
wants_second false b e = absurd (some_kind _ [] e)

-- the argument of a command is there, where no fault is listed
one_path : (name path : Text) (rows : List Row) → Each IsGood rows
    → cond (not (is_given path rows) || false) (kind.MissingRequiredArgument ∷ []) [] ≡ []
    → (name ≡ name) × (is_some (first_of path rows) ≡ true)
one_path name path rows good e =
    (refl, path_is_there path rows good (wants (is_given path rows) e))

-- both arguments of a command are there
two_paths : (name first second : Text) (rows : List Row) → Each IsGood rows
    → cond (not (is_given first rows) || (not (is_given second rows) || false))
    (kind.MissingRequiredArgument ∷ []) [] ≡ []
    → (name ≡ name) × (is_some (first_of first rows) ≡ true)
    × (is_some (first_of second rows) ≡ true)
two_paths name first second rows good e =
    let here = is_given first rows in
    let there = is_given second rows in (
      refl,
      path_is_there first rows good (wants_first here there e),
      path_is_there second rows good (wants_second here there e),
    )

-- ---- the whole line

abbrev app : App
app = built wasmhost

-- what a subcommand that the word names makes of the words after it
abbrev Leads : Text → List Text → Shape → Type 0
Leads name words s = answers_to name (label_of s) ≡ true
    → level_fault s [] nothing_held words false [] ≡ [] → IsTaken (rows_at s words)

-- what holds of the first member of a list, and of the others
infixr 5 ◌&◌
◌&◌ : {A B : Type 0} → A → B → A × B
a & b = (a, b)

-- one of the commands behind the first five
after_five : {A B C D E F : Type 0} → F → A ⊎ (B ⊎ (C ⊎ (D ⊎ (E ⊎ F))))
after_five x = inr (inr (inr (inr (inr x))))

or_false : (b : Bool) → (b || false) ≡ true → b ≡ true
or_false true e = refl
or_false false e = e

module _ (name : Text) (words : List Text) (no_help : bytes_eq name (codes "help") ≡ false) where
  each_leads : Each (Leads name words) app.subs
  each_leads =
      (λ here e. below_taken _ words e
      (λ rows good e. inl (one_path (codes "check") (codes "MODULE") rows good e))
      ((keeps_path 1 (codes "MODULE") (λ v. tt), unused)
      & (keeps_number 2 (codes "pages") 0 (λ v is. is), unused)
      & (keeps_flag 2 (codes "all") (inl refl), no_flag (codes "all") (inr refl))
      & (keeps_help, unused)
      & tt))
      & (λ here e. below_taken _ words e
      (λ rows good e. inr (inl
      (two_paths (codes "create") (codes "DISK") (codes "MODULE") rows good e)))
      ((keeps_path 1 (codes "DISK") (λ v. tt), unused)
      & (keeps_path 2 (codes "MODULE") (λ v. tt), unused)
      & (keeps_number 3 (codes "pages") 0 (λ v is. is), unused)
      & (keeps_number 3 (codes "files") 0 (λ v is. is), unused)
      & (keeps_number 3 (codes "journal") 0 (λ v is. is), unused)
      & (keeps_env 3, unused)
      & (keeps_flag 3 (codes "device") (inl refl), no_flag (codes "device") (inr refl))
      & (keeps_text 3 (codes "from") (λ v. tt), unused)
      & (keeps_help, unused)
      & tt))
      & (λ here e. below_taken _ words e
      (λ rows good e. inr (inr (inl (one_path (codes "run") (codes "DISK") rows good e))))
      ((keeps_path 1 (codes "DISK") (λ v. tt), unused)
      & (keeps_number 2 (codes "fuel") 1 (λ v is. is), unused)
      & (keeps_number 2 (codes "every") 1 (λ v is. is), unused)
      & (keeps_range 2 (codes "batch") 1 65536 (λ v is. is), unused)
      & (keeps_text 2 (codes "seed") (λ v. tt), unused)
      & (keeps_number 2 (codes "clock") 0 (λ v is. is), unused)
      & (keeps_flag 2 (codes "rewrite") (inl refl), no_flag (codes "rewrite") (inr refl))
      & (keeps_text 2 (codes "status") (λ v. tt), unused)
      & (keeps_text 2 (codes "metrics") (λ v. tt), unused)
      & (keeps_flag 2 (codes "verbose") (inl refl), no_flag (codes "verbose") (inr refl))
      & (keeps_text 2 (codes "seed-file") (λ v. tt), unused)
      & (keeps_flag 2 (codes "whole-lines") (inl refl), no_flag (codes "whole-lines") (inr refl))
      & (keeps_help, unused)
      & tt))
      & (λ here e. below_taken _ words e
      (λ rows good e. inr (inr (inr (inl (one_path (codes "show") (codes "DISK") rows good e)))))
      ((keeps_path 1 (codes "DISK") (λ v. tt), unused)
      & (keeps_flag 2 (codes "live") (inl refl), no_flag (codes "live") (inr refl))
      & (keeps_help, unused)
      & tt))
      & (λ here e. below_taken _ words e
      (λ rows good e. inr (inr (inr (inr (inl
      (one_path (codes "inspect") (codes "DISK") rows good e))))))
      ((keeps_path 1 (codes "DISK") (λ v. tt), unused)
      & (keeps_flag 2 (codes "json") (inl refl), no_flag (codes "json") (inr refl))
      & (keeps_flag 2 (codes "live") (inl refl), no_flag (codes "live") (inr refl))
      & (keeps_help, unused)
      & tt))
      & (λ here e. below_taken _ words e
      (λ rows good e. after_five (inl (one_path (codes "files") (codes "DISK") rows good e)))
      ((keeps_path 1 (codes "DISK") (λ v. tt), unused)
      & (keeps_last 2 (codes "PATH") (λ v. tt), unused)
      & (keeps_folder 3, unused)
      & (keeps_flag 3 (codes "live") (inl refl), no_flag (codes "live") (inr refl))
      & (keeps_help, unused)
      & tt))
      & (λ here e. below_taken _ words e
      (λ rows good e. after_five (inr (inl
      (one_path (codes "history") (codes "DISK") rows good e))))
      ((keeps_path 1 (codes "DISK") (λ v. tt), unused)
      & (keeps_flag 2 (codes "story") (inl refl), no_flag (codes "story") (inr refl))
      & (keeps_flag 2 (codes "live") (inl refl), no_flag (codes "live") (inr refl))
      & (keeps_help, unused)
      & tt))
      & (λ here e. below_taken _ words e
      (λ rows good e. after_five (inr (inr (inl
      (one_path (codes "upgrade") (codes "DISK") rows good e)))))
      ((keeps_path 1 (codes "DISK") (λ v. tt), unused)
      & (keeps_help, unused)
      & tt))
      & (λ here e. below_taken _ words e
      (λ rows good e. after_five (inr (inr (inr (inl
      (two_paths (codes "save") (codes "DISK") (codes "COPY") rows good e))))))
      ((keeps_path 1 (codes "DISK") (λ v. tt), unused)
      & (keeps_path 2 (codes "COPY") (λ v. tt), unused)
      & (keeps_flag 3 (codes "live") (inl refl), no_flag (codes "live") (inr refl))
      & (keeps_help, unused)
      & tt))
      & (λ here e. below_taken _ words e
      (λ rows good e. after_five (inr (inr (inr (inr (inl
      (two_paths (codes "story") (codes "SCRIPT") (codes "MODULE") rows good e)))))))
      ((keeps_path 1 (codes "SCRIPT") (λ v. tt), unused)
      & (keeps_path 2 (codes "MODULE") (λ v. tt), unused)
      & (keeps_number 3 (codes "pages") 0 (λ v is. is), unused)
      & (keeps_number 3 (codes "files") 0 (λ v is. is), unused)
      & (keeps_number 3 (codes "journal") 0 (λ v is. is), unused)
      & (keeps_help, unused)
      & tt))
      & (λ here e. below_taken _ words e
      (λ rows good e. after_five (after_five
      (two_paths (codes "sweep") (codes "SCRIPT") (codes "MODULE") rows good e)))
      ((keeps_path 1 (codes "SCRIPT") (λ v. tt), unused)
      & (keeps_path 2 (codes "MODULE") (λ v. tt), unused)
      & (keeps_number 3 (codes "pages") 0 (λ v is. is), unused)
      & (keeps_number 3 (codes "files") 0 (λ v is. is), unused)
      & (keeps_number 3 (codes "journal") 0 (λ v is. is), unused)
      & (keeps_text 3 (codes "fronts") (λ v. tt), unused)
      & (keeps_number 3 (codes "life") 1 (λ v is. is), unused)
      & (keeps_help, unused)
      & tt))
      & (λ here e. absurd (is_help (or_false (bytes_eq (codes "help") name) here)))
      & tt
    where
      is_help : bytes_eq (codes "help") name ≡ true → ⊥
      is_help here =
          let same : codes "help" ≡ name = (bytes_decides (codes "help") name).0 here in
          true≢false (subst (λ (t : Text). bytes_eq t (codes "help") ≡ false) (sym same) no_help)

  entered_taken : (rows : List Row) → entered_fault app (Some (name, words)) ≡ []
      → check_fault app.top rows (is_some (entered app (Some (name, words)))) ≡ []
      → IsSomeAnd (entered app (Some (name, words))) IsTaken
  entered_taken rows below checks =
      go (find (λ s. answers_to name (label_of s)) app.subs) (found_each (Leads name words) (λ s.
      answers_to name (label_of s)) app.subs each_leads) below checks
    where
      go : (o : Option Shape)
          → IfSome o (λ s. Leads name words s × (answers_to name (label_of s) ≡ true))
          → option_map_or (λ s. level_fault s [] nothing_held words false []) o [] ≡ []
          → check_fault app.top rows (is_some (option_map (λ s. rows_at s words) o)) ≡ []
          → IsSomeAnd (option_map (λ s. rows_at s words) o) IsTaken
      go None h below checks = absurd (some_kind _ _ checks)
      go (Some s) h below checks = h.0 h.1 below

stop_taken : (stop : Option (Text × List Text)) (rows : List Row) → NoHelp stop
    → entered_fault app stop ≡ []
    → check_fault app.top rows (is_some (entered app stop)) ≡ []
    → IsSomeAnd (entered app stop) IsTaken
stop_taken None rows no_help below checks = absurd (some_kind _ _ checks)
stop_taken (Some p) rows no_help below checks = entered_taken p.0 p.1 no_help rows below checks

pub words_taken : (words : List Text) → fault_of wasmhost words ≡ []
    → IsSomeAnd (subcommand_of wasmhost words) IsTaken
words_taken words e =
    let names : Names = names_of app in
    let rest : List Text = argument_words app words in
    let end : Walk = walk app.top.rules names nothing_held rest in
    let walks : walk_fault app.top names (walk_from nothing_held) rest ≡ [] =
    no_first (walk_fault app.top names (walk_from nothing_held) rest) _ e in
    let after = no_second (walk_fault app.top names (walk_from nothing_held) rest) _ e in
    let below : entered_fault app end.stopped ≡ [] =
    no_first (entered_fault app end.stopped) _ after in
    let later = no_second (entered_fault app end.stopped) _ after in
    let checks =
    no_second (defaults_fault (settled app.top.rules end.held).rows app.top.rules) _
    (no_second (settle_fault app.top.rules app.top.args_override_self end.held) _ later) in
    stop_taken end.stopped (finished app.top.rules end.held)
    (walk_on app.top names refl (walk_from nothing_held) rest walks tt) below checks

-- ---- what they mean

-- the number of an option that takes such a one, or another such one
number_fits : (least other : ℕ) (name : Text) (rows : List Row) → IfSome (one_of name rows)
    (IsNumberFrom least) → least ≤ other → other < 2 ^ 64
    → (least ≤ number_or name other rows) × (number_or name other rows < 2 ^ 64)
number_fits least other name rows fits from below = go (one_of name rows) fits
  where
    go : (text : Option Text) → IfSome text (IsNumberFrom least)
        → (least ≤ option_map_or spelled_number text other)
        × (option_map_or spelled_number text other < 2 ^ 64)
    go None fits = (from, below)
    go (Some text) fits = (fits.2, fits.1)

run_has_numbers : (rows : List Row) (path : Text) → TakesOptions rows
    → NumbersFit (run (run_in rows path))
run_has_numbers rows path taken =
    let fuel = number_fits 1 100000 (codes "fuel") rows taken.fuel (omega arith) (omega arith) in
    let every = number_fits 1 100 (codes "every") rows taken.every (omega arith) (omega arith) in
    let batch = number_fits 1 1 (codes "batch") rows taken.batch (omega arith) (omega arith) in
    (fuel.0, fuel.1, every.0, every.1, batch.0, few_fit (one_of (codes "batch") rows) taken.few)
  where
    few_fit : (text : Option Text) → IfSome text (λ t. spelled_number t ≤ 65536)
        → option_map_or spelled_number text 1 ≤ 65536
    few_fit None fits = omega arith
    few_fit (Some text) fits = fits

check_has_numbers : (rows : List Row) (path : Text) → TakesOptions rows
    → NumbersFit (check path (number_or (codes "pages") 256 rows) (flag_in (codes "all") rows))
check_has_numbers rows path taken =
    (number_fits 0 256 (codes "pages") rows taken.pages (omega arith) (omega arith)).1

-- the sizes of a worker, or what stands for them
sizes_fit : (pages units sectors : ℕ) (rows : List Row) → TakesOptions rows
    → pages + units + sectors < 2 ^ 64 → (number_or (codes "pages") pages rows < 2 ^ 64)
    × (number_or (codes "files") units rows < 2 ^ 64)
    × (number_or (codes "journal") sectors rows < 2 ^ 64)
sizes_fit pages units sectors rows taken few = (
  (number_fits 0 pages (codes "pages") rows taken.pages (omega arith) (omega arith)).1,
  (number_fits 0 units (codes "files") rows taken.files (omega arith) (omega arith)).1,
  (number_fits 0 sectors (codes "journal") rows taken.journal (omega arith) (omega arith)).1,
)

path_means : (means : Text → Meaning) (path : Option Text) → is_some path ≡ true
    → ((text : Text) → NumbersFit (means text)) → IsSomeAnd (option_map means path) NumbersFit
path_means means None e has = absurd (true≢false (sym e))
path_means means (Some path) e has = has path

paths_mean : (means : Text → Text → Meaning) (disk path : Option Text) → is_some disk ≡ true
    → is_some path ≡ true → ((d text : Text) → NumbersFit (means d text))
    → IsSomeAnd (option_and_then (λ d. option_map (means d) path) disk) NumbersFit
paths_mean means None path d e has = absurd (true≢false (sym d))
paths_mean means (Some disk) path d e has = path_means (means disk) path e (has disk)

module _ (arguments : List Text) (rows : List Row) (options : TakesOptions rows) where
  -- what the command of this name means has numbers that fit
  abbrev Fits : Text → Type 0
  Fits name = IsSomeAnd (meaning_below arguments (name, rows)) NumbersFit

  named : {word name : Text} → name ≡ word → Fits word → Fits name
  named is = subst Fits (sym is)

  taken_means : (name : Text) → HasPaths name rows → Fits name
  taken_means name (inl p) = named p.0 (path_means
      (λ path. check path (number_or (codes "pages") 256 rows) (flag_in (codes "all") rows))
      (module_in rows) p.1 (λ path. check_has_numbers rows path options))
  taken_means name (inr (inl p)) = named p.0 (paths_mean
      (λ disk path. create (create_in rows arguments disk path)) (disk_in rows) (module_in rows)
      p.1 p.2 (λ disk path. sizes_fit 16 16 256 rows options (omega arith)))
  taken_means name (inr (inr (inl p))) = named p.0 (path_means
      (λ disk. run (run_in rows disk)) (disk_in rows) p.1
      (λ disk. run_has_numbers rows disk options))
  taken_means name (inr (inr (inr (inl p)))) = named p.0
      (path_means (λ disk. show disk (live_in rows)) (disk_in rows) p.1 (λ disk. tt))
  taken_means name (inr (inr (inr (inr (inl p))))) = named p.0
      (path_means (inspect_in rows) (disk_in rows) p.1 (λ disk. tt))
  taken_means name (inr (inr (inr (inr (inr (inl p)))))) = named p.0 (path_means
      (λ disk. files disk (files_in rows) (live_in rows)) (disk_in rows) p.1 (λ disk. tt))
  taken_means name (inr (inr (inr (inr (inr (inr (inl p))))))) = named p.0
      (path_means (history_in rows) (disk_in rows) p.1 (λ disk. tt))
  taken_means name (inr (inr (inr (inr (inr (inr (inr (inl p)))))))) = named p.0
      (path_means upgrade (disk_in rows) p.1 (λ disk. tt))
  taken_means name (inr (inr (inr (inr (inr (inr (inr (inr (inl p))))))))) = named p.0 (paths_mean
      (λ disk copy. save disk copy (live_in rows)) (disk_in rows) (copy_in rows) p.1 p.2
      (λ disk copy. tt))
  taken_means name (inr (inr (inr (inr (inr (inr (inr (inr (inr (inl p)))))))))) = named p.0
      (paths_mean (λ script path. story (story_in rows script path)) (script_in rows)
      (module_in rows) p.1 p.2 (λ script path. sizes_fit 1 1 64 rows options (omega arith)))
  taken_means name (inr (inr (inr (inr (inr (inr (inr (inr (inr (inr p)))))))))) = named p.0
      (paths_mean (λ script path. sweep (sweep_in rows script path)) (script_in rows)
      (module_in rows) p.1 p.2 (λ script path. sizes_fit 1 1 64 rows options (omega arith)))

pub faultless_words_mean : FaultlessWordsMean
faultless_words_mean words e =
    go (subcommand_of wasmhost (own_words words))
    (words_taken (own_words words) (no_first (fault_of wasmhost (own_words words)) _ e))
  where
    go : (o : Option (Text × List Row)) → IsSomeAnd o IsTaken
        → IsSomeAnd (option_and_then (meaning_below (guest_words words)) o) NumbersFit
    go None h = absurd h
    go (Some met) h = taken_means (guest_words words) met.1 h.1 met.0 h.0
