-- A walk that fails at no step never stops at `help`, where that subcommand answers with help.
use Rattle.std.proofs.Common.{◌≡◌, ℕ, Bool, ◌&&◌, cond, true, false, refl, List, [], ◌∷◌, Option}
use Rattle.std.proofs.Common.{Some, None, codes}
use Rattle.std.specs.List.{fold}
use Rattle.std.specs.Option.{is_some}
use Rattle.std.specs.Str.{bytes_eq}
use Rattle.std.specs.Prelude.{⊤, IfSome}
use Rattle.clap.specs.Lexer.{long_of, short_of}
use Rattle.clap.specs.Walk.{Held, Names, Outcome, Rule, Step, Text, Waiting, Walk, after_flag}
use Rattle.clap.specs.Walk.{after_step, arg_by_index, arg_by_long, bundle, done, waits, plain}
use Rattle.clap.specs.Walk.{refused, idle, option, positional, next, trailing, subcommand, value}
use Rattle.clap.specs.Walk.{long_met, long_or_other, plain_word, short_or_plain, subcommand_met}
use Rattle.clap.specs.Walk.{subcommand_or_other, to_positional, walked, walked_from, word_met}
use Rattle.clap.specs.Simple.{Shape}
use Rattle.clap.specs.Kinds.{or_else}
use Rattle.clap.specs.Faults.{other_fault, step_fault, turn_fault, walk_fault, word_fault}
use Rattle.clap.specs.declared.error.kind.ErrorKind.TheVariants.{DisplayHelp, InvalidSubcommand}
use Rattle.command_words.proofs.WordLemmas.Walks.{no_first, no_second, some_kind}

abbrev pub IsNoHelp : Text → Type 0
IsNoHelp name = bytes_eq name (codes "help") ≡ false

abbrev StepsOn : Step → Type 0
StepsOn (subcommand name) = IsNoHelp name
StepsOn step = ⊤

abbrev pub NoHelp : Option (Text × List Text) → Type 0
NoHelp stopped = IfSome stopped (λ p. IsNoHelp p.0)

module _ (c : List Rule) where
  plain_steps : (waiting : Waiting) (word : Text) (h : Held)
      → StepsOn (plain_word c waiting word h).1
  plain_steps idle word h = tt
  plain_steps positional word h = tt
  plain_steps (option id) word h = tt

  after_flag_steps : (waiting : Waiting) (word : Text) (h : Held) (outcome : Outcome)
      → StepsOn (after_flag c waiting word h outcome).1
  after_flag_steps waiting word h done = tt
  after_flag_steps waiting word h (waits id) = tt
  after_flag_steps waiting word h plain = plain_steps waiting word h
  after_flag_steps waiting word h refused = plain_steps waiting word h

  short_steps : (waiting : Waiting) (word : Text) (flags : Option Text) (h : Held)
      → StepsOn (short_or_plain c waiting word flags h).1
  short_steps waiting word None h = plain_steps waiting word h
  short_steps waiting word (Some flags) h =
      after_flag_steps waiting word (bundle c flags h).0 (bundle c flags h).1

  long_steps : (waiting : Waiting) (word : Text) (long : Option (Text × Option Text)) (h : Held)
      → StepsOn (long_or_other c waiting word long h).1
  long_steps waiting word None h = short_steps waiting word (short_of word) h
  long_steps waiting word (Some p) h =
      after_flag_steps waiting word (long_met c (arg_by_long c p.0) p.1 h).0
      (long_met c (arg_by_long c p.0) p.1 h).1

module _ (s : Shape) (names : Names) (answers : s.disable_help_subcommand ≡ false) where
  other_steps : (name : Option Text) (waiting : Waiting) (position : ℕ) (word : Text) (h : Held)
      → other_fault s name word h ≡ []
      → StepsOn (subcommand_or_other s.rules name waiting position word h).1
  other_steps (Some name) waiting position word h e =
      go (bytes_eq name (codes "help")) refl (rw answers at e)
    where
      go : (b : Bool) → bytes_eq name (codes "help") ≡ b
          → cond (bytes_eq name (codes "help") && true) (DisplayHelp ∷ InvalidSubcommand ∷ []) []
          ≡ [] → IsNoHelp name
      go true is e = let bad : (DisplayHelp ∷ InvalidSubcommand ∷ []) ≡ [] = (rw is at e) in
          absurd (some_kind _ _ bad)
      go false is e = is
  other_steps None waiting position word h e = go (bytes_eq word (45 ∷ 45 ∷ []))
    where
      go : (b : Bool)
          → StepsOn (cond b (
            h,
            trailing position,
          ) (long_or_other s.rules waiting word (long_of word) h)).1
      go true = tt
      go false = long_steps s.rules waiting word (long_of word) h

  word_steps : (is_trailing : Bool) (waiting : Waiting) (position : ℕ) (word : Text) (h : Held)
      → word_fault s names is_trailing waiting word h ≡ []
      → StepsOn (word_met s.rules names is_trailing waiting position word h).1
  word_steps true waiting position word h e = tt
  word_steps false waiting position word h e =
      other_steps (subcommand_met names waiting word) waiting position word h e

  step_on : (word : Text) (w : Walk) (h : Held) (step : Step) → StepsOn step → NoHelp w.stopped
      → NoHelp (after_step s.rules word w h step).stopped
  step_on word w h (next waiting) on before = before
  step_on word w h (trailing position) on before = before
  step_on word w h (subcommand name) on before = on
  step_on word w h value on before = go (arg_by_index s.rules w.position)
    where
      go : (found : Option Rule) → NoHelp (to_positional s.rules found word w h).stopped
      go None = before
      go (Some a) = tt

  turn_on : (w : Walk) (word : Text) → turn_fault s names w word ≡ [] → NoHelp w.stopped
      → NoHelp (walked s.rules names w word).stopped
  unfolding walked
  turn_on w word e before = go w.stopped e before
    where
      met : Held × Step
      met = word_met s.rules names w.is_trailing w.waiting w.position word w.held

      go : (stopped : Option (Text × List Text))
          → cond (is_some stopped) []
          (or_else (word_fault s names w.is_trailing w.waiting word w.held)
          (step_fault s w.position met.0 met.1)) ≡ []
          → NoHelp stopped → NoHelp (walked_from s.rules names stopped w word).stopped
      go (Some p) e before' = before'
      go None e before' =
          step_on word w met.0 met.1 (word_steps w.is_trailing w.waiting w.position word w.held
          (no_first (word_fault s names w.is_trailing w.waiting word w.held) _ e)) before

  pub walk_on : (w : Walk) (words : List Text) → walk_fault s names w words ≡ [] → NoHelp w.stopped
      → NoHelp (fold (walked s.rules names) w words).stopped
  unfolding walk_fault
  walk_on w [] e before = before
  walk_on w (word ∷ rest) e before =
      let first = no_first (turn_fault s names w word) _ e in
      let second = no_second (turn_fault s names w word) _ e in
      walk_on (walked s.rules names w word) rest second (turn_on w word first before)
