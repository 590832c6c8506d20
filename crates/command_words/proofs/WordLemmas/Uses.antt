-- A use of an argument for which no fault is listed leaves good rows good.
use Rattle.std.proofs.Common.{◌≡◌, ◌-◌, ◌^◌, ℕ, Bool, cond, true, false, arith, refl, List, []}
use Rattle.std.proofs.Common.{◌∷◌, length, codes, eqb-true}
use Rattle.std.specs.Prelude.{◌==◌}
use Rattle.clap.specs.Walk.{Text}
use Rattle.clap.specs.Simple.{filled, help_rule, with_index}
use Rattle.clap.specs.ValueTests.{accepts}
use Rattle.clap.specs.Words.{IsUnsignedIn}
use Rattle.clap.specs.Kinds.{or_else, range_kinds, value_kinds}
use Rattle.clap.specs.Faults.{repeat_fault}
use Rattle.clap.specs.declared.builder.value_parser.ValueParser.{ValueParser}
use Rattle.clap.specs.declared.builder.value_parser.ValueParser.TheVariants.{Unsigned}
use Rattle.clap.specs.declared.error.kind.ErrorKind.TheVariants as kind
use Rattle.clap.specs.declared.parser.matches.ValueSource.TheVariants.{CommandLine}
use Rattle.clap.proofs.ValueTestLemmas.{accepts-Accepts}
use Rattle.command_words.specs.rules.CommandLine.{env_rule, flag_rule, folder_rule, last_rule}
use Rattle.command_words.specs.rules.CommandLine.{number_rule, path_rule, range_rule, text_rule}
use Rattle.command_words.specs.rules.Commands.{IsNumberFrom}
use Rattle.command_words.proofs.WordLemmas.Walks.{Keeps, no_first, no_second, some_kind}
use Rattle.command_words.proofs.WordLemmas.Rows.{IsGood, Passes, added_good, with_good}

accepted : (parser : ValueParser) (v : Text) → value_kinds false parser v ≡ []
    → accepts false parser v ≡ true
accepted parser v e = go (accepts false parser v) e
  where
    go : (b : Bool) → cond b [] (Rattle.clap.specs.Values.refused_kind parser ∷ []) ≡ [] → b ≡ true
    go true e = refl
    go false e = absurd (some_kind _ [] e)

-- exactly one value is wanted
one_value : (n : ℕ) → range_kinds 1 1 n ≡ [] → 1 ≡ n
one_value n e = go (n == 0) (1 == n) refl e
  where
    go : (a b : Bool) → (1 == n) ≡ b
        → cond a (kind.InvalidValue ∷ []) (cond b [] (kind.WrongNumberOfValues ∷ [])) ≡ [] → 1 ≡ n
    go true b is e = absurd (some_kind _ [] e)
    go false true is e = eqb-true 1 n is
    go false false is e = absurd (some_kind _ [] e)

-- several values are too many
too_many : (v w : Text) (vs : List Text) → range_kinds 1 1 (length (v ∷ w ∷ vs)) ≡ [] → ⊥
too_many v w vs e =
    let one = one_value (length (v ∷ w ∷ vs)) e in omega (arith, one)

-- no value is wanted
no_value : (n : ℕ) → range_kinds 0 0 n ≡ [] → 0 ≡ n
no_value n e = go (0 == n) refl e
  where
    go : (b : Bool) → (0 == n) ≡ b → cond b [] (kind.WrongNumberOfValues ∷ []) ≡ [] → 0 ≡ n
    go true is e = eqb-true 0 n is
    go false is e = absurd (some_kind _ [] e)

some_values : (v : Text) (vs : List Text) → range_kinds 0 0 (length (v ∷ vs)) ≡ [] → ⊥
some_values v vs e = let none = no_value (length (v ∷ vs)) e in omega (arith, none)

-- ---- arguments and options

pub keeps_path : (n : ℕ) (name : Text) → ((v : Text) → Passes name v)
    → Keeps IsGood false (with_index n (filled (path_rule name)))
keeps_path n name free [] rows e good = absurd (some_kind _ _ e)
keeps_path n name free (v ∷ []) rows e good = with_good name v rows (free v) good
keeps_path n name free (v ∷ w ∷ vs) rows e good =
    absurd (too_many v w vs (no_first (range_kinds 1 1 (length (v ∷ w ∷ vs))) _ e))

pub keeps_last : (n : ℕ) (name : Text) → ((v : Text) → Passes name v)
    → Keeps IsGood false (with_index n (filled (last_rule name)))
keeps_last n name free [] rows e good = absurd (some_kind _ _ e)
keeps_last n name free (v ∷ []) rows e good = with_good name v rows (free v) good
keeps_last n name free (v ∷ w ∷ vs) rows e good =
    absurd (too_many v w vs (no_first (range_kinds 1 1 (length (v ∷ w ∷ vs))) _ e))

pub keeps_range : (n : ℕ) (name : Text) (least most : ℕ)
    → ((v : Text) → IsUnsignedIn least most v → Passes name v)
    → Keeps IsGood false (with_index n (filled (range_rule name least most)))
keeps_range n name least most passes [] rows e good = absurd (some_kind _ _ e)
keeps_range n name least most passes (v ∷ []) rows e good =
    let parser : ValueParser = Unsigned least most in
    let read : or_else (value_kinds false parser v) [] ≡ [] =
    no_second (repeat_fault false name rows) _ e in
    let fits : IsUnsignedIn least most v = accepts-Accepts false parser v
    (accepted parser v (no_first (value_kinds false parser v) [] read)) in
    with_good name v rows (passes v fits) good
keeps_range n name least most passes (v ∷ w ∷ vs) rows e good =
    absurd (too_many v w vs (no_first (range_kinds 1 1 (length (v ∷ w ∷ vs))) _ e))

pub keeps_number : (n : ℕ) (name : Text) (least : ℕ)
    → ((v : Text) → IsNumberFrom least v → Passes name v)
    → Keeps IsGood false (with_index n (filled (number_rule name least)))
keeps_number n name least passes = keeps_range n name least (2 ^ 64 - 1) passes

pub keeps_text : (n : ℕ) (name : Text) → ((v : Text) → Passes name v)
    → Keeps IsGood false (with_index n (filled (text_rule name)))
keeps_text n name free [] rows e good = absurd (some_kind _ _ e)
keeps_text n name free (v ∷ []) rows e good = with_good name v rows (free v) good
keeps_text n name free (v ∷ w ∷ vs) rows e good =
    absurd (too_many v w vs (no_first (range_kinds 1 1 (length (v ∷ w ∷ vs))) _ e))

pub keeps_folder : (n : ℕ) → Keeps IsGood false (with_index n (filled folder_rule))
keeps_folder n [] rows e good = absurd (some_kind _ _ e)
keeps_folder n (v ∷ []) rows e good = with_good (codes "FOLDER") v rows tt good
keeps_folder n (v ∷ w ∷ vs) rows e good =
    absurd (too_many v w vs (no_first (range_kinds 1 1 (length (v ∷ w ∷ vs))) _ e))

pub keeps_env : (n : ℕ) → Keeps IsGood false (with_index n (filled env_rule))
keeps_env n [] rows e good = absurd (some_kind _ _ e)
keeps_env n (v ∷ []) rows e good = added_good CommandLine (codes "env") v rows tt good
keeps_env n (v ∷ w ∷ vs) rows e good =
    absurd (too_many v w vs (no_first (range_kinds 1 1 (length (v ∷ w ∷ vs))) _ e))

-- a use of a flag has no value, and stands for yes
pub keeps_flag : (n : ℕ) (name : Text) → Passes name (codes "true")
    → Keeps IsGood false (with_index n (filled (flag_rule name)))
keeps_flag n name is [] rows e good = with_good name (codes "true") rows is good
keeps_flag n name is (v ∷ vs) rows e good =
    absurd (some_values v vs (no_first (range_kinds 0 0 (length (v ∷ vs))) _ e))

pub keeps_help : Keeps IsGood false (filled help_rule)
keeps_help values rows e good = good
