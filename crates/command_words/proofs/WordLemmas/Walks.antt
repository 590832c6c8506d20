-- What a walk that fails at no step keeps: what holds of each row, if each use of an argument makes
-- such rows.
use Rattle.std.proofs.Common.{◌≡◌, Bool, cond, true, false, zero, suc, ℕ, ◌&&◌, refl, ap, List, []}
use Rattle.std.proofs.Common.{◌∷◌, ◌++◌, Option, Some, None, true≢false, length, drop}
use Rattle.std.specs.List.{AllByRecursion as Each, find, fold}
use Rattle.std.specs.Option.{is_some, option_map_or}
use Rattle.std.specs.Str.{bytes_eq, chars}
use Rattle.std.specs.Prelude.{IfSome, encode_utf8, slice_get}
use Rattle.clap.specs.Lexer.{long_of, short_of}
use Rattle.clap.specs.Walk.{Held, Names, Outcome, Row, Rule, Step, Text, Waiting, Walk, after_flag}
use Rattle.clap.specs.Walk.{after_step, arg_by_id, arg_by_index, arg_by_long, arg_by_short}
use Rattle.clap.specs.Walk.{attached_value, bundle, bundle_met, bundle_step, done, waits, plain}
use Rattle.clap.specs.Walk.{refused, idle, option, positional, next, trailing, subcommand, value}
use Rattle.clap.specs.Walk.{is_pending, long_met, long_or_other, option_met, flag_met, option_word}
use Rattle.clap.specs.Walk.{plain_word, positional_held, reacted, settled, settled_rows, short_met}
use Rattle.clap.specs.Walk.{short_or_plain, subcommand_met, subcommand_or_other, takes_several}
use Rattle.clap.specs.Walk.{takes_values, to_positional, used, used_by_id, walked, walked_from}
use Rattle.clap.specs.Walk.{word_met}
use Rattle.clap.specs.Simple.{Shape}
use Rattle.clap.specs.Kinds.{Kinds, or_else}
use Rattle.clap.specs.Faults.{bundle_fault, bundle_step_fault, flag_word_fault, flags_fault}
use Rattle.clap.specs.Faults.{long_fault, option_fault, other_fault, positional_fault, react_fault}
use Rattle.clap.specs.Faults.{settle_fault, short_fault, step_fault, stray_fault, turn_fault}
use Rattle.clap.specs.Faults.{use_fault, walk_fault, word_fault}
use Rattle.clap.specs.declared.error.kind.ErrorKind.{ErrorKind}
use Rattle.clap.specs.declared.error.kind.ErrorKind.TheVariants.{TooManyValues}

-- ---- lists

pub each_append : {X : Type 0} (P : X → Type 0) (xs ys : List X) → Each P xs → Each P ys
    → Each P (xs ++ ys)
each_append P [] ys h k = k
each_append P (x ∷ xs) ys h k = (h.0, each_append P xs ys h.1 k)

pub found_each : {X : Type 0} (P : X → Type 0) (p : X → Bool) (xs : List X) → Each P xs
    → IfSome (find p xs) (λ x. P x × (p x ≡ true))
found_each P p [] h = tt
found_each P p (x ∷ xs) h = go (p x) refl (found_each P p xs h.1)
  where
    go : (b : Bool) → p x ≡ b → IfSome (find p xs) (λ y. P y × (p y ≡ true))
        → IfSome (cond b (Some x) (find p xs)) (λ y. P y × (p y ≡ true))
    go true e later = (h.0, e)
    go false e later = later

-- ---- kinds

pub some_kind : (k : ErrorKind) (ks : Kinds) → (k ∷ ks) ≡ [] → ⊥
some_kind k ks e = true≢false (ap (λ (xs : Kinds). is_some (slice_get xs 0)) e)

pub no_first : (a b : Kinds) → or_else a b ≡ [] → a ≡ []
no_first [] b e = refl
no_first (k ∷ ks) b e = absurd (some_kind k ks e)

pub no_second : (a b : Kinds) → or_else a b ≡ [] → b ≡ []
no_second [] b e = e
no_second (k ∷ ks) b e = absurd (some_kind k ks e)

-- ---- one word

-- a use of the argument for which no fault is listed leaves good rows good
abbrev pub Keeps : (Row → Type 0) → Bool → Rule → Type 0
Keeps Good again a = (values : List Text) (rows : List Row) → use_fault again a values rows ≡ []
    → Each Good rows → Each Good (used a values rows)

module _ (Good : Row → Type 0) (c : List Rule) (again : Bool) where
  abbrev AreGood : Held → Type 0
  AreGood h = Each Good h.rows

  abbrev KeepsGood : Rule → Type 0
  KeepsGood = Keeps Good again

  settled_by : (found : Option Rule) (values : List Text) (rows : List Row) → IfSome found KeepsGood
      → option_map_or (λ a. use_fault again a values rows) found [] ≡ [] → Each Good rows
      → Each Good (used_by_id found values rows)
  settled_by None values rows keeps e good = good
  settled_by (Some a) values rows keeps e good = keeps values rows e good

  module _ (each : Each KeepsGood c) where
    found_keeps : (p : Rule → Bool) → IfSome (find p c) KeepsGood
    found_keeps p = go (find p c) (found_each KeepsGood p c each)
      where
        go : (o : Option Rule) → IfSome o (λ a. KeepsGood a × (p a ≡ true)) → IfSome o KeepsGood
        go None h = tt
        go (Some a) h = h.0

    settled_rows_good : (pending : Option (Text × List Text)) (rows : List Row)
        → option_map_or (λ (p : Text × List Text). option_map_or (λ a. use_fault again a p.1 rows)
        (arg_by_id c p.0) []) pending [] ≡ []
        → Each Good rows → Each Good (settled_rows c pending rows)
    settled_rows_good None rows e good = good
    settled_rows_good (Some p) rows e good =
        settled_by (arg_by_id c p.0) p.1 rows (found_keeps (λ a. bytes_eq a.id p.0)) e good

    pub settled_good : (h : Held) → settle_fault c again h ≡ [] → AreGood h → AreGood (settled c h)
    settled_good h e good = settled_rows_good h.pending h.rows e good

    reacted_good : (a : Rule) (values : List Text) (h : Held) → KeepsGood a
        → react_fault c again a values h ≡ [] → AreGood h → AreGood (reacted c a values h)
    reacted_good a values h keeps e good =
        keeps values (settled c h).rows (no_second (settle_fault c again h) _ e)
        (settled_good h (no_first (settle_fault c again h) _ e) good)

    option_good : (a : Rule) (v : Option Text) (h : Held) → KeepsGood a
        → option_fault c again a v h ≡ [] → AreGood h → AreGood (option_met c a v h).0
    option_good a (Some v) h keeps e good = reacted_good a (v ∷ []) h keeps e good
    option_good a None h keeps e good = settled_good h e good

    flag_good : (a : Rule) (v : Option Text) (h : Held) → KeepsGood a
        → cond (is_some v) (TooManyValues ∷ []) (react_fault c again a [] h) ≡ []
        → AreGood h → AreGood (flag_met c a v h).0
    flag_good a (Some v) h keeps e good = good
    flag_good a None h keeps e good = reacted_good a [] h keeps e good

    long_good : (found : Option Rule) (v : Option Text) (h : Held) → IfSome found KeepsGood
        → long_fault c again found v h ≡ [] → AreGood h
        → AreGood (long_met c found v h).0
    long_good None v h keeps e good = good
    long_good (Some a) v h keeps e good = go (takes_values a) e
      where
        go : (b : Bool)
            → cond b (option_fault c again a v h) (cond (is_some v) (TooManyValues
            ∷ []) (react_fault c again a [] h)) ≡ []
            → AreGood (cond b (option_met c a v h) (flag_met c a v h)).0
        go true e = option_good a v h keeps e good
        go false e = flag_good a v h keeps e good

    short_good : (found : Option Rule) (rest : Text) (h : Held) (fails : Held → Kinds) (goes : Held
        → Held × Outcome) → IfSome found KeepsGood
        → ((k : Held) → fails k ≡ [] → AreGood k → AreGood (goes k).0)
        → short_fault c again found rest h fails ≡ [] → AreGood h
        → AreGood (short_met c found rest h goes).0
    short_good None rest h fails goes keeps after e good = good
    short_good (Some a) rest h fails goes keeps after e good = go (takes_values a) e
      where
        go : (b : Bool)
            → cond b (option_fault c again a (attached_value rest) h)
            (or_else (react_fault c again a [] h) (fails (reacted c a [] h))) ≡ []
            → AreGood (cond b (option_met c a (attached_value rest) h) (goes (reacted c a [] h))).0
        go true e = option_good a (attached_value rest) h keeps e good
        go false e =
            after (reacted c a [] h) (no_second (react_fault c again a [] h) _ e)
            (reacted_good a [] h keeps (no_first (react_fault c again a [] h) _ e) good)

    pub flags_good : (k : ℕ) (flags : Text) (skip : ℕ) (so_far : Outcome) (h : Held)
        → flags_fault c again k flags skip h ≡ [] → AreGood h
        → AreGood (bundle_met c k flags skip so_far h).0
    unfolding bundle_met flags_fault
    flags_good zero flags skip so_far h e good = good
    flags_good (suc k) flags skip so_far h e good =
        go (slice_get (chars flags) 0) skip (flags_good k) e
      where
        go : (x : Option ℕ) (skip : ℕ)
            → ((flags : Text) (skip : ℕ) (so_far : Outcome) (h : Held)
            → flags_fault c again k flags skip h ≡ [] → AreGood h
            → AreGood (bundle_met c k flags skip so_far h).0)
            → bundle_step_fault c again x flags skip h (flags_fault c again k) ≡ []
            → AreGood (bundle_step c x flags skip so_far h (bundle_met c k)).0
        go None skip more e = good
        go (Some x) zero more e =
            let rest = drop (length (encode_utf8 x)) flags in
            short_good (arg_by_short c x) rest h (flags_fault c again k rest 0)
            (bundle_met c k rest 0 done) (found_keeps _) (more rest 0 done) e good
        go (Some x) (suc skip) more e =
            more (drop (length (encode_utf8 x)) flags) skip so_far h e good

    plain_good : (waiting : Waiting) (word : Text) (h : Held) → AreGood h
        → AreGood (plain_word c waiting word h).0
    plain_good idle word h good = good
    plain_good positional word h good = good
    plain_good (option id) word h good = go (arg_by_id c id)
      where
        go : (found : Option Rule) → AreGood (option_word found id word h).0
        go None = good
        go (Some a) = good

    after_flag_good : (waiting : Waiting) (word : Text) (h : Held) (outcome : Outcome) → AreGood h
        → AreGood (after_flag c waiting word h outcome).0
    after_flag_good waiting word h done good = good
    after_flag_good waiting word h (waits id) good = good
    after_flag_good waiting word h plain good = plain_good waiting word h good
    after_flag_good waiting word h refused good = plain_good waiting word h good

    short_or_plain_good : (waiting : Waiting) (word : Text) (flags : Option Text) (h : Held)
        → option_map_or (λ (fs : Text). bundle_fault c again fs h) flags [] ≡ [] → AreGood h
        → AreGood (short_or_plain c waiting word flags h).0
    short_or_plain_good waiting word None h e good = plain_good waiting word h good
    short_or_plain_good waiting word (Some flags) h e good =
        let read = bundle c flags h in
        after_flag_good waiting word read.0 read.1 (flags_good (length flags) flags h.skip plain
        (record h { skip = 0 }) e good)

    flag_word_good : (waiting : Waiting) (word : Text) (long : Option (Text
        × Option Text)) (h : Held) → flag_word_fault c again long word h ≡ []
        → AreGood h → AreGood (long_or_other c waiting word long h).0
    flag_word_good waiting word None h e good =
        short_or_plain_good waiting word (short_of word) h e good
    flag_word_good waiting word (Some p) h e good =
        let read = long_met c (arg_by_long c p.0) p.1 h in
        after_flag_good waiting word read.0 read.1 (long_good (arg_by_long c p.0) p.1 h
        (found_keeps _) e good)

    positional_good : (a : Rule) (word : Text) (h : Held) → positional_fault c again a h ≡ []
        → AreGood h → AreGood (positional_held c a word h)
    positional_good a word h e good = go (is_pending a h.pending && takes_several a) e
      where
        go : (b : Bool) → cond b [] (settle_fault c again h) ≡ [] → AreGood (cond b h (settled c h))
        go true e = good
        go false e = settled_good h e good

-- ---- the walk

module _ (Good : Row
    → Type 0) (s : Shape) (names : Names) (each : Each (Keeps Good s.args_override_self) s.rules)
  where
    abbrev again : Bool
    again = s.args_override_self

    other_good : (name : Option Text) (waiting : Waiting) (position : ℕ) (word : Text) (h : Held)
        → other_fault s name word h ≡ [] → Each Good h.rows
        → Each Good (subcommand_or_other s.rules name waiting position word h).0.rows
    other_good (Some name) waiting position word h e good = good
    other_good None waiting position word h e good = go (bytes_eq word (45 ∷ 45 ∷ [])) e
      where
        go : (b : Bool) → cond b [] (flag_word_fault s.rules again (long_of word) word h) ≡ []
            → Each Good (cond b (
              h,
              trailing position,
            ) (long_or_other s.rules waiting word (long_of word) h)).0.rows
        go true e = good
        go false e = flag_word_good Good s.rules again each waiting word (long_of word) h e good

    word_good : (is_trailing : Bool) (waiting : Waiting) (position : ℕ) (word : Text) (h : Held)
        → word_fault s names is_trailing waiting word h ≡ []
        → Each Good h.rows
        → Each Good (word_met s.rules names is_trailing waiting position word h).0.rows
    word_good true waiting position word h e good = good
    word_good false waiting position word h e good =
        other_good (subcommand_met names waiting word) waiting position word h e good

    to_positional_good : (found : Option Rule) (word : Text) (w : Walk) (h : Held)
        → IfSome found (λ a. positional_fault s.rules again a h ≡ [])
        → Each Good h.rows → Each Good (to_positional s.rules found word w h).held.rows
    to_positional_good None word w h e good = good
    to_positional_good (Some a) word w h e good =
        positional_good Good s.rules again each a word h e good

    step_good : (word : Text) (w : Walk) (h : Held) (step : Step)
        → step_fault s w.position h step ≡ [] → Each Good h.rows
        → Each Good (after_step s.rules word w h step).held.rows
    step_good word w h (next waiting) e good = good
    step_good word w h (trailing position) e good = good
    step_good word w h (subcommand name) e good = good
    step_good word w h value e good = go (arg_by_index s.rules w.position) e
      where
        go : (found : Option Rule)
            → option_map_or (λ a. positional_fault s.rules again a h) found (stray_fault s) ≡ []
            → Each Good (to_positional s.rules found word w h).held.rows
        go None e = good
        go (Some a) e = to_positional_good (Some a) word w h e good

    turn_good : (w : Walk) (word : Text) → turn_fault s names w word ≡ [] → Each Good w.held.rows
        → Each Good (walked s.rules names w word).held.rows
    unfolding walked
    turn_good w word e good = go w.stopped e
      where
        met : Held × Step
        met = word_met s.rules names w.is_trailing w.waiting w.position word w.held

        go : (stopped : Option (Text × List Text))
            → cond (is_some stopped) []
            (or_else (word_fault s names w.is_trailing w.waiting word w.held)
            (step_fault s w.position met.0 met.1)) ≡ []
            → Each Good (walked_from s.rules names stopped w word).held.rows
        go (Some p) e = good
        go None e =
            let first = no_first (word_fault s names w.is_trailing w.waiting word w.held) _ e in
            let second = no_second (word_fault s names w.is_trailing w.waiting word w.held) _ e in
            step_good word w met.0 met.1 second
            (word_good w.is_trailing w.waiting w.position word w.held first good)

    pub walk_good : (w : Walk) (words : List Text) → walk_fault s names w words ≡ []
        → Each Good w.held.rows
        → Each Good (fold (walked s.rules names) w words).held.rows
    unfolding walk_fault
    walk_good w [] e good = good
    walk_good w (word ∷ rest) e good =
        let first = no_first (turn_fault s names w word) _ e in
        let second = no_second (turn_fault s names w word) _ e in
        walk_good (walked s.rules names w word) rest second (turn_good w word first good)
