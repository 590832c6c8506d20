-- Records that are spelled one after another.
use Rattle.std.proofs.Common.{◌≡◌, ℕ, ◌+◌, ◌<◌, List, [], ◌∷◌, ◌++◌, length, take, get_or}
use Rattle.std.proofs.Common.{Option, Some, refl, sym, ap, ◌∙◌, subst, append_assoc}
use Rattle.std.specs.Io.KnownBytes.{Appends}
use Rattle.std.proofs.lemmas.List.{append-nil, take_more}
use Rattle.disk_layout.specs.rules.Journal.{Record}
use Rattle.process_rules.specs.Runs.{request_taken}
use Rattle.command_words.specs.rules.Records.{record_line}
use Rattle.command_words.proofs.LineLemmas.Printed.{appends_both}
use Rattle.disk_commands.specs.rules.Histories.{records_text}

-- how many requests are taken after these records
abbrev pub taken_behind : ℕ → List Record → ℕ
taken_behind taken [] = taken
taken_behind taken (r ∷ records) = taken_behind (taken + request_taken (Some r.answer)) records

taken_join : (taken : ℕ) (xs ys : List Record)
    → taken_behind taken (xs ++ ys) ≡ taken_behind (taken_behind taken xs) ys
taken_join taken [] ys = refl
taken_join taken (x ∷ xs) ys = taken_join (taken + request_taken (Some x.answer)) xs ys

records_join : (taken : ℕ) (xs ys : List Record)
    → records_text taken (xs ++ ys)
    ≡ records_text taken xs ++ records_text (taken_behind taken xs) ys
records_join taken [] ys = refl
records_join taken (x ∷ xs) ys =
    let behind = taken + request_taken (Some x.answer) in
    ap (λ t. record_line (taken + 1) x ++ t) (records_join behind xs ys)
    ∙ sym (append_assoc (record_line (taken + 1) x) (records_text behind xs)
    (records_text (taken_behind behind xs) ys))

module _ (all : List Record) (i : ℕ) (one : Record) (within : i < length all)
    (is : one ≡ get_or all i one) where
  one_more : take (i + 1) all ≡ take i all ++ one ∷ []
  one_more =
      take_more all i one within ∙ ap (λ (r : Record). take i all ++ r ∷ []) (sym is)

  -- one record more is counted
  pub next_taken : (before taken : ℕ) → taken ≡ taken_behind before (take i all)
      → taken + request_taken (Some one.answer) ≡ taken_behind before (take (i + 1) all)
  next_taken before taken so_far =
      ap (λ n. n + request_taken (Some one.answer)) so_far
      ∙ sym (ap (taken_behind before) one_more ∙ taken_join before (take i all) (one ∷ []))

  -- and spelled
  pub next_record : (before taken : ℕ) (a b c : Option (List ℕ))
      → taken ≡ taken_behind before (take i all)
      → Appends a b (records_text before (take i all)) → Appends b c (record_line (taken + 1) one)
      → Appends a c (records_text before (take (i + 1) all))
  next_record before taken a b c counted so_far told =
      let front : List ℕ = records_text before (take i all) in
      let text : records_text before (take (i + 1) all)
      ≡ front ++ record_line (taken + 1) one =
      ap (records_text before) one_more ∙ records_join before (take i all) (one ∷ [])
      ∙ ap (λ n. front ++ records_text n (one ∷ [])) (sym counted)
      ∙ ap (λ t. front ++ t) (append-nil (record_line (taken + 1) one)) in
      subst (λ t. Appends a c t) (sym text)
      (appends_both a b c front (record_line (taken + 1) one) so_far told)
