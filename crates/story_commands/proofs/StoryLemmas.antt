-- The text of a story, line by line and life by life.
use Rattle.std.proofs.Common.{◌≡◌, ℕ, ◌<◌, ◌+◌, List, [], ◌∷◌, ◌++◌, length, refl, sym, ap, ◌∙◌}
use Rattle.std.proofs.Common.{subst, arith, take, get_or}
use Rattle.std.specs.Prelude.{Option}
use Rattle.std.specs.Io.KnownBytes.{Appends}
use Rattle.std.proofs.lemmas.List.{append_assoc, append-nil, take_more, length-take-le}
use Rattle.record_replay.specs.declared.line_list.NumberedLine.{NumberedLine}
use Rattle.worker.specs.declared.story.report.LifeReport.{LifeReport}
use Rattle.command_words.proofs.LineLemmas.Printed.{appends_both}
use Rattle.story_commands.specs.rules.Stories.{release_text, releases_text, life_text, story_text}

-- ---- lines

releases_join : (xs ys : List NumberedLine)
    → releases_text (xs ++ ys) ≡ releases_text xs ++ releases_text ys
releases_join [] ys = refl
releases_join (x ∷ xs) ys = ap (λ t. release_text x ++ t) (releases_join xs ys)
    ∙ sym (append_assoc (release_text x) (releases_text xs) (releases_text ys))

pub next_line : (all : List NumberedLine) (i : ℕ) (one : NumberedLine) (a b c : Option (List ℕ))
    → i < length all → one ≡ get_or all i one → Appends a b (releases_text (take i all))
    → Appends b c (release_text one) → Appends a c (releases_text (take (i + 1) all))
next_line all i one a b c within is so_far told =
    let front : take (i + 1) all ≡ take i all ++ one ∷ [] =
    take_more all i one within ∙ ap (λ (x : NumberedLine). take i all ++ x ∷ []) (sym is) in
    let text : releases_text (take (i + 1) all) ≡ releases_text (take i all) ++ release_text one =
    ap releases_text front ∙ releases_join (take i all) (one ∷ [])
    ∙ ap (λ t. releases_text (take i all) ++ t) (append-nil (release_text one)) in
    subst (λ t. Appends a c t) (sym text)
    (appends_both a b c (releases_text (take i all)) (release_text one) so_far told)

-- ---- lives

story_join : (first next : ℕ) (xs ys : List LifeReport) → next ≡ first + length xs
    → story_text first (xs ++ ys) ≡ story_text first xs ++ story_text next ys
story_join first next [] ys is =
    let same : first ≡ next = omega (arith, is) in ap (λ n. story_text n ys) same
story_join first next (x ∷ xs) ys is =
    let behind : next ≡ (first + 1) + length xs = omega (arith, is) in
    ap (λ t. life_text first x ++ t) (story_join (first + 1) next xs ys behind)
    ∙ sym (append_assoc (life_text first x) (story_text (first + 1) xs) (story_text next ys))

pub next_life : (all : List LifeReport) (i : ℕ) (one : LifeReport) (number : ℕ)
    (a b c : Option (List ℕ)) → i < length all → one ≡ get_or all i one → number ≡ i + 1
    → Appends a b (story_text 1 (take i all)) → Appends b c (life_text number one)
    → Appends a c (story_text 1 (take (i + 1) all))
next_life all i one number a b c within is numbered so_far told =
    let front : take (i + 1) all ≡ take i all ++ one ∷ [] =
    take_more all i one within ∙ ap (λ (x : LifeReport). take i all ++ x ∷ []) (sym is) in
    let count : length (take i all) ≡ i = length-take-le i all (omega (arith, within)) in
    let place : number ≡ 1 + length (take i all) = omega (arith, numbered, count) in
    let text : story_text 1 (take (i + 1) all) ≡ story_text 1 (take i all) ++ life_text number one =
    ap (λ xs. story_text 1 xs) front ∙ story_join 1 number (take i all) (one ∷ []) place
    ∙ ap (λ t. story_text 1 (take i all) ++ t) (append-nil (life_text number one)) in
    subst (λ t. Appends a c t) (sym text)
    (appends_both a b c (story_text 1 (take i all)) (life_text number one) so_far told)
