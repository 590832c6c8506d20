-- Records of texts at the limit of each version, and one byte over it.
use Rattle.std.proofs.Common.{◌≡◌, ℕ, ◌<◌, ◌≤◌, Bool, leb, Some, None, option_map, List, ◌++◌}
use Rattle.std.proofs.Common.{length, take, refl, ap, ◌∙◌, arith, lit≤}
use Rattle.std.proofs.lemmas.Bool.{cond-true, le-leb, lt-leb}
use Rattle.std.proofs.lemmas.List.{take_all}
use Rattle.wasi_abi.specs.declared.answer.Answer.TheVariants as answer
use Rattle.wasi_abi.specs.declared.version.Version.TheVariants.{One, Two}
use Rattle.disk_layout.specs.rules.Journal.{TakesRecords}
use Rattle.disk_layout.specs.Scanned.{answer_if, answer_of, record_at}
use Rattle.disk_layout.specs.laws.RecordExamples.{RecordExamples, at_258, front_of_long}
use Rattle.disk_layout.specs.laws.RecordExamples.{wide_front_of, JournalsHaveRoom}

taken : (limit len : ℕ) (text : List ℕ) → length text ≡ len → len ≤ limit
    → option_map at_258 (answer_of limit 1 (take len text)) ≡ Some (at_258 (answer.Request text))
taken limit len text long le =
    ap (λ t. option_map at_258 (answer_of limit 1 t)) (take_all len text (omega (arith, long)))
    ∙ ap (λ (b : Bool). option_map at_258 (answer_if b (answer.Request text)))
    (le-leb (length text) limit (omega (arith, long, le)))

refused : (limit len : ℕ) (text : List ℕ) → length text ≡ len → limit < len
    → option_map at_258 (answer_of limit 1 (take len text)) ≡ None
refused limit len text long lt =
    ap (λ t. option_map at_258 (answer_of limit 1 t)) (take_all len text (omega (arith, long)))
    ∙ ap (λ (b : Bool). option_map at_258 (answer_if b (answer.Request text)))
    (lt-leb (length text) limit (omega (arith, long, lt)))

longest : (text : List ℕ) → length text ≡ 4096
    → record_at One (front_of_long 0 16 ++ text) ≡ Some (at_258 (answer.Request text))
longest text long =
    cond-true (leb 4107 (length (front_of_long 0 16 ++ text)))
    (option_map at_258 (answer_of 4096 1 (take 4096 text))) None
    (le-leb 4107 (length (front_of_long 0 16 ++ text)) (omega (arith, long)))
    ∙ taken 4096 4096 text long (omega arith)

too_long : (text : List ℕ) → length text ≡ 4097
    → record_at One (front_of_long 1 16 ++ text) ≡ None
too_long text long =
    cond-true (leb 4108 (length (front_of_long 1 16 ++ text)))
    (option_map at_258 (answer_of 4096 1 (take 4097 text))) None
    (le-leb 4108 (length (front_of_long 1 16 ++ text)) (omega (arith, long)))
    ∙ refused 4096 4097 text long (omega arith)

long_in_two : (text : List ℕ) → length text ≡ 4097
    → record_at Two (wide_front_of 1 1 16 0 ++ text) ≡ Some (at_258 (answer.Request text))
long_in_two text long =
    cond-true (leb 4110 (length (wide_front_of 1 1 16 0 ++ text)))
    (option_map at_258 (answer_of 65536 1 (take 4097 text))) None
    (le-leb 4110 (length (wide_front_of 1 1 16 0 ++ text)) (omega (arith, long)))
    ∙ taken 65536 4097 text long (omega arith)

longest_in_two : (text : List ℕ) → length text ≡ 65536
    → record_at Two (wide_front_of 1 0 0 1 ++ text) ≡ Some (at_258 (answer.Request text))
longest_in_two text long =
    cond-true (leb 65549 (length (wide_front_of 1 0 0 1 ++ text)))
    (option_map at_258 (answer_of 65536 1 (take 65536 text))) None
    (le-leb 65549 (length (wide_front_of 1 0 0 1 ++ text)) (omega (arith, long)))
    ∙ taken 65536 65536 text long (omega arith)

too_long_in_two : (text : List ℕ) → length text ≡ 65537
    → record_at Two (wide_front_of 1 1 0 1 ++ text) ≡ None
too_long_in_two text long =
    cond-true (leb 65550 (length (wide_front_of 1 1 0 1 ++ text)))
    (option_map at_258 (answer_of 65536 1 (take 65537 text))) None
    (le-leb 65550 (length (wide_front_of 1 1 0 1 ++ text)) (omega (arith, long)))
    ∙ refused 65536 65537 text long (omega arith)

-- ---- journals that take them

pub journals_have_room : JournalsHaveRoom
journals_have_room One sectors many takes = omega (arith, many)
journals_have_room Two sectors many takes = takes

too_few : TakesRecords Two 132 → ⊥
too_few takes = omega (arith, takes)

pub record_examples : RecordExamples
record_examples = record {
  request = refl;
  end = refl;
  realtime = refl;
  monotonic = refl;
  random = refl;
  reads_a_request = refl;
  long_request = refl;
  reads_an_end = refl;
  long_end = refl;
  reads_a_time = refl;
  short_time = refl;
  reads_a_count = refl;
  short_count = refl;
  reads_random_bytes = refl;
  long_random_bytes = refl;
  no_kind = refl;
  sixth_kind = refl;
  read_at_the_front = refl;
  no_record = refl;
  wide_request = refl;
  wide_end = refl;
  wide_realtime = refl;
  longest = longest;
  too_long = too_long;
  long_in_two = long_in_two;
  longest_in_two = longest_in_two;
  too_long_in_two = too_long_in_two;
  takes_wide = lit≤ tt;
  too_few_for_wide = too_few;
}
