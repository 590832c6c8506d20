-- A configuration's bytes, and the configuration that they spell.
use Rattle.std.proofs.Common.{◌≡◌, ℕ, ◌-◌, ◌^◌, ◌<◌, ◌≤◌, List, [], ◌∷◌, ◌++◌, length, take, drop}
use Rattle.std.proofs.Common.{None, Some, refl, sym, ap, ◌∙◌, subst, arith, length-drop}
use Rattle.std.proofs.lemmas.List.{append-nil, take_all, drop-drop, nil_from_length}
use Rattle.std.specs.List.{AllByRecursion}
use Rattle.guest_memory.specs.rules.Bytes.{IsByte}
use Rattle.wasi_abi.specs.rules.Configs.{Settings, settings, IsShortText, AreSettingsWithinLimits}
use Rattle.wasi_abi.specs.rules.Layouts.{u32_bytes, u32_at}
use Rattle.disk_layout.specs.rules.Places.{config_bytes, texts_bytes}
use Rattle.disk_layout.specs.rules.Spelled.{SpellsConfig, HasShortLength, HaveRoom, TextsFirst}
use Rattle.disk_layout.specs.Spelled.{NoTextsFirst}
use Rattle.disk_layout.proofs.ReadingLemmas.SpellingLemmas.{number_first, number_is, texts_cut}
use Rattle.disk_layout.proofs.StampLemmas.{all_drop as bytes_behind}

all_room : (texts : List (List ℕ)) → AllByRecursion IsShortText texts
    → AllByRecursion HasShortLength texts
all_room [] all = tt
all_room (t ∷ texts) all = (
  (let short : length t ≤ 1024 = all.0 in let room : length t < 2 ^ 16 = omega arith in room),
  all_room texts all.1,
)

have_room : (texts : List (List ℕ)) → length texts ≤ 64 → AllByRecursion IsShortText texts
    → HaveRoom texts
have_room texts few short = record { few = few; each = all_room texts short }

pub same_settings : (p q f g j k : ℕ) (a b d e : List (List ℕ)) → p ≡ q → f ≡ g → j ≡ k → a ≡ b
    → d ≡ e → settings p f j a d ≡ settings q g k b e
same_settings p q f g j k a b d e one two three four five =
    ap (λ x. settings x f j a d) one ∙ ap (λ x. settings q x j a d) two
    ∙ ap (λ x. settings q g x a d) three ∙ ap (λ x. settings q g k x d) four
    ∙ ap (λ x. settings q g k b x) five

-- what bytes hold that are a configuration's
pub record AreBytesOf (bytes : List ℕ) (s : Settings) : Type 0 where
  pub pages : u32_at bytes 0 ≡ s.pages
  pub files : u32_at bytes 4 ≡ s.files
  pub journal : u32_at bytes 8 ≡ s.journal
  pub arguments : TextsFirst (drop 12 bytes) s.arguments (texts_bytes s.environment)
  pub environment : TextsFirst (texts_bytes s.environment) s.environment []

pub bytes_of_settings : (bytes : List ℕ) (s : Settings) → AreSettingsWithinLimits s
    → bytes ≡ config_bytes s → AreBytesOf bytes s
bytes_of_settings bytes s limits is =
    let range = limits.in_range in
    let pages = range.pages in
    let files = range.files in
    let journal = range.journal in
    let behind = u32_bytes s.journal ++ (texts_bytes s.arguments ++ texts_bytes s.environment) in
    record {
      pages = number_first 4 s.pages bytes (u32_bytes s.files ++ behind) (omega arith) is;
      files = number_first 4 s.files (drop 4 bytes) behind (omega arith) (ap (λ l. drop 4 l) is);
      journal = number_first 4 s.journal (drop 8 bytes) (texts_bytes s.arguments
          ++ texts_bytes s.environment) (omega arith) (ap (λ l. drop 8 l) is);
      arguments = record {
        room = have_room s.arguments range.few_arguments range.short_arguments;
        is = ap (λ l. drop 12 l) is;
      };
      environment = record {
        room = have_room s.environment range.few_entries range.short_entries;
        is = sym (append-nil (texts_bytes s.environment));
      };
    }

pub config_cut : (a b : Settings) → AreSettingsWithinLimits a → AreSettingsWithinLimits b
    → config_bytes a ≡ config_bytes b → a ≡ b
config_cut a b within-a within-b e =
    let one = bytes_of_settings (config_bytes a) a within-a refl in
    let other = bytes_of_settings (config_bytes a) b within-b e in
    let first = texts_cut (drop 12 (config_bytes a)) a.arguments b.arguments
    (texts_bytes a.environment) (texts_bytes b.environment) one.arguments other.arguments in
    let environment : TextsFirst (texts_bytes a.environment) b.environment [] =
    subst (λ (l : List ℕ). TextsFirst l b.environment []) (sym first.1) other.environment in
    let second =
    texts_cut (texts_bytes a.environment) a.environment b.environment [] [] one.environment
    environment in
    same_settings a.pages b.pages a.files b.files a.journal b.journal a.arguments b.arguments
    a.environment b.environment
    (sym one.pages ∙ other.pages) (sym one.files ∙ other.files) (sym one.journal
    ∙ other.journal) first.0 second.0

-- ---- bytes that are read

-- what is lent after the numbers
pub behind_numbers : (bytes : List ℕ) → take (length bytes - 12) (drop 12 bytes) ≡ drop 12 bytes
behind_numbers bytes =
    take_all (length bytes - 12) (drop 12 bytes) (omega (arith, length-drop 12 bytes))

-- arguments and environment are after the numbers, and others after those
pub record HasTexts (bytes : List ℕ) (arguments environment : List (List ℕ)) (rest : List ℕ) :
    Type 0 where
  pub between : List ℕ
  pub arguments_first : TextsFirst (take (length bytes - 12) (drop 12 bytes)) arguments between
  pub environment_first : TextsFirst between environment rest

-- the environment of any configuration that they spell
environment_at : (bytes : List ℕ) (s : Settings) (arguments : List (List ℕ)) (rest : List ℕ)
    → AreBytesOf bytes s → TextsFirst (take (length bytes - 12) (drop 12 bytes)) arguments rest
    → (arguments ≡ s.arguments) × TextsFirst rest s.environment []
environment_at bytes s arguments rest of first =
    let here = subst (λ (l : List ℕ). TextsFirst l arguments rest) (behind_numbers bytes) first in
    let cut = texts_cut (drop 12 bytes) arguments s.arguments rest
    (texts_bytes s.environment) here of.arguments in
    (cut.0, subst (λ (l : List ℕ). TextsFirst l s.environment []) (sym cut.1) of.environment)

pub no_environment : (bytes : List ℕ) (arguments : List (List ℕ)) (rest : List ℕ)
    → TextsFirst (take (length bytes - 12) (drop 12 bytes)) arguments rest → NoTextsFirst rest
    → SpellsConfig bytes None
no_environment bytes arguments rest first none s limits is =
    let at = environment_at bytes s arguments rest (bytes_of_settings bytes s limits is) first in
    none s.environment [] at.1

-- the settings that they spell, if any
pub settings_are : (bytes : List ℕ) (s : Settings) (arguments environment : List (List ℕ))
    (rest : List ℕ) → HasTexts bytes arguments environment rest → AreSettingsWithinLimits s
    → bytes ≡ config_bytes s
    → (rest ≡ [])
    × (s ≡ settings (u32_at bytes 0) (u32_at bytes 4) (u32_at bytes 8) arguments environment)
settings_are bytes s arguments environment rest texts limits is =
    let of = bytes_of_settings bytes s limits is in
    let at = environment_at bytes s arguments texts.between of texts.arguments_first in
    let cut = texts_cut texts.between environment s.environment rest [] texts.environment_first at.1
    in (
      cut.1,
      same_settings s.pages (u32_at bytes 0) s.files (u32_at bytes 4) s.journal
          (u32_at bytes 8) s.arguments arguments s.environment environment (sym of.pages)
          (sym of.files) (sym of.journal) (sym at.0) (sym cut.0),
    )

pub not_at_the_end : (bytes : List ℕ) (arguments environment : List (List ℕ)) (rest : List ℕ)
    → HasTexts bytes arguments environment rest → (length rest ≡ 0 → ⊥) → SpellsConfig bytes None
not_at_the_end bytes arguments environment rest texts more s limits is =
    let are = settings_are bytes s arguments environment rest texts limits is in
    more (ap length are.0)

pub out_of_limits : (bytes : List ℕ) (arguments environment : List (List ℕ)) (rest : List ℕ)
    → HasTexts bytes arguments environment rest
    → (AreSettingsWithinLimits (settings (u32_at bytes 0) (u32_at bytes 4)
    (u32_at bytes 8) arguments environment) → ⊥) → SpellsConfig bytes None
out_of_limits bytes arguments environment rest texts out s limits is =
    let are = settings_are bytes s arguments environment rest texts limits is in
    out (subst (λ (x : Settings). AreSettingsWithinLimits x) are.1 limits)

pub within_limits : (bytes : List ℕ) (arguments environment : List (List ℕ)) (rest : List ℕ)
    (s : Settings) → AllByRecursion IsByte bytes → 12 ≤ length bytes
    → HasTexts bytes arguments environment rest → length rest ≡ 0
    → s ≡ settings (u32_at bytes 0) (u32_at bytes 4) (u32_at bytes 8) arguments environment
    → AreSettingsWithinLimits s → SpellsConfig bytes (Some s)
within_limits bytes arguments environment rest s all long texts end is limits =
    let one = number_is 4 bytes all (omega arith) in
    let two = number_is 4 (drop 4 bytes) (bytes_behind 4 bytes all) (omega (
      arith,
      length-drop 4 bytes,
    )) ∙ ap (λ l. u32_bytes (u32_at bytes 4) ++ l) (drop-drop 4 4 bytes) in
    let three = number_is 4 (drop 8 bytes) (bytes_behind 8 bytes all) (omega (
      arith,
      length-drop 8 bytes,
    )) ∙ ap (λ l. u32_bytes (u32_at bytes 8) ++ l) (drop-drop 4 8 bytes) in
    let between : texts.between ≡ texts_bytes environment = texts.environment_first.is
    ∙ ap (λ l. texts_bytes environment ++ l) (nil_from_length rest end)
    ∙ append-nil (texts_bytes environment) in
    let behind : drop 12 bytes ≡ texts_bytes arguments ++ texts_bytes environment =
    sym (behind_numbers bytes) ∙ texts.arguments_first.is
    ∙ ap (λ l. texts_bytes arguments ++ l) between in
    let whole : bytes
    ≡ config_bytes (settings (u32_at bytes 0) (u32_at bytes 4)
    (u32_at bytes 8) arguments environment) =
    one ∙ ap (λ l. u32_bytes (u32_at bytes 0) ++ l) two
    ∙ ap (λ l. u32_bytes (u32_at bytes 0) ++ (u32_bytes (u32_at bytes 4) ++ l)) three
    ∙ ap (λ l. u32_bytes (u32_at bytes 0)
    ++ (u32_bytes (u32_at bytes 4) ++ (u32_bytes (u32_at bytes 8) ++ l))) behind in
    (limits, whole ∙ ap (λ (x : Settings). config_bytes x) (sym is))
