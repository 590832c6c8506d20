-- What is written with its super is held.
use Rattle.std.proofs.Common.{ℕ, ◌*◌, ◌^◌, ◌<◌, ◌≤◌, List, [], ◌∷◌, ◌++◌, length, refl, sym, ap}
use Rattle.std.proofs.Common.{◌∙◌, subst, arith, length-append}
use Rattle.std.specs.List.{AllByRecursion, flat_map}
use Rattle.sha2.specs.Sha256.{sha256}
use Rattle.sha2.proofs.Facts256.{length-sha256}
use Rattle.wasi_abi.specs.rules.Configs.{Settings, IsShortText, AreSettingsWithinLimits}
use Rattle.wasi_abi.specs.rules.Layouts.{u16_bytes, u32_bytes}
use Rattle.disk_layout.specs.rules.Places.{geometry_of, config_bytes, short_text_bytes, texts_bytes}
use Rattle.disk_layout.specs.rules.Sectors.{Super, super_of, super_bytes}
use Rattle.disk_layout.specs.rules.Stored.{IsKnown}
use Rattle.disk_layout.specs.laws.Laws.{SuperFits}
use Rattle.disk_layout.proofs.FieldLemmas.{marks_again, super_again}
use Rattle.disk_layout.specs.laws.Reading.{ReadsWhatIsWritten}

texts_within : (texts : List (List ℕ)) → AllByRecursion IsShortText texts
    → length (flat_map short_text_bytes texts) ≤ 1026 * length texts
texts_within [] short = omega arith
texts_within (t ∷ texts) short =
    let here = length-append (short_text_bytes t) (flat_map short_text_bytes texts) in
    let one = length-append (u16_bytes (length t)) t in
    let rest = texts_within texts short.1 in
    let few : length t ≤ 1024 = short.0 in
    omega (arith, here, one, rest, few)

-- the largest configuration
pub config_within : (s : Settings) → AreSettingsWithinLimits s
    → length (config_bytes s) ≤ 131348
config_within s limits =
    let range = limits.in_range in
    let arguments = texts_within s.arguments range.short_arguments in
    let environment = texts_within s.environment range.short_entries in
    let few = range.few_arguments in
    let also = range.few_entries in
    let both = length-append (texts_bytes s.arguments) (texts_bytes s.environment) in
    let one = length-append (u32_bytes (length s.arguments)) (flat_map short_text_bytes s.arguments)
    in
    let two = length-append (u32_bytes (length s.environment))
    (flat_map short_text_bytes s.environment) in
    omega (arith, arguments, environment, few, also, both, one, two)

super_fits : (config : Settings) (wasm : List ℕ) → AreSettingsWithinLimits config
    → length wasm < 2 ^ 32 → SuperFits (record {
      geometry = geometry_of config (length wasm);
      digest = sha256 (config_bytes config ++ wasm);
    })
super_fits config wasm limits short =
    let small = config_within config limits in
    let range = limits.in_range in
    let pages = range.pages in
    let files = range.files in
    let journal = range.journal in
    record {
      config = omega arith;
      wasm = short;
      module_sectors = omega arith;
      area_sectors = omega arith;
      journal_sectors = omega arith;
      digest = length-sha256 (config_bytes config ++ wasm);
    }

pub reads_what_is_written : ReadsWhatIsWritten
reads_what_is_written sectors image config wasm limits short has room =
    let s : Super = record {
      geometry = geometry_of config (length wasm);
      digest = sha256 (config_bytes config ++ wasm);
    } in
    let fits = super_fits config wasm limits short in
    let P : List ℕ → Type 0 = λ l. IsKnown l in
    let known : IsKnown (super_bytes s.geometry s.digest) = record {
      marks = marks_again s fits;
      layout = refl;
    } in (
      record {
        known = subst P (sym has.super) known;
        within = limits;
        geometry = refl;
        fields = ap (λ l. super_of l) has.super ∙ super_again s fits;
        contents = has.contents;
      },
      room,
    )
