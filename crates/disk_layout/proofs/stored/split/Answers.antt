use Rattle.std.proofs.Common.{◌≡◌, ◌+◌, ◌-◌, ◌++◌, length, take, drop, refl, sym, ap, ◌∙◌, arith}
use Rattle.std.proofs.lemmas.List.{length-take-le, length-drop}
use Rattle.sha2.specs.Sha256.{sha256}
use Rattle.disk_layout.proofs.ReadLemmas.{parts_lent}
use Rattle.disk_layout.proofs.stored.split.Goals as goal

pub returns-then-not-is_digest_of : goal.returns-then-not-is_digest_of
returns-then-not-is_digest_of c =
    let s = c.args.contents.now.geometry in
    let joined = parts_lent s.config s.wasm c.args.bytes.now in
    λ e. let is = c.is_digest_of.ensures in let was = c.if-not-is_digest_of.true in
    let true-now = is.1 (e ∙ ap sha256 (sym joined)) in absurd (cc)

pub returns : goal.returns
returns c =
    let s = c.args.contents.now.geometry in
    let bytes = c.args.bytes.now in
    let joined = parts_lent s.config s.wasm bytes in
    let room = c.requires in
    let config : c.from_vec.result ≡ take s.config bytes = c.from_vec.ensures
    ∙ c.in-Ok.ensures.items in
    let wasm : c.from_vec-2.result ≡ take ((s.config + s.wasm) - s.config) (drop s.config bytes) =
    c.from_vec-2.ensures ∙ c.in-Ok-from_slice.ensures.items in
    let both : c.from_vec.result ++ c.from_vec-2.result ≡ take s.config bytes
    ++ take ((s.config + s.wasm) - s.config) (drop s.config bytes) = cc in
    let is = c.is_digest_of.ensures in (
      refl,
      ap length config ∙ length-take-le s.config bytes (omega arith),
      ap length wasm
          ∙ length-take-le ((s.config + s.wasm) - s.config) (drop s.config bytes) (omega (
            arith,
            length-drop s.config bytes,
          )) ∙ omega arith,
      both ∙ joined,
      is.0 c.if-not-is_digest_of.false ∙ ap sha256 (sym both),
    )
