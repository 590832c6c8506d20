-- Heads that are written, and worked examples of them.
use Rattle.std.proofs.Common.{◌≡◌, ℕ, ◌%◌, ◌<◌, ◌≤◌, List, [], ◌∷◌, ◌++◌, take, drop}
use Rattle.std.proofs.Common.{get_or, refl, sym, ap, ◌∙◌, subst, arith}
use Rattle.sha2.proofs.Facts256.{length-sha256}
use Rattle.guest_memory.specs.rules.Bytes.{number_of}
use Rattle.guest_memory.proofs.ByteLemmas.{number_of-bytes_of}
use Rattle.wasi_abi.specs.rules.Layouts.{padding}
use Rattle.sector_disk.specs.rules.DiskImage.{sector_at}
use Rattle.sector_disk.proofs.ExampleLemmas.{differ}
use Rattle.disk_layout.specs.rules.Sectors.{Head, stamp_bytes, stamp_of, head_bytes, IsNewest}
use Rattle.disk_layout.specs.laws.Laws.{HeadFits}
use Rattle.disk_layout.specs.laws.Heads.{WrittenIsComplete, seven_head}
use Rattle.disk_layout.specs.laws.Heads.{second_and_third, HeadExamples}
use Rattle.disk_layout.proofs.FieldLemmas.{drop_over, head_again}

-- the stamp of a head that is written
abbrev rest_of : Head → List ℕ
rest_of h = padding 440 ++ stamp_bytes (record { generation = h.generation; place = 1 })

generation_there : (h : Head) → HeadFits h → (stamp_of (head_bytes h)).generation ≡ h.generation
generation_there h fits =
    let at : drop 496 (head_bytes h) ≡ drop 440 (rest_of h) =
    drop_over h.digest (rest_of h) 32 440 fits.digest in
    ap (λ l. number_of (take 8 l)) at ∙ number_of-bytes_of 8 h.generation fits.generation

place_there : (h : Head) → HeadFits h → (stamp_of (head_bytes h)).place ≡ 1
place_there h fits =
    let at : drop 504 (head_bytes h) ≡ drop 448 (rest_of h) =
    drop_over h.digest (rest_of h) 32 448 fits.digest in
    ap (λ l. number_of (take 8 l)) at

pub written_is_complete : WrittenIsComplete
written_is_complete h fits least =
    let is = generation_there h fits in
    record {
      mark = refl;
      place = place_there h fits;
      from_one = subst (λ n. 1 ≤ n) (sym is) least;
      parity = ap (λ n. n % 2) is;
    }

-- ---- examples

fits_small : (version g : ℕ) → version < 8 → g < 8 → HeadFits (seven_head version g)
fits_small version g low few = record {
  version = omega (arith, low);
  len = omega arith;
  digest = length-sha256 (7 ∷ []);
  generation = omega (arith, few);
}

second_fits : HeadFits (seven_head 1 2)
second_fits = fits_small 1 2 (omega arith) (omega arith)

third_fits : HeadFits (seven_head 1 3)
third_fits = fits_small 1 3 (omega arith) (omega arith)

second_is : (stamp_of (sector_at second_and_third 1)).generation ≡ 2
second_is = generation_there (seven_head 1 2) second_fits

third_is : (stamp_of (sector_at second_and_third 2)).generation ≡ 3
third_is = generation_there (seven_head 1 3) third_fits

newest_third : IsNewest second_and_third 3 (seven_head 1 3)
newest_third = record {
  complete = written_is_complete (seven_head 1 3) third_fits (omega arith);
  is = sym (head_again (seven_head 1 3) third_fits);
  same = refl;
  newest = λ other. subst (λ n. n < 3) (sym second_is) (omega arith);
}

-- the head that is newest there has the third's fields
as_third : (h : Head) → IsNewest second_and_third 3 h → h ≡ seven_head 1 3
as_third h newest = newest.is ∙ head_again (seven_head 1 3) third_fits

pub head_examples : HeadExamples
head_examples = record {
  zeros = λ c. differ 0 68 (ap (λ l. get_or l 0 0) c.mark) (omega arith);
  other_area = λ c. differ 0 1 (ap (λ n. n % 2) (sym second_is) ∙ c.parity) (omega arith);
  never_zero = λ c.
      (let none = generation_there (seven_head 1 0) (fits_small 1 0 (omega arith) (omega arith)) in
      let some = c.from_one in omega (arith, none, some));
  third_is_newest = newest_third;
  second_is_older = λ n.
      (let less = n.newest (written_is_complete (seven_head 1 3) third_fits (omega arith)) in
      too_late (subst (λ k. k < 2) third_is less));
  another_generation = λ n. differ 3 5 n.same (omega arith);
  another_version = λ n. differ 1 2 (sym (ap (λ h. h.version) (as_third (seven_head 2 3) n)))
      (omega arith);
  alone = record {
    complete = written_is_complete (seven_head 1 2) second_fits (omega arith);
    is = sym (head_again (seven_head 1 2) second_fits);
    same = refl;
    newest = λ other. omega arith;
  };
  holds = record { newest = newest_third; area = refl };
  holds_no_other_byte = λ h. differ 7 9 (ap (λ l. get_or l 0 0) h.area) (omega arith);
  holds_no_more_bytes = λ h.
      differ 1 2 (sym (ap (λ z. z.length_in_bytes) (as_third _ h.newest))) (omega arith);
  holds_no_other_version = λ h.
      differ 1 2 (sym (ap (λ z. z.version) (as_third _ h.newest))) (omega arith);
}
  where
    too_late : 3 < 2 → ⊥
    too_late less = omega (arith, less)
