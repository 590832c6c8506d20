-- The examples of images hold.
use Rattle.std.proofs.Common.{◌≡◌, ◌≢◌, ℕ, refl, ap, arith}
use Rattle.wasi_abi.specs.declared.version.Version.{Version}
use Rattle.wasi_abi.specs.declared.version.Version.TheVariants.{One, Two}
use Rattle.state_image.specs.rules.ProcessImage.{process_image_mark}
use Rattle.state_image.specs.laws.ProcessImageExamples.{mark_with, ProcessImagesOnExamples}
use Rattle.state_image.proofs.Marks.{digit_of}

no_third : (version : Version) → mark_with 51 ≢ process_image_mark version
no_third One e = let digits : ◌≡◌ {A = ℕ} 51 49 = ap digit_of e in absurd (omega (arith, digits))
no_third Two e = let digits : ◌≡◌ {A = ℕ} 51 50 = ap digit_of e in absurd (omega (arith, digits))

pub images : ProcessImagesOnExamples
images = record {
  whole = refl;
  whole_in_two = refl;
  mark_of_one = refl;
  mark_of_two = refl;
  no_mark_of_three = no_third;
  in_start_function = refl;
  exited = refl;
  unreachable = refl;
  divide_by_zero = refl;
  overflow = refl;
  out_of_bounds = refl;
  undefined = refl;
  uninitialized = refl;
  mismatch = refl;
  exhausted = refl;
  three_pages = λ memory e. rw e refl;
}
