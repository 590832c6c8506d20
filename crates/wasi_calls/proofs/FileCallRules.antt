-- What the rules say of a write to a file, once it is known whether it is refused.
use Rattle.std.proofs.Common.{◌≡◌, ℕ, ◌+◌, ◌<◌, max, List, [], ◌∷◌, length, refl, sym, ap, ◌∙◌}
use Rattle.std.proofs.Common.{arith}
use Rattle.std.specs.Prelude.{Bool, true, false, nat_le, ◌==◌, if◌then◌else◌, slice_get, Option}
use Rattle.std.specs.Prelude.{Result, Ok, Err}
use Rattle.std.proofs.lemmas.Bool.{lt-leb, eqb-true}
use Rattle.file_tree.specs.rules.Bytes.{written, resized}
use Rattle.file_tree.specs.rules.Files.{Files, bytes_of_node, with_file_bytes}
use Rattle.file_tree.specs.declared.limits.TheConstants.{FILE_BYTES}
use Rattle.wasi_abi.specs.declared.errno.Errno.TheVariants.{Badf, Fbig}
use Rattle.wasi_calls_rules.specs.WasiStates.{Target, Node, Descriptor, WasiState, IsThere}
use Rattle.wasi_calls_rules.specs.Checks.{Bytes, Halt, Refuses, ◌>>=◌, Buffer, gathered, some_or}
use Rattle.wasi_calls_rules.specs.Checks.{flat, open_descriptor}
use Rattle.wasi_calls_rules.specs.Small.{roomy}
use Rattle.wasi_calls_rules.specs.Moving.{size_after, file_written, write_offset, offset_after}
use Rattle.wasi_calls_rules.specs.Moving.{moved_to, target_written}
use Rattle.wasi_calls.specs.Moves.{total_len, AreInside, moved_behind}
use Rattle.wasi_calls.proofs.Fronts.{length_gathered}
use Rattle.wasi_calls.proofs.WrittenFiles.{rewritten_again, bytes_now, written_resized}

pub no_items : (bytes : Bytes) → length bytes ≡ 0 → bytes ≡ []
no_items [] e = refl
no_items (b ∷ bytes) e = absurd (omega (arith, e))

pub no_bytes : (m : Bytes) (bs : List Buffer) → AreInside m bs → total_len bs ≡ 0
    → gathered m bs ≡ []
no_bytes m bs inside none = no_items (gathered m bs) (length_gathered m bs inside ∙ none)

pub none_written : (k from : ℕ) (bytes : Bytes) (h : WasiState) → bytes ≡ []
    → file_written k from bytes h ≡ Ok h
none_written k from bytes h e = rw e refl

-- the host with the file written
abbrev pub host_written : ℕ → ℕ → Bytes → WasiState → WasiState
host_written k from bytes h =
    record h { files = with_file_bytes k (written (bytes_of_node h.files k) from bytes) h.files }

some_written : (k from : ℕ) (bytes : Bytes) (h : WasiState) → 0 < length bytes
    → file_written k from bytes h
    ≡ (roomy h k (size_after (bytes_of_node h.files k) from bytes) >>= λ _.
    Ok (host_written k from bytes h))
some_written k from [] h some = absurd (omega (arith, some))
some_written k from (b ∷ bytes) h some = refl

module _ (k from size : ℕ) (bytes : Bytes) (h : WasiState) (some : 0 < length bytes) where
  pub refused_write : (halt : Halt)
      → size ≡ max (length (bytes_of_node h.files k)) (from + length bytes)
      → roomy h k size ≡ Err halt → file_written k from bytes h ≡ Err halt
  refused_write halt is room =
      let r : roomy h k (size_after (bytes_of_node h.files k) from bytes) ≡ Err halt =
      ap (roomy h k) (sym is) ∙ room in
      some_written k from bytes h some ∙ ap (λ (x : Result (Unit {0}) Halt). x >>= λ _.
      Ok (host_written k from bytes h)) r

  pub done_write : (u : Unit {0})
      → size ≡ max (length (bytes_of_node h.files k)) (from + length bytes)
      → roomy h k size ≡ Ok u → file_written k from bytes h ≡ Ok (host_written k from bytes h)
  done_write u is room =
      let r : roomy h k (size_after (bytes_of_node h.files k) from bytes) ≡ Ok u =
      ap (roomy h k) (sym is) ∙ room in
      some_written k from bytes h some ∙ ap (λ (x : Result (Unit {0}) Halt). x >>= λ _.
      Ok (host_written k from bytes h)) r

pub too_large : (k from : ℕ) (bytes : Bytes) (h : WasiState) → 0 < length bytes
    → FILE_BYTES < from + length bytes → file_written k from bytes h ≡ Err (Refuses Fbig)
too_large k from bytes h some large =
    let size : ℕ = size_after (bytes_of_node h.files k) from bytes in
    let over : nat_le size FILE_BYTES ≡ false = lt-leb size FILE_BYTES (omega (arith, large)) in
    refused_write k from size bytes h some (Refuses Fbig) refl (rw over refl)

-- a file that was made as large as it will be, and then written
pub files_made : (k from size : ℕ) (bytes : Bytes) (fs made after : Files) → IsThere fs (Node k)
    → size ≡ max (length (bytes_of_node fs k)) (from + length bytes)
    → made ≡ with_file_bytes k (resized (bytes_of_node fs k) size) fs
    → after ≡ with_file_bytes k (written (bytes_of_node made k) from bytes) made
    → after ≡ with_file_bytes k (written (bytes_of_node fs k) from bytes) fs
files_made k from size bytes fs made after there is first second =
    let old : Bytes = bytes_of_node fs k in
    let held : bytes_of_node made k ≡ resized old size =
    ap (λ (x : Files). bytes_of_node x k) first ∙ bytes_now fs k (resized old size) there in
    let new : written (bytes_of_node made k) from bytes ≡ written old from bytes =
    ap (λ (x : Bytes). written x from bytes) held ∙ written_resized old from size bytes is in
    second
    ∙ ap (λ (x : Bytes). with_file_bytes k x made) new
    ∙ ap (with_file_bytes k (written old from bytes)) first
    ∙ rewritten_again k (resized old size) (written old from bytes) fs

-- ---- the offset

pub offset_behind_is : (fd offset : ℕ) (d : Descriptor) (bytes : Bytes) (h : WasiState)
    → offset_after fd offset d bytes h ≡ moved_behind fd offset d (length bytes) h
offset_behind_is fd offset d [] h = refl
offset_behind_is fd offset d (b ∷ bytes) h = by_test (length (b ∷ bytes) == 0) refl where
  by_test : (p : Bool) → (length (b ∷ bytes) == 0) ≡ p
      → moved_to fd d (offset + length (b ∷ bytes)) h
      ≡ (if p then h else moved_to fd d (offset + length (b ∷ bytes)) h)
  by_test true e = absurd (omega (arith, eqb-true (length (b ∷ bytes)) 0 e))
  by_test false e = refl

-- ---- a write to what is open

written_by : (r : Result (Unit {0}) Halt) (made after h : WasiState)
    → (r >>= λ _. Ok made) ≡ Ok after → made.descriptors ≡ h.descriptors → after.descriptors
    ≡ h.descriptors
written_by (Ok u) made after h is same =
    let e : made ≡ after = cc in ap (λ (x : WasiState). x.descriptors) (sym e) ∙ same
written_by (Err halt) made after h is same = absurd (cc)

pub kept_descriptors : (k from : ℕ) (bytes : Bytes) (h after : WasiState)
    → file_written k from bytes h ≡ Ok after → after.descriptors ≡ h.descriptors
kept_descriptors k from [] h after is =
    let e : h ≡ after = cc in ap (λ (x : WasiState). x.descriptors) (sym e)
kept_descriptors k from (b ∷ bytes) h after is =
    written_by (roomy h k (size_after (bytes_of_node h.files k) from (b ∷ bytes)))
    (host_written k from (b ∷ bytes) h) after h is refl

pub still_open : (k from fd : ℕ) (bytes : Bytes) (h after : WasiState)
    → file_written k from bytes h ≡ Ok after → open_descriptor after fd ≡ open_descriptor h fd
still_open k from fd bytes h after is =
    ap (λ (ds : List (Option Descriptor)). some_or Badf (flat (slice_get ds fd)))
    (kept_descriptors k from bytes h after is)

pub target_done : (fd k from n : ℕ) (d : Descriptor) (bytes : Bytes) (h after last : WasiState)
    → d.target ≡ Node k → from ≡ write_offset h k d → n ≡ length bytes
    → file_written k from bytes h ≡ Ok after → last ≡ moved_behind fd from d n after
    → target_written d.target fd d bytes h ≡ Ok last
target_done fd k from n d bytes h after last named at size done moved =
    ap (λ (t : Target). target_written t fd d bytes h) named
    ∙ ap (λ (o : ℕ). file_written k o bytes h >>= λ x. Ok (offset_after fd o d bytes x)) (sym at)
    ∙ ap (λ (r : Result WasiState Halt). r >>= λ x. Ok (offset_after fd from d bytes x)) done
    ∙ ap (λ (x : WasiState). Ok x) (offset_behind_is fd from d bytes after
    ∙ ap (λ (i : ℕ). moved_behind fd from d i after) (sym size) ∙ sym moved)
