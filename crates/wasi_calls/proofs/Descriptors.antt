-- Descriptors: those that a process begins with, and one that is open.
use Rattle.std.proofs.Common.{◌≡◌, ℕ, ◌+◌, ◌-◌, ◌≤◌, List, [], ◌∷◌, ◌++◌, refl, sym, ap, ◌∙◌, arith}
use Rattle.std.proofs.Common.{append_assoc, replicate}
use Rattle.std.specs.Prelude.{Option, Some, None, Ok, slice_get}
use Rattle.std.proofs.lemmas.List.{replicate-append-replicate}
use Rattle.wasi_abi.specs.rules.Numbers.{input_rights, output_rights, directory_rights, all_rights}
use Rattle.wasi_abi.specs.declared.errno.Errno.TheVariants.{Badf}
use Rattle.wasi_calls_rules.specs.WasiStates.{Node, Descriptor, WasiState, stream}
use Rattle.wasi_calls_rules.specs.WasiStates.{first_descriptors, IsDescriptor, IsWasiState}
use Rattle.wasi_calls_rules.specs.Checks.{some_or, flat, open_descriptor}
use Rattle.wasi_calls_rules.specs.Small.{with_descriptor}
use Rattle.wasi_calls_rules.proofs.Tables.{is_descriptor}
use Rattle.wasi_calls_rules.proofs.KeepsWasiStates.{file_state, like_host}

-- one more that is not open
pub one_more : (X : Type 0) (front items after : List X) (x : X) (n : ℕ) → 4 ≤ n
    → items ≡ front ++ replicate (n - 4) x → after ≡ items ++ x ∷ []
    → after ≡ front ++ replicate (n + 1 - 4) x
one_more X front items after x n le e f =
    let k : (n + 1) - 4 ≡ (n - 4) + 1 = omega arith in
    let grown : replicate (n - 4) x ++ x ∷ [] ≡ replicate (n + 1 - 4) x =
    replicate-append-replicate (n - 4) 1 x ∙ ap (λ (i : ℕ). replicate i x) (sym k) in
    f ∙ ap (λ (xs : List X). xs ++ x ∷ []) e ∙ append_assoc front (replicate (n - 4) x) (x ∷ [])
    ∙ ap (λ (xs : List X). front ++ xs) grown

-- four descriptors, and 60 that are not open
pub begun : (none one two three four all : List (Option Descriptor)) (a b c d : Descriptor) (n : ℕ)
    → none ≡ [] → one ≡ none ++ Some a ∷ [] → two ≡ one ++ Some b ∷ [] → three ≡ two ++ Some c ∷ []
    → four ≡ three ++ Some d ∷ []
    → a ≡ stream 0 input_rights → b ≡ stream 1 output_rights → c ≡ stream 2 output_rights
    → d ≡ record {
      target = Node 1;
      offset = 0;
      flags = 0;
      base = directory_rights;
      inheriting = all_rights;
    }
    → n ≡ 60 → all ≡ four ++ replicate n None → all ≡ first_descriptors
begun none one two three four all a b c d n e0 e1 e2 e3 e4 fa fb fc fd k e =
    rw (e, k, e4, e3, e2, e1, e0, fa, fb, fc, fd) refl

-- ---- what an open descriptor names

opened_at : (o : Option (Option Descriptor)) (d : Descriptor) → some_or Badf (flat o) ≡ Ok d
    → o ≡ Some (Some d)
opened_at None d e = absurd (cc)
opened_at (Some None) d e = absurd (cc)
opened_at (Some (Some x)) d e = let same : x ≡ d = cc in rw same refl

pub is_open : (h : WasiState) (fd : ℕ) (d : Descriptor) → open_descriptor h fd ≡ Ok d
    → slice_get h.descriptors fd ≡ Some (Some d)
is_open h fd d e = opened_at (slice_get h.descriptors fd) d e

-- the descriptor that is open under a number is one
pub open_is : (h : WasiState) (fd : ℕ) (d : Descriptor) → IsWasiState h
    → open_descriptor h fd ≡ Ok d → IsDescriptor h.files d
open_is h fd d is e =
    is_descriptor h.files h.descriptors fd d (file_state h is).table (is_open h fd d e)

pub descriptor_at : (h : WasiState) (n : ℕ) (d : Descriptor) → IsWasiState h
    → slice_get h.descriptors n ≡ Some (Some d) → IsDescriptor h.files d
descriptor_at h n d is there = is_descriptor h.files h.descriptors n d (file_state h is).table there

-- a descriptor is given other flags
pub flagged_host : (h : WasiState) (fd flags : ℕ) (d : Descriptor) → IsWasiState h
    → slice_get h.descriptors fd ≡ Some (Some d) → flags ≤ 31
    → IsWasiState (with_descriptor fd (record d { flags = flags }) h)
flagged_host h fd flags d is there few =
    let own = descriptor_at h fd d is there in
    like_host h fd d (record d { flags = flags }) is there (record {
      target = refl;
      base = refl;
      inheriting = refl;
      offset = own.offset;
      flags = few;
    })
