-- What a process leaves is a legacy.
use Rattle.std.proofs.Common.{◌≡◌, ℕ, ◌+◌, ◌<◌, ◌≤◌, ◌^◌, Bool, true, false, cond, List, [], ◌∷◌}
use Rattle.std.proofs.Common.{replicate, refl, sym, ap, ◌∙◌, subst, arith}
use Rattle.std.specs.Prelude.{filter, is_some}
use Rattle.std.proofs.lemmas.List.{length-replicate}
use Rattle.wasi_abi.specs.declared.version.Version.{Version}
use Rattle.wasi_abi.specs.declared.version.Version.TheVariants.{One, Two}
use Rattle.wasi_abi.specs.rules.Answers.{IsTime}
use Rattle.wasi_abi.specs.rules.Versions.{widenings}
use Rattle.file_tree.specs.rules.Files.{FileNode, Files, IsFiles, only_named}
use Rattle.wasi_calls_rules.specs.WasiStates.{Line}
use Rattle.wasi_calls_rules.specs.declared.output_stream.OutputStream.TheVariants.{Stdout}
use Rattle.wasi_calls_rules.proofs.FilesOfBytes.{files_of_bytes}
use Rattle.process.specs.rules.Legacies.{IsLegacy, legacy_from}

abbrev named_in : List FileNode → List FileNode
named_in ns = filter (λ (n : FileNode). is_some n.path) ns

-- no node is left out a second time
named_once : (ns : List FileNode) → named_in (named_in ns) ≡ named_in ns
named_once [] = refl
named_once (n ∷ ns) = by_path (is_some n.path) refl (named_once ns) where
  by_path : (b : Bool) → is_some n.path ≡ b → named_in (named_in ns) ≡ named_in ns
      → named_in (cond b (n ∷ named_in ns) (named_in ns))
      ≡ cond b (n ∷ named_in ns) (named_in ns)
  by_path true is rest =
      ap (λ (b : Bool). cond b (n ∷ named_in (named_in ns)) (named_in (named_in ns))) is
      ∙ ap (λ (ms : List FileNode). n ∷ ms) rest
  by_path false is rest = rest

-- nothing is known of a line, so that any will do
any_line : Line
any_line = record { stream = Stdout; text = [] }

at_most_one : (version : Version) → widenings version ≤ 1
at_most_one One = omega arith
at_most_one Two = omega arith

module _ (files tree : Files) (version : Version) (lines steps answers requests time : ℕ)
    (named : tree ≡ only_named files) (is : IsFiles tree) (next : files.next ≤ steps + 2)
    (few_answers : answers ≤ steps + widenings version) (few_requests : requests ≤ answers)
    (small : IsTime time) (few_steps : steps + 1 < 2 ^ 63) (few_lines : lines + 2 < 2 ^ 63) where
  pub is_legacy : IsLegacy
      (legacy_from tree lines (steps + 1) answers requests time version)
  is_legacy =
      let number : tree.next ≡ files.next = ap (λ (fs : Files). fs.next) named in
      let once : only_named (only_named files) ≡ only_named files =
      ap (λ (ns : List FileNode). record { nodes = ns; next = files.next })
      (named_once files.nodes) in
      let widened = at_most_one version in
      record {
        origin = record {
          files = tree;
          lines = replicate lines any_line;
          steps = steps + 1;
          answers = answers;
          requests = requests;
          last_monotonic = time;
        };
        is_origin = record {
          files = is;
          of_bytes = files_of_bytes tree is;
          named = subst (λ (fs : Files). only_named fs ≡ fs) (sym named) once;
          within = omega arith;
          some_steps = omega arith;
          next = omega (arith, next, number);
          answers = omega (arith, few_answers, widened);
          requests = few_requests;
          time = small;
        };
        is = ap (λ (n : ℕ). legacy_from tree n (steps + 1) answers requests time version)
            (sym (length-replicate lines any_line));
        few_steps = few_steps;
        few_lines = few_lines;
      }
