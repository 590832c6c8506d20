-- A node is its front and the entries after it, and a descriptor what is read of it.
use Rattle.std.proofs.Common.{◌≡◌, ℕ, List, ◌∷◌, ◌++◌, refl, sym, ap, ◌∙◌, append_assoc}
use Rattle.std.proofs.lemmas.List.{append-nil}
use Rattle.std.specs.List.{flat_map}
use Rattle.wasi_abi.specs.rules.Layouts.{u16_bytes, u32_bytes, u64_bytes}
use Rattle.file_tree.specs.rules.Files.{Files, FileNode, Content, Directory, File}
use Rattle.wasi_calls_rules.specs.WasiStates.{Target, Stream, Node}
use Rattle.state_image.specs.rules.ProcessImage.{entry_bytes, content_bytes, node_bytes}
use Rattle.state_image.specs.rules.ProcessImage.{target_bytes, Numbered, descriptor_bytes}
use Rattle.state_image.specs.rules.Fronts.{content_front, content_front_bytes, node_front_of}
use Rattle.state_image.specs.rules.Fronts.{front_bytes, entries_after_front}
use Rattle.state_image.specs.rules.RawDescriptors.{raw_target_type, raw_node, raw_of, raw_bytes}

content_in_steps : (fs : Files) (k : ℕ) (c : Content)
    → content_bytes fs k c
    ≡ content_front_bytes (content_front fs k c)
    ++ flat_map entry_bytes (entries_after_front fs k c)
content_in_steps fs k Directory = refl
content_in_steps fs k (File bytes) = sym (append-nil _)

pub node_read_in_steps : (fs : Files) (n : FileNode)
    → node_bytes fs n
    ≡ front_bytes (node_front_of fs n)
    ++ flat_map entry_bytes (entries_after_front fs n.number n.content)
node_read_in_steps fs n =
    ap (λ (bytes : List ℕ). u64_bytes n.number ++ bytes)
    (content_in_steps fs n.number n.content)
    ∙ sym (append_assoc (u64_bytes n.number)
    (content_front_bytes (content_front fs n.number n.content))
    (flat_map entry_bytes (entries_after_front fs n.number n.content)))

target_in_steps : (fs : Files) (t : Target)
    → target_bytes fs t ≡ raw_target_type fs t ∷ u64_bytes (raw_node t)
target_in_steps fs (Stream s) = refl
target_in_steps fs (Node k) = refl

pub descriptor_read_in_steps : (fs : Files) (d : Numbered)
    → descriptor_bytes fs d ≡ raw_bytes (raw_of fs d)
descriptor_read_in_steps fs d =
    ap (λ (bytes : List ℕ). u32_bytes d.number ++ (bytes ++ (u64_bytes d.descriptor.offset
    ++ (u16_bytes d.descriptor.flags
    ++ (u64_bytes d.descriptor.base ++ u64_bytes d.descriptor.inheriting)))))
    (target_in_steps fs d.descriptor.target)
