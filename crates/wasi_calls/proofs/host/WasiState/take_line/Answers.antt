use Rattle.std.proofs.Common.{◌≡◌, ◌++◌, [], ◌∷◌, ◌∙◌, ap, append_assoc, arith}
use Rattle.guest_memory.specs.rules.Bytes.{IsByte}
use Rattle.guest_memory.proofs.Lists.{all_both}
use Rattle.wasi_abi.specs.rules.Answers.{AreBytes, newline}
use Rattle.wasi_abi.proofs.ByteLemmas.{all_bytes}
use Rattle.wasi_calls_rules.specs.Checks.{Bytes}
use Rattle.wasi_calls_rules.proofs.KeepsWasiStates.{unread_kept}
use Rattle.wasi_calls.specs.rules.Held.{held_host_of}
use Rattle.wasi_calls.proofs.host.WasiState.take_line.Goals as goal

pub invariant_of-self-2 : goal.invariant_of-self-2
invariant_of-self-2 c =
    let s = c.self.inside in
    let h = (held_host_of s.config s.version s.tree s.descriptors.items s.unread.items
    s.input_ended s.last_monotonic s.streams).host in
    let text = c.args.text.now in
    let low : AreBytes text = all_bytes text (λ k. omega (arith, c.type_inv.text k)) in
    let all : AreBytes (s.unread.items ++ (text ++ newline ∷ [])) =
    all_both IsByte s.unread.items (text ++ newline ∷ []) c.self.invariant.unread
    (all_both IsByte text (newline ∷ []) low (omega arith, tt)) in
    let stood = unread_kept h (s.unread.items ++ (text ++ newline ∷ [])) c.self.invariant all in
    let put = (rw c.unwrap.ensures at c.extend_from_slice.ensures.items) in
    let ended = (rw c.unwrap-2.ensures at c.push.ensures.items) in
    let is : c.push.new.self.items ≡ s.unread.items ++ (text ++ newline ∷ []) =
    ended ∙ ap (λ (x : Bytes). x ++ newline ∷ [])
    (put ∙ ap (λ (x : Bytes). x ++ text) c.in_ok-reserve.ensures.items)
    ∙ append_assoc s.unread.items text (newline ∷ []) in
    rw is stood
