-- A call that is done leaves no more unread than one request's text and its newline.
use Rattle.std.proofs.Common.{◌≡◌, ℕ, ◌+◌, ◌≤◌, [], ◌∷◌, ◌++◌, length, drop, Option, Some, None}
use Rattle.std.proofs.Common.{arith, length-append, length-drop}
use Rattle.wasi_abi.specs.declared.call.Call.{Call}
use Rattle.wasi_abi.specs.rules.Answers.{newline}
use Rattle.wasi_abi.specs.rules.Versions.{text_limit}
use Rattle.file_tree.specs.rules.Files.{Path}
use Rattle.wasi_calls_rules.specs.WasiStates.{WasiState}
use Rattle.wasi_calls_rules.specs.Checks.{Bytes}
use Rattle.wasi_calls_rules.specs.Entries.{renamed_over}
use Rattle.wasi_calls_rules.specs.laws.Laws.{HasShortInput, CallRulesKeepInputShort}
use Rattle.wasi_calls_rules.proofs.WasiStateChanges.{Becomes, leaves_unread, takes_text}
use Rattle.wasi_calls_rules.proofs.WasiStateChanges.{writes_stream, renames}
use Rattle.wasi_calls_rules.proofs.CallRuleChanges.{changes}
use Rattle.wasi_calls_rules.proofs.KeptLines.{stream_either}

-- a part of what was there
rest_short : (n k : ℕ) (bytes : Bytes) → length bytes ≤ k → length (drop n bytes) ≤ k
rest_short n k bytes short = let rest_length = length-drop n bytes in omega
    (arith, rest_length, short)

text_short : (n k : ℕ) (text : Bytes) → length text ≤ k
    → length (drop n (text ++ newline ∷ [])) ≤ k + 1
text_short n k text short =
    let whole : length (text ++ newline ∷ []) ≡ length text + 1 = length-append text (newline ∷ [])
    in
    rest_short n (k + 1) (text ++ newline ∷ []) (omega (arith, whole, short))

renamed_short : (h : WasiState) (k : ℕ) (j : Option ℕ) (from to : Path) → HasShortInput h
    → HasShortInput (renamed_over k j from to h)
renamed_short h k None from to short = short
renamed_short h k (Some j) from to short = short

input_short : {c : Call} (m : Bytes) (h after : WasiState) → HasShortInput h → Becomes c m h after
    → HasShortInput after
input_short m h _ is (leaves_unread n) = rest_short n (text_limit h.version + 1) h.unread is
input_short m h _ is (takes_text n text k short) = text_short n (text_limit h.version) text short
input_short m h _ is (writes_stream s bytes by few k) = stream_either HasShortInput h s bytes is is
input_short m h _ is (renames k j from to x) = renamed_short h k j from to is
input_short m h _ is _ = is

pub call_rules_keep_input_short : CallRulesKeepInputShort
call_rules_keep_input_short c arguments given m h done is e =
    input_short m h done.host is (changes c arguments given m h done e)
