use Rattle.std.proofs.Common.{◌≡◌, ◌≤◌, ◌+◌, ◌-◌, ◌++◌, ◌∷◌, [], ℕ, List, Some, None, length, take}
use Rattle.std.proofs.Common.{drop, is_some, subst, sym, ap, ◌∙◌, arith, length-drop}
use Rattle.std.proofs.lemmas.List.{take_all}
use Rattle.wasi_abi.proofs.ByteLemmas.{all_bytes}
use Rattle.disk_layout.specs.rules.Journal.{Record, payload_length, record_head_bytes}
use Rattle.disk_layout.specs.Scanned.{record_at}
use Rattle.journal.specs.rules.Steps.{AllRecordsFit, records_bytes}
use Rattle.journal.proofs.SpelledLemmas.{spelled_on, not_at_front}
use Rattle.journal.proofs.decode.records_from.Goals as goal

pub loop-records-preserved : goal.loop-records-preserved
loop-records-preserved c =
    let v = c.args.version in
    let at = c.loop-records.invariant in
    let bytes = c.args.bytes.now in
    let start = c.loop-records.start in
    let rest = drop start bytes in
    let lent : take (length bytes - start) rest ≡ rest =
    take_all (length bytes - start) rest (omega (arith, length-drop start bytes)) in
    let is : record_at v rest ≡ Some c.in-Some.entry =
    ap (λ (l : List ℕ). record_at v l) (sym lent)
    ∙ sym c.in_ok-entry.ensures.value ∙ c.in-Some.is in
    let whole : record_head_bytes v + payload_length v rest ≤ length rest =
    subst (λ (l : List ℕ). record_head_bytes v + payload_length v l
    ≤ length l) lent (c.in_ok-entry.ensures.whole (ap is_some c.in-Some.is)) in
    let len : c.payload_length.result ≡ payload_length v rest = c.payload_length.ensures.value
    ∙ ap (λ (l : List ℕ). payload_length v l) lent in
    let head = c.record_head_bytes.ensures.value in
    let items = c.in_ok-push.ensures.items in
    let all : List Record = c.loop-records.records.items ++ c.in-Some.entry ∷ [] in
    let on = spelled_on v bytes start c.loop-records.records.items c.in-Some.entry
    (all_bytes bytes (λ k. omega (arith, c.type_inv.bytes k))) at.spelled at.fit is in
    record {
      within = omega (arith, length-drop start bytes);
      spelled = on.0
          ∙ ap (λ (n : ℕ). records_bytes v all ++ drop (start + (record_head_bytes v + n)) bytes)
          (sym len)
          ∙ ap (λ (n : ℕ). records_bytes v all
          ++ drop (start + (n + c.payload_length.result)) bytes) (sym head)
          ∙ ap (λ (l : List Record). records_bytes v l
          ++ drop (start + (c.record_head_bytes.result + c.payload_length.result)) bytes)
          (sym items);
      fit = subst (λ (l : List Record). AllRecordsFit v l) (sym items) on.1;
    }

pub returns-clause-value : goal.returns-clause-value
returns-clause-value c =
    let v = c.args.version in
    let at = c.loop-records.invariant in
    let bytes = c.args.bytes.now in
    let start = c.loop-records.start in
    let rest = drop start bytes in
    let lent : take (length bytes - start) rest ≡ rest =
    take_all (length bytes - start) rest (omega (arith, length-drop start bytes)) in
    let none : record_at v rest ≡ None = ap (λ (l : List ℕ). record_at v l) (sym lent)
    ∙ sym c.in_ok-entry.ensures.value ∙ c.in_default.is in
    record {
      rest = rest;
      spelled = at.spelled;
      fit = at.fit;
      no_record = not_at_front v rest none;
    }
