-- What is saved of a process shows what the process shows.
use Rattle.std.proofs.Common.{◌≡◌, ◌+◌, length, sym, ap, ◌∙◌, length-append}
use Rattle.wasi_calls_rules.specs.WasiStates.{WasiState}
use Rattle.state_image.specs.laws.Laws.{SavesWhatIsShown}

pub saves_shown : SavesWhatIsShown
saves_shown v guest p shows =
    let inside = shows.configuration in
    let held = shows.host in
    let lines : length p.host.lines ≡ v.host.released + length v.host.host.lines =
    ap (λ (h : WasiState). length h.lines) held.is
    ∙ (length-append held.before v.host.host.lines
    ∙ ap (λ n. n + length v.host.host.lines) held.count) in (
      inside.functions,
      inside.is.types,
      record {
        version = sym (ap (λ (h : WasiState). h.version) held.is);
        machine = inside.shows;
        files = sym (ap (λ (h : WasiState). h.files) held.is);
        descriptors = sym (ap (λ (h : WasiState). h.descriptors) held.is);
        unread = sym (ap (λ (h : WasiState). h.unread) held.is);
        input_ended = sym (ap (λ (h : WasiState). h.input_ended) held.is);
        last_monotonic = sym (ap (λ (h : WasiState). h.last_monotonic) held.is);
        first = sym (ap (λ (h : WasiState). h.first) held.is);
        second = sym (ap (λ (h : WasiState). h.second) held.is);
        steps = shows.steps;
        answers = shows.answers;
        requests = shows.requests;
        lines = sym lines;
        ended = shows.ended;
      },
    )
