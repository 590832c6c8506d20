use Rattle.std.proofs.Common.{◌*◌, ◌≤◌, length, sym, ◌∙◌, subst}
use Rattle.guest_memory.specs.rules.Bytes.{page_size}
use Rattle.machine.specs.rules.Loading.{ShowsSome}
use Rattle.machine.proofs.LoadingLemmas.Fits.{fits_show, shown_fit}
use Rattle.machine.proofs.loading.loading.Loading.check.Goals as goal

pub returns-then-told-clause-shows : goal.returns-then-told-clause-shows
returns-then-told-clause-shows c =
    let h = c.self.invariant in
    let k = h.loaded in
    let enough : k.program.least_pages * page_size ≤ length c.self.inside.state.memory.bytes =
    subst (λ z. z * page_size ≤ length c.self.inside.state.memory.bytes)
    (sym k.is.is_program.least_pages) h.least in
    let told = c.in_ok-told.ensures k.functions k.program (k.is_code k.functions k.program k.is)
    (h.limit ∙ sym k.is.most) enough in
    subst ShowsSome c.self.view_is (fits_show h (told.0 c.if-told.true))

pub returns-else-told-clause-refused : goal.returns-else-told-clause-refused
returns-else-told-clause-refused c = λ shown.
    let h = c.self.invariant in
    let k = h.loaded in
    let enough : k.program.least_pages * page_size ≤ length c.self.inside.state.memory.bytes =
    subst (λ z. z * page_size ≤ length c.self.inside.state.memory.bytes)
    (sym k.is.is_program.least_pages) h.least in
    let told = c.in_ok-told.ensures k.functions k.program (k.is_code k.functions k.program k.is)
    (h.limit ∙ sym k.is.most) enough in
    let yes = told.1 (shown_fit h (subst ShowsSome (sym c.self.view_is) shown)) in
    let none = c.if-told.false in
    absurd (cc)
