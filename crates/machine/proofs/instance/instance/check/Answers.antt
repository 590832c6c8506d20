use Rattle.std.proofs.Common.{List, sym, subst}
use Rattle.std.specs.List.{AllByRecursion}
use Rattle.std.proofs.lemmas.Result.{err_from_is_err_and}
use Rattle.wasm_syntax.specs.declared.types.FunctionType.{FunctionType}
use Rattle.wasm_syntax.specs.declared.types.MemoryType.{MemoryType}
use Rattle.wasm_syntax.specs.declared.module.Import.{Import}
use Rattle.wasm_rules.specs.Linking.{IsOffered, FitsPages}
use Rattle.machine.specs.rules.Offers.{offer}
use Rattle.machine.specs.rules.Initial.{AreImportsOffered}
use Rattle.machine.specs.rules.Refusals.{AreImportsRefused}
use Rattle.machine.proofs.InstanceLemmas.Begun.{own_memories, imports_refused}
use Rattle.machine.proofs.instance.instance.check.Goals as goal

pub returns-in_default-clause-refused : goal.returns-in_default-clause-refused
returns-in_default-clause-refused c = λ s. c.in_default.ensures.none s.0 s.1

pub returns-in_err-check_imports-clause-refused : goal.returns-in_err-check_imports-clause-refused
returns-in_err-check_imports-clause-refused c =
    let m = c.args.module.now in
    let p = err_from_is_err_and c.from_residual.result c.from_residual.ensures.1 in
    let e = c.in_err-check_imports.field-0.0 in
    let T : List FunctionType → Type 0 = λ ts. AreImportsRefused ts c.as_slice-2.result.now e in
    let I : List Import → Type 0 = λ is. AreImportsRefused m.types is e in
    let refused : AreImportsRefused m.types m.imports e =
    subst I c.as_slice-2.ensures
    (subst T c.as_slice.ensures c.in_err-check_imports.ensures.refused) in
    rw (p.1, p.2) (imports_refused c.args.pages e (
      c.in-Some.entry,
      c.in-Some.ensures.found,
    ) (c.exports_memory.ensures.0 c.if-not-exports_memory.false)
    refused).0

pub returns-in_err-check_imports-clause-known : goal.returns-in_err-check_imports-clause-known
returns-in_err-check_imports-clause-known c =
    let m = c.args.module.now in
    let p = err_from_is_err_and c.from_residual.result c.from_residual.ensures.1 in
    let e = c.in_err-check_imports.field-0.0 in
    let T : List FunctionType → Type 0 = λ ts. AreImportsRefused ts c.as_slice-2.result.now e in
    let I : List Import → Type 0 = λ is. AreImportsRefused m.types is e in
    let refused : AreImportsRefused m.types m.imports e =
    subst I c.as_slice-2.ensures
    (subst T c.as_slice.ensures c.in_err-check_imports.ensures.refused) in
    rw (p.1, p.2) (imports_refused c.args.pages e (
      c.in-Some.entry,
      c.in-Some.ensures.found,
    ) (c.exports_memory.ensures.0 c.if-not-exports_memory.false)
    refused).1

pub returns-clause-prepared : goal.returns-clause-prepared
returns-clause-prepared c =
    let m = c.args.module.now in
    let T : List FunctionType → Type 0 =
    λ ts. AllByRecursion (IsOffered offer ts) c.as_slice-2.result.now in
    let I : List Import → Type 0 = λ is. AllByRecursion (IsOffered offer m.types) is in
    let offered : AreImportsOffered m =
    subst I c.as_slice-2.ensures
    (subst T c.as_slice.ensures c.in_ok-check_imports.ensures.offered) in
    let F : List MemoryType → Type 0 = λ ms. FitsPages ms c.args.pages in
    record {
      has_entry = c.in-Some.ensures.found;
      has_memory = c.exports_memory.ensures.0 c.if-not-exports_memory.false;
      offered = offered;
      begins = c.can_begin.ensures.0 c.if-not-can_begin.false;
      fits = subst F (sym (own_memories m offered))
          (subst F c.as_slice-3.ensures (c.fits_pages.ensures.0 c.if-not-fits_pages.false));
    }
