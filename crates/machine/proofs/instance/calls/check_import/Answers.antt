use Rattle.std.proofs.Common.{◌≡◌, ◌∙◌, ap, sym, Some, None}
use Rattle.std.specs.Prelude.{slice_get, option_copied}
use Rattle.wasi_abi.specs.rules.Calls.{call_type_of}
use Rattle.machine.proofs.InstanceLemmas.Offered.{offered_as, offered_nothing, type_there}
use Rattle.machine.proofs.InstanceLemmas.Offered.{offered_at, no_function}
use Rattle.machine.proofs.instance.calls.check_import.Goals as goal

pub returns-in_default-clause-refused : goal.returns-in_default-clause-refused
returns-in_default-clause-refused c = offered_nothing c.args.import.now (sym c.in_default.is
    ∙ c.call_of.ensures)

pub returns-in_default-item : goal.returns-in_default-item
returns-in_default-item c = record {
  offered = tt;
  refused = (
    call_type_of c.in-Some.call,
    offered_as c.args.import.now (sym c.in-Some.is ∙ c.call_of.ensures),
    no_function c.args.types.now (call_type_of c.in-Some.call) c.args.import.now.item
        c.in_default-item.not-Function,
  );
}

pub returns-in-Some-at-clause-offered : goal.returns-in-Some-at-clause-offered
returns-in-Some-at-clause-offered c =
    let same = c.has_type.ensures.0 c.if-has_type.true in
    offered_at c.args.types.now c.args.import.now (sym c.in-Some.is ∙ c.call_of.ensures)
    c.in-Function.is (sym c.in-Some-at.ensures ∙ ap Some same)

pub returns-in_default-at-clause-refused : goal.returns-in_default-at-clause-refused
returns-in_default-at-clause-refused c = (
  call_type_of c.in-Some.call,
  offered_as c.args.import.now (sym c.in-Some.is ∙ c.call_of.ensures),
  λ h.
      let there = type_there c.args.types.now (call_type_of c.in-Some.call) c.in-Function.is h in
      let read : Some c.in-Some-at.function_type.now
      ≡ slice_get c.args.types.now c.in-Function.index = c.in-Some-at.ensures in
      let same : c.in-Some-at.function_type.now ≡ call_type_of c.in-Some.call = cc in
      let yes_it_has = c.has_type.ensures.1 same in
      let none = c.if-has_type.false in
      cc,
)

pub returns-in_default-at-2-clause-refused : goal.returns-in_default-at-2-clause-refused
returns-in_default-at-2-clause-refused c = (
  call_type_of c.in-Some.call,
  offered_as c.args.import.now (sym c.in-Some.is ∙ c.call_of.ensures),
  λ h.
      let there = type_there c.args.types.now (call_type_of c.in-Some.call) c.in-Function.is h in
      let read : None ≡ slice_get c.args.types.now c.in-Function.index =
      ap option_copied (sym c.in_default-at.is) ∙ c.at.ensures in
      cc,
)
