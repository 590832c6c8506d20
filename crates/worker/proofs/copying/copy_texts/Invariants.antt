use Rattle.std.proofs.Common.{◌≡◌, take}
use Rattle.std.specs.List.{AllByRecursion}
use Rattle.wasi_abi.specs.rules.Answers.{AreBytes}
use Rattle.worker.proofs.copying.copy_texts.Given as goal

abbrev pub invariant-loop-text : goal.invariant-loop-text
invariant-loop-text l = record {
  copied : l.copies ≡ take l.text-index l.texts;
  bytes : AllByRecursion AreBytes (take l.text-index l.texts);
}
