-- Items within this product's limits are read exactly.
use Rattle.std.proofs.Common.{◌≡◌, ℕ, ◌^◌, ◌<◌, ◌≤◌, ltb, leb, eqb, List, [], ◌∷◌, length, Some}
use Rattle.std.proofs.Common.{refl, arith}
use Rattle.std.proofs.lemmas.Bool.{ltb-false, le-ltb, leb-true, le-leb}
use Rattle.wasm_syntax.specs.declared.module.Import.{Import}
use Rattle.wasm_syntax.specs.declared.module.ImportItem.{ImportItem}
use Rattle.wasm_syntax.specs.declared.module.ImportItem.TheVariants as import
use Rattle.wasm_syntax.specs.declared.module.Code.{Code}
use Rattle.wasm_syntax.specs.declared.module.Global.{Global}
use Rattle.wasm_syntax.specs.declared.module.Element.{Element}
use Rattle.wasm_syntax.specs.declared.module.Data.{Data}
use Rattle.wasm_syntax.specs.declared.limits.TheConstants.{PARAMETERS, LOCALS, TABLE_ENTRIES}
use Rattle.wasm_syntax.specs.rules.Items.{IsU32, IsValueType, IsFunctionType, IsTableType}
use Rattle.wasm_syntax.specs.rules.Items.{IsMemoryType, IsGlobalType}
use Rattle.wasm_syntax.specs.rules.Instructions.{IsExpression}
use Rattle.wasm_syntax.specs.rules.Modules.{IsImportItem, IsImport, IsGlobal, IsElement, IsData}
use Rattle.wasm_syntax.specs.rules.Modules.{IsCode, locals_of}
use Rattle.wasm_syntax.specs.rules.Limits.{IsShortExpression, HasFewParameters, IsSmallTable}
use Rattle.wasm_syntax.specs.rules.Limits.{IsSmallImport}
use Rattle.wasm_syntax.specs.laws.ReadingItems.{exactly_at, leb_u32_at, vector_at, vector_up_to_at}
use Rattle.wasm_syntax.specs.laws.ReadingItems.{bytes_at, name_at, value_type_at, table_type_at}
use Rattle.wasm_syntax.specs.laws.ReadingItems.{memory_type_at, global_type_at}
use Rattle.wasm_syntax.specs.laws.ReadingModules.{run_at, locals_count}
use Rattle.wasm_syntax.specs.laws.ReadingWithin.{function_type_within_at, table_type_within_at}
use Rattle.wasm_syntax.specs.laws.ReadingWithin.{most_instructions, expression_within_at}
use Rattle.wasm_syntax.specs.laws.ReadingWithin.{import_item_within_at, import_within_at}
use Rattle.wasm_syntax.specs.laws.ReadingWithin.{global_within_at, element_within_at}
use Rattle.wasm_syntax.specs.laws.ReadingWithin.{data_within_at, code_within_at}
use Rattle.wasm_syntax.proofs.Grammar.Exact.{Reads, bind_some, check_some, guard_some, pass_some}
use Rattle.wasm_syntax.proofs.Grammar.Exact.{pick, carry}
use Rattle.wasm_syntax.proofs.Grammar.Integers.{Reads-u32_at, byte_sound, byte_complete}
use Rattle.wasm_syntax.proofs.Grammar.Vectors.{IsVectorUpTo, Reads-vector_up_to_at, Reads-bytes_at}
use Rattle.wasm_syntax.proofs.Grammar.Vectors.{Reads-name_at}
use Rattle.wasm_syntax.proofs.Grammar.Types.{front_is, Reads-value_type_at, Reads-value_types}
use Rattle.wasm_syntax.proofs.Grammar.Types.{Reads-table_type_at, Reads-memory_type_at}
use Rattle.wasm_syntax.proofs.Grammar.Types.{Reads-global_type_at}
use Rattle.wasm_syntax.proofs.Grammar.Arms.{Reads-indices}
use Rattle.wasm_syntax.proofs.Grammar.Expressions.{Reads-expression_up_to_at}
use Rattle.wasm_syntax.proofs.Grammar.Entries.{made_of, Reads-runs, locals_counted}

-- an item that keeps to a limit
abbrev pub Within : {X : Type 0} → (List ℕ → X → List ℕ → Type 0) → (X → Type 0) → List ℕ → X
    → List ℕ → Type 0
Within IsItem Fits bytes x rest = IsItem bytes x rest × Fits x

Reads-few_parameters : Reads (IsVectorUpTo IsValueType PARAMETERS)
    (vector_up_to_at value_type_at PARAMETERS)
Reads-few_parameters =
    Reads-vector_up_to_at IsValueType value_type_at PARAMETERS Reads-value_type_at

pub Reads-function_type_within_at : Reads (Within IsFunctionType HasFewParameters)
    function_type_within_at
unfolding function_type_within_at
Reads-function_type_within_at = record {
  sound = λ bytes t rest e.
      let mark = bind_some (exactly_at 0x60 bytes) _ _ e in
      let takes = bind_some (vector_up_to_at value_type_at PARAMETERS mark.0.1) _ _ mark.2 in
      let gives = bind_some (vector_at value_type_at takes.0.1) _ _ takes.2 in
      let p = Reads-few_parameters.sound mark.0.1 takes.0.0 takes.0.1 takes.1 in
      carry (Within IsFunctionType HasFewParameters bytes) (record {
        parameters = takes.0.0;
        results = gives.0.0;
      }) t gives.0.1 rest gives.2 (
        (
          mark.0.1,
          takes.0.1,
          byte_sound 0x60 bytes mark.0.0 mark.0.1 mark.1,
          p.0,
          Reads-value_types.sound takes.0.1 gives.0.0 gives.0.1 gives.1,
        ),
        p.1,
      );
  complete = λ bytes t rest h.
      rw (
        byte_complete 0x60 bytes h.0.0 h.0.2,
        Reads-few_parameters.complete h.0.0 t.parameters h.0.1 (h.0.3, h.1),
        Reads-value_types.complete h.0.1 t.results rest h.0.4,
      ) refl;
}

pub Reads-table_type_within_at : Reads (Within IsTableType IsSmallTable) table_type_within_at
unfolding table_type_within_at
Reads-table_type_within_at = record {
  sound = λ bytes t rest e.
      let one = bind_some (table_type_at bytes) _ _ e in
      let small = guard_some (ltb TABLE_ENTRIES one.0.0.limits.minimum) _ _ one.2 in
      carry (Within IsTableType IsSmallTable bytes) one.0.0 t one.0.1 rest small.1
      (Reads-table_type_at.sound bytes one.0.0 one.0.1 one.1, ltb-false _ _ small.0);
  complete = λ bytes t rest h. rw (
    Reads-table_type_at.complete bytes t rest h.0,
    le-ltb _ _ h.1,
  ) refl;
}

pub Reads-expression_within_at : Reads (Within IsExpression IsShortExpression) expression_within_at
unfolding most_instructions
Reads-expression_within_at = Reads-expression_up_to_at most_instructions

import_item_within_sound : (bytes : List ℕ) (i : ImportItem) (rest : List ℕ)
    → import_item_within_at bytes ≡ Some (i, rest) → Within IsImportItem IsSmallImport bytes i rest
unfolding import_item_within_at
import_item_within_sound [] i rest e = absurd cc
import_item_within_sound (b ∷ bytes) i rest e =
    let P = λ (x : ImportItem) (r : List ℕ). Within IsImportItem IsSmallImport (b ∷ bytes) x r in
    pick (eqb b 0x00) _ _ _ e (λ t h.
    made_of IsU32 leb_u32_at Reads-u32_at import.Function P bytes i rest h (λ x r is. (
      (
        bytes,
        front_is b 0x00 bytes t,
        is,
      ),
      tt,
    ))) (λ f e.
    pick (eqb b 0x01) _ _ _ e (λ t h.
    made_of (Within IsTableType IsSmallTable) table_type_within_at Reads-table_type_within_at
    import.Table P bytes i rest h (λ x r is. ((bytes, front_is b 0x01 bytes t, is.0), is.1)))
    (λ f e.
    pick (eqb b 0x02) _ _ _ e (λ t h.
    made_of IsMemoryType memory_type_at Reads-memory_type_at import.Memory P bytes i rest h
    (λ x r is. ((bytes, front_is b 0x02 bytes t, is), tt))) (λ f e.
    let k = pass_some (eqb b 0x03) _ _ e in
    made_of IsGlobalType global_type_at Reads-global_type_at import.Global P bytes i rest k.1
    (λ x r is. ((bytes, front_is b 0x03 bytes k.0, is), tt)))))

import_item_within_complete : (bytes : List ℕ) (i : ImportItem) (rest : List ℕ)
    → Within IsImportItem IsSmallImport bytes i rest → import_item_within_at bytes ≡ Some (i, rest)
unfolding import_item_within_at
import_item_within_complete bytes (import.Function t) rest h =
    rw (h.0.1, Reads-u32_at.complete h.0.0 t rest h.0.2) refl
import_item_within_complete bytes (import.Table t) rest h =
    rw (h.0.1, Reads-table_type_within_at.complete h.0.0 t rest (h.0.2, h.1)) refl
import_item_within_complete bytes (import.Memory t) rest h =
    rw (h.0.1, Reads-memory_type_at.complete h.0.0 t rest h.0.2) refl
import_item_within_complete bytes (import.Global t) rest h =
    rw (h.0.1, Reads-global_type_at.complete h.0.0 t rest h.0.2) refl

pub Reads-import_item_within_at : Reads (Within IsImportItem IsSmallImport) import_item_within_at
Reads-import_item_within_at = record {
  sound = import_item_within_sound;
  complete = import_item_within_complete;
}

abbrev pub FitsImport : Import → Type 0
FitsImport i = IsSmallImport i.item

pub Reads-import_within_at : Reads (Within IsImport FitsImport) import_within_at
unfolding import_within_at
Reads-import_within_at = record {
  sound = λ bytes i rest e.
      let m = bind_some (name_at bytes) _ _ e in
      let n = bind_some (name_at m.0.1) _ _ m.2 in
      let item = bind_some (import_item_within_at n.0.1) _ _ n.2 in
      let is = Reads-import_item_within_at.sound n.0.1 item.0.0 item.0.1 item.1 in
      carry (Within IsImport FitsImport bytes) (record {
        module_name = m.0.0;
        name = n.0.0;
        item = item.0.0;
      }) i item.0.1 rest item.2 (
        (
          m.0.1,
          n.0.1,
          Reads-name_at.sound bytes m.0.0 m.0.1 m.1,
          Reads-name_at.sound m.0.1 n.0.0 n.0.1 n.1,
          is.0,
        ),
        is.1,
      );
  complete = λ bytes i rest h.
      rw (
        Reads-name_at.complete bytes i.module_name h.0.0 h.0.2,
        Reads-name_at.complete h.0.0 i.name h.0.1 h.0.3,
        Reads-import_item_within_at.complete h.0.1 i.item rest (h.0.4, h.1),
      ) refl;
}

abbrev pub FitsGlobal : Global → Type 0
FitsGlobal g = IsShortExpression g.initial

pub Reads-global_within_at : Reads (Within IsGlobal FitsGlobal) global_within_at
unfolding global_within_at
Reads-global_within_at = record {
  sound = λ bytes g rest e.
      let t = bind_some (global_type_at bytes) _ _ e in
      let initial = bind_some (expression_within_at t.0.1) _ _ t.2 in
      let is = Reads-expression_within_at.sound t.0.1 initial.0.0 initial.0.1 initial.1 in
      carry (Within IsGlobal FitsGlobal bytes) (record {
        global_type = t.0.0;
        initial = initial.0.0;
      }) g initial.0.1 rest initial.2
      ((t.0.1, Reads-global_type_at.sound bytes t.0.0 t.0.1 t.1, is.0), is.1);
  complete = λ bytes g rest h. rw (
    Reads-global_type_at.complete bytes g.global_type h.0.0 h.0.1,
    Reads-expression_within_at.complete h.0.0 g.initial rest (h.0.2, h.1),
  ) refl;
}

abbrev pub FitsElement : Element → Type 0
FitsElement x = IsShortExpression x.offset

pub Reads-element_within_at : Reads (Within IsElement FitsElement) element_within_at
unfolding element_within_at
Reads-element_within_at = record {
  sound = λ bytes x rest e.
      let table = bind_some (leb_u32_at bytes) _ _ e in
      let offset = bind_some (expression_within_at table.0.1) _ _ table.2 in
      let functions = bind_some (vector_at leb_u32_at offset.0.1) _ _ offset.2 in
      let is = Reads-expression_within_at.sound table.0.1 offset.0.0 offset.0.1 offset.1 in
      carry (Within IsElement FitsElement bytes) (record {
        table = table.0.0;
        offset = offset.0.0;
        functions = functions.0.0;
      }) x functions.0.1 rest functions.2 (
        (
          table.0.1,
          offset.0.1,
          Reads-u32_at.sound bytes table.0.0 table.0.1 table.1,
          is.0,
          Reads-indices.sound offset.0.1 functions.0.0 functions.0.1 functions.1,
        ),
        is.1,
      );
  complete = λ bytes x rest h.
      rw (
        Reads-u32_at.complete bytes x.table h.0.0 h.0.2,
        Reads-expression_within_at.complete h.0.0 x.offset h.0.1 (h.0.3, h.1),
        Reads-indices.complete h.0.1 x.functions rest h.0.4,
      ) refl;
}

abbrev pub FitsData : Data → Type 0
FitsData x = IsShortExpression x.offset

pub Reads-data_within_at : Reads (Within IsData FitsData) data_within_at
unfolding data_within_at
Reads-data_within_at = record {
  sound = λ bytes x rest e.
      let memory = bind_some (leb_u32_at bytes) _ _ e in
      let offset = bind_some (expression_within_at memory.0.1) _ _ memory.2 in
      let part = bind_some (bytes_at offset.0.1) _ _ offset.2 in
      let is = Reads-expression_within_at.sound memory.0.1 offset.0.0 offset.0.1 offset.1 in
      carry (Within IsData FitsData bytes) (record {
        memory = memory.0.0;
        offset = offset.0.0;
        bytes = part.0.0;
      }) x part.0.1 rest part.2 (
        (
          memory.0.1,
          offset.0.1,
          Reads-u32_at.sound bytes memory.0.0 memory.0.1 memory.1,
          is.0,
          Reads-bytes_at.sound offset.0.1 part.0.0 part.0.1 part.1,
        ),
        is.1,
      );
  complete = λ bytes x rest h.
      rw (
        Reads-u32_at.complete bytes x.memory h.0.0 h.0.2,
        Reads-expression_within_at.complete h.0.0 x.offset h.0.1 (h.0.3, h.1),
        Reads-bytes_at.complete h.0.1 x.bytes rest h.0.4,
      ) refl;
}

abbrev pub FitsCode : Code → Type 0
FitsCode c = (length c.locals ≤ LOCALS) × IsShortExpression c.body

pub Reads-code_within_at : Reads (Within IsCode FitsCode) code_within_at
unfolding code_within_at
Reads-code_within_at = record {
  sound = λ bytes c rest e.
      let rs = bind_some (vector_at run_at bytes) _ _ e in
      let few = check_some (leb (locals_count rs.0.0) LOCALS) _ _ rs.2 in
      let body = bind_some (expression_within_at rs.0.1) _ _ few.1 in
      let is = Reads-expression_within_at.sound rs.0.1 body.0.0 body.0.1 body.1 in
      let fits : length (locals_of rs.0.0) ≤ LOCALS =
      rw (locals_counted rs.0.0) (leb-true _ _ few.0) in
      let below : length (locals_of rs.0.0) < 2 ^ 32 = omega (arith, fits) in
      carry (Within IsCode FitsCode bytes) (record {
        locals = locals_of rs.0.0;
        body = body.0.0;
      }) c body.0.1 rest body.2 (
        (rs.0.0, rs.0.1, Reads-runs.sound bytes rs.0.0 rs.0.1 rs.1, refl, below, is.0),
        (fits, is.1),
      );
  complete = code_within_complete;
} where
  code_within_complete : (bytes : List ℕ) (c : Code) (rest : List ℕ)
      → Within IsCode FitsCode bytes c rest → code_within_at bytes ≡ Some (c, rest)
  code_within_complete bytes c rest (h, fits) =
      let few : locals_count h.0 ≤ LOCALS = rw (← locals_counted h.0, ← h.3) fits.0 in
      rw (
        Reads-runs.complete bytes h.0 h.1 h.2,
        le-leb _ _ few,
        Reads-expression_within_at.complete h.1 c.body rest (h.5, fits.1),
        ← h.3,
      ) refl
