-- What sections hold is read exactly.
use Rattle.std.proofs.Common.{◌≡◌, ℕ, ◌^◌, ◌<◌, ltb, eqb, List, [], ◌∷◌, length, replicate, Option}
use Rattle.std.proofs.Common.{Some, None, refl, arith}
use Rattle.std.proofs.lemmas.Bool.{ltb-true, lt-ltb}
use Rattle.std.proofs.lemmas.List.{length-append, length-replicate}
use Rattle.wasm_syntax.specs.declared.module.ImportItem.{ImportItem}
use Rattle.wasm_syntax.specs.declared.module.ImportItem.TheVariants as import
use Rattle.wasm_syntax.specs.declared.module.Code.{Code}
use Rattle.wasm_syntax.specs.declared.module.ExportItem.{ExportItem}
use Rattle.wasm_syntax.specs.declared.module.ExportItem.TheVariants as export
use Rattle.wasm_syntax.specs.rules.Items.{IsU32, IsVector, IsTableType, IsMemoryType, IsGlobalType}
use Rattle.wasm_syntax.specs.rules.Modules.{IsImportItem, IsImport, IsGlobal, IsExportItem}
use Rattle.wasm_syntax.specs.rules.Modules.{IsExport, IsStartFunction, IsElement, IsData, LocalRun}
use Rattle.wasm_syntax.specs.rules.Modules.{IsLocalRun, locals_of, IsCode}
use Rattle.wasm_syntax.specs.laws.ReadingItems.{read_as, leb_u32_at, vector_at, bytes_at, name_at}
use Rattle.wasm_syntax.specs.laws.ReadingItems.{value_type_at, table_type_at, memory_type_at}
use Rattle.wasm_syntax.specs.laws.ReadingItems.{global_type_at}
use Rattle.wasm_syntax.specs.laws.ReadingInstructions.{expression_at}
use Rattle.wasm_syntax.specs.laws.ReadingModules.{import_item_at, import_at, global_at}
use Rattle.wasm_syntax.specs.laws.ReadingModules.{export_item_at, export_at, start_at, element_at}
use Rattle.wasm_syntax.specs.laws.ReadingModules.{data_at, run_at, locals_count, code_at}
use Rattle.wasm_syntax.proofs.Grammar.Exact.{Reads, bind_some, check_some, pass_some, pick, carry}
use Rattle.wasm_syntax.proofs.Grammar.Integers.{Reads-u32_at}
use Rattle.wasm_syntax.proofs.Grammar.Vectors.{Reads-vector_at, Reads-bytes_at, Reads-name_at}
use Rattle.wasm_syntax.proofs.Grammar.Types.{front_is, Reads-value_type_at, Reads-table_type_at}
use Rattle.wasm_syntax.proofs.Grammar.Types.{Reads-memory_type_at, Reads-global_type_at}
use Rattle.wasm_syntax.proofs.Grammar.Arms.{Reads-indices}
use Rattle.wasm_syntax.proofs.Grammar.Expressions.{Reads-expression_at}

-- an item that is read as part of another
pub made_of : {X Y : Type 0} (IsItem : List ℕ → X → List ℕ → Type 0) (item_at : List ℕ
    → Option (X × List ℕ)) → Reads IsItem item_at → (make : X → Y) (P : Y → List ℕ
    → Type 0) (bytes : List ℕ) (y : Y) (rest : List ℕ)
    → read_as make item_at bytes ≡ Some (y, rest) → ((x : X) (r : List ℕ) → IsItem bytes x r
    → P (make x) r) → P y rest
made_of IsItem item_at reads make P bytes y rest e h =
    let x = bind_some (item_at bytes) _ _ e in
    carry P (make x.0.0) y x.0.1 rest x.2 (h x.0.0 x.0.1 (reads.sound bytes x.0.0 x.0.1 x.1))

-- ---- imports, globals and exports

import_item_sound : (bytes : List ℕ) (i : ImportItem) (rest : List ℕ)
    → import_item_at bytes ≡ Some (i, rest) → IsImportItem bytes i rest
unfolding import_item_at
import_item_sound [] i rest e = absurd cc
import_item_sound (b ∷ bytes) i rest e =
    let P = λ (x : ImportItem) (r : List ℕ). IsImportItem (b ∷ bytes) x r in
    pick (eqb b 0x00) _ _ _ e (λ t h.
    made_of IsU32 leb_u32_at Reads-u32_at import.Function P bytes i rest h (λ x r is. (
      bytes,
      front_is b 0x00 bytes t,
      is,
    ))) (λ f e.
    pick (eqb b 0x01) _ _ _ e (λ t h.
    made_of IsTableType table_type_at Reads-table_type_at import.Table P bytes i rest h
    (λ x r is. (bytes, front_is b 0x01 bytes t, is))) (λ f e.
    pick (eqb b 0x02) _ _ _ e (λ t h.
    made_of IsMemoryType memory_type_at Reads-memory_type_at import.Memory P bytes i rest h
    (λ x r is. (bytes, front_is b 0x02 bytes t, is))) (λ f e.
    let k = pass_some (eqb b 0x03) _ _ e in
    made_of IsGlobalType global_type_at Reads-global_type_at import.Global P bytes i rest k.1
    (λ x r is. (bytes, front_is b 0x03 bytes k.0, is)))))

import_item_complete : (bytes : List ℕ) (i : ImportItem) (rest : List ℕ) → IsImportItem bytes i rest
    → import_item_at bytes ≡ Some (i, rest)
unfolding import_item_at
import_item_complete bytes (import.Function t) rest h =
    rw (h.1, Reads-u32_at.complete h.0 t rest h.2) refl
import_item_complete bytes (import.Table t) rest h =
    rw (h.1, Reads-table_type_at.complete h.0 t rest h.2) refl
import_item_complete bytes (import.Memory t) rest h =
    rw (h.1, Reads-memory_type_at.complete h.0 t rest h.2) refl
import_item_complete bytes (import.Global t) rest h =
    rw (h.1, Reads-global_type_at.complete h.0 t rest h.2) refl

pub Reads-import_item_at : Reads IsImportItem import_item_at
Reads-import_item_at = record { sound = import_item_sound; complete = import_item_complete }

pub Reads-import_at : Reads IsImport import_at
unfolding import_at
Reads-import_at = record {
  sound = λ bytes i rest e.
      let m = bind_some (name_at bytes) _ _ e in
      let n = bind_some (name_at m.0.1) _ _ m.2 in
      let item = bind_some (import_item_at n.0.1) _ _ n.2 in
      carry (IsImport bytes) (record {
        module_name = m.0.0;
        name = n.0.0;
        item = item.0.0;
      }) i item.0.1 rest item.2 (
        m.0.1,
        n.0.1,
        Reads-name_at.sound bytes m.0.0 m.0.1 m.1,
        Reads-name_at.sound m.0.1 n.0.0 n.0.1 n.1,
        Reads-import_item_at.sound n.0.1 item.0.0 item.0.1 item.1,
      );
  complete = λ bytes i rest h.
      rw (
        Reads-name_at.complete bytes i.module_name h.0 h.2,
        Reads-name_at.complete h.0 i.name h.1 h.3,
        Reads-import_item_at.complete h.1 i.item rest h.4,
      ) refl;
}

pub Reads-global_at : Reads IsGlobal global_at
unfolding global_at
Reads-global_at = record {
  sound = λ bytes g rest e.
      let t = bind_some (global_type_at bytes) _ _ e in
      let initial = bind_some (expression_at t.0.1) _ _ t.2 in
      carry (IsGlobal bytes) (record {
        global_type = t.0.0;
        initial = initial.0.0;
      }) g initial.0.1 rest initial.2 (
        t.0.1,
        Reads-global_type_at.sound bytes t.0.0 t.0.1 t.1,
        Reads-expression_at.sound t.0.1 initial.0.0 initial.0.1 initial.1,
      );
  complete = λ bytes g rest h. rw (
    Reads-global_type_at.complete bytes g.global_type h.0 h.1,
    Reads-expression_at.complete h.0 g.initial rest h.2,
  ) refl;
}

export_item_sound : (bytes : List ℕ) (i : ExportItem) (rest : List ℕ)
    → export_item_at bytes ≡ Some (i, rest) → IsExportItem bytes i rest
unfolding export_item_at
export_item_sound [] i rest e = absurd cc
export_item_sound (b ∷ bytes) i rest e =
    let P = λ (x : ExportItem) (r : List ℕ). IsExportItem (b ∷ bytes) x r in
    pick (eqb b 0x00) _ _ _ e (λ t h.
    made_of IsU32 leb_u32_at Reads-u32_at export.Function P bytes i rest h (λ x r is. (
      bytes,
      front_is b 0x00 bytes t,
      is,
    ))) (λ f e.
    pick (eqb b 0x01) _ _ _ e (λ t h.
    made_of IsU32 leb_u32_at Reads-u32_at export.Table P bytes i rest h (λ x r is. (
      bytes,
      front_is b 0x01 bytes t,
      is,
    ))) (λ f e.
    pick (eqb b 0x02) _ _ _ e (λ t h.
    made_of IsU32 leb_u32_at Reads-u32_at export.Memory P bytes i rest h (λ x r is. (
      bytes,
      front_is b 0x02 bytes t,
      is,
    ))) (λ f e.
    let k = pass_some (eqb b 0x03) _ _ e in
    made_of IsU32 leb_u32_at Reads-u32_at export.Global P bytes i rest k.1 (λ x r is. (
      bytes,
      front_is b 0x03 bytes k.0,
      is,
    )))))

export_item_complete : (bytes : List ℕ) (i : ExportItem) (rest : List ℕ) → IsExportItem bytes i rest
    → export_item_at bytes ≡ Some (i, rest)
unfolding export_item_at
export_item_complete bytes (export.Function n) rest h =
    rw (h.1, Reads-u32_at.complete h.0 n rest h.2) refl
export_item_complete bytes (export.Table n) rest h =
    rw (h.1, Reads-u32_at.complete h.0 n rest h.2) refl
export_item_complete bytes (export.Memory n) rest h =
    rw (h.1, Reads-u32_at.complete h.0 n rest h.2) refl
export_item_complete bytes (export.Global n) rest h =
    rw (h.1, Reads-u32_at.complete h.0 n rest h.2) refl

pub Reads-export_item_at : Reads IsExportItem export_item_at
Reads-export_item_at = record { sound = export_item_sound; complete = export_item_complete }

pub Reads-export_at : Reads IsExport export_at
unfolding export_at
Reads-export_at = record {
  sound = λ bytes x rest e.
      let n = bind_some (name_at bytes) _ _ e in
      let item = bind_some (export_item_at n.0.1) _ _ n.2 in
      carry (IsExport bytes) (record { name = n.0.0; item = item.0.0 }) x item.0.1 rest item.2 (
        n.0.1,
        Reads-name_at.sound bytes n.0.0 n.0.1 n.1,
        Reads-export_item_at.sound n.0.1 item.0.0 item.0.1 item.1,
      );
  complete = λ bytes x rest h. rw (
    Reads-name_at.complete bytes x.name h.0 h.1,
    Reads-export_item_at.complete h.0 x.item rest h.2,
  ) refl;
}

start_sound : (bytes : List ℕ) (x : Option ℕ) (rest : List ℕ) → start_at bytes ≡ Some (x, rest)
    → IsStartFunction bytes x rest
unfolding start_at
start_sound bytes x rest e =
    let n = bind_some (leb_u32_at bytes) _ _ e in
    carry (IsStartFunction bytes) (Some n.0.0) x n.0.1 rest n.2
    (Reads-u32_at.sound bytes n.0.0 n.0.1 n.1)

start_complete : (bytes : List ℕ) (x : Option ℕ) (rest : List ℕ) → IsStartFunction bytes x rest
    → start_at bytes ≡ Some (x, rest)
unfolding start_at
start_complete bytes None rest h = absurd h
start_complete bytes (Some n) rest h = rw (Reads-u32_at.complete bytes n rest h) refl

pub Reads-start_at : Reads IsStartFunction start_at
Reads-start_at = record { sound = start_sound; complete = start_complete }

-- ---- elements and data

pub Reads-element_at : Reads IsElement element_at
unfolding element_at
Reads-element_at = record {
  sound = λ bytes x rest e.
      let table = bind_some (leb_u32_at bytes) _ _ e in
      let offset = bind_some (expression_at table.0.1) _ _ table.2 in
      let functions = bind_some (vector_at leb_u32_at offset.0.1) _ _ offset.2 in
      carry (IsElement bytes) (record {
        table = table.0.0;
        offset = offset.0.0;
        functions = functions.0.0;
      }) x functions.0.1 rest functions.2 (
        table.0.1,
        offset.0.1,
        Reads-u32_at.sound bytes table.0.0 table.0.1 table.1,
        Reads-expression_at.sound table.0.1 offset.0.0 offset.0.1 offset.1,
        Reads-indices.sound offset.0.1 functions.0.0 functions.0.1 functions.1,
      );
  complete = λ bytes x rest h.
      rw (
        Reads-u32_at.complete bytes x.table h.0 h.2,
        Reads-expression_at.complete h.0 x.offset h.1 h.3,
        Reads-indices.complete h.1 x.functions rest h.4,
      ) refl;
}

pub Reads-data_at : Reads IsData data_at
unfolding data_at
Reads-data_at = record {
  sound = λ bytes x rest e.
      let memory = bind_some (leb_u32_at bytes) _ _ e in
      let offset = bind_some (expression_at memory.0.1) _ _ memory.2 in
      let part = bind_some (bytes_at offset.0.1) _ _ offset.2 in
      carry (IsData bytes) (record {
        memory = memory.0.0;
        offset = offset.0.0;
        bytes = part.0.0;
      }) x part.0.1 rest part.2 (
        memory.0.1,
        offset.0.1,
        Reads-u32_at.sound bytes memory.0.0 memory.0.1 memory.1,
        Reads-expression_at.sound memory.0.1 offset.0.0 offset.0.1 offset.1,
        Reads-bytes_at.sound offset.0.1 part.0.0 part.0.1 part.1,
      );
  complete = λ bytes x rest h.
      rw (
        Reads-u32_at.complete bytes x.memory h.0 h.2,
        Reads-expression_at.complete h.0 x.offset h.1 h.3,
        Reads-bytes_at.complete h.1 x.bytes rest h.4,
      ) refl;
}

-- ---- code

pub Reads-run_at : Reads IsLocalRun run_at
unfolding run_at
Reads-run_at = record {
  sound = λ bytes r rest e.
      let count = bind_some (leb_u32_at bytes) _ _ e in
      let t = bind_some (value_type_at count.0.1) _ _ count.2 in
      carry (IsLocalRun bytes) (record { count = count.0.0; value_type = t.0.0 }) r t.0.1 rest t.2 (
        count.0.1,
        Reads-u32_at.sound bytes count.0.0 count.0.1 count.1,
        Reads-value_type_at.sound count.0.1 t.0.0 t.0.1 t.1,
      );
  complete = λ bytes r rest h. rw (
    Reads-u32_at.complete bytes r.count h.0 h.1,
    Reads-value_type_at.complete h.0 r.value_type rest h.2,
  ) refl;
}

pub Reads-runs : Reads (IsVector IsLocalRun) (vector_at run_at)
Reads-runs = Reads-vector_at IsLocalRun run_at Reads-run_at

pub locals_counted : (rs : List LocalRun) → length (locals_of rs) ≡ locals_count rs
locals_counted [] = refl
locals_counted (r ∷ rs) =
    omega (
      arith,
      length-append (replicate r.count r.value_type) (locals_of rs),
      length-replicate r.count r.value_type,
      locals_counted rs,
    )

pub Reads-code_at : Reads IsCode code_at
unfolding code_at
Reads-code_at = record {
  sound = λ bytes c rest e.
      let rs = bind_some (vector_at run_at bytes) _ _ e in
      let few = check_some (ltb (locals_count rs.0.0) (2 ^ 32)) _ _ rs.2 in
      let body = bind_some (expression_at rs.0.1) _ _ few.1 in
      let below : length (locals_of rs.0.0) < 2 ^ 32 =
      rw (locals_counted rs.0.0) (ltb-true _ _ few.0) in
      carry (IsCode bytes) (record {
        locals = locals_of rs.0.0;
        body = body.0.0;
      }) c body.0.1 rest body.2 (
        rs.0.0,
        rs.0.1,
        Reads-runs.sound bytes rs.0.0 rs.0.1 rs.1,
        refl,
        below,
        Reads-expression_at.sound rs.0.1 body.0.0 body.0.1 body.1,
      );
  complete = code_complete;
} where
  code_complete : (bytes : List ℕ) (c : Code) (rest : List ℕ) → IsCode bytes c rest
      → code_at bytes ≡ Some (c, rest)
  code_complete bytes c rest h =
      let few : locals_count h.0 < 2 ^ 32 = rw (← locals_counted h.0, ← h.3) h.4 in
      rw (
        Reads-runs.complete bytes h.0 h.1 h.2,
        lt-ltb _ _ few,
        Reads-expression_at.complete h.1 c.body rest h.5,
        ← h.3,
      ) refl
