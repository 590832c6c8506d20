-- What the readers give of a field, said of the functions on lists.
use Rattle.std.proofs.Common.{◌≡◌, ℕ, Bool, true, false, cond, eqb, List, [], ◌∷◌, Option, Some}
use Rattle.std.proofs.Common.{None, length, refl, sym, ap, subst, ◌∙◌}
use Rattle.std.specs.Option.{option_map}
use Rattle.guest_memory.specs.rules.Bytes.{number_of, bytes_of}
use Rattle.guest_memory.proofs.Lists.{number_below}
use Rattle.wasm_syntax.specs.laws.ReadingItems.{◌>>=◌, part_at}
use Rattle.wasm_syntax.proofs.Grammar.Exact.{bind_some, parts, carry}
use Rattle.wasm_syntax.proofs.Grammar.Vectors.{Reads-part_at}
use Rattle.file_tree.specs.rules.Files.{Entry}
use Rattle.state_image.specs.rules.ProcessImage.{entry_bytes}
use Rattle.state_image.specs.rules.Ranges.{IsIn, IsEntryIn}
use Rattle.state_image.specs.rules.Fronts.{ContentFront, EntryCount, FileBytes, NodeFront}
use Rattle.state_image.specs.rules.Fronts.{IsContentFrontIn, front_bytes, IsFrontIn}
use Rattle.state_image.specs.rules.Fronts.{lent_node, lent_entry}
use Rattle.state_image.specs.declared.reading.files.ReadNode.{ReadNode}
use Rattle.state_image.specs.declared.reading.files.ReadEntry.{ReadEntry}
use Rattle.state_image.specs.rules.Reading.{LacksField, ReadsField}
use Rattle.state_image.specs.restoring.ListReaders.{LendsField, integer_at, text_at}
use Rattle.state_image.specs.restoring.ListReaders.{content_front_at, node_front_at, entry_at}
use Rattle.state_image.proofs.Among.{entry_with}
use Rattle.state_image.proofs.RestoreLemmas.Fronts.{all_front, ReadsFront, filed, counted}
use Rattle.state_image.proofs.RestoreLemmas.Fronts.{integer_front, text_front, entry_front}
use Rattle.state_image.proofs.RestoreLemmas.Fronts.{node_front}
use Rattle.wasi_abi.specs.rules.Answers.{AreBytes}

-- ---- what is read is in range

integer_within : (n : ℕ) (bytes : List ℕ) (x : ℕ) (rest : List ℕ) → AreBytes bytes
    → integer_at n bytes ≡ Some (x, rest) → IsIn n x
unfolding integer_at
integer_within n bytes x rest low e =
    let p = bind_some (part_at n bytes) _ _ e in
    let piece = (Reads-part_at n).sound bytes p.0.0 p.0.1 p.1 in
    let both = parts (number_of p.0.0) x p.0.1 rest p.2 in
    subst (IsIn n) both.0 (subst (λ (k : ℕ). IsIn k (number_of p.0.0)) piece.1
    (number_below p.0.0 (all_front p.0.0 p.0.1 (subst AreBytes piece.0 low))))

text_within : (n : ℕ) (bytes t rest : List ℕ) → AreBytes bytes
    → text_at n bytes ≡ Some (t, rest) → IsIn n (length t)
unfolding text_at
text_within n bytes t rest low e =
    let l = bind_some (integer_at n bytes) _ _ e in
    let piece = (Reads-part_at l.0.0).sound l.0.1 t rest l.2 in
    subst (IsIn n) (sym piece.1) (integer_within n bytes l.0.0 l.0.1 low l.1)

entry_within : (bytes : List ℕ) (x : Entry) (rest : List ℕ) → AreBytes bytes
    → entry_at bytes ≡ Some (x, rest) → IsEntryIn x
unfolding entry_at
entry_within bytes x rest low h =
    let name = bind_some (text_at 2 bytes) _ _ h in
    let number = bind_some (integer_at 8 name.0.1) _ _ name.2 in
    let first = (text_front 2).is bytes name.0.0 name.0.1 low name.1 in
    carry (λ (y : Entry) (r : List ℕ). IsEntryIn y) (entry_with name.0.0 number.0.0) x number.0.1
    rest number.2 (record {
      name = text_within 2 bytes name.0.0 name.0.1 low name.1;
      number = integer_within 8 name.0.1 number.0.0 number.0.1 first.1 number.1;
    })

content_within : (bytes : List ℕ) (c : ContentFront) (rest : List ℕ) → AreBytes bytes
    → content_front_at bytes ≡ Some (c, rest) → IsContentFrontIn c
unfolding content_front_at
content_within [] c rest low e = absurd cc
content_within (k ∷ bytes) c rest low e = by (eqb k 3) (eqb k 4) e where
  by : (b d : Bool) → cond b (integer_at 4 bytes >>= counted)
      (cond d (text_at 8 bytes >>= filed) None) ≡ Some (c, rest) → IsContentFrontIn c
  by true d e =
      let n = bind_some (integer_at 4 bytes) counted _ e in
      carry (λ (x : ContentFront) (s : List ℕ). IsContentFrontIn x) (EntryCount n.0.0) c n.0.1 rest
      n.2 (integer_within 4 bytes n.0.0 n.0.1 low.1 n.1)
  by false true e =
      let file = bind_some (text_at 8 bytes) filed _ e in
      carry (λ (x : ContentFront) (s : List ℕ). IsContentFrontIn x) (FileBytes file.0.0) c
      file.0.1 rest file.2 (text_within 8 bytes file.0.0 file.0.1 low.1 file.1)
  by false false e = absurd cc

front_within : (bytes : List ℕ) (f : NodeFront) (rest : List ℕ) → AreBytes bytes
    → node_front_at bytes ≡ Some (f, rest) → IsFrontIn f
unfolding node_front_at
front_within bytes f rest low e =
    let number = bind_some (integer_at 8 bytes) _ _ e in
    let content = bind_some (content_front_at number.0.1) _ _ number.2 in
    let a = (integer_front 8).is bytes number.0.0 number.0.1 low number.1 in
    carry (λ (x : NodeFront) (s : List ℕ). IsFrontIn x)
    (record { number = number.0.0; content = content.0.0 }) f content.0.1 rest content.2 (record {
      number = integer_within 8 bytes number.0.0 number.0.1 low number.1;
      content = content_within number.0.1 content.0.0 content.0.1 a.1 content.1;
    })

-- ---- fields

-- Where what is read is in range, the functions answer as the readers do.
module _ (X : Type 0) (P : X → Type 0) (spell : X → List ℕ) (item_at : List ℕ
    → Option (X × List ℕ)) (reads : ReadsFront X P spell item_at) (within : (bytes : List ℕ)
    (x : X) (rest : List ℕ) → AreBytes bytes → item_at bytes ≡ Some (x, rest) → P x) where
  lacking : (old new : List ℕ) → AreBytes old → LacksField spell P old new → item_at old ≡ None
  lacking old new low lacks = by (item_at old) refl where
    by : (o : Option (X × List ℕ)) → item_at old ≡ o → item_at old ≡ None
    by None e = e
    by (Some read) e = absurd (lacks.none read.0 read.1 (within old read.0 read.1 low e)
        (reads.is old read.0 read.1 low e).0)

  lent : {Y : Type 0} (shown : Y → X) (result : Option Y) (old new : List ℕ) → AreBytes old
      → ReadsField spell P (option_map shown result) old new
      → LendsField shown result new (item_at old)
  lent shown (Some y) old new low has =
      ap item_at has.is ∙ reads.front (shown y) new has.in_range
  lent shown None old new low lacks = lacking old new low lacks

-- ---- each field

-- a number of so many bytes
pub integer_lent : (n : ℕ) (result : Option ℕ) (old new : List ℕ)
    → AreBytes old → ReadsField (bytes_of n) (IsIn n) result old new
    → LendsField (λ x. x) result new (integer_at n old)
integer_lent n (Some x) old new low has =
    ap (integer_at n) has.is ∙ (integer_front n).front x new has.in_range
integer_lent n None old new low lacks =
    lacking ℕ (IsIn n) (bytes_of n) (integer_at n) (integer_front n) (integer_within n) old new low
    lacks

pub entry_lent : (result : Option ReadEntry) (old new : List ℕ) → AreBytes old
    → ReadsField entry_bytes IsEntryIn (option_map lent_entry result) old new
    → LendsField lent_entry result new (entry_at old)
entry_lent = lent Entry IsEntryIn entry_bytes entry_at entry_front entry_within lent_entry

pub front_lent : (result : Option ReadNode) (old new : List ℕ) → AreBytes old
    → ReadsField front_bytes IsFrontIn (option_map lent_node result) old new
    → LendsField lent_node result new (node_front_at old)
front_lent = lent NodeFront IsFrontIn front_bytes node_front_at node_front front_within lent_node
